use Rattle.live_scripts.proofs.GrowthSound.{begun_anew_shown, begun_if_shown, more_or_same}
use Rattle.live_scripts.proofs.scripts.LiveScript.begin.Goals as goal
use Rattle.live_scripts.proofs.Prelude.{IsNewWindow, [], is_later_after, length, refl, rules, slice_get, true, ◌-◌, ◌<◌, ◌∷◌, ◌≡◌, ◌≤◌}

pub invariant_of-self : goal.invariant_of-self
invariant_of-self c =
    let few : c.args.probes ≤ 100 = search rules in
    let room : length c.self.inside.script.windows.items < 288 = search rules in
    let later : is_later_after (slice_get c.self.inside.script.windows.items (length c.self.inside.script.windows.items - 1)) c.args.at ≡ true = search rules in
    let new : IsNewWindow c.args.at c.args.probes (record { at = c.args.at; seed = 1; probes = c.args.probes; turns = c.new.result; runs = c.reserve.new.self }) = search rules in
    more_or_same c.self.inside.script c.append.new.windows c.args.at c.args.probes _ c.append.result c.self.invariant c.requires.time few new later room c.append.ensures.appended c.append.ensures.same

pub returns-then-len-clause-begun : goal.returns-then-len-clause-begun
returns-then-len-clause-begun c =
    let room : length c.self.inside.script.windows.items < 288 = search rules in
    let later : is_later_after (slice_get c.self.inside.script.windows.items (length c.self.inside.script.windows.items - 1)) c.args.at ≡ true = search rules in
    let new : IsNewWindow c.args.at c.args.probes (record { at = c.args.at; seed = 1; probes = c.args.probes; turns = c.new.result; runs = c.reserve.new.self }) = search rules in
    begun_if_shown c.self.inside.script c.args.self.now
    (record { devices = c.self.inside.script.devices; routines = c.self.inside.script.routines; windows = c.append.new.windows }) c.args.at c.args.probes _
    c.append.result c.self.view_is new later room c.append.ensures.number c.append.ensures.appended refl refl

pub returns-in-Ok-clause-begun : goal.returns-in-Ok-clause-begun
returns-in-Ok-clause-begun c =
    let many : 288 ≤ length c.self.inside.script.windows.items = search rules in
    let later : is_later_after (slice_get c.self.inside.script.windows.items (length c.self.inside.script.windows.items - 1)) c.args.at ≡ true = search rules in
    let new : IsNewWindow c.args.at c.args.probes (record { at = c.args.at; seed = 1; probes = c.args.probes; turns = c.new.result; runs = c.reserve.new.self }) = search rules in
    let first : c.in-Ok.number ≡ 0 = search rules in
    let alone : c.append-else-len.new.windows.items ≡ record { at = c.args.at; seed = 1; probes = c.args.probes; turns = c.new.result; runs = c.reserve.new.self } ∷ [] = search rules in
    begun_anew_shown c.self.inside.script c.args.self.now (record { devices = c.self.inside.script.devices; routines = c.self.inside.script.routines; windows = c.append-else-len.new.windows }) c.args.at c.args.probes _ c.in-Ok.number c.self.view_is new later many first alone refl refl
