use Rattle.hub_core.proofs.Prelude.{HasRoomLeft, HeldTokensAre, HomeIsKept, HubIsKept, IsOpened, None, OpenHub, OrderIsBeside, ap, arith, configuration_of, length, length-map, most_entries, plain_run, replicate, runs_of, setting_for, subst, sym, ◌<◌, ◌∙◌, ◌≤◌}
use Rattle.command_rules.specs.declared.rosters.Roster.{Roster}
use Rattle.home_types.specs.Limits.{most_runs}
use Rattle.hub_core.proofs.calls.HubOpens.{Opens, first_hands, first_kept, first_opened, first_order, first_room, first_scratch, is_first_hub, seen_home, setting_of_indexed}
use Rattle.hub_core.proofs.calls.HubOrders.{index_fits}
use Rattle.hub_core.proofs.homes.Home.open_window.Goals as goal
use Rattle.hub_core.proofs.kept.BlockedMarks.{none_blocked}

pub room-requires-clause-runs : goal.room-requires-clause-runs
room-requires-clause-runs g c = index_fits (setting_for c.args.self c.args.roster c.args.mode) c.args.rounds c.args.self.opened c.requires.may

pub open-requires : goal.open-requires
open-requires g c = index_fits (setting_for c.args.self c.args.roster c.args.mode) c.args.rounds c.args.self.opened c.requires.may

-- its history has room
pub empty-requires : goal.empty-requires
empty-requires g c =
    let room : 0 < length c.args.roster.runs.items → 0 < c.in-Ok.room.state.book.spare = λ some. omega (arith, some, c.in-Ok.ensures.book.1) in
    record {
      no_entry = c.in-Ok.ensures.book.0;
      few = subst (λ (x : Roster). length (runs_of x) ≤ most_runs) (sym c.in-Ok-open.ensures) c.requires.may.few_runs;
      room = subst (λ (x : Roster). 0 < length (runs_of x) → 0 < c.in-Ok.room.state.book.spare) (sym c.in-Ok-open.ensures) (λ some. room (let same = length-map c.args.roster.runs.items plain_run in omega (arith, same, some)));
    }

-- the hub of a window that opens, which is kept and has its room
pub invariant_of-result : goal.invariant_of-result
invariant_of-result g c =
    let same = is_first_hub c.args.self c.args.roster c.args.mode c.args.rounds c.in-Ok-behind_gate.home.checkouts.known.items _ _ _ _ _ _ _ _
    (seen_home c.args.self _ _ _ c.in-Ok-behind_gate.ensures.kinds c.in-Ok-behind_gate.ensures.world c.in-Ok-behind_gate.ensures.opened)
    (setting_of_indexed _ _ _ _ _ _ c.empty.ensures.setting c.in-Ok-open.ensures) c.empty.ensures.history c.in-Ok-behind_gate.ensures.places
    c.in-Ok-behind_gate.ensures.tickets in
    let kept : HomeIsKept g.D.Device.shows c.args.self = c.behind_gate.ensures.kept in
    let opens : Opens g.D.Device.shows c.args.self c.args.roster c.args.mode c.args.rounds c.in-Ok-behind_gate.home.checkouts.known.items = record { kept = kept; may = c.requires.may; knows = c.in-Ok-behind_gate.ensures.known } in
    let enough : most_entries (length c.args.roster.runs.items) (length c.args.self.world) c.args.rounds ≤ c.empty.result.spare = omega (arith, c.empty.ensures.spare, c.in-Ok.ensures.book.1) in
    record {
      shown = subst (λ (t : OpenHub g.row.D.Denot). HubIsKept g.D.Device.shows t) (sym same) (first_kept _ c.args.self c.args.roster c.args.mode _ _ opens);
      room =
          subst (λ (t : OpenHub g.row.D.Denot). HasRoomLeft c.args.rounds (record { setting = t.setting; history = t.history; spare = c.empty.result.spare })
          c.in-Ok.room.closing) (sym same) (first_room c.args.self c.args.roster c.args.mode c.args.rounds _ _ kept.size enough c.in-Ok.ensures.closing);
      order = subst (λ (t : OpenHub g.row.D.Denot). OrderIsBeside c.args.rounds (record { setting = t.setting; history = t.history; spare = c.empty.result.spare }) (configuration_of t).grips c.in-Ok.room.state.order.line c.in-Ok.room.state.order.table) (sym same)
          (first_order _ c.args.self c.args.roster c.args.mode c.args.rounds c.empty.result.spare _ _ _ opens c.in-Ok.ensures.order);
      held_tokens = subst (λ (t : OpenHub g.row.D.Denot). HeldTokensAre t.setting (configuration_of t).grips c.in-Ok-behind_gate.home.checkouts.held_tokens.items) (sym same)
          (first_hands _ c.args.self c.args.roster c.args.mode c.args.rounds _ _ opens (c.in-Ok-behind_gate.ensures.held_tokens ∙ ap (λ n. replicate n None) c.len-runs.ensures));
    }

-- no run is marked as blocked
pub invariant_of-result-in-Ok-behind_gate : goal.invariant_of-result-in-Ok-behind_gate
invariant_of-result-in-Ok-behind_gate g c = record {
  marks = none_blocked _ _ c.in-Ok.ensures.blocked;
  scratch =
      first_scratch c.args.self c.args.roster c.args.mode c.args.rounds _ _ _ _ _ c.in-Ok.room.scratch
      (seen_home c.args.self _ _ _ c.in-Ok-behind_gate.ensures.kinds c.in-Ok-behind_gate.ensures.world c.in-Ok-behind_gate.ensures.opened)
      (setting_of_indexed _ _ _ _ _ _ c.empty.ensures.setting c.in-Ok-open.ensures) c.in-Ok.ensures.scratch;
}

pub returns-in-Ok-behind_gate-clause-opened : goal.returns-in-Ok-behind_gate-clause-opened
returns-in-Ok-behind_gate-clause-opened g c =
    let kept : HomeIsKept g.D.Device.shows c.args.self = c.behind_gate.ensures.kept in
    let opens : Opens g.D.Device.shows c.args.self c.args.roster c.args.mode c.args.rounds c.in-Ok-behind_gate.home.checkouts.known.items = record { kept = kept; may = c.requires.may; knows = c.in-Ok-behind_gate.ensures.known } in
    subst (λ (t : OpenHub g.row.D.Denot). IsOpened g.D.Device.shows (setting_for c.args.self c.args.roster c.args.mode) c.args.rounds c.args.self t)
    (sym (is_first_hub c.args.self c.args.roster c.args.mode c.args.rounds c.in-Ok-behind_gate.home.checkouts.known.items _ _ _ _ _ _ _ _
    (seen_home c.args.self _ _ _ c.in-Ok-behind_gate.ensures.kinds c.in-Ok-behind_gate.ensures.world c.in-Ok-behind_gate.ensures.opened)
    (setting_of_indexed _ _ _ _ _ _ c.empty.ensures.setting c.in-Ok-open.ensures) c.empty.ensures.history c.in-Ok-behind_gate.ensures.places
    c.in-Ok-behind_gate.ensures.tickets))
    (first_opened _ c.args.self c.args.roster c.args.mode _ _ opens)
