use Rattle.timeline_scheduler.proofs.Prelude.{HoldsTimes, Item, List, ScratchRoom, Slot, WindowParts, ap, arith, chosen, commands_of, devices_among, false, items_of, length, length-map, no_slot, plan_behind, rules, slice_index_or, slot_at, slot_behind, slots_behind, subst, sym, touches, ◌∙◌, ◌≡◌}
use Rattle.timeline_scheduler.proofs.Passes.{behind_is, behind_length, behind_planned}
use Rattle.timeline_scheduler.proofs.SlotSets.{changed_length}
use Rattle.timeline_scheduler.proofs.scratches.Scratch.plan.Goals as goal

pub counted_runs-counted-requires-clause-flags : goal.counted_runs-counted-requires-clause-flags
counted_runs-counted-requires-clause-flags c =
    let same : c.as_slice-before.result.now ≡ c.self.inside.before.items = search rules in
    ap length same ∙ ap (λ (s : ScratchRoom). length s.before) c.self.view_is ∙ c.requires.flags

pub pass-requires-clause-size : goal.pass-requires-clause-size
pass-requires-clause-size c = ap length c.clear.ensures ∙ length-map c.self.inside.slots (λ s. no_slot) ∙ ap (λ (s : ScratchRoom). length s.slots) c.self.view_is ∙ c.requires.size

pub wait_for_writers-requires-clause-size : goal.wait_for_writers-requires-clause-size
wait_for_writers-requires-clause-size c =
    ap length c.pass.ensures
    ∙ changed_length (slot_behind c.args.s.now.table (λ x. slice_index_or c.counted_runs-counted.result x false)) (devices_among c.args.s.now.runs c.args.r.0 (length c.clear.new.self)) c.clear.new.self
    ∙ ap length c.clear.ensures ∙ length-map c.self.inside.slots (λ s. no_slot) ∙ ap (λ (s : ScratchRoom). length s.slots) c.self.view_is ∙ c.requires.size

pub wait_for_writers-requires-clause-flags : goal.wait_for_writers-requires-clause-flags
wait_for_writers-requires-clause-flags c =
    let same : c.as_slice-before.result.now ≡ c.self.inside.before.items = search rules in
    ap length same ∙ ap (λ (s : ScratchRoom). length s.before) c.self.view_is ∙ c.requires.flags

pub plan-requires-clause-homed : goal.plan-requires-clause-homed
plan-requires-clause-homed c = λ x d on.
    let items : List Item = chosen c.as_slice-before.result.now (items_of c.args.s.now.line) in
    let done : c.wait_for_writers.new.self ≡ slots_behind c.args.s.now.table c.args.s.now.history c.args.s.now.runs c.args.r.0 items c.self.inside.slots =
    behind_is c.args.s.now.table c.args.s.now.runs c.args.r.0 c.args.s.now.history items c.self.inside.slots (λ x. slice_index_or c.counted_runs-counted.result x false)
    c.clear.new.self c.pass.new.self c.wait_for_writers.new.self c.counted_runs-counted.ensures c.clear.ensures c.pass.ensures c.wait_for_writers.ensures in
    let size = ap length done ∙ behind_length c.args.s.now.table c.args.s.now.runs c.args.r.0 c.args.s.now.history items c.self.inside.slots in
    let own = ap (λ (s : ScratchRoom). length s.slots) c.self.view_is in
    let table = c.requires.size in
    let below = c.requires.homed x d (ap (λ (p : WindowParts). touches p.runs x d) (sym c.s.view_is) ∙ on) in
    omega (arith, size, own, table, below)

pub plan-requires-clause-none : goal.plan-requires-clause-none
plan-requires-clause-none c = λ d.
    let items : List Item = chosen c.as_slice-before.result.now (items_of c.args.s.now.line) in
    let done : c.wait_for_writers.new.self ≡ slots_behind c.args.s.now.table c.args.s.now.history c.args.s.now.runs c.args.r.0 items c.self.inside.slots =
    behind_is c.args.s.now.table c.args.s.now.runs c.args.r.0 c.args.s.now.history items c.self.inside.slots (λ x. slice_index_or c.counted_runs-counted.result x false)
    c.clear.new.self c.pass.new.self c.wait_for_writers.new.self c.counted_runs-counted.ensures c.clear.ensures c.pass.ensures c.wait_for_writers.ensures in
    ap (λ ss. (slot_at ss d).planned) done ∙ behind_planned c.args.s.now.table c.args.s.now.runs c.args.r.0 c.args.s.now.history items c.self.inside.slots d

pub returns-clause-times : goal.returns-clause-times
returns-clause-times c =
    let same : c.as_slice-before.result.now ≡ c.self.inside.before.items = search rules in
    let items : List Item = chosen c.as_slice-before.result.now (items_of c.args.s.now.line) in
    let done : c.wait_for_writers.new.self ≡ slots_behind c.args.s.now.table c.args.s.now.history c.args.s.now.runs c.args.r.0 items c.self.inside.slots =
    behind_is c.args.s.now.table c.args.s.now.runs c.args.r.0 c.args.s.now.history items c.self.inside.slots (λ x. slice_index_or c.counted_runs-counted.result x false)
    c.clear.new.self c.pass.new.self c.wait_for_writers.new.self c.counted_runs-counted.ensures c.clear.ensures c.pass.ensures c.wait_for_writers.ensures in
    subst (λ (ss : List Slot). HoldsTimes c.plan.new.self (plan_behind ss (commands_of c.args.s.now.runs c.args.r.0) c.args.moment))
    (done ∙ ap (λ bs. slots_behind c.args.s.now.table c.args.s.now.history c.args.s.now.runs c.args.r.0 (chosen bs (items_of c.args.s.now.line)) c.self.inside.slots) same
    ∙ ap (λ (s : ScratchRoom). slots_behind c.args.s.now.table c.args.s.now.history c.args.s.now.runs c.args.r.0 (chosen s.before (items_of c.args.s.now.line)) s.slots) c.self.view_is)
    (subst (λ (p : WindowParts). HoldsTimes c.plan.new.self (plan_behind c.wait_for_writers.new.self (commands_of p.runs c.args.r.0) c.args.moment)) c.s.view_is c.plan.ensures.times)

pub returns-clause-rest : goal.returns-clause-rest
returns-clause-rest c = ap (λ (s : ScratchRoom). record s { slots = c.plan.new.self }) c.self.view_is

pub returns-clause-size : goal.returns-clause-size
returns-clause-size c =
    let items : List Item = chosen c.as_slice-before.result.now (items_of c.args.s.now.line) in
    let done : c.wait_for_writers.new.self ≡ slots_behind c.args.s.now.table c.args.s.now.history c.args.s.now.runs c.args.r.0 items c.self.inside.slots =
    behind_is c.args.s.now.table c.args.s.now.runs c.args.r.0 c.args.s.now.history items c.self.inside.slots (λ x. slice_index_or c.counted_runs-counted.result x false)
    c.clear.new.self c.pass.new.self c.wait_for_writers.new.self c.counted_runs-counted.ensures c.clear.ensures c.pass.ensures c.wait_for_writers.ensures in
    c.plan.ensures.size ∙ ap length done ∙ behind_length c.args.s.now.table c.args.s.now.runs c.args.r.0 c.args.s.now.history items c.self.inside.slots ∙ ap (λ (s : ScratchRoom). length s.slots) c.self.view_is
