use Rattle.timeline_scheduler.proofs.Prelude.{is_misfit, items_of, of_run, vec_capacity, ◌≡◌}
use Rattle.timeline_scheduler.proofs.Taking.{IsTakenTo}
use Rattle.timeline_scheduler.proofs.scratches.Scratch.take_misfits.Given as goal

-- the misfits so far are taken in
abbrev pub invariant-items : goal.invariant-items
invariant-items l = record {
  taken : IsTakenTo (of_run (is_misfit l.s.table l.s.runs l.r.0 l.initial.self-inside.slots)) (items_of l.s.line) l.initial.self-inside.before.items l.self-inside.before.items l.at l.some;
  room : vec_capacity l.self-inside.before ≡ vec_capacity l.initial.self-inside.before;
  slots : l.self-inside.slots ≡ l.initial.self-inside.slots;
  items : l.self-inside.items ≡ l.initial.self-inside.items;
  uses : l.self-inside.uses ≡ l.initial.self-inside.uses;
}
