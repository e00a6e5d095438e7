use Rattle.timeline_scheduler.proofs.Prelude.{option_map, planned_in, use_between, ◌≡◌}
use Rattle.timeline_scheduler.proofs.HeldUses.{AreSetTo}
use Rattle.timeline_scheduler.proofs.scratches.Scratch.use_as_planned.Given as goal

-- the uses on the devices of the commands up to here
abbrev pub invariant-commands : goal.invariant-commands
invariant-commands l = record {
  uses : AreSetTo l.command-index l.commands (λ d. option_map use_between (planned_in l.initial.self-inside.slots d)) l.self-inside.uses.items;
  slots : l.self-inside.slots ≡ l.initial.self-inside.slots;
  before : l.self-inside.before ≡ l.initial.self-inside.before;
  items : l.self-inside.items ≡ l.initial.self-inside.items;
}
