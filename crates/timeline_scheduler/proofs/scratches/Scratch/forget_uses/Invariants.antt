use Rattle.timeline_scheduler.proofs.Prelude.{None, ◌≡◌}
use Rattle.timeline_scheduler.proofs.HeldUses.{AreSetTo}
use Rattle.timeline_scheduler.proofs.scratches.Scratch.forget_uses.Given as goal

-- there is no use of the devices of the commands up to here
abbrev pub invariant-commands : goal.invariant-commands
invariant-commands l = record {
  uses : AreSetTo l.command-index l.commands (λ d. None) l.self-inside.uses.items;
  slots : l.self-inside.slots ≡ l.initial.self-inside.slots;
  before : l.self-inside.before ≡ l.initial.self-inside.before;
  items : l.self-inside.items ≡ l.initial.self-inside.items;
}
