use Rattle.timeline_scheduler.proofs.Prelude.{length, ◌≡◌}
use Rattle.timeline_scheduler.proofs.HeldTimes.{IsPlannedTo}
use Rattle.timeline_scheduler.proofs.slots.Slots.plan.Given as goal

abbrev pub invariant-commands : goal.invariant-commands
invariant-commands l = IsPlannedTo l.initial.self-inside.slots.items l.self-inside.slots.items l.commands l.moment l.command-index l.clock × (length l.self-inside.nears.items ≡ length l.initial.self-inside.nears.items)
