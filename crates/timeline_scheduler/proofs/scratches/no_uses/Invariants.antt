use Rattle.timeline_scheduler.proofs.Prelude.{length, ◌≡◌, ◌≤◌}
use Rattle.timeline_scheduler.proofs.scratches.no_uses.Given as goal

abbrev pub invariant-devices : goal.invariant-devices
invariant-devices l = (length l.uses.items ≡ l.counter) × (256 ≤ l.uses.cap)
