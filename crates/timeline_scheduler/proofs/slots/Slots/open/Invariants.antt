use Rattle.timeline_scheduler.proofs.Prelude.{length, ◌≡◌, ◌≤◌}
use Rattle.timeline_scheduler.proofs.slots.Slots.open.Given as goal

abbrev pub invariant-devices : goal.invariant-devices
invariant-devices l = (length l.slots.items ≡ l.counter) × (l.devices ≤ l.slots.cap) × (length l.nears.items ≡ l.counter) × (l.devices ≤ l.nears.cap)
