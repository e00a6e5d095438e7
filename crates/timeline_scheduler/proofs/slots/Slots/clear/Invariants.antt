use Rattle.timeline_scheduler.proofs.Prelude.{cleared, drop, length, take, ◌++◌, ◌≡◌}
use Rattle.timeline_scheduler.proofs.slots.Slots.clear.Given as goal

-- nothing is known of the devices so far
abbrev pub invariant-devices : goal.invariant-devices
invariant-devices l = (length l.self-inside.slots.items ≡ l.d-end) × (l.d-end ≡ length l.initial.self-inside.slots.items) × (length l.self-inside.nears.items ≡ l.d-end)
    × (l.self-inside.slots.items ≡ cleared (take l.d l.initial.self-inside.slots.items) ++ drop l.d l.initial.self-inside.slots.items)
