use Rattle.timeline_scheduler.proofs.Prelude.{access_of, accesses_at, end_of_access, fold, has_access, length, max, whole_passed, ◌-◌, ◌≡◌}
use Rattle.timeline_scheduler.proofs.DeviceWalks.{rest}
use Rattle.timeline_scheduler.proofs.slots.Slots.whole_end.Given as goal

-- the devices that are left make the end what it must be
abbrev pub invariant-devices : goal.invariant-devices
invariant-devices l = record {
  slots : l.self-inside.slots.items ≡ l.initial.self-inside.slots.items;
  nears : length l.self-inside.nears.items ≡ length l.table;
  whole : fold (λ t d. max t (end_of_access (access_of l.fn.x.0 (accesses_at l.table d)))) l.whole (rest (λ d. has_access l.fn.x.0 (accesses_at l.table d)) (length l.table) l.from.0)
      ≡ whole_passed l.table l.fn.x.0;
}

abbrev pub decreases-devices : goal.decreases-devices
decreases-devices l = length l.table - l.from.0
