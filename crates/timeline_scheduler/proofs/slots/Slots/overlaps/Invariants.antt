use Rattle.timeline_scheduler.proofs.Prelude.{is_misfit, length, list_any, ◌-◌, ◌≡◌}
use Rattle.timeline_scheduler.proofs.DeviceWalks.{rest}
use Rattle.timeline_scheduler.proofs.Overlaps.{is_shared, overlaps_on}
use Rattle.timeline_scheduler.proofs.slots.Slots.overlaps.Given as goal

-- the devices that are left decide
abbrev pub invariant-shared : goal.invariant-shared
invariant-shared l = record {
  slots : l.self-inside.slots.items ≡ l.initial.self-inside.slots.items;
  nears : length l.self-inside.nears.items ≡ length l.initial.self-inside.nears.items;
  left : list_any (overlaps_on l.s.table l.initial.self-inside.slots.items l.x.0) (rest (is_shared l.s.table l.s.runs l.fn.r.0 l.x.0) (length l.s.table) l.from.0)
      ≡ is_misfit l.s.table l.s.runs l.fn.r.0 l.initial.self-inside.slots.items l.x.0;
}

abbrev pub decreases-shared : goal.decreases-shared
decreases-shared l = length l.s.table - l.from.0
