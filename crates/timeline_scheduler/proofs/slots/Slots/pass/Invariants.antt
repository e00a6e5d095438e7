use Rattle.timeline_scheduler.proofs.Prelude.{changed, false, length, slice_index_or, slot_behind, touches, ◌-◌, ◌≡◌}
use Rattle.timeline_scheduler.proofs.DeviceWalks.{rest}
use Rattle.timeline_scheduler.proofs.slots.Slots.pass.Given as goal

-- the devices that are left make the slots what they must be
abbrev pub invariant-devices : goal.invariant-devices
invariant-devices l = record {
  size : length l.self-inside.slots.items ≡ length l.s.table;
  nears : length l.self-inside.nears.items ≡ length l.s.table;
  slots : changed (slot_behind l.s.table (λ x. slice_index_or l.counted x false)) (rest (touches l.s.runs l.fn.r.0) (length l.s.table) l.from.0) l.self-inside.slots.items
      ≡ changed (slot_behind l.s.table (λ x. slice_index_or l.counted x false)) (rest (touches l.s.runs l.fn.r.0) (length l.s.table) 0) l.initial.self-inside.slots.items;
}

abbrev pub decreases-devices : goal.decreases-devices
decreases-devices l = length l.s.table - l.from.0
