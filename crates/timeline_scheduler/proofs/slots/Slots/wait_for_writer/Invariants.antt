use Rattle.timeline_scheduler.proofs.Prelude.{changed, length, runs_of, slot_waiting, ◌-◌, ◌≡◌}
use Rattle.timeline_scheduler.proofs.DeviceWalks.{rest}
use Rattle.timeline_scheduler.proofs.WriterWaits.{waits_for}
use Rattle.timeline_scheduler.proofs.slots.Slots.wait_for_writer.Given as goal

-- the devices that are left make the slots what they must be
abbrev pub invariant-devices : goal.invariant-devices
invariant-devices l = (length l.self-inside.slots.items ≡ length l.initial.self-inside.slots.items)
    × (changed (slot_waiting (runs_of l.roster) l.fn.r.0 l.fn.x.0 l.whole) (rest (waits_for (runs_of l.roster) l.fn.r.0 l.fn.x.0) (length l.initial.self-inside.slots.items) l.from.0) l.self-inside.slots.items
    ≡ changed (slot_waiting (runs_of l.roster) l.fn.r.0 l.fn.x.0 l.whole) (rest (waits_for (runs_of l.roster) l.fn.r.0 l.fn.x.0) (length l.initial.self-inside.slots.items) 0) l.initial.self-inside.slots.items)
    × (length l.self-inside.nears.items ≡ length l.initial.self-inside.nears.items)

abbrev pub decreases-devices : goal.decreases-devices
decreases-devices l = length l.initial.self-inside.slots.items - l.from.0
