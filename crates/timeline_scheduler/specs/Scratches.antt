-- What a scratch holds: times for each device, and the items of the line that stand before the run.
use Rattle.history_book.specs.Plans.{planned_end, planned_start}
use Rattle.history_book.specs.Readings.{Planned}
use Rattle.history_book.specs.declared.planned_uses.PlannedUse.{PlannedUse}
use Rattle.home_types.specs.Numbers.{DeviceId, Moment}
use Rattle.std.specs.List.{list_any}
use Rattle.std.specs.Prelude.{Bool, List, None, Option, Some, if◌then◌else◌, option_and_then, slice_get, ℕ, ◌==◌, ◌≡◌}
use Rattle.timeline_scheduler.specs.declared.slots.Slot.{Slot}

-- for each device when it is free and what is planned there, for each item whether it stands before
-- the run, for how many items there is room, and for how long the run placed last is planned to use
-- each of its devices
pub record ScratchRoom : Type 0 where
  pub slots : List Slot
  pub before : List Bool
  pub items : ℕ
  pub uses : List (Option PlannedUse)

-- the times that are held for the device
abbrev pub planned_in : List Slot → DeviceId → Option (Moment × Moment)
planned_in slots d = option_and_then (λ (s : Slot). s.planned) (slice_get slots d)

-- from when and to when a run that is planned so uses the device: from the start of its first
-- command there to the end of its last one
abbrev pub planned_span : List Planned → DeviceId → Option (Moment × Moment)
planned_span planned d =
    if list_any (λ p. p.device == d) planned
    then Some (planned_start planned d, planned_end planned d) else None

-- the scratch holds the times of this plan
abbrev pub HoldsTimes : List Slot → List Planned → Type 0
HoldsTimes slots planned = (d : DeviceId) → planned_in slots d ≡ planned_span planned d
