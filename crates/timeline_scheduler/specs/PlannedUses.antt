-- The planned times of a run whose commands follow one another, and for how long a run is planned
-- to use a device by its plan.
use Rattle.command_rules.specs.Rosters.{Run, touches}
use Rattle.history_book.specs.Plans.{greatest, planned_end, planned_start}
use Rattle.history_book.specs.Readings.{Planned}
use Rattle.history_book.specs.declared.planned_uses.PlannedUse.{PlannedUse}
use Rattle.home_types.specs.Numbers.{DeviceId, Moment, RunId}
use Rattle.home_types.specs.declared.commands.Command.{Command}
use Rattle.std.specs.List.{list_any}
use Rattle.std.specs.Prelude.{List, None, Option, Some, [], if◌then◌else◌, min, slice_get, true, ◌+◌, ◌==◌, ◌∷◌, ◌≡◌}

-- each command starts when the one before it ends, the first at this time, and takes as long as its
-- estimate
abbrev pub planned_in_turn : Moment → List Command → List Planned
planned_in_turn clock [] = []
planned_in_turn clock (c ∷ cs) =
    record { device = c.device.0; from = clock; to = min (clock + c.ms) greatest }
    ∷ planned_in_turn (min (clock + c.ms) greatest) cs

-- for how long a run that is planned so uses the device: from the start of its first command there
-- to the end of its last one
abbrev pub planned_use : List Planned → DeviceId → Option PlannedUse
planned_use planned d =
    if list_any (λ p. p.device == d) planned
    then Some (record { from = planned_start planned d; to = planned_end planned d }) else None

-- the use of a device with one more command, which is planned from and to these times
abbrev pub planned_again : Option PlannedUse → Moment → Moment → PlannedUse
planned_again None from to = record { from = from; to = to }
planned_again (Some used) from to = record { from = used.from; to = to }

-- these are the uses of each device of the run in its plan
abbrev pub AreUsesOf : List Run → RunId → List (Option PlannedUse) → List Planned → Type 0
AreUsesOf runs r uses planned = (d : DeviceId) → touches runs r d ≡ true
    → slice_get uses d ≡ Some (planned_use planned d)

-- the use of a device that is planned from and to these times
abbrev pub use_between : Moment × Moment → PlannedUse
use_between (from, to) = record { from = from; to = to }
