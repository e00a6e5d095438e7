-- What the timeline answers, for parts that belong to one window.
use Rattle.command_rules.specs.Apart.{meet}
use Rattle.command_rules.specs.ClosedSets.{IsLeast, chosen, others}
use Rattle.command_rules.specs.Rosters.{is_run}
use Rattle.history_book.specs.Gaps.{bars, base_of, gap_set}
use Rattle.history_book.specs.Plans.{planned_times}
use Rattle.history_book.specs.Settings.{scheduler_of}
use Rattle.home_types.specs.Numbers.{LinePlace, Moment, RunId}
use Rattle.home_types.specs.declared.modes.Scheduler.TheVariants.{Timeline}
use Rattle.lock_leasing.specs.Configurations.{Configuration, read_of}
use Rattle.lock_leasing.specs.Places.{At, IsEarliestSet, IsFittingSet, timeline}
use Rattle.lock_leasing.specs.Standings.{IsStandingOf, WindowParts}
use Rattle.std.specs.Prelude.{Bool, IsTrue, List, length, ◌≡◌}
use Rattle.timeline_scheduler.specs.Scratches.{HoldsTimes}
use Rattle.timeline_scheduler.specs.declared.slots.Slot.{Slot}

-- the parts belong to one window, which is not of the weak model and whose runs are placed by the
-- timeline, and the run is one of its roster
pub data MayPlan (parts : WindowParts) (r : RunId) : Type 0 where
  Planning : (s : Configuration) (stands : IsStandingOf s parts)
      (run : IsTrue (is_run parts.runs r)) (timed : scheduler_of s.setting.mode ≡ Timeline)
      → MayPlan parts r

-- this holds of the window of each configuration to which the parts belong and whose runs are
-- placed by the timeline
abbrev pub InEach : WindowParts → (Configuration → Type 0) → Type 0
InEach parts Holds =
    (s : Configuration) → IsStandingOf s parts → scheduler_of s.setting.mode ≡ Timeline → Holds s

-- the timeline places the run behind the items of its set and before the others, and these are so
-- many
abbrev pub IsPlaceOf : WindowParts → RunId → Moment → LinePlace → Type 0
IsPlaceOf parts r m place =
    InEach parts (λ s. (timeline s.setting (read_of s) r m ≡ At (record {
      front = chosen (gap_set s.setting (read_of s) r m) (read_of s).line;
      back = others (gap_set s.setting (read_of s) r m) (read_of s).line;
    }))
    × (length (chosen (gap_set s.setting (read_of s) r m) (read_of s).line) ≡ place))

-- the set is that of the timeline
abbrev pub IsSetOf : WindowParts → RunId → Moment → List Bool → Type 0
IsSetOf parts r m set =
    InEach parts (λ s. set ≡ gap_set s.setting (read_of s) r m)

-- the scratch holds the planned times of the run behind the items of the timeline's set
abbrev pub IsPlanOf : WindowParts → RunId → Moment → List Slot → Type 0
IsPlanOf parts r m slots =
    InEach parts (λ s. HoldsTimes slots (planned_times s.setting (read_of s) r
    (chosen (gap_set s.setting (read_of s) r m) (read_of s).line) m))

-- the set is closed, holds the base and fits, and is part of each other one that does
abbrev pub IsLeastOf : WindowParts → RunId → Moment → List Bool → Type 0
IsLeastOf parts r m set =
    InEach parts (λ s. IsLeast (meet s.setting.runs) (base_of s.setting (read_of s) r)
    (bars s.setting (read_of s) r m) (read_of s).line set)

-- the set is closed, holds the base and fits, and no other one that does plans an earlier end
abbrev pub IsEarliestOf : WindowParts → RunId → Moment → List Bool → Type 0
IsEarliestOf parts r m set =
    InEach parts
    (λ s. IsFittingSet s.setting (read_of s) r m set × IsEarliestSet s.setting (read_of s) r m set)
