-- A history beside what is fixed in its window.
use Rattle.command_rules.specs.Rosters.{run_no}
use Rattle.history_book.specs.Histories.{entries_of, kept_by, reading}
use Rattle.history_book.specs.Readings.{Reading}
use Rattle.history_book.specs.Settings.{Setting}
use Rattle.history_book.specs.WellFormed.{IsWellFormed}
use Rattle.history_book.specs.declared.entries.Cause.TheVariants.{Lost}
use Rattle.history_book.specs.declared.entries.Cause.{Cause}
use Rattle.history_book.specs.declared.entries.Entry.TheVariants.{Doomed}
use Rattle.history_book.specs.declared.entries.Entry.{Entry}
use Rattle.history_book.specs.declared.entries.Kept.{Kept}
use Rattle.home_types.specs.Limits.{most_runs}
use Rattle.home_types.specs.Numbers.{ActorId, RunId}
use Rattle.home_types.specs.declared.numbers.DeviceNo.{DeviceNo}
use Rattle.home_types.specs.declared.numbers.RunNo.{RunNo}
use Rattle.std.specs.Prelude.{List, None, Option, Some, [], length, slice_index_or, suc, ℕ, ◌++◌, ◌+◌, ◌-◌, ◌<◌, ◌∷◌, ◌≡◌, ◌≤◌}

-- what it shows: what is fixed, the entries, and how many more it takes with no memory
pub record HistoryState : Type 0 where
  pub setting : Setting
  pub history : List Kept
  pub spare : ℕ

-- what the history says
abbrev pub read_in : HistoryState → Reading
read_in s = reading s.setting (entries_of s.history)

-- the entry is appended, and takes one place of the room
abbrev pub with_entry : HistoryState → ActorId → Entry → HistoryState
with_entry s maker entry =
    record s { history = s.history ++ kept_by maker (entry ∷ []); spare = s.spare - 1 }

-- .. or the entries of a step
abbrev pub with_more : HistoryState → ActorId → List Entry → HistoryState
with_more s maker entries =
    record s { history = s.history ++ kept_by maker entries; spare = s.spare - length entries }

-- the run is doomed, where there is a cause
abbrev pub with_doom : HistoryState → RunId → Option Cause → HistoryState
with_doom s r None = s
with_doom s r (Some cause) = with_entry s r (Doomed (run_no r) cause)

-- the run is doomed that a failure of the device loses, where there is one
abbrev pub with_lost : HistoryState → DeviceNo → Option RunNo → HistoryState
with_lost s d None = s
with_lost s d (Some r) = with_entry s 0 (Doomed r (Lost d))

-- there is an entry, or room for one, where there is a run; each entry may stand where it stands,
-- and the registers are those of the runs, by their numbers
pub record IsReadWith (s : HistoryState) (registers : List ℕ) : Type 0 where
  pub few : length s.setting.runs ≤ most_runs
  pub room : 0 < length s.setting.runs → 0 < length s.history + s.spare
  pub well_formed : IsWellFormed s.setting (entries_of s.history)
  pub size : length registers ≡ suc most_runs
  pub registers_are : (r : RunId) → r < length registers
      → slice_index_or registers r 0 ≡ ((read_in s).run r).register
