-- Device calls accounted for.
use Rattle.command_rules.specs.Rosters.{Run, command_at, is_on}
use Rattle.history_book.specs.Histories.{is_fall_of}
use Rattle.history_book.specs.Readings.{is_told}
use Rattle.history_book.specs.Settings.{Setting}
use Rattle.history_book.specs.declared.entries.Entry.{Entry}
use Rattle.history_book.specs.declared.entries.Entry.TheVariants.{Arrived, Did, Doomed, Ended, Fell, Placed, Rose, Undid}
use Rattle.home_types.specs.Numbers.{DeviceId}
use Rattle.std.specs.Prelude.{Bool, List, count_by, false, length, slice_index_or, ℕ, ◌&&◌, ◌<◌, ◌==◌, ◌≡◌, ◌≤◌}

-- the entry tells of a drive or a sense of the device that worked
abbrev pub tells_call : List Run → DeviceId → Entry → Bool
tells_call runs d (Did r c a) = is_on d (command_at runs r.0 c) && is_told a
tells_call runs d (Undid r e drove) = (e.0 == d) && drove
tells_call runs d (Rose e) = e.0 == d
tells_call runs d (Fell e) = false
tells_call runs d (Arrived r m) = false
tells_call runs d (Placed r at m) = false
tells_call runs d (Doomed r cause) = false
tells_call runs d (Ended r e) = false

-- how many calls of the device the history tells of
abbrev pub told_calls : List Run → List Entry → DeviceId → ℕ
told_calls runs history d = count_by (tells_call runs d) history

-- how many failures of the device
abbrev pub told_falls : List Entry → DeviceId → ℕ
told_falls history d = count_by (is_fall_of d) history

-- in the window the device's calls that worked rose by exactly those that the history tells of, and
-- its faults by at least its failures
pub record CallsAreAccounted (w : Setting) (history : List Entry)
    (turns faults : List ℕ) : Type 0 where
  pub turns_size : length turns ≡ length w.first
  pub faults_size : length faults ≡ length w.first
  pub turns_of : (d : DeviceId) → d < length w.first
      → slice_index_or turns d 0 ≡ told_calls w.runs history d
  pub faults_of : (d : DeviceId) → d < length w.first
      → told_falls history d ≤ slice_index_or faults d 0
