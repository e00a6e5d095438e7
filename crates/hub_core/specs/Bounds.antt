-- How long the history and the line of a window become.
use Rattle.history_book.specs.Histories.{entries_of}
use Rattle.history_book.specs.declared.entries.Entry.TheVariants.{Arrived, Did, Doomed, Ended, Fell, Placed, Rose, Undid}
use Rattle.history_book.specs.declared.entries.Entry.{Entry}
use Rattle.home_types.specs.Limits.{most_devices, most_probes, most_runs}
use Rattle.hub_core.specs.OpenHubs.{OpenHub, configuration_of}
use Rattle.lock_leasing.specs.Configurations.{read_of}
use Rattle.std.specs.Prelude.{Bool, count_by, false, length, true, ℕ, ◌*◌, ◌+◌, ◌≤◌}

-- how many entries tell of one run at most: its arrival, its placing, an answer to each of 64
-- commands, a doom, an undo on each of 64 devices, and its end
abbrev pub entries_of_a_run : ℕ
entries_of_a_run = 132

-- how many failures and restarts there are at most on so many devices with so many rounds of
-- probes: each restart answers a probe, and a device fails at most once more often than it comes
-- back
abbrev pub most_events : ℕ → ℕ → ℕ
most_events devices rounds = 2 * (rounds * devices) + devices

-- the entries of a history of so many runs
abbrev pub most_entries : ℕ → ℕ → ℕ → ℕ
most_entries runs devices rounds = entries_of_a_run * runs + most_events devices rounds

-- the items of its line: each run, each failure and each restart
abbrev pub most_items : ℕ → ℕ → ℕ → ℕ
most_items runs devices rounds = runs + most_events devices rounds

-- an entry by which a run ends, or is doomed
abbrev pub is_end : Entry → Bool
is_end (Arrived r m) = false
is_end (Placed r at m) = false
is_end (Did r c a) = false
is_end (Undid r d drove) = false
is_end (Fell d) = false
is_end (Rose d) = false
is_end (Doomed r cause) = false
is_end (Ended r e) = true

abbrev pub is_doom : Entry → Bool
is_doom (Arrived r m) = false
is_doom (Placed r at m) = false
is_doom (Did r c a) = false
is_doom (Undid r d drove) = false
is_doom (Fell d) = false
is_doom (Rose d) = false
is_doom (Doomed r cause) = true
is_doom (Ended r e) = false

-- history and line of a hub stay within these bounds, and so within the greatest of them; no more
-- runs end, or are doomed, than there are
pub record IsBounded {D : Type 0} (s : OpenHub D) : Type 0 where
  pub history : length s.history
      ≤ most_entries (length s.setting.runs) (length s.setting.first) s.rounds
  pub few_entries : length s.history ≤ most_entries most_runs most_devices most_probes
  pub ends : count_by is_end (entries_of s.history) ≤ length s.setting.runs
  pub dooms : count_by is_doom (entries_of s.history) ≤ length s.setting.runs
  pub line : length (read_of (configuration_of s)).line
      ≤ most_items (length s.setting.runs) (length s.setting.first) s.rounds
