-- The ways of working a window: what is true of it in its setting, of its text, its record, and how
-- many probes were taken of each device.
use Rattle.history_book.specs.Settings.{Setting}
use Rattle.history_book.specs.declared.records.WindowRecord.{WindowRecord}
use Rattle.home_types.specs.Numbers.{DeviceId, Moment}
use Rattle.hub_threads.specs.WorkedWindows.{IsRunBy}
use Rattle.routine_reader.specs.declared.scripts.WindowText.{WindowText}
use Rattle.run_replay.specs.ReplayedWindows.{IsReplayBy}
use Rattle.std.specs.Prelude.{ℕ}

-- a way of working a window
abbrev pub WindowWay : Type 1
WindowWay = Setting → WindowText → WindowRecord → (DeviceId → ℕ) → Type 0

-- step by step: it was replayed by its turns and its seed, with its rounds of probes
abbrev pub IsReplayOf : WindowWay
IsReplayOf w window closed taken =
    IsReplayBy window.probes window.probes window.turns.items window.seed w closed taken

-- with threads: it was run with its rounds of probes, from the clock's earliest moment to its
-- latest
abbrev pub IsRunWithin : Moment → Moment → WindowWay
IsRunWithin earliest latest w window closed taken =
    IsRunBy window.probes earliest latest w closed taken
