-- Whether a record is the serial execution of the order that it prints.
use Rattle.order_checker.specs.Heads.{is_head}
use Rattle.order_checker.specs.Lines.{line_at, lines_of}
use Rattle.order_checker.specs.Steps.{required, walk, ◌>>=◌}
use Rattle.order_checker.specs.Totals.{is_total}
use Rattle.order_checker.specs.Windows.{DayProgress, window_told}
use Rattle.order_checker.specs.declared.verdicts.Place.TheVariants.{Head, Total}
use Rattle.order_checker.specs.declared.verdicts.Place.{Place}
use Rattle.order_checker.specs.declared.verdicts.Verdict.TheVariants.{Agrees, Differs}
use Rattle.order_checker.specs.declared.verdicts.Verdict.{Verdict}
use Rattle.routine_reader.specs.Rosters.{start_home}
use Rattle.routine_reader.specs.declared.scripts.Script.{Script}
use Rattle.routine_reader.specs.declared.scripts.WindowText.{WindowText}
use Rattle.std.specs.Prelude.{Bool, Err, List, Ok, Option, Result, drop, ℕ, ◌+◌}

-- a place, with the number of its window; 0 is the head's
abbrev pub in_window : {A : Type 0} → ℕ → Result A Place → Result A Verdict
in_window k (Ok a) = Ok a
in_window k (Err place) = Err (Differs k place)

-- before the first window every device is up at its start
abbrev pub first_progress : Script → List (Option (List ℕ)) → DayProgress
first_progress script lines =
    record { windows = 0; home = start_home script; lines = drop 2 lines; runs = 0; committed = 0 }

abbrev pub next_window_told : Script → DayProgress → WindowText → Result DayProgress Verdict
next_window_told script before window =
    in_window (before.windows + 1) (window_told script before window)

-- the head, each window of the script, and the total
unfoldable pub record_told : Script → List (Option (List ℕ)) → Result Bool Verdict
record_told script lines = do
  head ← required (is_head (line_at lines 0) (line_at lines 1)) (Differs 0 Head)
  last ← walk (next_window_told script) (first_progress script lines) script.windows.items
  required (is_total
      (record { windows = last.windows; runs = last.runs; committed = last.committed }) last.lines)
      (Differs last.windows Total)

abbrev pub verdict : Result Bool Verdict → Verdict
verdict (Ok agrees) = Agrees
verdict (Err differs) = differs

-- the first thing of a record that is not as stated, or that it agrees
unfoldable pub verdict_of : Script → List ℕ → Verdict
verdict_of script text = verdict (record_told script (lines_of text))
