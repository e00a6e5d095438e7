-- The line of a trial.
use Rattle.day_report.specs.Days.{abort_count, commit_count}
use Rattle.history_book.specs.declared.records.WindowRecord.{WindowRecord}
use Rattle.std.specs.Fmt.{decimal}
use Rattle.std.specs.Prelude.{List, codes, length, ℕ, ◌+◌, ◌++◌}

-- how many windows, and how many runs, each of which has ended
unfoldable pub counts_words : ℕ → ℕ → ℕ → List ℕ
counts_words windows committed aborted =
    codes "windows " ++ decimal windows ++ codes " runs " ++ decimal (committed + aborted)
    ++ codes " committed " ++ decimal committed ++ codes " aborted " ++ decimal aborted

-- the trial's number, the counts of its day, and how many windows agree
unfoldable pub trial_line : ℕ → ℕ → ℕ → ℕ → ℕ → List ℕ
trial_line n windows committed aborted agree =
    codes "trial " ++ decimal n ++ codes " " ++ counts_words windows committed aborted
    ++ codes " agree " ++ decimal agree ++ codes "\n"

-- .. of these windows
unfoldable pub trial_text : ℕ → List WindowRecord → ℕ → List ℕ
trial_text n windows agree =
    trial_line n (length windows) (commit_count windows) (abort_count windows) agree
