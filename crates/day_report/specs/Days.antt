-- The text of a day: the head, the text of each window, the total.
use Rattle.day_report.specs.Lines.{home_line, order_line, run_lines, trace_lines, window_line}
use Rattle.history_book.specs.declared.entries.End.TheVariants.{Aborted, Committed}
use Rattle.history_book.specs.declared.entries.Entry.TheVariants.{Ended}
use Rattle.history_book.specs.declared.entries.Entry.{Entry}
use Rattle.history_book.specs.declared.records.WindowRecord.{WindowRecord}
use Rattle.home_types.specs.declared.modes.Mode.{Mode}
use Rattle.home_types.specs.declared.modes.Scheduler.TheVariants.{Fcfs, JustInTime, Timeline}
use Rattle.home_types.specs.declared.modes.Scheduler.{Scheduler}
use Rattle.home_types.specs.declared.modes.Visibility.TheVariants.{Eventual, Global, Partitioned, Weak}
use Rattle.home_types.specs.declared.modes.Visibility.{Visibility}
use Rattle.routine_reader.specs.declared.scripts.Script.{Script}
use Rattle.routine_reader.specs.declared.scripts.WindowText.{WindowText}
use Rattle.std.specs.Fmt.{decimal}
use Rattle.std.specs.List.{count_by, enumerate_from, flat_map, sum_by}
use Rattle.std.specs.Option.{option_map_or}
use Rattle.std.specs.Prelude.{Bool, List, [], codes, false, if◌then◌else◌, length, slice_get, true, ℕ, ◌+◌, ◌++◌}

-- the word of a model
abbrev pub model_word : Visibility → List ℕ
model_word Weak = codes "wv"
model_word Global = codes "gsv"
model_word Partitioned = codes "psv"
model_word Eventual = codes "ev"

-- the word of a scheduler
abbrev pub scheduler_word : Scheduler → List ℕ
scheduler_word Fcfs = codes "fcfs"
scheduler_word JustInTime = codes "jit"
scheduler_word Timeline = codes "timeline"

-- the two lines above the windows
unfoldable pub head_text : Mode → List ℕ
head_text mode =
    codes "safehome day\nmodel " ++ model_word mode.model ++ codes " "
    ++ scheduler_word mode.scheduler ++ codes "\n"

-- the lines of a window with its record
unfoldable pub window_lines : Script → ℕ → WindowText → WindowRecord → Mode → Bool → List ℕ
window_lines script k window closed mode trace =
    window_line k window.at
    ++ (if trace then trace_lines script window closed.history.items else [])
    ++ run_lines script window closed.history.items
    ++ order_line script mode.model closed.order.items
    ++ home_line script.devices.items closed.last.devices.items

-- the text of the window of this number in the script, from 0; there is none where the script has
-- no such window
unfoldable pub window_text : Script → ℕ → WindowRecord → Mode → Bool → List ℕ
window_text script k closed mode trace =
    option_map_or (λ window. window_lines script k window closed mode trace)
    (slice_get script.windows.items k) []

-- the entry ends a run that committed
abbrev pub is_commit : Entry → Bool
is_commit (Ended r Committed) = true
is_commit _ = false

-- the entry ends a run that was aborted
abbrev pub is_abort : Entry → Bool
is_abort (Ended r (Aborted cause)) = true
is_abort _ = false

-- how many runs of the windows committed
unfoldable pub commit_count : List WindowRecord → ℕ
commit_count windows =
    sum_by (λ closed. count_by (λ kept. is_commit kept.entry) closed.history.items) windows

-- how many runs of the windows were aborted
unfoldable pub abort_count : List WindowRecord → ℕ
abort_count windows =
    sum_by (λ closed. count_by (λ kept. is_abort kept.entry) closed.history.items) windows

-- the last line, with these counts; every run of a closed window has ended
abbrev pub counts_line : ℕ → ℕ → ℕ → List ℕ
counts_line windows committed aborted =
    codes "total windows " ++ decimal windows ++ codes " runs " ++ decimal (committed + aborted)
    ++ codes " committed " ++ decimal committed ++ codes " aborted "
    ++ decimal aborted ++ codes "\n"

-- the line below the windows
unfoldable pub total_text : List WindowRecord → List ℕ
total_text windows = counts_line (length windows) (commit_count windows) (abort_count windows)

-- the texts of these windows of the script, in order, the first of them with this number
unfoldable pub window_texts_from : ℕ → Script → List WindowRecord → Mode → Bool → List ℕ
window_texts_from before script windows mode trace =
    flat_map (λ (k, closed). window_text script k closed mode trace) (enumerate_from before windows)

-- the texts of the windows, in order
abbrev pub window_texts : Script → List WindowRecord → Mode → Bool → List ℕ
window_texts script windows mode trace = window_texts_from 0 script windows mode trace

-- the line that tells how many windows were kept before
abbrev pub kept_line : ℕ → List ℕ
kept_line kept = codes "kept " ++ decimal kept ++ codes "\n"

-- the text of a day with these lines below the head, whose first window has this number in the
-- script
unfoldable pub day_text_from : List ℕ → ℕ → Script → List WindowRecord → Mode → Bool → List ℕ
day_text_from above before script windows mode trace =
    head_text mode ++ (above ++ window_texts_from before script windows mode trace)
    ++ total_text windows

-- the text of a day
abbrev pub day_text : Script → List WindowRecord → Mode → Bool → List ℕ
day_text script windows mode trace = day_text_from [] 0 script windows mode trace
