-- The lines of a window. Each ends with a line feed.
use Rattle.day_clock.specs.declared.times.When.{When}
use Rattle.day_report.specs.Words.{answer_text, cause_text, device_name, states_of, routine_name, value_text}
use Rattle.history_book.specs.Books.{end_of}
use Rattle.history_book.specs.declared.entries.End.TheVariants.{Aborted, Committed}
use Rattle.history_book.specs.declared.entries.End.{End}
use Rattle.history_book.specs.declared.entries.Entry.TheVariants.{Arrived, Did, Doomed, Ended, Fell, Placed, Rose, Undid}
use Rattle.history_book.specs.declared.entries.Entry.{Entry}
use Rattle.history_book.specs.declared.entries.Kept.{Kept}
use Rattle.home_types.specs.HomeStates.{stand_at}
use Rattle.home_types.specs.declared.items.Item.TheVariants.{Back, Failed, Ran}
use Rattle.home_types.specs.declared.items.Item.{Item}
use Rattle.home_types.specs.declared.modes.Visibility.TheVariants.{Weak}
use Rattle.home_types.specs.declared.modes.Visibility.{Visibility}
use Rattle.home_types.specs.declared.worlds.Stand.{Stand}
use Rattle.routine_reader.specs.declared.scripts.DeviceText.{DeviceText}
use Rattle.routine_reader.specs.declared.scripts.Script.{Script}
use Rattle.routine_reader.specs.declared.scripts.WindowText.{WindowText}
use Rattle.std.specs.Fmt.{decimal}
use Rattle.std.specs.List.{enumerate_from, flat_map}
use Rattle.std.specs.Prelude.{List, None, Option, Some, [], codes, if◌then◌else◌, nat_lt, ℕ, ◌+◌, ◌++◌, ◌==◌, ◌∷◌}

-- a zero where the number is below this power of ten
abbrev pub zero_below : ℕ → ℕ → List ℕ
zero_below power n = (if nat_lt n power then codes "0" else [])

-- a number in two digits at least
unfoldable pub two_digits : ℕ → List ℕ
two_digits n = zero_below 10 n ++ decimal n

-- a number in four digits at least
unfoldable pub four_digits : ℕ → List ℕ
four_digits n = zero_below 1000 n ++ zero_below 100 n ++ two_digits n

-- a time as YYYY-MM-DDThh:mm:ss
unfoldable pub time_text : When → List ℕ
time_text at =
    four_digits at.year ++ codes "-" ++ two_digits at.month ++ codes "-" ++ two_digits at.day
    ++ codes "T" ++ two_digits at.hour ++ codes ":" ++ two_digits at.minute ++ codes ":"
    ++ two_digits at.second

-- the first line of a window; windows count from 0, and from 1 in print
unfoldable pub window_line : ℕ → When → List ℕ
window_line k at = codes "window " ++ decimal (k + 1) ++ codes " " ++ time_text at ++ codes "\n"

-- an entry of the history; a command counts from 1 in print
unfoldable pub entry_text : Script → WindowText → Entry → List ℕ
entry_text script window (Arrived r moment) =
    codes "arrived " ++ decimal r.0 ++ codes " at " ++ decimal moment
entry_text script window (Placed r at moment) =
    codes "placed " ++ decimal r.0 ++ codes " place " ++ decimal at ++ codes " at "
    ++ decimal moment
entry_text script window (Did r c answer) =
    codes "did " ++ decimal r.0 ++ codes "." ++ decimal (c + 1) ++ codes " "
    ++ answer_text (states_of script window r.0 c) answer
entry_text script window (Undid r d drove) =
    codes "undid " ++ decimal r.0 ++ codes " " ++ device_name script d.0
    ++ (if drove then codes " drove" else codes " dropped")
entry_text script window (Fell d) = codes "fell " ++ device_name script d.0
entry_text script window (Rose d) = codes "rose " ++ device_name script d.0
entry_text script window (Doomed r cause) =
    codes "doomed " ++ decimal r.0 ++ codes " " ++ cause_text script window r.0 cause
entry_text script window (Ended r Committed) = codes "ended " ++ decimal r.0 ++ codes " committed"
entry_text script window (Ended r (Aborted cause)) =
    codes "ended " ++ decimal r.0 ++ codes " aborted"

-- the line of an entry in the trace
unfoldable pub trace_line : Script → WindowText → Kept → List ℕ
trace_line script window kept = codes "# " ++ entry_text script window kept.entry ++ codes "\n"

-- the trace: the history line by line
unfoldable pub trace_lines : Script → WindowText → List Kept → List ℕ
trace_lines script window history = flat_map (trace_line script window) history

-- the answer of an entry, where it is one of the run
unfoldable pub answer_word : Script → WindowText → ℕ → Entry → List ℕ
answer_word script window r (Did q c answer) =
    (if q.0 == r then codes " " ++ answer_text (states_of script window r c) answer else [])
answer_word script window r _ = []

-- the answers of a run, in the order of the history
unfoldable pub answer_words : Script → WindowText → ℕ → List Kept → List ℕ
answer_words script window r history =
    flat_map (λ kept. answer_word script window r kept.entry) history

-- the end of a run, with its answers or the cause
unfoldable pub end_text : Script → WindowText → List Kept → ℕ → Option End → List ℕ
end_text script window history r None = []
end_text script window history r (Some Committed) =
    codes " committed" ++ answer_words script window r history
end_text script window history r (Some (Aborted cause)) =
    codes " aborted " ++ cause_text script window r cause

-- the line of a run: its number, its routine, its end
unfoldable pub line_of_run : Script → WindowText → List Kept → ℕ → ℕ → List ℕ
line_of_run script window history r routine =
    codes "run " ++ decimal r ++ codes " " ++ routine_name script routine
    ++ end_text script window history r (end_of history r) ++ codes "\n"

-- a line for each run of the window
unfoldable pub run_lines : Script → WindowText → List Kept → List ℕ
run_lines script window history =
    flat_map (λ (r, run). line_of_run script window history r run.routine)
    (enumerate_from 1 window.runs.items)

-- the word for a list with nothing in it
abbrev pub none_word : {A : Type 0} → List A → List ℕ
none_word [] = codes " none"
none_word (x ∷ xs) = []

-- an item of the order
unfoldable pub item_word : Script → Item → List ℕ
item_word script (Ran r) = codes " " ++ decimal r.0
item_word script (Failed d k) = codes " fail(" ++ device_name script d.0 ++ codes ")"
item_word script (Back d k) = codes " back(" ++ device_name script d.0 ++ codes ")"

-- the items of the order
unfoldable pub item_words : Script → List Item → List ℕ
item_words script order = none_word order ++ flat_map (item_word script) order

-- the serial order, which the weak model does not claim
unfoldable pub order_line : Script → Visibility → List Item → List ℕ
order_line script Weak order = codes "order unclaimed\n"
order_line script _ order = codes "order" ++ item_words script order ++ codes "\n"

-- a device where it stands, with a mark where it is down
unfoldable pub home_word : DeviceText → Stand → List ℕ
home_word device stand =
    codes " " ++ device.name ++ codes "=" ++ value_text device.states.items stand.value
    ++ (if stand.up then [] else codes "!")

-- each device in the order of the script
unfoldable pub home_words : List DeviceText → List Stand → List ℕ
home_words devices home =
    none_word devices
    ++ flat_map (λ (d, device). home_word device (stand_at home d)) (enumerate_from 0 devices)

-- the home
unfoldable pub home_line : List DeviceText → List Stand → List ℕ
home_line devices home = codes "home" ++ home_words devices home ++ codes "\n"
