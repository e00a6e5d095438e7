-- Days of worked cases with the texts that are wanted of them: the definition of a day's text computes to each, byte by byte.
-- They have each kind of entry, answer, cause and item, also those that no program writes yet.
use Rattle.command_rules.specs.Rosters.{device_no, run_no}
use Rattle.day_report.proofs.Prelude.{Aborted, Arrived, Committed, Did, Doomed, Ended, Entry, Fell, List, None, Placed, Rose, Script, Stand, Undid, WindowRecord, WindowText, [], abort_count, answer_text, answer_word, answer_words, cause_text, codes, commit_count, day_text, day_text_from, device_name, device_of, end_text, entry_text, false, four_digits, head_text, home_line, home_word, home_words, item_word, item_words, line_of_run, map, order_line, refl, routine_name, run_lines, states_of, time_text, total_text, trace_line, trace_lines, true, two_digits, value_text, window_line, window_lines, window_text, window_texts_from, ℕ, ◌++◌, ◌∷◌, ◌≡◌}
use Rattle.history_book.specs.Histories.{kept_by}
use Rattle.history_book.specs.declared.entries.Cause.TheVariants.{DownAtEnd, Lost, MustDown, Refuted, Revoked}
use Rattle.home_types.specs.declared.commands.Answer.TheVariants.{Down, Fine, Found}
use Rattle.home_types.specs.declared.commands.Command.{Command}
use Rattle.home_types.specs.declared.commands.Guard.TheVariants.{Always}
use Rattle.home_types.specs.declared.commands.Job.TheVariants.{Check, Load, Set, Store}
use Rattle.home_types.specs.declared.commands.Job.{Job}
use Rattle.home_types.specs.declared.items.Item.TheVariants.{Back, Failed, Ran}
use Rattle.home_types.specs.declared.items.Item.{Item}
use Rattle.home_types.specs.declared.kinds.Kind.TheVariants.{Range, States}
use Rattle.home_types.specs.declared.modes.Mode.{Mode}
use Rattle.home_types.specs.declared.modes.Scheduler.TheVariants.{Fcfs, JustInTime, Timeline}
use Rattle.home_types.specs.declared.modes.Visibility.TheVariants.{Eventual, Global, Partitioned, Weak}
use Rattle.routine_reader.specs.declared.scripts.DeviceText.{DeviceText}
use Rattle.routine_reader.specs.declared.scripts.RoutineText.{RoutineText}
use Rattle.std.specs.Fmt.{digits}

abbrev pub on : ℕ → Job → Command
on device job = record { device = device_no device; job = job; when = Always; must = true; ms = 100; takes = 100 }

abbrev pub up : ℕ → Stand
up value = record { value = value; up = true }

abbrev pub down : ℕ → Stand
down value = record { value = value; up = false }

abbrev pub switch : List ℕ → DeviceText
switch name = record { name = name; kind = States 2; states = record { items = codes "off" ∷ codes "on" ∷ []; spare = 0 }; start = 0; downs = record { items = []; spare = 0 } }

abbrev pub heater : DeviceText
heater = record { name = codes "heat"; kind = Range 10 30; states = record { items = []; spare = 0 }; start = 18; downs = record { items = []; spare = 0 } }

-- the home of the worked cases: three switches, and a heater from 10 to 30
abbrev pub home : List DeviceText
home = switch (codes "lamp") ∷ switch (codes "fan") ∷ switch (codes "oven") ∷ heater ∷ []

-- a routine with this name
abbrev pub named : List ℕ → List Command → RoutineText
named name commands = record { name = name; routine = record { commands = record { items = commands; spare = 0 } } }

-- a window in which each of so many routines runs once
abbrev pub window : List ℕ → WindowText
window routines = record {
  at = record { year = 2021; month = 4; day = 26; hour = 7; minute = 0; second = 0 };
  seed = 1;
  probes = 0;
  turns = record { items = []; spare = 0 };
  runs = record { items = map (λ i. record { routine = i; follows = None }) routines; spare = 0 };
}

-- a day of one window, in which each routine of it runs once
abbrev pub script : List DeviceText → List RoutineText → List ℕ → Script
script devices routines runs = record {
  devices = record { items = devices; spare = 0 };
  routines = record { items = routines; spare = 0 };
  windows = record { items = window runs ∷ []; spare = 0 };
}

abbrev pub record_of : Mode → List Entry → List Item → List Stand → WindowRecord
record_of mode history order last = record {
  mode = mode;
  first = record { devices = record { items = []; spare = 0 } };
  history = record { items = kept_by 0 history; spare = 0 };
  order = record { items = order; spare = 0 };
  last = record { devices = record { items = last; spare = 0 } };
  turns = record { items = []; spare = 0 };
  faults = record { items = []; spare = 0 };
}

-- a released lamp is overwritten before its run commits
released_lamp_overwritten :
    day_text (script home (named (codes "a") (on 0 (Set 1) ∷ on 1 (Set 1) ∷ []) ∷ named (codes "b") (on 0 (Set 0) ∷ []) ∷ []) (0 ∷ 1 ∷ []))
    (record_of (record { model = Eventual; scheduler = Fcfs }) (Arrived (run_no 1) 0 ∷ Placed (run_no 1) 0 0 ∷ Arrived (run_no 2) 0 ∷ Placed (run_no 2) 1 0
    ∷ Did (run_no 1) 0 Fine ∷ Did (run_no 2) 0 Fine ∷ Ended (run_no 2) Committed ∷ Did (run_no 1) 1 Fine ∷ Ended (run_no 1) Committed ∷ [])
    (Ran (run_no 1) ∷ Ran (run_no 2) ∷ []) (up 0 ∷ up 1 ∷ up 0 ∷ up 18 ∷ []) ∷ []) (record { model = Eventual; scheduler = Fcfs }) true ≡
    codes "safehome day\n"
    ++ codes "model ev fcfs\n"
    ++ codes "window 1 2021-04-26T07:00:00\n"
    ++ codes "# arrived 1 at 0\n"
    ++ codes "# placed 1 place 0 at 0\n"
    ++ codes "# arrived 2 at 0\n"
    ++ codes "# placed 2 place 1 at 0\n"
    ++ codes "# did 1.1 .\n"
    ++ codes "# did 2.1 .\n"
    ++ codes "# ended 2 committed\n"
    ++ codes "# did 1.2 .\n"
    ++ codes "# ended 1 committed\n"
    ++ codes "run 1 a committed . .\n"
    ++ codes "run 2 b committed .\n"
    ++ codes "order 1 2\n"
    ++ codes "home lamp=off fan=on oven=off heat=18\n"
    ++ codes "total windows 1 runs 2 committed 2 aborted 0\n"
unfolding day_text_from head_text total_text window_text window_texts_from window_lines commit_count abort_count window_line time_text four_digits two_digits
    trace_lines trace_line entry_text run_lines line_of_run end_text answer_words answer_word order_line item_words item_word home_line home_words home_word
    device_name device_of states_of routine_name value_text answer_text cause_text digits
released_lamp_overwritten = refl

-- a device falls and rises, a run skips it, and a check that finds another value aborts
skipped_under_live_undo :
    day_text (script home (named (codes "a") (on 3 (Set 20) ∷ on 1 (Check 1) ∷ []) ∷ named (codes "b") (on 3 (Set 25) ∷ []) ∷ []) (0 ∷ 1 ∷ []))
    (record_of (record { model = Eventual; scheduler = Fcfs }) (Arrived (run_no 1) 0 ∷ Placed (run_no 1) 0 0 ∷ Arrived (run_no 2) 0 ∷ Placed (run_no 2) 1 0
    ∷ Did (run_no 1) 0 Fine ∷ Fell (device_no 3) ∷ Did (run_no 2) 0 Down ∷ Rose (device_no 3) ∷ Ended (run_no 2) Committed ∷ Did (run_no 1) 1 (Found 0)
    ∷ Doomed (run_no 1) (Refuted 1 0) ∷ Undid (run_no 1) (device_no 3) true ∷ Ended (run_no 1) (Aborted (Refuted 1 0)) ∷ [])
    (Failed (device_no 3) 1 ∷ Ran (run_no 2) ∷ Back (device_no 3) 1 ∷ []) (up 0 ∷ up 0 ∷ up 0 ∷ up 18 ∷ []) ∷ [])
    (record { model = Eventual; scheduler = Fcfs }) true ≡
    codes "safehome day\n"
    ++ codes "model ev fcfs\n"
    ++ codes "window 1 2021-04-26T07:00:00\n"
    ++ codes "# arrived 1 at 0\n"
    ++ codes "# placed 1 place 0 at 0\n"
    ++ codes "# arrived 2 at 0\n"
    ++ codes "# placed 2 place 1 at 0\n"
    ++ codes "# did 1.1 .\n"
    ++ codes "# fell heat\n"
    ++ codes "# did 2.1 -\n"
    ++ codes "# rose heat\n"
    ++ codes "# ended 2 committed\n"
    ++ codes "# did 1.2 off\n"
    ++ codes "# doomed 1 refuted 2 found off\n"
    ++ codes "# undid 1 heat drove\n"
    ++ codes "# ended 1 aborted\n"
    ++ codes "run 1 a aborted refuted 2 found off\n"
    ++ codes "run 2 b committed -\n"
    ++ codes "order fail(heat) 2 back(heat)\n"
    ++ codes "home lamp=off fan=off oven=off heat=18\n"
    ++ codes "total windows 1 runs 2 committed 1 aborted 1\n"
unfolding day_text_from head_text total_text window_text window_texts_from window_lines commit_count abort_count window_line time_text four_digits two_digits
    trace_lines trace_line entry_text run_lines line_of_run end_text answer_words answer_word order_line item_words item_word home_line home_words home_word
    device_name device_of states_of routine_name value_text answer_text cause_text digits
skipped_under_live_undo = refl

-- a strict run ends with a device down, and one of its undos is dropped
down_at_end : day_text (script home (named (codes "a") (on 0 (Set 1) ∷ on 1 (Set 1) ∷ []) ∷ []) (0 ∷ []))
    (record_of (record { model = Partitioned; scheduler = Fcfs }) (Arrived (run_no 1) 0 ∷ Placed (run_no 1) 0 0 ∷ Did (run_no 1) 0 Fine ∷ Fell (device_no 0)
    ∷ Did (run_no 1) 1 Fine ∷ Doomed (run_no 1) (DownAtEnd (device_no 0)) ∷ Undid (run_no 1) (device_no 0) false ∷ Undid (run_no 1) (device_no 1) true
    ∷ Ended (run_no 1) (Aborted (DownAtEnd (device_no 0))) ∷ []) (Failed (device_no 0) 1 ∷ []) (down 0 ∷ up 0 ∷ up 0 ∷ up 18 ∷ []) ∷ [])
    (record { model = Partitioned; scheduler = Fcfs }) true ≡
    codes "safehome day\n"
    ++ codes "model psv fcfs\n"
    ++ codes "window 1 2021-04-26T07:00:00\n"
    ++ codes "# arrived 1 at 0\n"
    ++ codes "# placed 1 place 0 at 0\n"
    ++ codes "# did 1.1 .\n"
    ++ codes "# fell lamp\n"
    ++ codes "# did 1.2 .\n"
    ++ codes "# doomed 1 downatend lamp\n"
    ++ codes "# undid 1 lamp dropped\n"
    ++ codes "# undid 1 fan drove\n"
    ++ codes "# ended 1 aborted\n"
    ++ codes "run 1 a aborted downatend lamp\n"
    ++ codes "order fail(lamp)\n"
    ++ codes "home lamp=off! fan=off oven=off heat=18\n"
    ++ codes "total windows 1 runs 1 committed 0 aborted 1\n"
unfolding day_text_from head_text total_text window_text window_texts_from window_lines commit_count abort_count window_line time_text four_digits two_digits
    trace_lines trace_line entry_text run_lines line_of_run end_text answer_words answer_word order_line item_words item_word home_line home_words home_word
    device_name device_of states_of routine_name value_text answer_text cause_text digits
down_at_end = refl

-- a device that is down is skipped by one run, and aborts the other, which must set it
skipped_and_must_down : day_text (script home (named (codes "a") (on 0 (Set 1) ∷ on 1 (Set 1) ∷ []) ∷ named (codes "b") (on 0 (Set 1) ∷ []) ∷ []) (0 ∷ 1 ∷ []))
    (record_of (record { model = Eventual; scheduler = Fcfs })
    (Did (run_no 1) 0 Down ∷ Did (run_no 1) 1 Fine ∷ Ended (run_no 1) Committed ∷ Did (run_no 2) 0 Down ∷ Ended (run_no 2) (Aborted (MustDown 0)) ∷ [])
    (Failed (device_no 0) 1 ∷ Ran (run_no 1) ∷ []) (down 0 ∷ up 1 ∷ up 0 ∷ up 18 ∷ []) ∷ []) (record { model = Eventual; scheduler = Fcfs }) false ≡
    codes "safehome day\n"
    ++ codes "model ev fcfs\n"
    ++ codes "window 1 2021-04-26T07:00:00\n"
    ++ codes "run 1 a committed - .\n"
    ++ codes "run 2 b aborted must 1\n"
    ++ codes "order fail(lamp) 1\n"
    ++ codes "home lamp=off! fan=on oven=off heat=18\n"
    ++ codes "total windows 1 runs 2 committed 1 aborted 1\n"
unfolding day_text_from head_text total_text window_text window_texts_from window_lines commit_count abort_count window_line time_text four_digits two_digits
    trace_lines trace_line entry_text run_lines line_of_run end_text answer_words answer_word order_line item_words item_word home_line home_words home_word
    device_name device_of states_of routine_name value_text answer_text cause_text digits
skipped_and_must_down = refl

-- a lease is overdue
lease_overdue : day_text (script home (named (codes "a") (on 0 (Set 1) ∷ on 2 (Set 1) ∷ []) ∷ named (codes "b") (on 2 (Set 0) ∷ []) ∷ []) (0 ∷ 1 ∷ []))
    (record_of (record { model = Eventual; scheduler = JustInTime })
    (Did (run_no 1) 0 Fine ∷ Ended (run_no 2) (Aborted (Revoked (run_no 1) (device_no 2) 110 111)) ∷ Did (run_no 1) 1 Fine ∷ Ended (run_no 1) Committed ∷ [])
    (Ran (run_no 1) ∷ []) (up 1 ∷ up 0 ∷ up 1 ∷ up 18 ∷ []) ∷ []) (record { model = Eventual; scheduler = JustInTime }) false ≡
    codes "safehome day\n"
    ++ codes "model ev jit\n"
    ++ codes "window 1 2021-04-26T07:00:00\n"
    ++ codes "run 1 a committed . .\n"
    ++ codes "run 2 b aborted revoked oven by 1 deadline 110 at 111\n"
    ++ codes "order 1\n"
    ++ codes "home lamp=on fan=off oven=on heat=18\n"
    ++ codes "total windows 1 runs 2 committed 1 aborted 1\n"
unfolding day_text_from head_text total_text window_text window_texts_from window_lines commit_count abort_count window_line time_text four_digits two_digits
    trace_lines trace_line entry_text run_lines line_of_run end_text answer_words answer_word order_line item_words item_word home_line home_words home_word
    device_name device_of states_of routine_name value_text answer_text cause_text digits
lease_overdue = refl

-- a device is lost between two accesses of a run
lost_between_accesses : day_text (script home (named (codes "a") (on 0 (Set 1) ∷ on 1 (Set 1) ∷ on 0 (Set 0) ∷ []) ∷ []) (0 ∷ []))
    (record_of (record { model = Eventual; scheduler = Fcfs }) (Did (run_no 1) 0 Fine ∷ Ended (run_no 1) (Aborted (Lost (device_no 0))) ∷ [])
    (Failed (device_no 0) 1 ∷ []) (down 0 ∷ up 0 ∷ up 0 ∷ up 18 ∷ []) ∷ []) (record { model = Eventual; scheduler = Fcfs }) false ≡
    codes "safehome day\n"
    ++ codes "model ev fcfs\n"
    ++ codes "window 1 2021-04-26T07:00:00\n"
    ++ codes "run 1 a aborted lost lamp\n"
    ++ codes "order fail(lamp)\n"
    ++ codes "home lamp=off! fan=off oven=off heat=18\n"
    ++ codes "total windows 1 runs 1 committed 0 aborted 1\n"
unfolding day_text_from head_text total_text window_text window_texts_from window_lines commit_count abort_count window_line time_text four_digits two_digits
    trace_lines trace_line entry_text run_lines line_of_run end_text answer_words answer_word order_line item_words item_word home_line home_words home_word
    device_name device_of states_of routine_name value_text answer_text cause_text digits
lost_between_accesses = refl

-- a value is stored and loaded
store_and_load : day_text (script home (named (codes "a") (on 3 Store ∷ on 3 Load ∷ on 2 Store ∷ []) ∷ []) (0 ∷ []))
    (record_of (record { model = Eventual; scheduler = Fcfs })
    (Did (run_no 1) 0 Fine ∷ Did (run_no 1) 1 (Found 10) ∷ Did (run_no 1) 2 Fine ∷ Ended (run_no 1) Committed ∷ []) (Ran (run_no 1) ∷ [])
    (up 0 ∷ up 0 ∷ up 1 ∷ up 10 ∷ []) ∷ []) (record { model = Eventual; scheduler = Fcfs }) false ≡
    codes "safehome day\n"
    ++ codes "model ev fcfs\n"
    ++ codes "window 1 2021-04-26T07:00:00\n"
    ++ codes "run 1 a committed . 10 .\n"
    ++ codes "order 1\n"
    ++ codes "home lamp=off fan=off oven=on heat=10\n"
    ++ codes "total windows 1 runs 1 committed 1 aborted 0\n"
unfolding day_text_from head_text total_text window_text window_texts_from window_lines commit_count abort_count window_line time_text four_digits two_digits
    trace_lines trace_line entry_text run_lines line_of_run end_text answer_words answer_word order_line item_words item_word home_line home_words home_word
    device_name device_of states_of routine_name value_text answer_text cause_text digits
store_and_load = refl

-- the weak model claims no order
no_order_under_the_weak_model : day_text (script home
    (named (codes "a") (on 0 (Set 1) ∷ on 1 (Set 1) ∷ []) ∷ named (codes "b") (on 1 (Set 0) ∷ on 0 (Set 0) ∷ []) ∷ named (codes "c") (on 3 (Set 25) ∷ []) ∷ [])
    (0 ∷ 1 ∷ 2 ∷ [])) (record_of (record { model = Weak; scheduler = Fcfs }) (Did (run_no 1) 0 Fine ∷ Did (run_no 2) 0 Fine ∷ Did (run_no 3) 0 Fine
    ∷ Ended (run_no 3) Committed ∷ Did (run_no 1) 1 Fine ∷ Ended (run_no 1) Committed ∷ Did (run_no 2) 1 Fine ∷ Ended (run_no 2) Committed ∷ [])
    (Ran (run_no 1) ∷ Ran (run_no 2) ∷ Ran (run_no 3) ∷ []) (up 0 ∷ up 1 ∷ up 0 ∷ up 25 ∷ []) ∷ []) (record { model = Weak; scheduler = Fcfs }) false ≡
    codes "safehome day\n"
    ++ codes "model wv fcfs\n"
    ++ codes "window 1 2021-04-26T07:00:00\n"
    ++ codes "run 1 a committed . .\n"
    ++ codes "run 2 b committed . .\n"
    ++ codes "run 3 c committed .\n"
    ++ codes "order unclaimed\n"
    ++ codes "home lamp=off fan=on oven=off heat=25\n"
    ++ codes "total windows 1 runs 3 committed 3 aborted 0\n"
unfolding day_text_from head_text total_text window_text window_texts_from window_lines commit_count abort_count window_line time_text four_digits two_digits
    trace_lines trace_line entry_text run_lines line_of_run end_text answer_words answer_word order_line item_words item_word home_line home_words home_word
    device_name device_of states_of routine_name value_text answer_text cause_text digits
no_order_under_the_weak_model = refl

-- nobody runs in a home without devices
nothing_in_a_window : window_text (script [] [] []) 0 (record_of (record { model = Global; scheduler = Timeline }) [] [] []) (record { model = Global; scheduler = Timeline }) true ≡
    codes "window 1 2021-04-26T07:00:00\n"
    ++ codes "order none\n"
    ++ codes "home none\n"
unfolding window_text window_lines window_line time_text four_digits two_digits trace_lines run_lines order_line item_words home_line home_words digits
nothing_in_a_window = refl

nothing_in_a_day : day_text (script [] [] []) [] (record { model = Global; scheduler = Timeline }) true ≡
    codes "safehome day\n"
    ++ codes "model gsv timeline\n"
    ++ codes "total windows 0 runs 0 committed 0 aborted 0\n"
unfolding day_text_from head_text window_texts_from total_text commit_count abort_count digits
nothing_in_a_day = refl
