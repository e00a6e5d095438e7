-- The window timeline-failure-comes-with-the-run-behind-it: timeline: a failure comes with the run behind it.
use Rattle.worked_windows.proofs.Prelude.{Always}
use Rattle.worked_windows.proofs.Words.{Absent, Arrived, At, Behind, Busy, Commands, Committed, Did, Died, Down, Ended, Entry, Eventual, Failed, Fell, Fine, HandsOut, IsWorked, List, Moves, None, Over, Placed, Probes, Ran, Range, Set, Setting, Some, States, Table, Timeline, Waits, Worked, [], chosen, closure, device_no, either_of, false, gap_set, give, held, less, more, no_grips, others, refl, row, run_no, slice_set, split_at, split_of, still, true, ◌++◌, ◌∷◌}

abbrev pub window : Setting
window = record {
  runs = record { commands = record { device = device_no 0; job = Set 1; when = Always; must = true; ms = 100; takes = 0 } ∷ record { device = device_no 2; job = Set 20; when = Always; must = true; ms = 1000; takes = 1000 } ∷ []; follows = None }
      ∷ record { commands = record { device = device_no 1; job = Set 1; when = Always; must = true; ms = 100; takes = 100 } ∷ record { device = device_no 0; job = Set 0; when = Always; must = false; ms = 100; takes = 100 } ∷ []; follows = None }
      ∷ record { commands = record { device = device_no 1; job = Set 0; when = Always; must = true; ms = 100; takes = 100 } ∷ []; follows = None } ∷ [];
  mode = record { model = Eventual; scheduler = Timeline };
  kinds = States 2 ∷ States 2 ∷ Range 10 30 ∷ [];
  first = record { value = 0; up = true } ∷ record { value = 0; up = true } ∷ record { value = 18; up = true } ∷ [];
}

abbrev pub history : List Entry
history = Arrived (run_no 1) 0 ∷ Placed (run_no 1) 0 0 ∷ Arrived (run_no 2) 0 ∷ Placed (run_no 2) 1 0 ∷ Did (run_no 1) 0 Fine
    ∷ Fell (device_no 0) ∷ Arrived (run_no 3) 0 ∷ Placed (run_no 3) 3 0 ∷ Did (run_no 1) 1 Fine ∷ Ended (run_no 1) Committed
    ∷ Did (run_no 2) 0 Fine ∷ Did (run_no 2) 1 Down ∷ Ended (run_no 2) Committed ∷ Did (run_no 3) 0 Fine ∷ Ended (run_no 3) Committed ∷ []

abbrev pub table : Table
table = record {
  first = record {
    line = [];
    up = true ∷ true ∷ true ∷ [];
    writers = None ∷ None ∷ None ∷ [];
    values = 0 ∷ 0 ∷ 18 ∷ [];
    holders = [] ∷ [] ∷ [] ∷ [];
    touched = [] ∷ [] ∷ [] ∷ [];
    first_places = [];
    places = [];
    overdue = [];
    starts = [];
    ends = [];
    whole_ends = [];
    choices = Absent ∷ Moves (Arrived (run_no 1) 0 ∷ []) ∷ Moves (Arrived (run_no 2) 0 ∷ []) ∷ Moves (Arrived (run_no 3) 0 ∷ []) ∷ [];
  };
  rows = still 0 no_grips 0
      ∷ row 1 no_grips 0 (λ p. record p { first_places = 0 ∷ []; places = At (split_at [] 0) ∷ []; choices = slice_set p.choices 1 (Moves (Placed (run_no 1) 0 0 ∷ [])) })
      ∷ row 2 no_grips 0 (λ p. record p {
        line = Ran (run_no 1) ∷ [];
        holders = (1 ∷ []) ∷ [] ∷ (1 ∷ []) ∷ [];
        first_places = [];
        places = [];
        overdue = (None ∷ None ∷ None ∷ []) ∷ [];
        starts = (0 ∷ 100 ∷ []) ∷ [];
        ends = (100 ∷ 1100 ∷ []) ∷ [];
        whole_ends = 1100 ∷ [];
        choices = slice_set p.choices 1 (HandsOut 0 (Commands 0));
      })
      ∷ row 3 no_grips 0 (λ p. record p { first_places = 0 ∷ []; places = At (split_at (Ran (run_no 1) ∷ []) 1) ∷ []; choices = slice_set p.choices 2 (Moves (Placed (run_no 2) 1 0 ∷ [])) })
      ∷ row 4 no_grips 0 (λ p. record p {
        line = Ran (run_no 1) ∷ Ran (run_no 2) ∷ [];
        holders = (1 ∷ 2 ∷ []) ∷ (2 ∷ []) ∷ (1 ∷ []) ∷ [];
        first_places = [];
        places = [];
        overdue = more 0 (None ∷ None ∷ None ∷ []) p.overdue;
        starts = (0 ∷ 100 ∷ []) ∷ (100 ∷ 0 ∷ []) ∷ [];
        ends = (100 ∷ 1100 ∷ []) ∷ (200 ∷ 100 ∷ []) ∷ [];
        whole_ends = 1100 ∷ 200 ∷ [];
        choices = slice_set p.choices 2 (HandsOut 1 (Commands 0));
      })
      ∷ row 4 (held 0 1 (Commands 0) no_grips) 0 (λ p. record p { touched = (1 ∷ []) ∷ [] ∷ [] ∷ []; choices = slice_set p.choices 1 (Waits (Busy (device_no 0))) })
      ∷ row 5 no_grips 0 (λ p. record p { writers = Some 1 ∷ None ∷ None ∷ []; values = 1 ∷ 0 ∷ 18 ∷ []; holders = (2 ∷ []) ∷ (2 ∷ []) ∷ (1 ∷ []) ∷ []; choices = slice_set p.choices 1 (HandsOut 2 (Commands 1)) })
      ∷ still 5 (held 0 0 (Probes None) no_grips) 0
      ∷ row 6 no_grips 0 (λ p. record p { line = more 1 (Failed (device_no 0) 1) p.line; up = false ∷ true ∷ true ∷ [] })
      ∷ row 7 no_grips 0 (λ p. record p { first_places = 0 ∷ []; places = At (split_at (Ran (run_no 1) ∷ Failed (device_no 0) 1 ∷ Ran (run_no 2) ∷ []) 3) ∷ []; choices = slice_set p.choices 3 (Moves (Placed (run_no 3) 3 0 ∷ [])) })
      ∷ row 8 no_grips 0 (λ p. record p {
        line = p.line ++ Ran (run_no 3) ∷ [];
        holders = (2 ∷ []) ∷ (2 ∷ 3 ∷ []) ∷ (1 ∷ []) ∷ [];
        first_places = [];
        places = [];
        overdue = more 0 (None ∷ None ∷ None ∷ []) p.overdue;
        starts = more 2 (100 ∷ []) p.starts;
        ends = more 2 (200 ∷ []) p.ends;
        whole_ends = 1100 ∷ 200 ∷ 200 ∷ [];
        choices = slice_set p.choices 3 (Waits (Behind (device_no 1) (run_no 2)));
      })
      ∷ row 8 (held 2 1 (Commands 1) no_grips) 0 (λ p. record p { touched = (1 ∷ []) ∷ [] ∷ (1 ∷ []) ∷ []; choices = slice_set p.choices 1 (Waits (Busy (device_no 2))) })
      ∷ row 9 no_grips 1000 (λ p. record p { writers = Some 1 ∷ None ∷ Some 1 ∷ []; values = 1 ∷ 0 ∷ 20 ∷ []; holders = (2 ∷ []) ∷ (2 ∷ 3 ∷ []) ∷ [] ∷ []; choices = slice_set p.choices 1 (Over Committed (Ended (run_no 1) Committed ∷ [])) })
      ∷ row 10 no_grips 1000 (λ p. record p { overdue = less 0 p.overdue; starts = less 0 p.starts; ends = less 0 p.ends; whole_ends = 200 ∷ 200 ∷ []; choices = slice_set p.choices 1 (Over Committed []) })
      ∷ row 10 (held 1 2 (Commands 0) no_grips) 1000 (λ p. record p { touched = (1 ∷ []) ∷ (2 ∷ []) ∷ (1 ∷ []) ∷ []; choices = slice_set p.choices 2 (Waits (Busy (device_no 1))) })
      ∷ row 11 no_grips 1100 (λ p. record p { writers = Some 1 ∷ Some 2 ∷ Some 1 ∷ []; values = 1 ∷ 1 ∷ 20 ∷ []; holders = (2 ∷ []) ∷ (3 ∷ []) ∷ [] ∷ []; choices = Absent ∷ Over Committed [] ∷ Moves (Did (run_no 2) 1 Down ∷ []) ∷ HandsOut 1 (Commands 0) ∷ [] })
      ∷ row 12 no_grips 1100 (λ p. record p { holders = [] ∷ (3 ∷ []) ∷ [] ∷ []; touched = (1 ∷ 2 ∷ []) ∷ (2 ∷ []) ∷ (1 ∷ []) ∷ []; choices = slice_set p.choices 2 (Over Committed (Ended (run_no 2) Committed ∷ [])) })
      ∷ row 13 no_grips 1100 (λ p. record p { overdue = less 0 p.overdue; starts = (100 ∷ []) ∷ []; ends = (200 ∷ []) ∷ []; whole_ends = 200 ∷ []; choices = slice_set p.choices 2 (Over Committed []) })
      ∷ row 13 (held 1 3 (Commands 0) no_grips) 1100 (λ p. record p { touched = (1 ∷ 2 ∷ []) ∷ (2 ∷ 3 ∷ []) ∷ (1 ∷ []) ∷ []; choices = slice_set p.choices 3 (Waits (Busy (device_no 1))) })
      ∷ row 14 no_grips 1200 (λ p. record p { writers = Some 1 ∷ Some 3 ∷ Some 1 ∷ []; values = 1 ∷ 0 ∷ 20 ∷ []; holders = [] ∷ [] ∷ [] ∷ []; choices = slice_set p.choices 3 (Over Committed (Ended (run_no 3) Committed ∷ [])) })
      ∷ row 15 no_grips 1200 (λ p. record p { overdue = []; starts = []; ends = []; whole_ends = []; choices = slice_set p.choices 3 (Over Committed []) })
      ∷ still 15 (held 1 0 (Probes None) no_grips) 1200
      ∷ still 15 no_grips 1200
      ∷ still 15 (held 2 0 (Probes None) no_grips) 1200
      ∷ still 15 no_grips 1200 ∷ [];
  gives = give 4 0 1 (Commands 0) Worked (Did (run_no 1) 0 Fine ∷ []) ∷ give 5 0 0 (Probes None) Died (Fell (device_no 0) ∷ [])
      ∷ give 8 2 1 (Commands 1) Worked (Did (run_no 1) 1 Fine ∷ []) ∷ give 10 1 2 (Commands 0) Worked (Did (run_no 2) 0 Fine ∷ [])
      ∷ give 13 1 3 (Commands 0) Worked (Did (run_no 3) 0 Fine ∷ []) ∷ give 15 1 0 (Probes None) Worked [] ∷ give 15 2 0 (Probes None) Worked [] ∷ [];
  calls = 1 ∷ 2 ∷ 1 ∷ [];
  outcome = record {
    order = Ran (run_no 1) ∷ Failed (device_no 0) 1 ∷ Ran (run_no 2) ∷ Ran (run_no 3) ∷ [];
    home = record { value = 1; up = false } ∷ record { value = 0; up = true } ∷ record { value = 20; up = true } ∷ [];
    answers =
        record { run = run_no 1; answers = Fine ∷ Fine ∷ [] } ∷ record { run = run_no 2; answers = Fine ∷ Down ∷ [] }
        ∷ record { run = run_no 3; answers = Fine ∷ [] } ∷ [];
  };
}

is_worked : IsWorked window history table
unfolding chosen closure either_of gap_set others split_of
is_worked = record { points = refl; clauses = refl; gives = refl; calls = refl; ended = refl; allowed = refl; order = refl; answers = refl }
