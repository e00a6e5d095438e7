-- The window timeline-failure-passes-live-runs: timeline: a failure of a device of the run comes past live runs.
use Rattle.worked_windows.proofs.Prelude.{Always}
use Rattle.worked_windows.proofs.Words.{Absent, Arrived, At, Busy, Commands, Committed, Did, Died, Down, Ended, Entry, Eventual, Failed, Fell, Fine, HandsOut, IsWorked, List, Moves, None, Over, Placed, Probes, Ran, Range, Set, Setting, Some, States, Table, Timeline, Waits, Worked, [], chosen, closure, device_no, either_of, false, gap_set, give, held, less, more, no_grips, others, refl, row, run_no, slice_set, split_at, split_of, still, true, ◌++◌, ◌∷◌}

abbrev pub window : Setting
window = record {
  runs = record { commands = record { device = device_no 2; job = Set 20; when = Always; must = true; ms = 1000; takes = 1000 } ∷ []; follows = None }
      ∷ record { commands = record { device = device_no 1; job = Set 1; when = Always; must = true; ms = 100; takes = 100 } ∷ []; follows = None }
      ∷ record { commands = record { device = device_no 0; job = Set 1; when = Always; must = false; ms = 100; takes = 100 } ∷ []; follows = None } ∷ [];
  mode = record { model = Eventual; scheduler = Timeline };
  kinds = States 2 ∷ States 2 ∷ Range 10 30 ∷ [];
  first = record { value = 0; up = true } ∷ record { value = 0; up = true } ∷ record { value = 18; up = true } ∷ [];
}

abbrev pub history : List Entry
history = Arrived (run_no 1) 0 ∷ Placed (run_no 1) 0 0 ∷ Arrived (run_no 2) 0 ∷ Placed (run_no 2) 0 0 ∷ Fell (device_no 0)
    ∷ Arrived (run_no 3) 0 ∷ Placed (run_no 3) 1 0 ∷ Did (run_no 2) 0 Fine ∷ Ended (run_no 2) Committed ∷ Did (run_no 1) 0 Fine
    ∷ Ended (run_no 1) Committed ∷ Did (run_no 3) 0 Down ∷ Ended (run_no 3) Committed ∷ []

abbrev pub table : Table
table = record {
  first = record {
    line = [];
    up = true ∷ true ∷ true ∷ [];
    writers = None ∷ None ∷ None ∷ [];
    values = 0 ∷ 0 ∷ 18 ∷ [];
    holders = [] ∷ [] ∷ [] ∷ [];
    touched = [] ∷ [] ∷ [] ∷ [];
    first_places = [];
    places = [];
    overdue = [];
    starts = [];
    ends = [];
    whole_ends = [];
    choices = Absent ∷ Moves (Arrived (run_no 1) 0 ∷ []) ∷ Moves (Arrived (run_no 2) 0 ∷ []) ∷ Moves (Arrived (run_no 3) 0 ∷ []) ∷ [];
  };
  rows = still 0 no_grips 0
      ∷ row 1 no_grips 0 (λ p. record p { first_places = 0 ∷ []; places = At (split_at [] 0) ∷ []; choices = slice_set p.choices 1 (Moves (Placed (run_no 1) 0 0 ∷ [])) })
      ∷ row 2 no_grips 0 (λ p. record p {
        line = Ran (run_no 1) ∷ [];
        holders = [] ∷ [] ∷ (1 ∷ []) ∷ [];
        first_places = [];
        places = [];
        overdue = (None ∷ None ∷ None ∷ []) ∷ [];
        starts = (0 ∷ []) ∷ [];
        ends = (1000 ∷ []) ∷ [];
        whole_ends = 1000 ∷ [];
        choices = slice_set p.choices 1 (HandsOut 2 (Commands 0));
      })
      ∷ row 3 no_grips 0 (λ p. record p { first_places = 0 ∷ []; places = At (split_at (Ran (run_no 1) ∷ []) 0) ∷ []; choices = slice_set p.choices 2 (Moves (Placed (run_no 2) 0 0 ∷ [])) })
      ∷ row 4 no_grips 0 (λ p. record p {
        line = Ran (run_no 2) ∷ Ran (run_no 1) ∷ [];
        holders = [] ∷ (2 ∷ []) ∷ (1 ∷ []) ∷ [];
        first_places = [];
        places = [];
        overdue = more 0 (None ∷ None ∷ None ∷ []) p.overdue;
        starts = (0 ∷ []) ∷ (0 ∷ []) ∷ [];
        ends = (100 ∷ []) ∷ (1000 ∷ []) ∷ [];
        whole_ends = 100 ∷ 1000 ∷ [];
        choices = slice_set p.choices 2 (HandsOut 1 (Commands 0));
      })
      ∷ still 4 (held 0 0 (Probes None) no_grips) 0
      ∷ row 5 no_grips 0 (λ p. record p { line = p.line ++ Failed (device_no 0) 1 ∷ []; up = false ∷ true ∷ true ∷ [] })
      ∷ row 6 no_grips 0 (λ p. record p { first_places = 3 ∷ []; places = At (record { front = Failed (device_no 0) 1 ∷ []; back = Ran (run_no 2) ∷ Ran (run_no 1) ∷ [] }) ∷ []; choices = slice_set p.choices 3 (Moves (Placed (run_no 3) 1 0 ∷ [])) })
      ∷ row 7 no_grips 0 (λ p. record p {
        line = Failed (device_no 0) 1 ∷ Ran (run_no 3) ∷ Ran (run_no 2) ∷ Ran (run_no 1) ∷ [];
        holders = (3 ∷ []) ∷ (2 ∷ []) ∷ (1 ∷ []) ∷ [];
        first_places = [];
        places = [];
        overdue = more 0 (None ∷ None ∷ None ∷ []) p.overdue;
        starts = (0 ∷ []) ∷ (0 ∷ []) ∷ (0 ∷ []) ∷ [];
        ends = more 0 (100 ∷ []) p.ends;
        whole_ends = 100 ∷ 100 ∷ 1000 ∷ [];
        choices = slice_set p.choices 3 (Moves (Did (run_no 3) 0 Down ∷ []));
      })
      ∷ row 7 (held 1 2 (Commands 0) no_grips) 0 (λ p. record p { touched = [] ∷ (2 ∷ []) ∷ [] ∷ []; choices = slice_set p.choices 2 (Waits (Busy (device_no 1))) })
      ∷ row 8 no_grips 100 (λ p. record p { writers = None ∷ Some 2 ∷ None ∷ []; values = 0 ∷ 1 ∷ 18 ∷ []; holders = (3 ∷ []) ∷ [] ∷ (1 ∷ []) ∷ []; choices = slice_set p.choices 2 (Over Committed (Ended (run_no 2) Committed ∷ [])) })
      ∷ row 9 no_grips 100 (λ p. record p { overdue = less 0 p.overdue; starts = (0 ∷ []) ∷ (0 ∷ []) ∷ []; ends = less 0 p.ends; whole_ends = 100 ∷ 1000 ∷ []; choices = slice_set p.choices 2 (Over Committed []) })
      ∷ row 9 (held 2 1 (Commands 0) no_grips) 100 (λ p. record p { touched = [] ∷ (2 ∷ []) ∷ (1 ∷ []) ∷ []; choices = slice_set p.choices 1 (Waits (Busy (device_no 2))) })
      ∷ row 10 no_grips 1100 (λ p. record p {
        writers = None ∷ Some 2 ∷ Some 1 ∷ [];
        values = 0 ∷ 1 ∷ 20 ∷ [];
        holders = (3 ∷ []) ∷ [] ∷ [] ∷ [];
        overdue = (None ∷ None ∷ None ∷ []) ∷ (Some 3 ∷ None ∷ None ∷ []) ∷ [];
        choices = slice_set p.choices 1 (Over Committed (Ended (run_no 1) Committed ∷ []));
      })
      ∷ row 11 no_grips 1100 (λ p. record p { overdue = less 1 p.overdue; starts = (0 ∷ []) ∷ []; ends = (100 ∷ []) ∷ []; whole_ends = 100 ∷ []; choices = slice_set p.choices 1 (Over Committed []) })
      ∷ row 12 no_grips 1100 (λ p. record p { holders = [] ∷ [] ∷ [] ∷ []; touched = (3 ∷ []) ∷ (2 ∷ []) ∷ (1 ∷ []) ∷ []; choices = slice_set p.choices 3 (Over Committed (Ended (run_no 3) Committed ∷ [])) })
      ∷ row 13 no_grips 1100 (λ p. record p { overdue = []; starts = []; ends = []; whole_ends = []; choices = slice_set p.choices 3 (Over Committed []) })
      ∷ still 13 (held 1 0 (Probes None) no_grips) 1100
      ∷ still 13 no_grips 1100
      ∷ still 13 (held 2 0 (Probes None) no_grips) 1100
      ∷ still 13 no_grips 1100 ∷ [];
  gives = give 4 0 0 (Probes None) Died (Fell (device_no 0) ∷ []) ∷ give 7 1 2 (Commands 0) Worked (Did (run_no 2) 0 Fine ∷ [])
      ∷ give 9 2 1 (Commands 0) Worked (Did (run_no 1) 0 Fine ∷ []) ∷ give 13 1 0 (Probes None) Worked [] ∷ give 13 2 0 (Probes None) Worked [] ∷ [];
  calls = 0 ∷ 1 ∷ 1 ∷ [];
  outcome = record {
    order = Failed (device_no 0) 1 ∷ Ran (run_no 3) ∷ Ran (run_no 2) ∷ Ran (run_no 1) ∷ [];
    home = record { value = 0; up = false } ∷ record { value = 1; up = true } ∷ record { value = 20; up = true } ∷ [];
    answers =
        record { run = run_no 3; answers = Down ∷ [] } ∷ record { run = run_no 2; answers = Fine ∷ [] } ∷ record { run = run_no 1; answers = Fine ∷ [] } ∷ [];
  };
}

is_worked : IsWorked window history table
unfolding chosen closure either_of gap_set others split_of
is_worked = record { points = refl; clauses = refl; gives = refl; calls = refl; ended = refl; allowed = refl; order = refl; answers = refl }
