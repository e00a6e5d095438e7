-- The window lost-behind-a-skip: a failure loses a run that has touched the device behind a skip, and not one that has only skipped there.
use Rattle.worked_windows.proofs.Words.{Aborted, Absent, Always, Arrived, At, Behind, Busy, Commands, Committed, Did, Died, Doomed, Down, Ended, Entry, Eventual, Failed, Fcfs, Fell, Fine, HandsOut, Is, IsWorked, List, Lost, Moves, None, Over, Placed, Probes, Ran, Set, Setting, Skipped, Some, Table, Undid, Waits, Worked, [], device_no, false, give, held, home_of_four, less, more, no_grips, refl, row, run_no, slice_set, split_at, split_of, still, true, ◌∷◌}

abbrev pub window : Setting
window = record home_of_four {
  runs = record {
    commands =
        record { device = device_no 0; job = Set 1; when = Is 5; must = true; ms = 100; takes = 100 }
        ∷ record { device = device_no 0; job = Set 1; when = Always; must = true; ms = 100; takes = 100 }
        ∷ record { device = device_no 1; job = Set 1; when = Always; must = true; ms = 100; takes = 100 }
        ∷ record { device = device_no 0; job = Set 0; when = Always; must = true; ms = 100; takes = 100 } ∷ [];
    follows = None;
  }
      ∷ record {
        commands =
            record { device = device_no 0; job = Set 1; when = Is 5; must = true; ms = 100; takes = 100 }
            ∷ record { device = device_no 2; job = Set 1; when = Always; must = true; ms = 100; takes = 100 }
            ∷ record { device = device_no 0; job = Set 1; when = Always; must = false; ms = 100; takes = 100 } ∷ [];
        follows = None;
      } ∷ [];
  mode = record { model = Eventual; scheduler = Fcfs };
}

abbrev pub history : List Entry
history = Arrived (run_no 1) 0 ∷ Placed (run_no 1) 0 0 ∷ Arrived (run_no 2) 0 ∷ Placed (run_no 2) 1 0 ∷ Did (run_no 1) 0 Skipped
    ∷ Did (run_no 1) 1 Fine ∷ Did (run_no 2) 0 Skipped ∷ Did (run_no 2) 1 Fine ∷ Fell (device_no 0) ∷ Doomed (run_no 1) (Lost (device_no 0))
    ∷ Undid (run_no 1) (device_no 0) false ∷ Ended (run_no 1) (Aborted (Lost (device_no 0))) ∷ Did (run_no 2) 2 Down ∷ Ended (run_no 2) Committed ∷ []

abbrev pub table : Table
table = record {
  first = record {
    line = [];
    up = true ∷ true ∷ true ∷ true ∷ [];
    writers = None ∷ None ∷ None ∷ None ∷ [];
    values = 0 ∷ 0 ∷ 0 ∷ 18 ∷ [];
    holders = [] ∷ [] ∷ [] ∷ [] ∷ [];
    touched = [] ∷ [] ∷ [] ∷ [] ∷ [];
    first_places = [];
    places = [];
    overdue = [];
    starts = [];
    ends = [];
    whole_ends = [];
    choices = Absent ∷ Moves (Arrived (run_no 1) 0 ∷ []) ∷ Moves (Arrived (run_no 2) 0 ∷ []) ∷ [];
  };
  rows = still 0 no_grips 0
      ∷ row 1 no_grips 0 (λ p. record p { first_places = 0 ∷ []; places = At (split_at [] 0) ∷ []; choices = slice_set p.choices 1 (Moves (Placed (run_no 1) 0 0 ∷ [])) })
      ∷ row 2 no_grips 0 (λ p. record p {
        line = Ran (run_no 1) ∷ [];
        holders = (1 ∷ []) ∷ (1 ∷ []) ∷ [] ∷ [] ∷ [];
        first_places = [];
        places = [];
        overdue = (None ∷ None ∷ None ∷ None ∷ []) ∷ [];
        starts = (0 ∷ 200 ∷ []) ∷ [];
        ends = (400 ∷ 300 ∷ []) ∷ [];
        whole_ends = 400 ∷ [];
        choices = slice_set p.choices 1 (Moves (Did (run_no 1) 0 Skipped ∷ []));
      })
      ∷ row 3 no_grips 0 (λ p. record p { first_places = 0 ∷ []; places = At (split_at (Ran (run_no 1) ∷ []) 1) ∷ []; choices = slice_set p.choices 2 (Moves (Placed (run_no 2) 1 0 ∷ [])) })
      ∷ row 4 no_grips 0 (λ p. record p {
        line = Ran (run_no 1) ∷ Ran (run_no 2) ∷ [];
        holders = (1 ∷ 2 ∷ []) ∷ (1 ∷ []) ∷ (2 ∷ []) ∷ [] ∷ [];
        first_places = [];
        places = [];
        overdue = more 0 (None ∷ None ∷ None ∷ None ∷ []) p.overdue;
        starts = (0 ∷ 200 ∷ []) ∷ (0 ∷ 100 ∷ []) ∷ [];
        ends = (400 ∷ 300 ∷ []) ∷ (300 ∷ 200 ∷ []) ∷ [];
        whole_ends = 400 ∷ 300 ∷ [];
        choices = slice_set p.choices 2 (Moves (Did (run_no 2) 0 Skipped ∷ []));
      })
      ∷ row 5 no_grips 0 (λ p. record p { choices = slice_set p.choices 1 (HandsOut 0 (Commands 1)) })
      ∷ row 5 (held 0 1 (Commands 1) no_grips) 0 (λ p. record p { touched = (1 ∷ []) ∷ [] ∷ [] ∷ [] ∷ []; choices = slice_set p.choices 1 (Waits (Busy (device_no 0))) })
      ∷ row 6 no_grips 100 (λ p. record p { writers = Some 1 ∷ None ∷ None ∷ None ∷ []; values = 1 ∷ 0 ∷ 0 ∷ 18 ∷ []; choices = slice_set p.choices 1 (HandsOut 1 (Commands 2)) })
      ∷ row 7 no_grips 100 (λ p. record p { choices = slice_set p.choices 2 (HandsOut 2 (Commands 1)) })
      ∷ row 7 (held 2 2 (Commands 1) no_grips) 100 (λ p. record p { touched = (1 ∷ []) ∷ [] ∷ (2 ∷ []) ∷ [] ∷ []; choices = slice_set p.choices 2 (Waits (Busy (device_no 2))) })
      ∷ row 8 no_grips 200 (λ p. record p { writers = Some 1 ∷ None ∷ Some 2 ∷ None ∷ []; values = 1 ∷ 0 ∷ 1 ∷ 18 ∷ []; holders = (1 ∷ 2 ∷ []) ∷ (1 ∷ []) ∷ [] ∷ [] ∷ []; choices = slice_set p.choices 2 (Waits (Behind (device_no 0) (run_no 1))) })
      ∷ still 8 (held 0 0 (Probes None) no_grips) 200
      ∷ row 10 no_grips 200 (λ p. record p { line = more 1 (Failed (device_no 0) 1) p.line; up = false ∷ true ∷ true ∷ true ∷ []; holders = (1 ∷ 2 ∷ []) ∷ [] ∷ [] ∷ [] ∷ []; choices = slice_set p.choices 1 (Moves (Undid (run_no 1) (device_no 0) false ∷ [])) })
      ∷ row 11 no_grips 200 (λ p. record p {
        writers = None ∷ None ∷ Some 2 ∷ None ∷ [];
        values = 0 ∷ 0 ∷ 1 ∷ 18 ∷ [];
        holders = (2 ∷ []) ∷ [] ∷ [] ∷ [] ∷ [];
        choices = Absent ∷ Over (Aborted (Lost (device_no 0))) (Ended (run_no 1) (Aborted (Lost (device_no 0))) ∷ []) ∷ Moves (Did (run_no 2) 2 Down ∷ []) ∷ [];
      })
      ∷ row 12 no_grips 200 (λ p. record p { line = less 0 p.line; overdue = (None ∷ None ∷ None ∷ None ∷ []) ∷ []; starts = (0 ∷ 100 ∷ []) ∷ []; ends = (300 ∷ 200 ∷ []) ∷ []; whole_ends = 300 ∷ []; choices = slice_set p.choices 1 (Over (Aborted (Lost (device_no 0))) []) })
      ∷ row 13 no_grips 200 (λ p. record p { holders = [] ∷ [] ∷ [] ∷ [] ∷ []; touched = (1 ∷ 2 ∷ []) ∷ [] ∷ (2 ∷ []) ∷ [] ∷ []; choices = slice_set p.choices 2 (Over Committed (Ended (run_no 2) Committed ∷ [])) })
      ∷ row 14 no_grips 200 (λ p. record p { overdue = []; starts = []; ends = []; whole_ends = []; choices = slice_set p.choices 2 (Over Committed []) })
      ∷ still 14 (held 1 0 (Probes None) no_grips) 200 ∷ still 14 no_grips 200
      ∷ still 14 (held 2 0 (Probes None) no_grips) 200 ∷ still 14 no_grips 200
      ∷ still 14 (held 3 0 (Probes None) no_grips) 200 ∷ still 14 no_grips 200 ∷ [];
  gives = give 5 0 1 (Commands 1) Worked (Did (run_no 1) 1 Fine ∷ []) ∷ give 7 2 2 (Commands 1) Worked (Did (run_no 2) 1 Fine ∷ [])
      ∷ give 8 0 0 (Probes None) Died (Fell (device_no 0) ∷ Doomed (run_no 1) (Lost (device_no 0)) ∷ [])
      ∷ give 14 1 0 (Probes None) Worked [] ∷ give 14 2 0 (Probes None) Worked [] ∷ give 14 3 0 (Probes None) Worked [] ∷ [];
  calls = 1 ∷ 0 ∷ 1 ∷ 0 ∷ [];
  outcome = record {
    order = Failed (device_no 0) 1 ∷ Ran (run_no 2) ∷ [];
    home = record { value = 0; up = false } ∷ record { value = 0; up = true } ∷ record { value = 1; up = true } ∷ record { value = 18; up = true } ∷ [];
    answers = record { run = run_no 2; answers = Skipped ∷ Fine ∷ Down ∷ [] } ∷ [];
  };
}

is_worked : IsWorked window history table
unfolding split_of
is_worked = record { points = refl; clauses = refl; gives = refl; calls = refl; ended = refl; allowed = refl; order = refl; answers = refl }
