-- The window only-who-touched-is-down-at-end: under the global model a device that is down aborts a run that was told so, and not one that only skipped there.
use Rattle.worked_windows.proofs.Words.{Aborted, Absent, Always, Arrived, At, Behind, Busy, Commands, Committed, Did, Died, Doomed, Down, DownAtEnd, Ended, Entry, Failed, Fcfs, Fell, Fine, Global, HandsOut, Is, IsWorked, List, Moves, None, Over, Placed, Probes, Ran, Set, Setting, Skipped, Some, Strict, Table, Undid, Undoes, Waits, Worked, [], device_no, false, give, held, home_of_four, less, more, no_grips, refl, row, run_no, slice_set, split_at, split_of, still, true, ◌++◌, ◌∷◌}

abbrev pub window : Setting
window = record home_of_four {
  runs = record { commands = record { device = device_no 0; job = Set 1; when = Is 5; must = true; ms = 100; takes = 100 } ∷ record { device = device_no 1; job = Set 1; when = Always; must = true; ms = 100; takes = 100 } ∷ []; follows = None }
      ∷ record {
        commands =
            record { device = device_no 0; job = Set 1; when = Always; must = false; ms = 100; takes = 100 }
            ∷ record { device = device_no 0; job = Set 0; when = Is 5; must = true; ms = 100; takes = 100 }
            ∷ record { device = device_no 3; job = Set 20; when = Always; must = true; ms = 100; takes = 100 } ∷ [];
        follows = None;
      } ∷ [];
  mode = record { model = Global; scheduler = Fcfs };
}

abbrev pub history : List Entry
history = Fell (device_no 0) ∷ Arrived (run_no 1) 0 ∷ Placed (run_no 1) 1 0 ∷ Arrived (run_no 2) 0 ∷ Placed (run_no 2) 2 0
    ∷ Did (run_no 1) 0 Skipped ∷ Did (run_no 1) 1 Fine ∷ Ended (run_no 1) Committed ∷ Did (run_no 2) 0 Down ∷ Did (run_no 2) 1 Skipped
    ∷ Did (run_no 2) 2 Fine ∷ Doomed (run_no 2) (DownAtEnd (device_no 0)) ∷ Undid (run_no 2) (device_no 3) true ∷ Ended (run_no 2) (Aborted (DownAtEnd (device_no 0))) ∷ []

abbrev pub table : Table
table = record {
  first = record {
    line = [];
    up = true ∷ true ∷ true ∷ true ∷ [];
    writers = None ∷ None ∷ None ∷ None ∷ [];
    values = 0 ∷ 0 ∷ 0 ∷ 18 ∷ [];
    holders = [] ∷ [] ∷ [] ∷ [] ∷ [];
    touched = [] ∷ [] ∷ [] ∷ [] ∷ [];
    first_places = [];
    places = [];
    overdue = [];
    starts = [];
    ends = [];
    whole_ends = [];
    choices = Absent ∷ Moves (Arrived (run_no 1) 0 ∷ []) ∷ Moves (Arrived (run_no 2) 0 ∷ []) ∷ [];
  };
  rows = still 0 no_grips 0 ∷ still 0 (held 0 0 (Probes None) no_grips) 0
      ∷ row 1 no_grips 0 (λ p. record p { line = Failed (device_no 0) 1 ∷ []; up = false ∷ true ∷ true ∷ true ∷ [] })
      ∷ row 2 no_grips 0 (λ p. record p { first_places = 1 ∷ []; places = At (split_at (Failed (device_no 0) 1 ∷ []) 1) ∷ []; choices = slice_set p.choices 1 (Moves (Placed (run_no 1) 1 0 ∷ [])) })
      ∷ row 3 no_grips 0 (λ p. record p {
        line = p.line ++ Ran (run_no 1) ∷ [];
        holders = (1 ∷ []) ∷ (1 ∷ []) ∷ [] ∷ [] ∷ [];
        first_places = [];
        places = [];
        overdue = (None ∷ None ∷ None ∷ None ∷ []) ∷ [];
        starts = (0 ∷ 100 ∷ []) ∷ [];
        ends = (100 ∷ 200 ∷ []) ∷ [];
        whole_ends = 200 ∷ [];
        choices = slice_set p.choices 1 (Moves (Did (run_no 1) 0 Skipped ∷ []));
      })
      ∷ row 4 no_grips 0 (λ p. record p { first_places = 1 ∷ []; places = At (split_at (Failed (device_no 0) 1 ∷ Ran (run_no 1) ∷ []) 2) ∷ []; choices = slice_set p.choices 2 (Moves (Placed (run_no 2) 2 0 ∷ [])) })
      ∷ row 5 no_grips 0 (λ p. record p {
        line = p.line ++ Ran (run_no 2) ∷ [];
        holders = (1 ∷ 2 ∷ []) ∷ (1 ∷ []) ∷ [] ∷ (2 ∷ []) ∷ [];
        first_places = [];
        places = [];
        overdue = more 0 (None ∷ None ∷ None ∷ None ∷ []) p.overdue;
        starts = (0 ∷ 100 ∷ []) ∷ (0 ∷ 200 ∷ []) ∷ [];
        ends = (100 ∷ 200 ∷ []) ∷ (200 ∷ 300 ∷ []) ∷ [];
        whole_ends = 200 ∷ 300 ∷ [];
        choices = slice_set p.choices 2 (Waits (Behind (device_no 0) (run_no 1)));
      })
      ∷ row 6 no_grips 0 (λ p. record p { holders = (2 ∷ []) ∷ (1 ∷ []) ∷ [] ∷ (2 ∷ []) ∷ []; choices = Absent ∷ HandsOut 1 (Commands 1) ∷ Waits (Strict (run_no 1)) ∷ [] })
      ∷ row 6 (held 1 1 (Commands 1) no_grips) 0 (λ p. record p { touched = [] ∷ (1 ∷ []) ∷ [] ∷ [] ∷ []; choices = slice_set p.choices 1 (Waits (Busy (device_no 1))) })
      ∷ row 7 no_grips 100 (λ p. record p { writers = None ∷ Some 1 ∷ None ∷ None ∷ []; values = 0 ∷ 1 ∷ 0 ∷ 18 ∷ []; holders = (2 ∷ []) ∷ [] ∷ [] ∷ (2 ∷ []) ∷ []; choices = slice_set p.choices 1 (Over Committed (Ended (run_no 1) Committed ∷ [])) })
      ∷ row 8 no_grips 100 (λ p. record p { overdue = (None ∷ None ∷ None ∷ None ∷ []) ∷ []; starts = (0 ∷ 200 ∷ []) ∷ []; ends = (200 ∷ 300 ∷ []) ∷ []; whole_ends = 300 ∷ []; choices = Absent ∷ Over Committed [] ∷ Moves (Did (run_no 2) 0 Down ∷ []) ∷ [] })
      ∷ row 9 no_grips 100 (λ p. record p { touched = (2 ∷ []) ∷ (1 ∷ []) ∷ [] ∷ [] ∷ []; choices = slice_set p.choices 2 (Moves (Did (run_no 2) 1 Skipped ∷ [])) })
      ∷ row 10 no_grips 100 (λ p. record p { holders = [] ∷ [] ∷ [] ∷ (2 ∷ []) ∷ []; choices = slice_set p.choices 2 (HandsOut 3 (Commands 2)) })
      ∷ row 10 (held 3 2 (Commands 2) no_grips) 100 (λ p. record p { touched = (2 ∷ []) ∷ (1 ∷ []) ∷ [] ∷ (2 ∷ []) ∷ []; choices = slice_set p.choices 2 (Waits (Busy (device_no 3))) })
      ∷ row 11 no_grips 200 (λ p. record p { writers = None ∷ Some 1 ∷ None ∷ Some 2 ∷ []; values = 0 ∷ 1 ∷ 0 ∷ 20 ∷ []; holders = [] ∷ [] ∷ [] ∷ [] ∷ []; choices = slice_set p.choices 2 (Moves (Doomed (run_no 2) (DownAtEnd (device_no 0)) ∷ [])) })
      ∷ row 12 no_grips 200 (λ p. record p { holders = [] ∷ [] ∷ [] ∷ (2 ∷ []) ∷ []; choices = slice_set p.choices 2 (HandsOut 3 (Undoes 18)) })
      ∷ row 12 (held 3 2 (Undoes 18) no_grips) 200 (λ p. record p { writers = None ∷ Some 1 ∷ None ∷ None ∷ []; values = 0 ∷ 1 ∷ 0 ∷ 18 ∷ []; holders = [] ∷ [] ∷ [] ∷ [] ∷ []; choices = slice_set p.choices 2 (Waits (Busy (device_no 3))) })
      ∷ row 13 no_grips 200 (λ p. record p { choices = slice_set p.choices 2 (Over (Aborted (DownAtEnd (device_no 0))) (Ended (run_no 2) (Aborted (DownAtEnd (device_no 0))) ∷ [])) })
      ∷ row 14 no_grips 200 (λ p. record p { line = less 2 p.line; overdue = []; starts = []; ends = []; whole_ends = []; choices = slice_set p.choices 2 (Over (Aborted (DownAtEnd (device_no 0))) []) })
      ∷ still 14 (held 1 0 (Probes None) no_grips) 200 ∷ still 14 no_grips 200
      ∷ still 14 (held 2 0 (Probes None) no_grips) 200 ∷ still 14 no_grips 200
      ∷ still 14 (held 3 0 (Probes None) no_grips) 200 ∷ still 14 no_grips 200 ∷ [];
  gives = give 0 0 0 (Probes None) Died (Fell (device_no 0) ∷ []) ∷ give 6 1 1 (Commands 1) Worked (Did (run_no 1) 1 Fine ∷ [])
      ∷ give 10 3 2 (Commands 2) Worked (Did (run_no 2) 2 Fine ∷ [])
      ∷ give 12 3 2 (Undoes 18) Worked (Undid (run_no 2) (device_no 3) true ∷ []) ∷ give 14 1 0 (Probes None) Worked []
      ∷ give 14 2 0 (Probes None) Worked [] ∷ give 14 3 0 (Probes None) Worked [] ∷ [];
  calls = 0 ∷ 1 ∷ 0 ∷ 2 ∷ [];
  outcome = record { order = Failed (device_no 0) 1 ∷ Ran (run_no 1) ∷ []; home = record { value = 0; up = false } ∷ record { value = 1; up = true } ∷ record { value = 0; up = true } ∷ record { value = 18; up = true } ∷ []; answers = record { run = run_no 1; answers = Skipped ∷ Fine ∷ [] } ∷ [] };
}

is_worked : IsWorked window history table
unfolding split_of
is_worked = record { points = refl; clauses = refl; gives = refl; calls = refl; ended = refl; allowed = refl; order = refl; answers = refl }
