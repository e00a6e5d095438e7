-- The window skipped-and-must-down: a best-effort command is passed over on a device that is down, and a must command dooms its run.
use Rattle.worked_windows.proofs.Prelude.{Always}
use Rattle.worked_windows.proofs.Words.{Aborted, Absent, Arrived, At, Busy, Commands, Committed, Did, Died, Doomed, Down, Ended, Entry, Eventual, Failed, Fcfs, Fell, Fine, HandsOut, IsWorked, List, Moves, MustDown, None, Over, Placed, Ran, Set, Setting, Some, Table, Waits, Worked, [], device_no, false, give, held, home_of_four, no_grips, refl, row, run_no, slice_set, split_at, split_of, still, true, ◌++◌, ◌∷◌}

abbrev pub window : Setting
window = record home_of_four {
  runs = record { commands = record { device = device_no 0; job = Set 1; when = Always; must = false; ms = 100; takes = 100 } ∷ record { device = device_no 1; job = Set 1; when = Always; must = true; ms = 100; takes = 100 } ∷ []; follows = None }
      ∷ record { commands = record { device = device_no 0; job = Set 1; when = Always; must = true; ms = 100; takes = 100 } ∷ []; follows = None } ∷ [];
  mode = record { model = Eventual; scheduler = Fcfs };
}

abbrev pub history : List Entry
history = Arrived (run_no 1) 0 ∷ Placed (run_no 1) 0 0 ∷ Fell (device_no 0) ∷ Did (run_no 1) 0 Down ∷ Did (run_no 1) 1 Fine
    ∷ Ended (run_no 1) Committed ∷ Arrived (run_no 2) 200 ∷ Placed (run_no 2) 2 200 ∷ Did (run_no 2) 0 Down ∷ Doomed (run_no 2) (MustDown 0)
    ∷ Ended (run_no 2) (Aborted (MustDown 0)) ∷ []

abbrev pub table : Table
table = record {
  first = record {
    line = [];
    up = true ∷ true ∷ true ∷ true ∷ [];
    writers = None ∷ None ∷ None ∷ None ∷ [];
    values = 0 ∷ 0 ∷ 0 ∷ 18 ∷ [];
    holders = [] ∷ [] ∷ [] ∷ [] ∷ [];
    touched = [] ∷ [] ∷ [] ∷ [] ∷ [];
    first_places = [];
    places = [];
    overdue = [];
    starts = [];
    ends = [];
    whole_ends = [];
    choices = Absent ∷ Moves (Arrived (run_no 1) 0 ∷ []) ∷ Moves (Arrived (run_no 2) 0 ∷ []) ∷ [];
  };
  rows = still 0 no_grips 0
      ∷ row 1 no_grips 0 (λ p. record p { first_places = 0 ∷ []; places = At (split_at [] 0) ∷ []; choices = slice_set p.choices 1 (Moves (Placed (run_no 1) 0 0 ∷ [])) })
      ∷ row 2 no_grips 0 (λ p. record p {
        line = Ran (run_no 1) ∷ [];
        holders = (1 ∷ []) ∷ (1 ∷ []) ∷ [] ∷ [] ∷ [];
        first_places = [];
        places = [];
        overdue = (None ∷ None ∷ None ∷ None ∷ []) ∷ [];
        starts = (0 ∷ 100 ∷ []) ∷ [];
        ends = (100 ∷ 200 ∷ []) ∷ [];
        whole_ends = 200 ∷ [];
        choices = slice_set p.choices 1 (HandsOut 0 (Commands 0));
      })
      ∷ row 2 (held 0 1 (Commands 0) no_grips) 0 (λ p. record p { touched = (1 ∷ []) ∷ [] ∷ [] ∷ [] ∷ []; choices = slice_set p.choices 1 (Waits (Busy (device_no 0))) })
      ∷ row 4 no_grips 100 (λ p. record p { line = Failed (device_no 0) 1 ∷ Ran (run_no 1) ∷ []; up = false ∷ true ∷ true ∷ true ∷ []; holders = [] ∷ (1 ∷ []) ∷ [] ∷ [] ∷ []; choices = Absent ∷ HandsOut 1 (Commands 1) ∷ Moves (Arrived (run_no 2) 100 ∷ []) ∷ [] })
      ∷ row 4 (held 1 1 (Commands 1) no_grips) 100 (λ p. record p { touched = (1 ∷ []) ∷ (1 ∷ []) ∷ [] ∷ [] ∷ []; choices = slice_set p.choices 1 (Waits (Busy (device_no 1))) })
      ∷ row 5 no_grips 200 (λ p. record p { writers = None ∷ Some 1 ∷ None ∷ None ∷ []; values = 0 ∷ 1 ∷ 0 ∷ 18 ∷ []; holders = [] ∷ [] ∷ [] ∷ [] ∷ []; choices = Absent ∷ Over Committed (Ended (run_no 1) Committed ∷ []) ∷ Moves (Arrived (run_no 2) 200 ∷ []) ∷ [] })
      ∷ row 6 no_grips 200 (λ p. record p { overdue = []; starts = []; ends = []; whole_ends = []; choices = slice_set p.choices 1 (Over Committed []) })
      ∷ row 7 no_grips 200 (λ p. record p { first_places = 2 ∷ []; places = At (split_at (Failed (device_no 0) 1 ∷ Ran (run_no 1) ∷ []) 2) ∷ []; choices = slice_set p.choices 2 (Moves (Placed (run_no 2) 2 200 ∷ [])) })
      ∷ row 8 no_grips 200 (λ p. record p {
        line = p.line ++ Ran (run_no 2) ∷ [];
        holders = (2 ∷ []) ∷ [] ∷ [] ∷ [] ∷ [];
        first_places = [];
        places = [];
        overdue = (None ∷ None ∷ None ∷ None ∷ []) ∷ [];
        starts = (200 ∷ []) ∷ [];
        ends = (300 ∷ []) ∷ [];
        whole_ends = 300 ∷ [];
        choices = slice_set p.choices 2 (Moves (Did (run_no 2) 0 Down ∷ Doomed (run_no 2) (MustDown 0) ∷ []));
      })
      ∷ row 10 no_grips 200 (λ p. record p { holders = [] ∷ [] ∷ [] ∷ [] ∷ []; touched = (1 ∷ 2 ∷ []) ∷ (1 ∷ []) ∷ [] ∷ [] ∷ []; choices = slice_set p.choices 2 (Over (Aborted (MustDown 0)) (Ended (run_no 2) (Aborted (MustDown 0)) ∷ [])) })
      ∷ row 11 no_grips 200 (λ p. record p { line = Failed (device_no 0) 1 ∷ Ran (run_no 1) ∷ []; overdue = []; starts = []; ends = []; whole_ends = []; choices = slice_set p.choices 2 (Over (Aborted (MustDown 0)) []) }) ∷ [];
  gives = give 2 0 1 (Commands 0) Died (Fell (device_no 0) ∷ Did (run_no 1) 0 Down ∷ [])
      ∷ give 4 1 1 (Commands 1) Worked (Did (run_no 1) 1 Fine ∷ []) ∷ [];
  calls = 0 ∷ 1 ∷ 0 ∷ 0 ∷ [];
  outcome = record { order = Failed (device_no 0) 1 ∷ Ran (run_no 1) ∷ []; home = record { value = 0; up = false } ∷ record { value = 1; up = true } ∷ record { value = 0; up = true } ∷ record { value = 18; up = true } ∷ []; answers = record { run = run_no 1; answers = Down ∷ Fine ∷ [] } ∷ [] };
}

is_worked : IsWorked window history table
unfolding split_of
is_worked = record { points = refl; clauses = refl; gives = refl; calls = refl; ended = refl; allowed = refl; order = refl; answers = refl }
