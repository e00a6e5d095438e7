-- The window guarded-commands: a command behind a load is done where its guard holds of what was found, and skipped where it does not.
use Rattle.worked_windows.proofs.Words.{Absent, Always, Arrived, At, Below, Busy, Commands, Committed, Did, Ended, Entry, Eventual, Fcfs, Fine, Found, HandsOut, Is, IsWorked, List, Load, Moves, None, Over, Placed, Ran, Sensed, Set, Setting, Skipped, Some, Table, Waits, Worked, [], device_no, give, held, home_of_four, no_grips, refl, row, run_no, split_at, split_of, still, true, ◌∷◌}

abbrev pub window : Setting
window = record home_of_four {
  runs = record {
    commands =
        record { device = device_no 3; job = Load; when = Always; must = true; ms = 100; takes = 100 }
        ∷ record { device = device_no 0; job = Set 1; when = Below 20; must = true; ms = 100; takes = 100 }
        ∷ record { device = device_no 1; job = Set 1; when = Is 20; must = true; ms = 100; takes = 100 } ∷ [];
    follows = None;
  } ∷ [];
  mode = record { model = Eventual; scheduler = Fcfs };
}

abbrev pub history : List Entry
history = Arrived (run_no 1) 0 ∷ Placed (run_no 1) 0 0 ∷ Did (run_no 1) 0 (Found 18) ∷ Did (run_no 1) 1 Fine ∷ Did (run_no 1) 2 Skipped
    ∷ Ended (run_no 1) Committed ∷ []

abbrev pub table : Table
table = record {
  first = record {
    line = [];
    up = true ∷ true ∷ true ∷ true ∷ [];
    writers = None ∷ None ∷ None ∷ None ∷ [];
    values = 0 ∷ 0 ∷ 0 ∷ 18 ∷ [];
    holders = [] ∷ [] ∷ [] ∷ [] ∷ [];
    touched = [] ∷ [] ∷ [] ∷ [] ∷ [];
    first_places = [];
    places = [];
    overdue = [];
    starts = [];
    ends = [];
    whole_ends = [];
    choices = Absent ∷ Moves (Arrived (run_no 1) 0 ∷ []) ∷ [];
  };
  rows = still 0 no_grips 0
      ∷ row 1 no_grips 0 (λ p. record p { first_places = 0 ∷ []; places = At (split_at [] 0) ∷ []; choices = Absent ∷ Moves (Placed (run_no 1) 0 0 ∷ []) ∷ [] })
      ∷ row 2 no_grips 0 (λ p. record p {
        line = Ran (run_no 1) ∷ [];
        holders = (1 ∷ []) ∷ (1 ∷ []) ∷ [] ∷ (1 ∷ []) ∷ [];
        first_places = [];
        places = [];
        overdue = (None ∷ None ∷ None ∷ None ∷ []) ∷ [];
        starts = (100 ∷ 200 ∷ 0 ∷ []) ∷ [];
        ends = (200 ∷ 300 ∷ 100 ∷ []) ∷ [];
        whole_ends = 300 ∷ [];
        choices = Absent ∷ HandsOut 3 (Commands 0) ∷ [];
      })
      ∷ row 2 (held 3 1 (Commands 0) no_grips) 0 (λ p. record p { touched = [] ∷ [] ∷ [] ∷ (1 ∷ []) ∷ []; choices = Absent ∷ Waits (Busy (device_no 3)) ∷ [] })
      ∷ row 3 no_grips 100 (λ p. record p { holders = (1 ∷ []) ∷ (1 ∷ []) ∷ [] ∷ [] ∷ []; choices = Absent ∷ HandsOut 0 (Commands 1) ∷ [] })
      ∷ row 3 (held 0 1 (Commands 1) no_grips) 100 (λ p. record p { touched = (1 ∷ []) ∷ [] ∷ [] ∷ (1 ∷ []) ∷ []; choices = Absent ∷ Waits (Busy (device_no 0)) ∷ [] })
      ∷ row 4 no_grips 200 (λ p. record p { writers = Some 1 ∷ None ∷ None ∷ None ∷ []; values = 1 ∷ 0 ∷ 0 ∷ 18 ∷ []; holders = [] ∷ (1 ∷ []) ∷ [] ∷ [] ∷ []; choices = Absent ∷ Moves (Did (run_no 1) 2 Skipped ∷ []) ∷ [] })
      ∷ row 5 no_grips 200 (λ p. record p { holders = [] ∷ [] ∷ [] ∷ [] ∷ []; whole_ends = 200 ∷ []; choices = Absent ∷ Over Committed (Ended (run_no 1) Committed ∷ []) ∷ [] })
      ∷ row 6 no_grips 200 (λ p. record p { overdue = []; starts = []; ends = []; whole_ends = []; choices = Absent ∷ Over Committed [] ∷ [] }) ∷ [];
  gives = give 2 3 1 (Commands 0) (Sensed 18) (Did (run_no 1) 0 (Found 18) ∷ [])
      ∷ give 3 0 1 (Commands 1) Worked (Did (run_no 1) 1 Fine ∷ []) ∷ [];
  calls = 1 ∷ 0 ∷ 0 ∷ 1 ∷ [];
  outcome = record { order = Ran (run_no 1) ∷ []; home = record { value = 1; up = true } ∷ record { value = 0; up = true } ∷ record { value = 0; up = true } ∷ record { value = 18; up = true } ∷ []; answers = record { run = run_no 1; answers = (Found 18) ∷ Fine ∷ Skipped ∷ [] } ∷ [] };
}

is_worked : IsWorked window history table
unfolding split_of
is_worked = record { points = refl; clauses = refl; gives = refl; calls = refl; ended = refl; allowed = refl; order = refl; answers = refl }
