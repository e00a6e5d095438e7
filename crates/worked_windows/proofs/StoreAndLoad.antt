-- The window store-and-load: a run reads its own write, and stores what it read.
use Rattle.worked_windows.proofs.Prelude.{Always}
use Rattle.worked_windows.proofs.Words.{Absent, Arrived, At, Busy, Commands, Committed, Did, Ended, Entry, Eventual, Fcfs, Fine, Found, HandsOut, IsWorked, List, Load, Moves, None, Over, Placed, Ran, Sensed, Setting, Some, Store, Table, Waits, Worked, [], device_no, give, held, home_of_four, no_grips, refl, row, run_no, split_at, split_of, still, true, ◌∷◌}

abbrev pub window : Setting
window = record home_of_four {
  runs = record {
    commands =
        record { device = device_no 3; job = Store; when = Always; must = true; ms = 100; takes = 100 }
        ∷ record { device = device_no 3; job = Load; when = Always; must = true; ms = 100; takes = 100 }
        ∷ record { device = device_no 2; job = Store; when = Always; must = true; ms = 100; takes = 100 } ∷ [];
    follows = None;
  } ∷ [];
  mode = record { model = Eventual; scheduler = Fcfs };
}

abbrev pub history : List Entry
history = Arrived (run_no 1) 0 ∷ Placed (run_no 1) 0 0 ∷ Did (run_no 1) 0 Fine ∷ Did (run_no 1) 1 (Found 10) ∷ Did (run_no 1) 2 Fine
    ∷ Ended (run_no 1) Committed ∷ []

abbrev pub table : Table
table = record {
  first = record {
    line = [];
    up = true ∷ true ∷ true ∷ true ∷ [];
    writers = None ∷ None ∷ None ∷ None ∷ [];
    values = 0 ∷ 0 ∷ 0 ∷ 18 ∷ [];
    holders = [] ∷ [] ∷ [] ∷ [] ∷ [];
    touched = [] ∷ [] ∷ [] ∷ [] ∷ [];
    first_places = [];
    places = [];
    overdue = [];
    starts = [];
    ends = [];
    whole_ends = [];
    choices = Absent ∷ Moves (Arrived (run_no 1) 0 ∷ []) ∷ [];
  };
  rows = still 0 no_grips 0
      ∷ row 1 no_grips 0 (λ p. record p { first_places = 0 ∷ []; places = At (split_at [] 0) ∷ []; choices = Absent ∷ Moves (Placed (run_no 1) 0 0 ∷ []) ∷ [] })
      ∷ row 2 no_grips 0 (λ p. record p {
        line = Ran (run_no 1) ∷ [];
        holders = [] ∷ [] ∷ (1 ∷ []) ∷ (1 ∷ []) ∷ [];
        first_places = [];
        places = [];
        overdue = (None ∷ None ∷ None ∷ None ∷ []) ∷ [];
        starts = (200 ∷ 0 ∷ []) ∷ [];
        ends = (300 ∷ 200 ∷ []) ∷ [];
        whole_ends = 300 ∷ [];
        choices = Absent ∷ HandsOut 3 (Commands 0) ∷ [];
      })
      ∷ row 2 (held 3 1 (Commands 0) no_grips) 0 (λ p. record p { touched = [] ∷ [] ∷ [] ∷ (1 ∷ []) ∷ []; choices = Absent ∷ Waits (Busy (device_no 3)) ∷ [] })
      ∷ row 3 no_grips 100 (λ p. record p { writers = None ∷ None ∷ None ∷ Some 1 ∷ []; values = 0 ∷ 0 ∷ 0 ∷ 10 ∷ []; choices = Absent ∷ HandsOut 3 (Commands 1) ∷ [] })
      ∷ row 3 (held 3 1 (Commands 1) no_grips) 100 (λ p. record p { choices = Absent ∷ Waits (Busy (device_no 3)) ∷ [] })
      ∷ row 4 no_grips 200 (λ p. record p { holders = [] ∷ [] ∷ (1 ∷ []) ∷ [] ∷ []; choices = Absent ∷ HandsOut 2 (Commands 2) ∷ [] })
      ∷ row 4 (held 2 1 (Commands 2) no_grips) 200 (λ p. record p { touched = [] ∷ [] ∷ (1 ∷ []) ∷ (1 ∷ []) ∷ []; choices = Absent ∷ Waits (Busy (device_no 2)) ∷ [] })
      ∷ row 5 no_grips 300 (λ p. record p { writers = None ∷ None ∷ Some 1 ∷ Some 1 ∷ []; values = 0 ∷ 0 ∷ 1 ∷ 10 ∷ []; holders = [] ∷ [] ∷ [] ∷ [] ∷ []; choices = Absent ∷ Over Committed (Ended (run_no 1) Committed ∷ []) ∷ [] })
      ∷ row 6 no_grips 300 (λ p. record p { overdue = []; starts = []; ends = []; whole_ends = []; choices = Absent ∷ Over Committed [] ∷ [] }) ∷ [];
  gives = give 2 3 1 (Commands 0) Worked (Did (run_no 1) 0 Fine ∷ [])
      ∷ give 3 3 1 (Commands 1) (Sensed 10) (Did (run_no 1) 1 (Found 10) ∷ [])
      ∷ give 4 2 1 (Commands 2) Worked (Did (run_no 1) 2 Fine ∷ []) ∷ [];
  calls = 0 ∷ 0 ∷ 1 ∷ 2 ∷ [];
  outcome = record { order = Ran (run_no 1) ∷ []; home = record { value = 0; up = true } ∷ record { value = 0; up = true } ∷ record { value = 1; up = true } ∷ record { value = 10; up = true } ∷ []; answers = record { run = run_no 1; answers = Fine ∷ (Found 10) ∷ Fine ∷ [] } ∷ [] };
}

is_worked : IsWorked window history table
unfolding split_of
is_worked = record { points = refl; clauses = refl; gives = refl; calls = refl; ended = refl; allowed = refl; order = refl; answers = refl }
