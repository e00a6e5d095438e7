-- The window dies-after-first-access: a later command of a run dies with its device, and the run is lost.
use Rattle.worked_windows.proofs.Prelude.{Always}
use Rattle.worked_windows.proofs.Words.{Aborted, Absent, Arrived, At, Busy, Commands, Did, Died, Doomed, Down, Ended, Entry, Eventual, Failed, Fcfs, Fell, Fine, HandsOut, IsWorked, List, Lost, Moves, None, Over, Placed, Ran, Set, Setting, Some, States, Table, Undid, Undoes, Waits, Worked, [], device_no, false, give, held, no_grips, refl, row, run_no, split_at, split_of, still, true, ◌∷◌}

abbrev pub window : Setting
window = record {
  runs = record {
    commands =
        record { device = device_no 0; job = Set 1; when = Always; must = true; ms = 100; takes = 100 }
        ∷ record { device = device_no 1; job = Set 1; when = Always; must = true; ms = 100; takes = 100 }
        ∷ record { device = device_no 0; job = Set 0; when = Always; must = false; ms = 100; takes = 100 } ∷ [];
    follows = None;
  } ∷ [];
  mode = record { model = Eventual; scheduler = Fcfs };
  kinds = States 2 ∷ States 2 ∷ [];
  first = record { value = 0; up = true } ∷ record { value = 0; up = true } ∷ [];
}

abbrev pub history : List Entry
history = Arrived (run_no 1) 0 ∷ Placed (run_no 1) 0 0 ∷ Did (run_no 1) 0 Fine ∷ Did (run_no 1) 1 Fine ∷ Fell (device_no 0)
    ∷ Did (run_no 1) 2 Down ∷ Doomed (run_no 1) (Lost (device_no 0)) ∷ Undid (run_no 1) (device_no 0) false ∷ Undid (run_no 1) (device_no 1) true ∷ Ended (run_no 1) (Aborted (Lost (device_no 0))) ∷ []

abbrev pub table : Table
table = record {
  first = record { line = []; up = true ∷ true ∷ []; writers = None ∷ None ∷ []; values = 0 ∷ 0 ∷ []; holders = [] ∷ [] ∷ []; touched = [] ∷ [] ∷ []; first_places = []; places = []; overdue = []; starts = []; ends = []; whole_ends = []; choices = Absent ∷ Moves (Arrived (run_no 1) 0 ∷ []) ∷ [] };
  rows = still 0 no_grips 0
      ∷ row 1 no_grips 0 (λ p. record p { first_places = 0 ∷ []; places = At (split_at [] 0) ∷ []; choices = Absent ∷ Moves (Placed (run_no 1) 0 0 ∷ []) ∷ [] })
      ∷ row 2 no_grips 0 (λ p. record p {
        line = Ran (run_no 1) ∷ [];
        holders = (1 ∷ []) ∷ (1 ∷ []) ∷ [];
        first_places = [];
        places = [];
        overdue = (None ∷ None ∷ []) ∷ [];
        starts = (0 ∷ 100 ∷ []) ∷ [];
        ends = (300 ∷ 200 ∷ []) ∷ [];
        whole_ends = 300 ∷ [];
        choices = Absent ∷ HandsOut 0 (Commands 0) ∷ [];
      })
      ∷ row 2 (held 0 1 (Commands 0) no_grips) 0 (λ p. record p { touched = (1 ∷ []) ∷ [] ∷ []; choices = Absent ∷ Waits (Busy (device_no 0)) ∷ [] })
      ∷ row 3 no_grips 100 (λ p. record p { writers = Some 1 ∷ None ∷ []; values = 1 ∷ 0 ∷ []; choices = Absent ∷ HandsOut 1 (Commands 1) ∷ [] })
      ∷ row 3 (held 1 1 (Commands 1) no_grips) 100 (λ p. record p { touched = (1 ∷ []) ∷ (1 ∷ []) ∷ []; choices = Absent ∷ Waits (Busy (device_no 1)) ∷ [] })
      ∷ row 4 no_grips 200 (λ p. record p { writers = Some 1 ∷ Some 1 ∷ []; values = 1 ∷ 1 ∷ []; holders = (1 ∷ []) ∷ [] ∷ []; choices = Absent ∷ HandsOut 0 (Commands 2) ∷ [] })
      ∷ row 4 (held 0 1 (Commands 2) no_grips) 200 (λ p. record p { choices = Absent ∷ Waits (Busy (device_no 0)) ∷ [] })
      ∷ row 7 no_grips 300 (λ p. record p { line = Ran (run_no 1) ∷ Failed (device_no 0) 1 ∷ []; up = false ∷ true ∷ []; holders = (1 ∷ []) ∷ (1 ∷ []) ∷ []; choices = Absent ∷ Moves (Undid (run_no 1) (device_no 0) false ∷ []) ∷ [] })
      ∷ row 8 no_grips 300 (λ p. record p { writers = None ∷ Some 1 ∷ []; values = 0 ∷ 1 ∷ []; holders = [] ∷ (1 ∷ []) ∷ []; choices = Absent ∷ HandsOut 1 (Undoes 0) ∷ [] })
      ∷ row 8 (held 1 1 (Undoes 0) no_grips) 300 (λ p. record p { writers = None ∷ None ∷ []; values = 0 ∷ 0 ∷ []; holders = [] ∷ [] ∷ []; choices = Absent ∷ Waits (Busy (device_no 1)) ∷ [] })
      ∷ row 9 no_grips 300 (λ p. record p { choices = Absent ∷ Over (Aborted (Lost (device_no 0))) (Ended (run_no 1) (Aborted (Lost (device_no 0))) ∷ []) ∷ [] })
      ∷ row 10 no_grips 300 (λ p. record p { line = Failed (device_no 0) 1 ∷ []; overdue = []; starts = []; ends = []; whole_ends = []; choices = Absent ∷ Over (Aborted (Lost (device_no 0))) [] ∷ [] }) ∷ [];
  gives = give 2 0 1 (Commands 0) Worked (Did (run_no 1) 0 Fine ∷ []) ∷ give 3 1 1 (Commands 1) Worked (Did (run_no 1) 1 Fine ∷ [])
      ∷ give 4 0 1 (Commands 2) Died (Fell (device_no 0) ∷ Did (run_no 1) 2 Down ∷ Doomed (run_no 1) (Lost (device_no 0)) ∷ [])
      ∷ give 8 1 1 (Undoes 0) Worked (Undid (run_no 1) (device_no 1) true ∷ []) ∷ [];
  calls = 1 ∷ 2 ∷ [];
  outcome = record { order = Failed (device_no 0) 1 ∷ []; home = record { value = 0; up = false } ∷ record { value = 0; up = true } ∷ []; answers = [] };
}

is_worked : IsWorked window history table
unfolding split_of
is_worked = record { points = refl; clauses = refl; gives = refl; calls = refl; ended = refl; allowed = refl; order = refl; answers = refl }
