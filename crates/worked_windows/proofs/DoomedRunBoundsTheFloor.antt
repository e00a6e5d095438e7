-- The window doomed-run-bounds-the-floor.
use Rattle.worked_windows.proofs.Prelude.{Always}
use Rattle.worked_windows.proofs.Words.{Aborted, Absent, Arrived, At, Busy, Check, Commands, Did, Died, Doomed, Down, Ended, Entry, Failed, Fcfs, Fell, Found, HandsOut, IsWorked, List, Load, Moves, MustDown, None, Over, Partitioned, Placed, Ran, Range, Refuted, Sensed, Setting, Table, Waits, [], device_no, false, give, held, no_grips, refl, row, run_no, slice_set, split_at, split_of, still, true, ◌++◌, ◌∷◌}

abbrev pub window : Setting
window = record {
  runs = record { commands = record { device = device_no 0; job = Load; when = Always; must = true; ms = 100; takes = 100 } ∷ []; follows = None }
      ∷ record { commands = record { device = device_no 1; job = Check 2; when = Always; must = true; ms = 100; takes = 100 } ∷ []; follows = None } ∷ [];
  mode = record { model = Partitioned; scheduler = Fcfs };
  kinds = Range 0 3 ∷ Range 0 2 ∷ [];
  first = record { value = 0; up = true } ∷ record { value = 0; up = true } ∷ [];
}

abbrev pub history : List Entry
history = Arrived (run_no 1) 0 ∷ Arrived (run_no 2) 0 ∷ Placed (run_no 1) 0 0 ∷ Fell (device_no 0) ∷ Did (run_no 1) 0 Down
    ∷ Doomed (run_no 1) (MustDown 0) ∷ Placed (run_no 2) 2 100 ∷ Ended (run_no 1) (Aborted (MustDown 0)) ∷ Did (run_no 2) 0 (Found 0) ∷ Doomed (run_no 2) (Refuted 0 0)
    ∷ Ended (run_no 2) (Aborted (Refuted 0 0)) ∷ []

abbrev pub table : Table
table = record {
  first = record {
    line = [];
    up = true ∷ true ∷ [];
    writers = None ∷ None ∷ [];
    values = 0 ∷ 0 ∷ [];
    holders = [] ∷ [] ∷ [];
    touched = [] ∷ [] ∷ [];
    first_places = [];
    places = [];
    overdue = [];
    starts = [];
    ends = [];
    whole_ends = [];
    choices = Absent ∷ Moves (Arrived (run_no 1) 0 ∷ []) ∷ Moves (Arrived (run_no 2) 0 ∷ []) ∷ [];
  };
  rows = still 0 no_grips 0
      ∷ row 1 no_grips 0 (λ p. record p { first_places = 0 ∷ []; places = At (split_at [] 0) ∷ []; choices = slice_set p.choices 1 (Moves (Placed (run_no 1) 0 0 ∷ [])) })
      ∷ row 2 no_grips 0 (λ p. record p { first_places = 0 ∷ 0 ∷ []; places = At (split_at [] 0) ∷ At (split_at [] 0) ∷ []; choices = slice_set p.choices 2 (Moves (Placed (run_no 2) 0 0 ∷ [])) })
      ∷ row 3 no_grips 0 (λ p. record p {
        line = Ran (run_no 1) ∷ [];
        holders = (1 ∷ []) ∷ [] ∷ [];
        first_places = 0 ∷ [];
        places = At (split_at (Ran (run_no 1) ∷ []) 1) ∷ [];
        overdue = (None ∷ None ∷ []) ∷ [];
        starts = (0 ∷ []) ∷ [];
        ends = (100 ∷ []) ∷ [];
        whole_ends = 100 ∷ [];
        choices = Absent ∷ HandsOut 0 (Commands 0) ∷ Moves (Placed (run_no 2) 1 0 ∷ []) ∷ [];
      })
      ∷ row 3 (held 0 1 (Commands 0) no_grips) 0 (λ p. record p { touched = (1 ∷ []) ∷ [] ∷ []; choices = slice_set p.choices 1 (Waits (Busy (device_no 0))) })
      ∷ row 6 no_grips 100 (λ p. record p {
        line = Failed (device_no 0) 1 ∷ Ran (run_no 1) ∷ [];
        up = false ∷ true ∷ [];
        holders = [] ∷ [] ∷ [];
        first_places = 1 ∷ [];
        places = At (split_at (Failed (device_no 0) 1 ∷ Ran (run_no 1) ∷ []) 2) ∷ [];
        choices = Absent ∷ Over (Aborted (MustDown 0)) (Ended (run_no 1) (Aborted (MustDown 0)) ∷ []) ∷ Moves (Placed (run_no 2) 2 100 ∷ []) ∷ [];
      })
      ∷ row 7 no_grips 100 (λ p. record p {
        line = p.line ++ Ran (run_no 2) ∷ [];
        holders = [] ∷ (2 ∷ []) ∷ [];
        first_places = [];
        places = [];
        overdue = (None ∷ None ∷ []) ∷ (None ∷ None ∷ []) ∷ [];
        starts = (0 ∷ []) ∷ (100 ∷ []) ∷ [];
        ends = (100 ∷ []) ∷ (200 ∷ []) ∷ [];
        whole_ends = 100 ∷ 200 ∷ [];
        choices = slice_set p.choices 2 (HandsOut 1 (Commands 0));
      })
      ∷ row 8 no_grips 100 (λ p. record p { line = Failed (device_no 0) 1 ∷ Ran (run_no 2) ∷ []; overdue = (None ∷ None ∷ []) ∷ []; starts = (100 ∷ []) ∷ []; ends = (200 ∷ []) ∷ []; whole_ends = 200 ∷ []; choices = slice_set p.choices 1 (Over (Aborted (MustDown 0)) []) })
      ∷ row 8 (held 1 2 (Commands 0) no_grips) 100 (λ p. record p { touched = (1 ∷ []) ∷ (2 ∷ []) ∷ []; choices = slice_set p.choices 2 (Waits (Busy (device_no 1))) })
      ∷ row 10 no_grips 200 (λ p. record p { holders = [] ∷ [] ∷ []; choices = slice_set p.choices 2 (Over (Aborted (Refuted 0 0)) (Ended (run_no 2) (Aborted (Refuted 0 0)) ∷ [])) })
      ∷ row 11 no_grips 200 (λ p. record p { line = Failed (device_no 0) 1 ∷ []; overdue = []; starts = []; ends = []; whole_ends = []; choices = slice_set p.choices 2 (Over (Aborted (Refuted 0 0)) []) }) ∷ [];
  gives = give 3 0 1 (Commands 0) Died (Fell (device_no 0) ∷ Did (run_no 1) 0 Down ∷ Doomed (run_no 1) (MustDown 0) ∷ [])
      ∷ give 8 1 2 (Commands 0) (Sensed 0) (Did (run_no 2) 0 (Found 0) ∷ Doomed (run_no 2) (Refuted 0 0) ∷ []) ∷ [];
  calls = 0 ∷ 1 ∷ [];
  outcome = record { order = Failed (device_no 0) 1 ∷ []; home = record { value = 0; up = false } ∷ record { value = 0; up = true } ∷ []; answers = [] };
}

is_worked : IsWorked window history table
unfolding split_of
is_worked = record { points = refl; clauses = refl; gives = refl; calls = refl; ended = refl; allowed = refl; order = refl; answers = refl }
