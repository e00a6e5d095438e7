-- The window jit-first-holder-denies.
use Rattle.worked_windows.proofs.Prelude.{Always}
use Rattle.worked_windows.proofs.Words.{Aborted, Absent, Arrived, At, Behind, Busy, Check, Commands, Committed, Denied, DeniedBy, Did, Doomed, Ended, Entry, Eventual, Fine, Found, HandsOut, IsWorked, JustInTime, List, Load, Moves, None, Over, Placed, Ran, Range, Refuted, Sensed, Set, Setting, Some, States, Table, Waits, Worked, [], device_no, give, held, no_grips, refl, row, run_no, slice_set, split_at, split_of, still, true, ◌++◌, ◌∷◌}

abbrev pub window : Setting
window = record {
  runs = record { commands = record { device = device_no 1; job = Load; when = Always; must = true; ms = 100; takes = 100 } ∷ record { device = device_no 0; job = Set 1; when = Always; must = true; ms = 100; takes = 100 } ∷ []; follows = None }
      ∷ record { commands = record { device = device_no 0; job = Check 0; when = Always; must = true; ms = 100; takes = 100 } ∷ []; follows = None }
      ∷ record { commands = record { device = device_no 1; job = Load; when = Always; must = true; ms = 100; takes = 100 } ∷ record { device = device_no 0; job = Load; when = Always; must = true; ms = 100; takes = 100 } ∷ []; follows = None } ∷ [];
  mode = record { model = Eventual; scheduler = JustInTime };
  kinds = Range 0 2 ∷ States 2 ∷ [];
  first = record { value = 2; up = true } ∷ record { value = 1; up = true } ∷ [];
}

abbrev pub history : List Entry
history = Arrived (run_no 3) 0 ∷ Placed (run_no 3) 0 0 ∷ Arrived (run_no 1) 0 ∷ Arrived (run_no 2) 0 ∷ Placed (run_no 2) 0 0
    ∷ Did (run_no 3) 0 (Found 1) ∷ Did (run_no 2) 0 (Found 2) ∷ Doomed (run_no 2) (Refuted 0 2) ∷ Ended (run_no 2) (Aborted (Refuted 0 2)) ∷ Did (run_no 3) 1 (Found 2)
    ∷ Ended (run_no 3) Committed ∷ Placed (run_no 1) 1 300 ∷ Did (run_no 1) 0 (Found 1) ∷ Did (run_no 1) 1 Fine ∷ Ended (run_no 1) Committed ∷ []

abbrev pub table : Table
table = record {
  first = record {
    line = [];
    up = true ∷ true ∷ [];
    writers = None ∷ None ∷ [];
    values = 2 ∷ 1 ∷ [];
    holders = [] ∷ [] ∷ [];
    touched = [] ∷ [] ∷ [];
    first_places = [];
    places = [];
    overdue = [];
    starts = [];
    ends = [];
    whole_ends = [];
    choices = Absent ∷ Moves (Arrived (run_no 1) 0 ∷ []) ∷ Moves (Arrived (run_no 2) 0 ∷ []) ∷ Moves (Arrived (run_no 3) 0 ∷ []) ∷ [];
  };
  rows = still 0 no_grips 0
      ∷ row 1 no_grips 0 (λ p. record p { first_places = 0 ∷ []; places = At (split_at [] 0) ∷ []; choices = slice_set p.choices 3 (Moves (Placed (run_no 3) 0 0 ∷ [])) })
      ∷ row 2 no_grips 0 (λ p. record p {
        line = Ran (run_no 3) ∷ [];
        holders = (3 ∷ []) ∷ (3 ∷ []) ∷ [];
        first_places = [];
        places = [];
        overdue = (None ∷ None ∷ []) ∷ [];
        starts = (100 ∷ 0 ∷ []) ∷ [];
        ends = (200 ∷ 100 ∷ []) ∷ [];
        whole_ends = 200 ∷ [];
        choices = slice_set p.choices 3 (HandsOut 1 (Commands 0));
      })
      ∷ row 2 (held 1 3 (Commands 0) no_grips) 0 (λ p. record p { touched = [] ∷ (3 ∷ []) ∷ []; choices = slice_set p.choices 3 (Waits (Busy (device_no 1))) })
      ∷ row 3 (held 1 3 (Commands 0) no_grips) 0 (λ p. record p { first_places = 1 ∷ []; places = DeniedBy 0 3 ∷ []; choices = slice_set p.choices 1 (Waits (Denied (device_no 0) (run_no 3))) })
      ∷ row 4 (held 1 3 (Commands 0) no_grips) 0 (λ p. record p { first_places = 1 ∷ 0 ∷ []; places = p.places ++ At (split_at (Ran (run_no 3) ∷ []) 0) ∷ []; choices = slice_set p.choices 2 (Moves (Placed (run_no 2) 0 0 ∷ [])) })
      ∷ row 5 (held 1 3 (Commands 0) no_grips) 0 (λ p. record p {
        line = Ran (run_no 2) ∷ Ran (run_no 3) ∷ [];
        holders = (2 ∷ 3 ∷ []) ∷ (3 ∷ []) ∷ [];
        first_places = 2 ∷ [];
        places = DeniedBy 0 2 ∷ [];
        overdue = (None ∷ None ∷ []) ∷ (None ∷ None ∷ []) ∷ [];
        starts = (0 ∷ []) ∷ (100 ∷ 0 ∷ []) ∷ [];
        ends = (100 ∷ []) ∷ (200 ∷ 100 ∷ []) ∷ [];
        whole_ends = 100 ∷ 200 ∷ [];
        choices = slice_set (slice_set p.choices 1 (Waits (Denied (device_no 0) (run_no 2)))) 2 (HandsOut 0 (Commands 0));
      })
      ∷ row 5 (held 0 2 (Commands 0) (held 1 3 (Commands 0) no_grips)) 0 (λ p. record p { touched = (2 ∷ []) ∷ (3 ∷ []) ∷ []; choices = slice_set p.choices 2 (Waits (Busy (device_no 0))) })
      ∷ row 6 (held 0 2 (Commands 0) no_grips) 100 (λ p. record p { holders = (2 ∷ 3 ∷ []) ∷ [] ∷ []; choices = slice_set p.choices 3 (Waits (Behind (device_no 0) (run_no 2))) })
      ∷ row 8 no_grips 200 (λ p. record p { holders = (3 ∷ []) ∷ [] ∷ []; places = DeniedBy 0 3 ∷ []; choices = Absent ∷ Waits (Denied (device_no 0) (run_no 3)) ∷ Over (Aborted (Refuted 0 2)) (Ended (run_no 2) (Aborted (Refuted 0 2)) ∷ []) ∷ HandsOut 0 (Commands 1) ∷ [] })
      ∷ row 9 no_grips 200 (λ p. record p { line = Ran (run_no 3) ∷ []; first_places = 1 ∷ []; overdue = (None ∷ None ∷ []) ∷ []; starts = (100 ∷ 0 ∷ []) ∷ []; ends = (200 ∷ 100 ∷ []) ∷ []; whole_ends = 200 ∷ []; choices = slice_set p.choices 2 (Over (Aborted (Refuted 0 2)) []) })
      ∷ row 9 (held 0 3 (Commands 1) no_grips) 200 (λ p. record p { touched = (2 ∷ 3 ∷ []) ∷ (3 ∷ []) ∷ []; choices = slice_set p.choices 3 (Waits (Busy (device_no 0))) })
      ∷ row 10 no_grips 300 (λ p. record p { holders = [] ∷ [] ∷ []; places = At (split_at (Ran (run_no 3) ∷ []) 1) ∷ []; choices = slice_set (slice_set p.choices 1 (Moves (Placed (run_no 1) 1 300 ∷ []))) 3 (Over Committed (Ended (run_no 3) Committed ∷ [])) })
      ∷ row 11 no_grips 300 (λ p. record p { overdue = []; starts = []; ends = []; whole_ends = []; choices = slice_set p.choices 3 (Over Committed []) })
      ∷ row 12 no_grips 300 (λ p. record p {
        line = Ran (run_no 3) ∷ Ran (run_no 1) ∷ [];
        holders = (1 ∷ []) ∷ (1 ∷ []) ∷ [];
        first_places = [];
        places = [];
        overdue = (None ∷ None ∷ []) ∷ [];
        starts = (400 ∷ 300 ∷ []) ∷ [];
        ends = (500 ∷ 400 ∷ []) ∷ [];
        whole_ends = 500 ∷ [];
        choices = slice_set p.choices 1 (HandsOut 1 (Commands 0));
      })
      ∷ row 12 (held 1 1 (Commands 0) no_grips) 300 (λ p. record p { touched = (2 ∷ 3 ∷ []) ∷ (1 ∷ 3 ∷ []) ∷ []; choices = slice_set p.choices 1 (Waits (Busy (device_no 1))) })
      ∷ row 13 no_grips 400 (λ p. record p { holders = (1 ∷ []) ∷ [] ∷ []; choices = slice_set p.choices 1 (HandsOut 0 (Commands 1)) })
      ∷ row 13 (held 0 1 (Commands 1) no_grips) 400 (λ p. record p { touched = (1 ∷ 2 ∷ 3 ∷ []) ∷ (1 ∷ 3 ∷ []) ∷ []; choices = slice_set p.choices 1 (Waits (Busy (device_no 0))) })
      ∷ row 14 no_grips 500 (λ p. record p { writers = Some 1 ∷ None ∷ []; values = 1 ∷ 1 ∷ []; holders = [] ∷ [] ∷ []; choices = slice_set p.choices 1 (Over Committed (Ended (run_no 1) Committed ∷ [])) })
      ∷ row 15 no_grips 500 (λ p. record p { overdue = []; starts = []; ends = []; whole_ends = []; choices = slice_set p.choices 1 (Over Committed []) }) ∷ [];
  gives = give 5 1 3 (Commands 0) (Sensed 1) (Did (run_no 3) 0 (Found 1) ∷ [])
      ∷ give 6 0 2 (Commands 0) (Sensed 2) (Did (run_no 2) 0 (Found 2) ∷ Doomed (run_no 2) (Refuted 0 2) ∷ [])
      ∷ give 9 0 3 (Commands 1) (Sensed 2) (Did (run_no 3) 1 (Found 2) ∷ [])
      ∷ give 12 1 1 (Commands 0) (Sensed 1) (Did (run_no 1) 0 (Found 1) ∷ [])
      ∷ give 13 0 1 (Commands 1) Worked (Did (run_no 1) 1 Fine ∷ []) ∷ [];
  calls = 3 ∷ 2 ∷ [];
  outcome = record { order = Ran (run_no 3) ∷ Ran (run_no 1) ∷ []; home = record { value = 1; up = true } ∷ record { value = 1; up = true } ∷ []; answers = record { run = run_no 3; answers = (Found 1) ∷ (Found 2) ∷ [] } ∷ record { run = run_no 1; answers = (Found 1) ∷ Fine ∷ [] } ∷ [] };
}

is_worked : IsWorked window history table
unfolding split_of
is_worked = record { points = refl; clauses = refl; gives = refl; calls = refl; ended = refl; allowed = refl; order = refl; answers = refl }
