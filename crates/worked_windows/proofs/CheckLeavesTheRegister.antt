-- The window check-leaves-the-register: what a check finds is not what a guard asks, nor what a skipped load would find.
use Rattle.worked_windows.proofs.Words.{Absent, Always, Arrived, At, Behind, Below, Busy, Check, Commands, Committed, Did, Ended, Entry, Eventual, Fcfs, Fine, Found, HandsOut, Is, IsWorked, List, Load, Moves, None, Over, Placed, Ran, Sensed, Set, Setting, Skipped, Some, Table, Waits, Worked, [], device_no, false, give, held, home_of_four, more, no_grips, refl, row, run_no, slice_set, split_at, split_of, still, true, ◌∷◌}

abbrev pub window : Setting
window = record home_of_four {
  runs = record {
    commands =
        record { device = device_no 3; job = Check 18; when = Always; must = true; ms = 100; takes = 100 }
        ∷ record { device = device_no 0; job = Set 1; when = Is 18; must = true; ms = 100; takes = 100 }
        ∷ record { device = device_no 1; job = Set 1; when = Is 0; must = true; ms = 100; takes = 100 }
        ∷ record { device = device_no 3; job = Load; when = Is 18; must = true; ms = 100; takes = 100 }
        ∷ record { device = device_no 2; job = Set 1; when = Below 18; must = true; ms = 100; takes = 100 }
        ∷ record { device = device_no 3; job = Load; when = Always; must = true; ms = 100; takes = 100 }
        ∷ record { device = device_no 0; job = Set 0; when = Is 18; must = true; ms = 100; takes = 100 } ∷ [];
    follows = None;
  }
      ∷ record {
        commands =
            record { device = device_no 3; job = Check 20; when = Always; must = false; ms = 100; takes = 100 }
            ∷ record { device = device_no 0; job = Set 1; when = Is 18; must = true; ms = 100; takes = 100 }
            ∷ record { device = device_no 0; job = Set 1; when = Always; must = true; ms = 100; takes = 100 } ∷ [];
        follows = None;
      } ∷ [];
  mode = record { model = Eventual; scheduler = Fcfs };
}

abbrev pub history : List Entry
history = Arrived (run_no 1) 0 ∷ Placed (run_no 1) 0 0 ∷ Arrived (run_no 2) 0 ∷ Placed (run_no 2) 1 0 ∷ Did (run_no 1) 0 (Found 18)
    ∷ Did (run_no 1) 1 Skipped ∷ Did (run_no 1) 2 Fine ∷ Did (run_no 1) 3 Skipped ∷ Did (run_no 1) 4 Fine ∷ Did (run_no 1) 5 (Found 18)
    ∷ Did (run_no 1) 6 Fine ∷ Did (run_no 2) 0 (Found 18) ∷ Did (run_no 2) 1 Skipped ∷ Ended (run_no 1) Committed ∷ Did (run_no 2) 2 Fine
    ∷ Ended (run_no 2) Committed ∷ []

abbrev pub table : Table
table = record {
  first = record {
    line = [];
    up = true ∷ true ∷ true ∷ true ∷ [];
    writers = None ∷ None ∷ None ∷ None ∷ [];
    values = 0 ∷ 0 ∷ 0 ∷ 18 ∷ [];
    holders = [] ∷ [] ∷ [] ∷ [] ∷ [];
    touched = [] ∷ [] ∷ [] ∷ [] ∷ [];
    first_places = [];
    places = [];
    overdue = [];
    starts = [];
    ends = [];
    whole_ends = [];
    choices = Absent ∷ Moves (Arrived (run_no 1) 0 ∷ []) ∷ Moves (Arrived (run_no 2) 0 ∷ []) ∷ [];
  };
  rows = still 0 no_grips 0
      ∷ row 1 no_grips 0 (λ p. record p { first_places = 0 ∷ []; places = At (split_at [] 0) ∷ []; choices = slice_set p.choices 1 (Moves (Placed (run_no 1) 0 0 ∷ [])) })
      ∷ row 2 no_grips 0 (λ p. record p {
        line = Ran (run_no 1) ∷ [];
        holders = (1 ∷ []) ∷ (1 ∷ []) ∷ (1 ∷ []) ∷ (1 ∷ []) ∷ [];
        first_places = [];
        places = [];
        overdue = (None ∷ None ∷ None ∷ None ∷ []) ∷ [];
        starts = (100 ∷ 200 ∷ 400 ∷ 0 ∷ []) ∷ [];
        ends = (700 ∷ 300 ∷ 500 ∷ 600 ∷ []) ∷ [];
        whole_ends = 700 ∷ [];
        choices = slice_set p.choices 1 (HandsOut 3 (Commands 0));
      })
      ∷ row 3 no_grips 0 (λ p. record p { first_places = 0 ∷ []; places = At (split_at (Ran (run_no 1) ∷ []) 1) ∷ []; choices = slice_set p.choices 2 (Moves (Placed (run_no 2) 1 0 ∷ [])) })
      ∷ row 4 no_grips 0 (λ p. record p {
        line = Ran (run_no 1) ∷ Ran (run_no 2) ∷ [];
        holders = (1 ∷ 2 ∷ []) ∷ (1 ∷ []) ∷ (1 ∷ []) ∷ (1 ∷ 2 ∷ []) ∷ [];
        first_places = [];
        places = [];
        overdue = more 0 (None ∷ None ∷ None ∷ None ∷ []) p.overdue;
        starts = more 1 (100 ∷ 0 ∷ []) p.starts;
        ends = more 1 (300 ∷ 100 ∷ []) p.ends;
        whole_ends = 700 ∷ 300 ∷ [];
        choices = slice_set p.choices 2 (Waits (Behind (device_no 3) (run_no 1)));
      })
      ∷ row 4 (held 3 1 (Commands 0) no_grips) 0 (λ p. record p { touched = [] ∷ [] ∷ [] ∷ (1 ∷ []) ∷ []; choices = slice_set p.choices 1 (Waits (Busy (device_no 3))) })
      ∷ row 5 no_grips 100 (λ p. record p { choices = slice_set p.choices 1 (Moves (Did (run_no 1) 1 Skipped ∷ [])) })
      ∷ row 6 no_grips 100 (λ p. record p { choices = slice_set p.choices 1 (HandsOut 1 (Commands 2)) })
      ∷ row 6 (held 1 1 (Commands 2) no_grips) 100 (λ p. record p { touched = [] ∷ (1 ∷ []) ∷ [] ∷ (1 ∷ []) ∷ []; choices = slice_set p.choices 1 (Waits (Busy (device_no 1))) })
      ∷ row 7 no_grips 200 (λ p. record p { writers = None ∷ Some 1 ∷ None ∷ None ∷ []; values = 0 ∷ 1 ∷ 0 ∷ 18 ∷ []; holders = slice_set p.holders 1 []; choices = slice_set p.choices 1 (Moves (Did (run_no 1) 3 Skipped ∷ [])) })
      ∷ row 8 no_grips 200 (λ p. record p { choices = slice_set p.choices 1 (HandsOut 2 (Commands 4)) })
      ∷ row 8 (held 2 1 (Commands 4) no_grips) 200 (λ p. record p { touched = [] ∷ (1 ∷ []) ∷ (1 ∷ []) ∷ (1 ∷ []) ∷ []; choices = slice_set p.choices 1 (Waits (Busy (device_no 2))) })
      ∷ row 9 no_grips 300 (λ p. record p { writers = None ∷ Some 1 ∷ Some 1 ∷ None ∷ []; values = 0 ∷ 1 ∷ 1 ∷ 18 ∷ []; holders = slice_set p.holders 2 []; choices = slice_set p.choices 1 (HandsOut 3 (Commands 5)) })
      ∷ row 9 (held 3 1 (Commands 5) no_grips) 300 (λ p. record p { choices = slice_set p.choices 1 (Waits (Busy (device_no 3))) })
      ∷ row 10 no_grips 400 (λ p. record p { holders = (1 ∷ 2 ∷ []) ∷ [] ∷ [] ∷ (2 ∷ []) ∷ []; choices = Absent ∷ HandsOut 0 (Commands 6) ∷ HandsOut 3 (Commands 0) ∷ [] })
      ∷ row 10 (held 3 2 (Commands 0) no_grips) 400 (λ p. record p { touched = [] ∷ (1 ∷ []) ∷ (1 ∷ []) ∷ (1 ∷ 2 ∷ []) ∷ []; choices = slice_set p.choices 2 (Waits (Busy (device_no 3))) })
      ∷ row 10 (held 0 1 (Commands 6) (held 3 2 (Commands 0) no_grips)) 400 (λ p. record p { touched = slice_set p.touched 0 (1 ∷ []); choices = slice_set p.choices 1 (Waits (Busy (device_no 0))) })
      ∷ row 11 (held 3 2 (Commands 0) no_grips) 500 (λ p. record p { writers = Some 1 ∷ Some 1 ∷ Some 1 ∷ None ∷ []; holders = (2 ∷ []) ∷ [] ∷ [] ∷ (2 ∷ []) ∷ []; choices = slice_set p.choices 1 (Over Committed (Ended (run_no 1) Committed ∷ [])) })
      ∷ row 12 no_grips 600 (λ p. record p { holders = (2 ∷ []) ∷ [] ∷ [] ∷ [] ∷ []; choices = slice_set p.choices 2 (Moves (Did (run_no 2) 1 Skipped ∷ [])) })
      ∷ row 13 no_grips 600 (λ p. record p { choices = slice_set p.choices 2 (HandsOut 0 (Commands 2)) })
      ∷ row 14 no_grips 600 (λ p. record p { overdue = (None ∷ None ∷ None ∷ None ∷ []) ∷ []; starts = (100 ∷ 0 ∷ []) ∷ []; ends = (300 ∷ 100 ∷ []) ∷ []; whole_ends = 300 ∷ []; choices = slice_set p.choices 1 (Over Committed []) })
      ∷ row 14 (held 0 2 (Commands 2) no_grips) 600 (λ p. record p { touched = slice_set p.touched 0 (1 ∷ 2 ∷ []); choices = slice_set p.choices 2 (Waits (Busy (device_no 0))) })
      ∷ row 15 no_grips 700 (λ p. record p { writers = Some 2 ∷ Some 1 ∷ Some 1 ∷ None ∷ []; values = 1 ∷ 1 ∷ 1 ∷ 18 ∷ []; holders = [] ∷ [] ∷ [] ∷ [] ∷ []; choices = slice_set p.choices 2 (Over Committed (Ended (run_no 2) Committed ∷ [])) })
      ∷ row 16 no_grips 700 (λ p. record p { overdue = []; starts = []; ends = []; whole_ends = []; choices = slice_set p.choices 2 (Over Committed []) }) ∷ [];
  gives = give 4 3 1 (Commands 0) (Sensed 18) (Did (run_no 1) 0 (Found 18) ∷ [])
      ∷ give 6 1 1 (Commands 2) Worked (Did (run_no 1) 2 Fine ∷ []) ∷ give 8 2 1 (Commands 4) Worked (Did (run_no 1) 4 Fine ∷ [])
      ∷ give 9 3 1 (Commands 5) (Sensed 18) (Did (run_no 1) 5 (Found 18) ∷ [])
      ∷ give 10 0 1 (Commands 6) Worked (Did (run_no 1) 6 Fine ∷ [])
      ∷ give 11 3 2 (Commands 0) (Sensed 18) (Did (run_no 2) 0 (Found 18) ∷ [])
      ∷ give 14 0 2 (Commands 2) Worked (Did (run_no 2) 2 Fine ∷ []) ∷ [];
  calls = 2 ∷ 1 ∷ 1 ∷ 3 ∷ [];
  outcome = record {
    order = Ran (run_no 1) ∷ Ran (run_no 2) ∷ [];
    home = record { value = 1; up = true } ∷ record { value = 1; up = true } ∷ record { value = 1; up = true } ∷ record { value = 18; up = true } ∷ [];
    answers =
        record { run = run_no 1; answers = (Found 18) ∷ Skipped ∷ Fine ∷ Skipped ∷ Fine ∷ (Found 18) ∷ Fine ∷ [] }
        ∷ record { run = run_no 2; answers = (Found 18) ∷ Skipped ∷ Fine ∷ [] } ∷ [];
  };
}

is_worked : IsWorked window history table
unfolding split_of
is_worked = record { points = refl; clauses = refl; gives = refl; calls = refl; ended = refl; allowed = refl; order = refl; answers = refl }
