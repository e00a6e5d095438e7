-- The window dirty-behind-a-skipped-write: just in time: a run that reads behind a write with a guard begins with a read: it is denied, and put at the end it waits for the live write.
use Rattle.worked_windows.proofs.Words.{Absent, Always, Arrived, At, Busy, Commands, Committed, Denied, DeniedBy, Did, Dirty, Ended, Entry, Eventual, Fine, Found, HandsOut, Is, IsWorked, JustInTime, List, Load, Moves, None, Over, Placed, Ran, Sensed, Set, Setting, Skipped, Some, Table, Waits, Worked, [], device_no, give, held, home_of_four, more, no_grips, refl, row, run_no, slice_set, split_at, split_of, still, true, ◌∷◌}

abbrev pub window : Setting
window = record home_of_four {
  runs = record {
    commands =
        record { device = device_no 0; job = Set 1; when = Always; must = true; ms = 100; takes = 100 }
        ∷ record { device = device_no 1; job = Set 1; when = Always; must = true; ms = 100; takes = 10000 }
        ∷ record { device = device_no 2; job = Set 1; when = Always; must = true; ms = 100; takes = 100 } ∷ [];
    follows = None;
  }
      ∷ record {
        commands =
            record { device = device_no 0; job = Set 0; when = Is 5; must = true; ms = 100; takes = 100 }
            ∷ record { device = device_no 0; job = Load; when = Is 5; must = true; ms = 100; takes = 100 }
            ∷ record { device = device_no 0; job = Load; when = Is 0; must = true; ms = 100; takes = 100 } ∷ [];
        follows = None;
      } ∷ [];
  mode = record { model = Eventual; scheduler = JustInTime };
}

abbrev pub history : List Entry
history = Arrived (run_no 1) 0 ∷ Placed (run_no 1) 0 0 ∷ Did (run_no 1) 0 Fine ∷ Arrived (run_no 2) 100 ∷ Did (run_no 1) 1 Fine
    ∷ Placed (run_no 2) 1 10100 ∷ Did (run_no 2) 0 Skipped ∷ Did (run_no 2) 1 Skipped ∷ Did (run_no 1) 2 Fine ∷ Ended (run_no 1) Committed
    ∷ Did (run_no 2) 2 (Found 1) ∷ Ended (run_no 2) Committed ∷ []

abbrev pub table : Table
table = record {
  first = record {
    line = [];
    up = true ∷ true ∷ true ∷ true ∷ [];
    writers = None ∷ None ∷ None ∷ None ∷ [];
    values = 0 ∷ 0 ∷ 0 ∷ 18 ∷ [];
    holders = [] ∷ [] ∷ [] ∷ [] ∷ [];
    touched = [] ∷ [] ∷ [] ∷ [] ∷ [];
    first_places = [];
    places = [];
    overdue = [];
    starts = [];
    ends = [];
    whole_ends = [];
    choices = Absent ∷ Moves (Arrived (run_no 1) 0 ∷ []) ∷ Moves (Arrived (run_no 2) 0 ∷ []) ∷ [];
  };
  rows = still 0 no_grips 0
      ∷ row 1 no_grips 0 (λ p. record p { first_places = 0 ∷ []; places = At (split_at [] 0) ∷ []; choices = slice_set p.choices 1 (Moves (Placed (run_no 1) 0 0 ∷ [])) })
      ∷ row 2 no_grips 0 (λ p. record p {
        line = Ran (run_no 1) ∷ [];
        holders = (1 ∷ []) ∷ (1 ∷ []) ∷ (1 ∷ []) ∷ [] ∷ [];
        first_places = [];
        places = [];
        overdue = (None ∷ None ∷ None ∷ None ∷ []) ∷ [];
        starts = (0 ∷ 100 ∷ 200 ∷ []) ∷ [];
        ends = (100 ∷ 200 ∷ 300 ∷ []) ∷ [];
        whole_ends = 300 ∷ [];
        choices = slice_set p.choices 1 (HandsOut 0 (Commands 0));
      })
      ∷ row 2 (held 0 1 (Commands 0) no_grips) 0 (λ p. record p { touched = (1 ∷ []) ∷ [] ∷ [] ∷ [] ∷ []; choices = slice_set p.choices 1 (Waits (Busy (device_no 0))) })
      ∷ row 3 no_grips 100 (λ p. record p { writers = Some 1 ∷ None ∷ None ∷ None ∷ []; values = 1 ∷ 0 ∷ 0 ∷ 18 ∷ []; holders = [] ∷ (1 ∷ []) ∷ (1 ∷ []) ∷ [] ∷ []; choices = Absent ∷ HandsOut 1 (Commands 1) ∷ Moves (Arrived (run_no 2) 100 ∷ []) ∷ [] })
      ∷ row 4 no_grips 100 (λ p. record p { first_places = 1 ∷ []; places = DeniedBy 0 1 ∷ []; choices = slice_set p.choices 2 (Waits (Denied (device_no 0) (run_no 1))) })
      ∷ row 4 (held 1 1 (Commands 1) no_grips) 100 (λ p. record p { touched = (1 ∷ []) ∷ (1 ∷ []) ∷ [] ∷ [] ∷ []; choices = slice_set p.choices 1 (Waits (Busy (device_no 1))) })
      ∷ row 5 no_grips 10100 (λ p. record p {
        writers = Some 1 ∷ Some 1 ∷ None ∷ None ∷ [];
        values = 1 ∷ 1 ∷ 0 ∷ 18 ∷ [];
        holders = [] ∷ [] ∷ (1 ∷ []) ∷ [] ∷ [];
        places = At (split_at (Ran (run_no 1) ∷ []) 1) ∷ [];
        choices = Absent ∷ HandsOut 2 (Commands 2) ∷ Moves (Placed (run_no 2) 1 10100 ∷ []) ∷ [];
      })
      ∷ row 6 no_grips 10100 (λ p. record p {
        line = Ran (run_no 1) ∷ Ran (run_no 2) ∷ [];
        holders = (2 ∷ []) ∷ [] ∷ (1 ∷ []) ∷ [] ∷ [];
        first_places = [];
        places = [];
        overdue = more 0 (None ∷ None ∷ None ∷ None ∷ []) p.overdue;
        starts = (0 ∷ 100 ∷ 200 ∷ []) ∷ (10100 ∷ []) ∷ [];
        ends = more 1 (10400 ∷ []) p.ends;
        whole_ends = 300 ∷ 10400 ∷ [];
        choices = slice_set p.choices 2 (Moves (Did (run_no 2) 0 Skipped ∷ []));
      })
      ∷ row 7 no_grips 10100 (λ p. record p { choices = slice_set p.choices 2 (Moves (Did (run_no 2) 1 Skipped ∷ [])) })
      ∷ row 8 no_grips 10100 (λ p. record p { choices = slice_set p.choices 2 (Waits (Dirty (device_no 0) (run_no 1))) })
      ∷ row 8 (held 2 1 (Commands 2) no_grips) 10100 (λ p. record p { touched = (1 ∷ []) ∷ (1 ∷ []) ∷ (1 ∷ []) ∷ [] ∷ []; choices = slice_set p.choices 1 (Waits (Busy (device_no 2))) })
      ∷ row 9 no_grips 10200 (λ p. record p { writers = Some 1 ∷ Some 1 ∷ Some 1 ∷ None ∷ []; values = 1 ∷ 1 ∷ 1 ∷ 18 ∷ []; holders = (2 ∷ []) ∷ [] ∷ [] ∷ [] ∷ []; choices = slice_set p.choices 1 (Over Committed (Ended (run_no 1) Committed ∷ [])) })
      ∷ row 10 no_grips 10200 (λ p. record p { overdue = (None ∷ None ∷ None ∷ None ∷ []) ∷ []; starts = (10100 ∷ []) ∷ []; ends = (10400 ∷ []) ∷ []; whole_ends = 10400 ∷ []; choices = Absent ∷ Over Committed [] ∷ HandsOut 0 (Commands 2) ∷ [] })
      ∷ row 10 (held 0 2 (Commands 2) no_grips) 10200 (λ p. record p { touched = (1 ∷ 2 ∷ []) ∷ (1 ∷ []) ∷ (1 ∷ []) ∷ [] ∷ []; choices = slice_set p.choices 2 (Waits (Busy (device_no 0))) })
      ∷ row 11 no_grips 10300 (λ p. record p { holders = [] ∷ [] ∷ [] ∷ [] ∷ []; choices = slice_set p.choices 2 (Over Committed (Ended (run_no 2) Committed ∷ [])) })
      ∷ row 12 no_grips 10300 (λ p. record p { overdue = []; starts = []; ends = []; whole_ends = []; choices = slice_set p.choices 2 (Over Committed []) }) ∷ [];
  gives = give 2 0 1 (Commands 0) Worked (Did (run_no 1) 0 Fine ∷ []) ∷ give 4 1 1 (Commands 1) Worked (Did (run_no 1) 1 Fine ∷ [])
      ∷ give 8 2 1 (Commands 2) Worked (Did (run_no 1) 2 Fine ∷ []) ∷ give 10 0 2 (Commands 2) (Sensed 1) (Did (run_no 2) 2 (Found 1) ∷ []) ∷ [];
  calls = 2 ∷ 1 ∷ 1 ∷ 0 ∷ [];
  outcome = record {
    order = Ran (run_no 1) ∷ Ran (run_no 2) ∷ [];
    home = record { value = 1; up = true } ∷ record { value = 1; up = true } ∷ record { value = 1; up = true } ∷ record { value = 18; up = true } ∷ [];
    answers = record { run = run_no 1; answers = Fine ∷ Fine ∷ Fine ∷ [] } ∷ record { run = run_no 2; answers = Skipped ∷ Skipped ∷ (Found 1) ∷ [] } ∷ [];
  };
}

is_worked : IsWorked window history table
unfolding split_of
is_worked = record { points = refl; clauses = refl; gives = refl; calls = refl; ended = refl; allowed = refl; order = refl; answers = refl }
