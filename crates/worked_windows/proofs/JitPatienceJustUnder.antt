-- The window jit-patience-just-under: just-in-time: one ms less, and the run is placed as soon as nothing is denied.
use Rattle.worked_windows.proofs.Prelude.{Always}
use Rattle.worked_windows.proofs.Words.{Absent, Arrived, At, Busy, Commands, Committed, Denied, DeniedBy, Did, Ended, Entry, Eventual, Fine, HandsOut, IsWorked, JustInTime, List, Moves, None, Over, Placed, Ran, Set, Setting, Some, Table, Waits, Worked, [], device_no, give, held, home_of_four, more, no_grips, refl, row, run_no, slice_set, split_at, split_of, still, true, ◌++◌, ◌∷◌}

abbrev pub window : Setting
window = record home_of_four {
  runs = record {
    commands =
        record { device = device_no 0; job = Set 1; when = Always; must = true; ms = 100; takes = 100 }
        ∷ record { device = device_no 3; job = Set 20; when = Always; must = true; ms = 100; takes = 9999 }
        ∷ record { device = device_no 2; job = Set 1; when = Always; must = true; ms = 100; takes = 100 } ∷ [];
    follows = None;
  }
      ∷ record { commands = record { device = device_no 0; job = Set 0; when = Always; must = true; ms = 100; takes = 100 } ∷ record { device = device_no 1; job = Set 1; when = Always; must = true; ms = 100; takes = 100 } ∷ []; follows = None }
      ∷ record { commands = record { device = device_no 1; job = Set 0; when = Always; must = true; ms = 100; takes = 100 } ∷ record { device = device_no 2; job = Set 0; when = Always; must = true; ms = 100; takes = 100 } ∷ []; follows = None } ∷ [];
  mode = record { model = Eventual; scheduler = JustInTime };
}

abbrev pub history : List Entry
history = Arrived (run_no 1) 0 ∷ Placed (run_no 1) 0 0 ∷ Did (run_no 1) 0 Fine ∷ Arrived (run_no 2) 100 ∷ Placed (run_no 2) 1 100
    ∷ Did (run_no 2) 0 Fine ∷ Did (run_no 2) 1 Fine ∷ Ended (run_no 2) Committed ∷ Arrived (run_no 3) 300 ∷ Did (run_no 1) 1 Fine
    ∷ Did (run_no 1) 2 Fine ∷ Ended (run_no 1) Committed ∷ Placed (run_no 3) 2 10399 ∷ Did (run_no 3) 0 Fine ∷ Did (run_no 3) 1 Fine
    ∷ Ended (run_no 3) Committed ∷ []

abbrev pub table : Table
table = record {
  first = record {
    line = [];
    up = true ∷ true ∷ true ∷ true ∷ [];
    writers = None ∷ None ∷ None ∷ None ∷ [];
    values = 0 ∷ 0 ∷ 0 ∷ 18 ∷ [];
    holders = [] ∷ [] ∷ [] ∷ [] ∷ [];
    touched = [] ∷ [] ∷ [] ∷ [] ∷ [];
    first_places = [];
    places = [];
    overdue = [];
    starts = [];
    ends = [];
    whole_ends = [];
    choices = Absent ∷ Moves (Arrived (run_no 1) 0 ∷ []) ∷ Moves (Arrived (run_no 2) 0 ∷ []) ∷ Moves (Arrived (run_no 3) 0 ∷ []) ∷ [];
  };
  rows = still 0 no_grips 0
      ∷ row 1 no_grips 0 (λ p. record p { first_places = 0 ∷ []; places = At (split_at [] 0) ∷ []; choices = slice_set p.choices 1 (Moves (Placed (run_no 1) 0 0 ∷ [])) })
      ∷ row 2 no_grips 0 (λ p. record p {
        line = Ran (run_no 1) ∷ [];
        holders = (1 ∷ []) ∷ [] ∷ (1 ∷ []) ∷ (1 ∷ []) ∷ [];
        first_places = [];
        places = [];
        overdue = (None ∷ None ∷ None ∷ None ∷ []) ∷ [];
        starts = (0 ∷ 200 ∷ 100 ∷ []) ∷ [];
        ends = (100 ∷ 300 ∷ 200 ∷ []) ∷ [];
        whole_ends = 300 ∷ [];
        choices = slice_set p.choices 1 (HandsOut 0 (Commands 0));
      })
      ∷ row 2 (held 0 1 (Commands 0) no_grips) 0 (λ p. record p { touched = (1 ∷ []) ∷ [] ∷ [] ∷ [] ∷ []; choices = slice_set p.choices 1 (Waits (Busy (device_no 0))) })
      ∷ row 3 no_grips 100 (λ p. record p { writers = Some 1 ∷ None ∷ None ∷ None ∷ []; values = 1 ∷ 0 ∷ 0 ∷ 18 ∷ []; holders = [] ∷ [] ∷ (1 ∷ []) ∷ (1 ∷ []) ∷ []; choices = Absent ∷ HandsOut 3 (Commands 1) ∷ Moves (Arrived (run_no 2) 100 ∷ []) ∷ Moves (Arrived (run_no 3) 100 ∷ []) ∷ [] })
      ∷ row 4 no_grips 100 (λ p. record p { first_places = 1 ∷ []; places = At (split_at (Ran (run_no 1) ∷ []) 1) ∷ []; choices = slice_set p.choices 2 (Moves (Placed (run_no 2) 1 100 ∷ [])) })
      ∷ row 5 no_grips 100 (λ p. record p {
        line = Ran (run_no 1) ∷ Ran (run_no 2) ∷ [];
        holders = (2 ∷ []) ∷ (2 ∷ []) ∷ (1 ∷ []) ∷ (1 ∷ []) ∷ [];
        first_places = [];
        places = [];
        overdue = more 0 (None ∷ None ∷ None ∷ None ∷ []) p.overdue;
        starts = (0 ∷ 200 ∷ 100 ∷ []) ∷ (100 ∷ 200 ∷ []) ∷ [];
        ends = (100 ∷ 300 ∷ 200 ∷ []) ∷ (200 ∷ 300 ∷ []) ∷ [];
        whole_ends = 300 ∷ 300 ∷ [];
        choices = slice_set p.choices 2 (HandsOut 0 (Commands 0));
      })
      ∷ row 5 (held 0 2 (Commands 0) no_grips) 100 (λ p. record p { touched = (1 ∷ 2 ∷ []) ∷ [] ∷ [] ∷ [] ∷ []; choices = slice_set p.choices 2 (Waits (Busy (device_no 0))) })
      ∷ row 6 no_grips 200 (λ p. record p { writers = Some 2 ∷ None ∷ None ∷ None ∷ []; values = 0 ∷ 0 ∷ 0 ∷ 18 ∷ []; holders = [] ∷ (2 ∷ []) ∷ (1 ∷ []) ∷ (1 ∷ []) ∷ []; choices = slice_set (slice_set p.choices 2 (HandsOut 1 (Commands 1))) 3 (Moves (Arrived (run_no 3) 200 ∷ [])) })
      ∷ row 6 (held 1 2 (Commands 1) no_grips) 200 (λ p. record p { touched = (1 ∷ 2 ∷ []) ∷ (2 ∷ []) ∷ [] ∷ [] ∷ []; choices = slice_set p.choices 2 (Waits (Busy (device_no 1))) })
      ∷ row 7 no_grips 300 (λ p. record p {
        writers = Some 2 ∷ Some 2 ∷ None ∷ None ∷ [];
        values = 0 ∷ 1 ∷ 0 ∷ 18 ∷ [];
        holders = [] ∷ [] ∷ (1 ∷ []) ∷ (1 ∷ []) ∷ [];
        choices = slice_set (slice_set p.choices 2 (Over Committed (Ended (run_no 2) Committed ∷ []))) 3 (Moves (Arrived (run_no 3) 300 ∷ []));
      })
      ∷ row 8 no_grips 300 (λ p. record p { overdue = (None ∷ None ∷ None ∷ None ∷ []) ∷ []; starts = (0 ∷ 200 ∷ 100 ∷ []) ∷ []; ends = (100 ∷ 300 ∷ 200 ∷ []) ∷ []; whole_ends = 300 ∷ []; choices = slice_set p.choices 2 (Over Committed []) })
      ∷ row 9 no_grips 300 (λ p. record p { first_places = 2 ∷ []; places = DeniedBy 2 1 ∷ []; choices = slice_set p.choices 3 (Waits (Denied (device_no 2) (run_no 1))) })
      ∷ row 9 (held 3 1 (Commands 1) no_grips) 300 (λ p. record p { touched = (1 ∷ 2 ∷ []) ∷ (2 ∷ []) ∷ [] ∷ (1 ∷ []) ∷ []; choices = slice_set p.choices 1 (Waits (Busy (device_no 3))) })
      ∷ row 10 no_grips 10299 (λ p. record p { writers = Some 2 ∷ Some 2 ∷ None ∷ Some 1 ∷ []; values = 0 ∷ 1 ∷ 0 ∷ 20 ∷ []; holders = [] ∷ [] ∷ (1 ∷ []) ∷ [] ∷ []; choices = slice_set p.choices 1 (HandsOut 2 (Commands 2)) })
      ∷ row 10 (held 2 1 (Commands 2) no_grips) 10299 (λ p. record p { touched = slice_set p.touched 2 (1 ∷ []); choices = slice_set p.choices 1 (Waits (Busy (device_no 2))) })
      ∷ row 11 no_grips 10399 (λ p. record p {
        writers = Some 2 ∷ Some 2 ∷ Some 1 ∷ Some 1 ∷ [];
        values = 0 ∷ 1 ∷ 1 ∷ 20 ∷ [];
        holders = [] ∷ [] ∷ [] ∷ [] ∷ [];
        places = At (split_at (Ran (run_no 1) ∷ Ran (run_no 2) ∷ []) 2) ∷ [];
        choices = Absent ∷ Over Committed (Ended (run_no 1) Committed ∷ []) ∷ Over Committed [] ∷ Moves (Placed (run_no 3) 2 10399 ∷ []) ∷ [];
      })
      ∷ row 12 no_grips 10399 (λ p. record p { overdue = []; starts = []; ends = []; whole_ends = []; choices = slice_set p.choices 1 (Over Committed []) })
      ∷ row 13 no_grips 10399 (λ p. record p {
        line = p.line ++ Ran (run_no 3) ∷ [];
        holders = [] ∷ (3 ∷ []) ∷ (3 ∷ []) ∷ [] ∷ [];
        first_places = [];
        places = [];
        overdue = (None ∷ None ∷ None ∷ None ∷ []) ∷ [];
        starts = (10399 ∷ 10499 ∷ []) ∷ [];
        ends = (10499 ∷ 10599 ∷ []) ∷ [];
        whole_ends = 10599 ∷ [];
        choices = slice_set p.choices 3 (HandsOut 1 (Commands 0));
      })
      ∷ row 13 (held 1 3 (Commands 0) no_grips) 10399 (λ p. record p { touched = slice_set p.touched 1 (2 ∷ 3 ∷ []); choices = slice_set p.choices 3 (Waits (Busy (device_no 1))) })
      ∷ row 14 no_grips 10499 (λ p. record p { writers = Some 2 ∷ Some 3 ∷ Some 1 ∷ Some 1 ∷ []; values = 0 ∷ 0 ∷ 1 ∷ 20 ∷ []; holders = [] ∷ [] ∷ (3 ∷ []) ∷ [] ∷ []; choices = slice_set p.choices 3 (HandsOut 2 (Commands 1)) })
      ∷ row 14 (held 2 3 (Commands 1) no_grips) 10499 (λ p. record p { touched = slice_set p.touched 2 (1 ∷ 3 ∷ []); choices = slice_set p.choices 3 (Waits (Busy (device_no 2))) })
      ∷ row 15 no_grips 10599 (λ p. record p { writers = Some 2 ∷ Some 3 ∷ Some 3 ∷ Some 1 ∷ []; values = 0 ∷ 0 ∷ 0 ∷ 20 ∷ []; holders = [] ∷ [] ∷ [] ∷ [] ∷ []; choices = slice_set p.choices 3 (Over Committed (Ended (run_no 3) Committed ∷ [])) })
      ∷ row 16 no_grips 10599 (λ p. record p { overdue = []; starts = []; ends = []; whole_ends = []; choices = slice_set p.choices 3 (Over Committed []) }) ∷ [];
  gives = give 2 0 1 (Commands 0) Worked (Did (run_no 1) 0 Fine ∷ []) ∷ give 5 0 2 (Commands 0) Worked (Did (run_no 2) 0 Fine ∷ [])
      ∷ give 6 1 2 (Commands 1) Worked (Did (run_no 2) 1 Fine ∷ []) ∷ give 9 3 1 (Commands 1) Worked (Did (run_no 1) 1 Fine ∷ [])
      ∷ give 10 2 1 (Commands 2) Worked (Did (run_no 1) 2 Fine ∷ []) ∷ give 13 1 3 (Commands 0) Worked (Did (run_no 3) 0 Fine ∷ [])
      ∷ give 14 2 3 (Commands 1) Worked (Did (run_no 3) 1 Fine ∷ []) ∷ [];
  calls = 2 ∷ 2 ∷ 2 ∷ 1 ∷ [];
  outcome = record {
    order = Ran (run_no 1) ∷ Ran (run_no 2) ∷ Ran (run_no 3) ∷ [];
    home = record { value = 0; up = true } ∷ record { value = 0; up = true } ∷ record { value = 0; up = true } ∷ record { value = 20; up = true } ∷ [];
    answers =
        record { run = run_no 1; answers = Fine ∷ Fine ∷ Fine ∷ [] } ∷ record { run = run_no 2; answers = Fine ∷ Fine ∷ [] }
        ∷ record { run = run_no 3; answers = Fine ∷ Fine ∷ [] } ∷ [];
  };
}

is_worked : IsWorked window history table
unfolding split_of
is_worked = record { points = refl; clauses = refl; gives = refl; calls = refl; ended = refl; allowed = refl; order = refl; answers = refl }
