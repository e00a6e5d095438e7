-- The window base-without-who-skipped-there: timeline: who has skipped a command on the device, and has one to come, is not in the base for that: one run fits in front of it, a longer one does not.
use Rattle.worked_windows.proofs.Words.{Absent, Always, Arrived, At, Behind, Busy, Commands, Committed, Did, Ended, Entry, Eventual, Fine, HandsOut, Is, IsWorked, List, Moves, None, Over, Placed, Ran, Set, Setting, Skipped, Some, Table, Timeline, Waits, Worked, [], chosen, closure, device_no, either_of, gap_set, give, held, home_of_four, less, more, no_grips, others, refl, row, run_no, slice_set, split_at, split_of, still, true, ◌++◌, ◌∷◌}

abbrev pub window : Setting
window = record home_of_four {
  runs = record {
    commands =
        record { device = device_no 3; job = Set 20; when = Always; must = true; ms = 1000; takes = 1 }
        ∷ record { device = device_no 0; job = Set 1; when = Is 5; must = true; ms = 100; takes = 100 }
        ∷ record { device = device_no 1; job = Set 1; when = Always; must = true; ms = 100; takes = 100 }
        ∷ record { device = device_no 0; job = Set 0; when = Always; must = true; ms = 100; takes = 100 } ∷ [];
    follows = None;
  }
      ∷ record { commands = record { device = device_no 0; job = Set 1; when = Always; must = true; ms = 100; takes = 100 } ∷ record { device = device_no 2; job = Set 1; when = Always; must = true; ms = 100; takes = 100 } ∷ []; follows = None }
      ∷ record { commands = record { device = device_no 0; job = Set 0; when = Always; must = true; ms = 900; takes = 900 } ∷ []; follows = None } ∷ [];
  mode = record { model = Eventual; scheduler = Timeline };
}

abbrev pub history : List Entry
history = Arrived (run_no 1) 0 ∷ Placed (run_no 1) 0 0 ∷ Did (run_no 1) 0 Fine ∷ Did (run_no 1) 1 Skipped ∷ Arrived (run_no 2) 1
    ∷ Placed (run_no 2) 0 1 ∷ Arrived (run_no 3) 1 ∷ Placed (run_no 3) 2 1 ∷ Did (run_no 2) 0 Fine ∷ Did (run_no 1) 2 Fine
    ∷ Did (run_no 2) 1 Fine ∷ Ended (run_no 2) Committed ∷ Did (run_no 1) 3 Fine ∷ Ended (run_no 1) Committed ∷ Did (run_no 3) 0 Fine
    ∷ Ended (run_no 3) Committed ∷ []

abbrev pub table : Table
table = record {
  first = record {
    line = [];
    up = true ∷ true ∷ true ∷ true ∷ [];
    writers = None ∷ None ∷ None ∷ None ∷ [];
    values = 0 ∷ 0 ∷ 0 ∷ 18 ∷ [];
    holders = [] ∷ [] ∷ [] ∷ [] ∷ [];
    touched = [] ∷ [] ∷ [] ∷ [] ∷ [];
    first_places = [];
    places = [];
    overdue = [];
    starts = [];
    ends = [];
    whole_ends = [];
    choices = Absent ∷ Moves (Arrived (run_no 1) 0 ∷ []) ∷ Moves (Arrived (run_no 2) 0 ∷ []) ∷ Moves (Arrived (run_no 3) 0 ∷ []) ∷ [];
  };
  rows = still 0 no_grips 0
      ∷ row 1 no_grips 0 (λ p. record p { first_places = 0 ∷ []; places = At (split_at [] 0) ∷ []; choices = slice_set p.choices 1 (Moves (Placed (run_no 1) 0 0 ∷ [])) })
      ∷ row 2 no_grips 0 (λ p. record p {
        line = Ran (run_no 1) ∷ [];
        holders = (1 ∷ []) ∷ (1 ∷ []) ∷ [] ∷ (1 ∷ []) ∷ [];
        first_places = [];
        places = [];
        overdue = (None ∷ None ∷ None ∷ None ∷ []) ∷ [];
        starts = (1000 ∷ 1100 ∷ 0 ∷ []) ∷ [];
        ends = (1300 ∷ 1200 ∷ 1000 ∷ []) ∷ [];
        whole_ends = 1300 ∷ [];
        choices = slice_set p.choices 1 (HandsOut 3 (Commands 0));
      })
      ∷ row 2 (held 3 1 (Commands 0) no_grips) 0 (λ p. record p { touched = [] ∷ [] ∷ [] ∷ (1 ∷ []) ∷ []; choices = slice_set p.choices 1 (Waits (Busy (device_no 3))) })
      ∷ row 3 no_grips 1 (λ p. record p { writers = None ∷ None ∷ None ∷ Some 1 ∷ []; values = 0 ∷ 0 ∷ 0 ∷ 20 ∷ []; holders = (1 ∷ []) ∷ (1 ∷ []) ∷ [] ∷ [] ∷ []; choices = Absent ∷ Moves (Did (run_no 1) 1 Skipped ∷ []) ∷ Moves (Arrived (run_no 2) 1 ∷ []) ∷ Moves (Arrived (run_no 3) 1 ∷ []) ∷ [] })
      ∷ row 4 no_grips 1 (λ p. record p { choices = slice_set p.choices 1 (HandsOut 1 (Commands 2)) })
      ∷ row 5 no_grips 1 (λ p. record p { first_places = 0 ∷ []; places = At (split_at (Ran (run_no 1) ∷ []) 0) ∷ []; choices = slice_set p.choices 2 (Moves (Placed (run_no 2) 0 1 ∷ [])) })
      ∷ row 6 no_grips 1 (λ p. record p {
        line = Ran (run_no 2) ∷ Ran (run_no 1) ∷ [];
        holders = (1 ∷ 2 ∷ []) ∷ (1 ∷ []) ∷ (2 ∷ []) ∷ [] ∷ [];
        first_places = [];
        places = [];
        overdue = more 0 (None ∷ None ∷ None ∷ None ∷ []) p.overdue;
        starts = (1 ∷ 101 ∷ []) ∷ (1000 ∷ 1100 ∷ 0 ∷ []) ∷ [];
        ends = more 0 (101 ∷ 201 ∷ []) p.ends;
        whole_ends = 201 ∷ 1300 ∷ [];
        choices = slice_set p.choices 2 (HandsOut 0 (Commands 0));
      })
      ∷ row 7 no_grips 1 (λ p. record p { first_places = 0 ∷ []; places = At (split_at (Ran (run_no 2) ∷ Ran (run_no 1) ∷ []) 2) ∷ []; choices = slice_set p.choices 3 (Moves (Placed (run_no 3) 2 1 ∷ [])) })
      ∷ row 8 no_grips 1 (λ p. record p {
        line = p.line ++ Ran (run_no 3) ∷ [];
        holders = (1 ∷ 2 ∷ 3 ∷ []) ∷ (1 ∷ []) ∷ (2 ∷ []) ∷ [] ∷ [];
        first_places = [];
        places = [];
        overdue = more 0 (None ∷ None ∷ None ∷ None ∷ []) p.overdue;
        starts = more 2 (1300 ∷ []) p.starts;
        ends = more 2 (2200 ∷ []) p.ends;
        whole_ends = 201 ∷ 1300 ∷ 2200 ∷ [];
        choices = slice_set p.choices 3 (Waits (Behind (device_no 0) (run_no 2)));
      })
      ∷ row 8 (held 0 2 (Commands 0) no_grips) 1 (λ p. record p { touched = (2 ∷ []) ∷ [] ∷ [] ∷ (1 ∷ []) ∷ []; choices = slice_set p.choices 2 (Waits (Busy (device_no 0))) })
      ∷ row 9 no_grips 101 (λ p. record p { writers = Some 2 ∷ None ∷ None ∷ Some 1 ∷ []; values = 1 ∷ 0 ∷ 0 ∷ 20 ∷ []; holders = (1 ∷ 3 ∷ []) ∷ (1 ∷ []) ∷ (2 ∷ []) ∷ [] ∷ []; choices = slice_set (slice_set p.choices 2 (HandsOut 2 (Commands 1))) 3 (Waits (Behind (device_no 0) (run_no 1))) })
      ∷ row 9 (held 1 1 (Commands 2) no_grips) 101 (λ p. record p { touched = (2 ∷ []) ∷ (1 ∷ []) ∷ [] ∷ (1 ∷ []) ∷ []; choices = slice_set p.choices 1 (Waits (Busy (device_no 1))) })
      ∷ row 10 no_grips 201 (λ p. record p { writers = Some 2 ∷ Some 1 ∷ None ∷ Some 1 ∷ []; values = 1 ∷ 1 ∷ 0 ∷ 20 ∷ []; holders = (1 ∷ 3 ∷ []) ∷ [] ∷ (2 ∷ []) ∷ [] ∷ []; choices = slice_set p.choices 1 (HandsOut 0 (Commands 3)) })
      ∷ row 10 (held 2 2 (Commands 1) no_grips) 201 (λ p. record p { touched = slice_set p.touched 2 (2 ∷ []); choices = slice_set p.choices 2 (Waits (Busy (device_no 2))) })
      ∷ row 11 no_grips 301 (λ p. record p { writers = Some 2 ∷ Some 1 ∷ Some 2 ∷ Some 1 ∷ []; values = 1 ∷ 1 ∷ 1 ∷ 20 ∷ []; holders = (1 ∷ 3 ∷ []) ∷ [] ∷ [] ∷ [] ∷ []; choices = slice_set p.choices 2 (Over Committed (Ended (run_no 2) Committed ∷ [])) })
      ∷ row 12 no_grips 301 (λ p. record p { overdue = less 0 p.overdue; starts = less 0 p.starts; ends = less 0 p.ends; whole_ends = 1300 ∷ 2200 ∷ []; choices = slice_set p.choices 2 (Over Committed []) })
      ∷ row 12 (held 0 1 (Commands 3) no_grips) 301 (λ p. record p { touched = slice_set p.touched 0 (1 ∷ 2 ∷ []); choices = slice_set p.choices 1 (Waits (Busy (device_no 0))) })
      ∷ row 13 no_grips 401 (λ p. record p { writers = Some 1 ∷ Some 1 ∷ Some 2 ∷ Some 1 ∷ []; values = 0 ∷ 1 ∷ 1 ∷ 20 ∷ []; holders = (3 ∷ []) ∷ [] ∷ [] ∷ [] ∷ []; choices = Absent ∷ Over Committed (Ended (run_no 1) Committed ∷ []) ∷ Over Committed [] ∷ HandsOut 0 (Commands 0) ∷ [] })
      ∷ row 14 no_grips 401 (λ p. record p { overdue = (None ∷ None ∷ None ∷ None ∷ []) ∷ []; starts = (1300 ∷ []) ∷ []; ends = (2200 ∷ []) ∷ []; whole_ends = 2200 ∷ []; choices = slice_set p.choices 1 (Over Committed []) })
      ∷ row 14 (held 0 3 (Commands 0) no_grips) 401 (λ p. record p { touched = slice_set p.touched 0 (1 ∷ 2 ∷ 3 ∷ []); choices = slice_set p.choices 3 (Waits (Busy (device_no 0))) })
      ∷ row 15 no_grips 1301 (λ p. record p { writers = Some 3 ∷ Some 1 ∷ Some 2 ∷ Some 1 ∷ []; holders = [] ∷ [] ∷ [] ∷ [] ∷ []; choices = slice_set p.choices 3 (Over Committed (Ended (run_no 3) Committed ∷ [])) })
      ∷ row 16 no_grips 1301 (λ p. record p { overdue = []; starts = []; ends = []; whole_ends = []; choices = slice_set p.choices 3 (Over Committed []) }) ∷ [];
  gives = give 2 3 1 (Commands 0) Worked (Did (run_no 1) 0 Fine ∷ []) ∷ give 8 0 2 (Commands 0) Worked (Did (run_no 2) 0 Fine ∷ [])
      ∷ give 9 1 1 (Commands 2) Worked (Did (run_no 1) 2 Fine ∷ []) ∷ give 10 2 2 (Commands 1) Worked (Did (run_no 2) 1 Fine ∷ [])
      ∷ give 12 0 1 (Commands 3) Worked (Did (run_no 1) 3 Fine ∷ []) ∷ give 14 0 3 (Commands 0) Worked (Did (run_no 3) 0 Fine ∷ []) ∷ [];
  calls = 3 ∷ 1 ∷ 1 ∷ 1 ∷ [];
  outcome = record {
    order = Ran (run_no 2) ∷ Ran (run_no 1) ∷ Ran (run_no 3) ∷ [];
    home = record { value = 0; up = true } ∷ record { value = 1; up = true } ∷ record { value = 1; up = true } ∷ record { value = 20; up = true } ∷ [];
    answers =
        record { run = run_no 2; answers = Fine ∷ Fine ∷ [] } ∷ record { run = run_no 1; answers = Fine ∷ Skipped ∷ Fine ∷ Fine ∷ [] }
        ∷ record { run = run_no 3; answers = Fine ∷ [] } ∷ [];
  };
}

is_worked : IsWorked window history table
unfolding chosen closure either_of gap_set others split_of
is_worked = record { points = refl; clauses = refl; gives = refl; calls = refl; ended = refl; allowed = refl; order = refl; answers = refl }
