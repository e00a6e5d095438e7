-- The window base-is-closed: timeline: what stands before a run of the base is in it too.
use Rattle.worked_windows.proofs.Prelude.{Always}
use Rattle.worked_windows.proofs.Words.{Absent, Arrived, At, Behind, Busy, Commands, Committed, Did, Ended, Entry, Eventual, Fine, HandsOut, IsWorked, List, Moves, None, Over, Placed, Ran, Set, Setting, Some, Table, Timeline, Waits, Worked, [], chosen, closure, device_no, either_of, gap_set, give, held, home_of_four, less, more, no_grips, others, refl, row, run_no, slice_set, split_at, split_of, still, true, ◌++◌, ◌∷◌}

abbrev pub window : Setting
window = record home_of_four {
  runs = record {
    commands =
        record { device = device_no 0; job = Set 1; when = Always; must = true; ms = 100; takes = 100 }
        ∷ record { device = device_no 3; job = Set 20; when = Always; must = true; ms = 500; takes = 500 }
        ∷ record { device = device_no 2; job = Set 1; when = Always; must = true; ms = 100; takes = 100 } ∷ [];
    follows = None;
  }
      ∷ record { commands = record { device = device_no 0; job = Set 0; when = Always; must = true; ms = 100; takes = 100 } ∷ record { device = device_no 1; job = Set 1; when = Always; must = true; ms = 100; takes = 100 } ∷ []; follows = None }
      ∷ record { commands = record { device = device_no 1; job = Set 0; when = Always; must = true; ms = 100; takes = 100 } ∷ record { device = device_no 2; job = Set 0; when = Always; must = true; ms = 100; takes = 100 } ∷ []; follows = None } ∷ [];
  mode = record { model = Eventual; scheduler = Timeline };
}

abbrev pub history : List Entry
history = Arrived (run_no 1) 0 ∷ Placed (run_no 1) 0 0 ∷ Did (run_no 1) 0 Fine ∷ Arrived (run_no 2) 100 ∷ Placed (run_no 2) 1 100
    ∷ Did (run_no 2) 0 Fine ∷ Did (run_no 2) 1 Fine ∷ Ended (run_no 2) Committed ∷ Arrived (run_no 3) 300 ∷ Placed (run_no 3) 2 300
    ∷ Did (run_no 3) 0 Fine ∷ Did (run_no 1) 1 Fine ∷ Did (run_no 1) 2 Fine ∷ Ended (run_no 1) Committed ∷ Did (run_no 3) 1 Fine
    ∷ Ended (run_no 3) Committed ∷ []

abbrev pub table : Table
table = record {
  first = record {
    line = [];
    up = true ∷ true ∷ true ∷ true ∷ [];
    writers = None ∷ None ∷ None ∷ None ∷ [];
    values = 0 ∷ 0 ∷ 0 ∷ 18 ∷ [];
    holders = [] ∷ [] ∷ [] ∷ [] ∷ [];
    touched = [] ∷ [] ∷ [] ∷ [] ∷ [];
    first_places = [];
    places = [];
    overdue = [];
    starts = [];
    ends = [];
    whole_ends = [];
    choices = Absent ∷ Moves (Arrived (run_no 1) 0 ∷ []) ∷ Moves (Arrived (run_no 2) 0 ∷ []) ∷ Moves (Arrived (run_no 3) 0 ∷ []) ∷ [];
  };
  rows = still 0 no_grips 0
      ∷ row 1 no_grips 0 (λ p. record p { first_places = 0 ∷ []; places = At (split_at [] 0) ∷ []; choices = slice_set p.choices 1 (Moves (Placed (run_no 1) 0 0 ∷ [])) })
      ∷ row 2 no_grips 0 (λ p. record p {
        line = Ran (run_no 1) ∷ [];
        holders = (1 ∷ []) ∷ [] ∷ (1 ∷ []) ∷ (1 ∷ []) ∷ [];
        first_places = [];
        places = [];
        overdue = (None ∷ None ∷ None ∷ None ∷ []) ∷ [];
        starts = (0 ∷ 600 ∷ 100 ∷ []) ∷ [];
        ends = (100 ∷ 700 ∷ 600 ∷ []) ∷ [];
        whole_ends = 700 ∷ [];
        choices = slice_set p.choices 1 (HandsOut 0 (Commands 0));
      })
      ∷ row 2 (held 0 1 (Commands 0) no_grips) 0 (λ p. record p { touched = (1 ∷ []) ∷ [] ∷ [] ∷ [] ∷ []; choices = slice_set p.choices 1 (Waits (Busy (device_no 0))) })
      ∷ row 3 no_grips 100 (λ p. record p { writers = Some 1 ∷ None ∷ None ∷ None ∷ []; values = 1 ∷ 0 ∷ 0 ∷ 18 ∷ []; holders = [] ∷ [] ∷ (1 ∷ []) ∷ (1 ∷ []) ∷ []; choices = Absent ∷ HandsOut 3 (Commands 1) ∷ Moves (Arrived (run_no 2) 100 ∷ []) ∷ Moves (Arrived (run_no 3) 100 ∷ []) ∷ [] })
      ∷ row 4 no_grips 100 (λ p. record p { first_places = 1 ∷ []; places = At (split_at (Ran (run_no 1) ∷ []) 1) ∷ []; choices = slice_set p.choices 2 (Moves (Placed (run_no 2) 1 100 ∷ [])) })
      ∷ row 5 no_grips 100 (λ p. record p {
        line = Ran (run_no 1) ∷ Ran (run_no 2) ∷ [];
        holders = (2 ∷ []) ∷ (2 ∷ []) ∷ (1 ∷ []) ∷ (1 ∷ []) ∷ [];
        first_places = [];
        places = [];
        overdue = more 0 (None ∷ None ∷ None ∷ None ∷ []) p.overdue;
        starts = (0 ∷ 600 ∷ 100 ∷ []) ∷ (100 ∷ 200 ∷ []) ∷ [];
        ends = more 1 (200 ∷ 300 ∷ []) p.ends;
        whole_ends = 700 ∷ 300 ∷ [];
        choices = slice_set p.choices 2 (HandsOut 0 (Commands 0));
      })
      ∷ row 5 (held 0 2 (Commands 0) no_grips) 100 (λ p. record p { touched = (1 ∷ 2 ∷ []) ∷ [] ∷ [] ∷ [] ∷ []; choices = slice_set p.choices 2 (Waits (Busy (device_no 0))) })
      ∷ row 6 no_grips 200 (λ p. record p { writers = Some 2 ∷ None ∷ None ∷ None ∷ []; values = 0 ∷ 0 ∷ 0 ∷ 18 ∷ []; holders = slice_set p.holders 0 []; choices = Absent ∷ HandsOut 3 (Commands 1) ∷ HandsOut 1 (Commands 1) ∷ Moves (Arrived (run_no 3) 200 ∷ []) ∷ [] })
      ∷ row 6 (held 1 2 (Commands 1) no_grips) 200 (λ p. record p { touched = (1 ∷ 2 ∷ []) ∷ (2 ∷ []) ∷ [] ∷ [] ∷ []; choices = slice_set p.choices 2 (Waits (Busy (device_no 1))) })
      ∷ row 7 no_grips 300 (λ p. record p {
        writers = Some 2 ∷ Some 2 ∷ None ∷ None ∷ [];
        values = 0 ∷ 1 ∷ 0 ∷ 18 ∷ [];
        holders = [] ∷ [] ∷ (1 ∷ []) ∷ (1 ∷ []) ∷ [];
        choices = Absent ∷ HandsOut 3 (Commands 1) ∷ Over Committed (Ended (run_no 2) Committed ∷ []) ∷ Moves (Arrived (run_no 3) 300 ∷ []) ∷ [];
      })
      ∷ row 8 no_grips 300 (λ p. record p { overdue = less 0 p.overdue; starts = (0 ∷ 600 ∷ 100 ∷ []) ∷ []; ends = less 1 p.ends; whole_ends = 700 ∷ []; choices = slice_set p.choices 2 (Over Committed []) })
      ∷ row 9 no_grips 300 (λ p. record p { first_places = 2 ∷ []; places = At (split_at (Ran (run_no 1) ∷ Ran (run_no 2) ∷ []) 2) ∷ []; choices = slice_set p.choices 3 (Moves (Placed (run_no 3) 2 300 ∷ [])) })
      ∷ row 10 no_grips 300 (λ p. record p {
        line = p.line ++ Ran (run_no 3) ∷ [];
        holders = [] ∷ (3 ∷ []) ∷ (1 ∷ 3 ∷ []) ∷ (1 ∷ []) ∷ [];
        first_places = [];
        places = [];
        overdue = more 0 (None ∷ None ∷ None ∷ None ∷ []) p.overdue;
        starts = (0 ∷ 600 ∷ 100 ∷ []) ∷ (300 ∷ 700 ∷ []) ∷ [];
        ends = more 1 (400 ∷ 800 ∷ []) p.ends;
        whole_ends = 700 ∷ 800 ∷ [];
        choices = slice_set p.choices 3 (HandsOut 1 (Commands 0));
      })
      ∷ row 10 (held 1 3 (Commands 0) no_grips) 300 (λ p. record p { touched = (1 ∷ 2 ∷ []) ∷ (2 ∷ 3 ∷ []) ∷ [] ∷ [] ∷ []; choices = slice_set p.choices 3 (Waits (Busy (device_no 1))) })
      ∷ row 11 no_grips 400 (λ p. record p { writers = Some 2 ∷ Some 3 ∷ None ∷ None ∷ []; values = 0 ∷ 0 ∷ 0 ∷ 18 ∷ []; holders = slice_set p.holders 1 []; choices = slice_set p.choices 3 (Waits (Behind (device_no 2) (run_no 1))) })
      ∷ row 11 (held 3 1 (Commands 1) no_grips) 400 (λ p. record p { touched = slice_set p.touched 3 (1 ∷ []); choices = slice_set p.choices 1 (Waits (Busy (device_no 3))) })
      ∷ row 12 no_grips 900 (λ p. record p { writers = Some 2 ∷ Some 3 ∷ None ∷ Some 1 ∷ []; values = 0 ∷ 0 ∷ 0 ∷ 20 ∷ []; holders = [] ∷ [] ∷ (1 ∷ 3 ∷ []) ∷ [] ∷ []; choices = slice_set p.choices 1 (HandsOut 2 (Commands 2)) })
      ∷ row 12 (held 2 1 (Commands 2) no_grips) 900 (λ p. record p { touched = slice_set p.touched 2 (1 ∷ []); choices = slice_set p.choices 1 (Waits (Busy (device_no 2))) })
      ∷ row 13 no_grips 1000 (λ p. record p { writers = Some 2 ∷ Some 3 ∷ Some 1 ∷ Some 1 ∷ []; values = 0 ∷ 0 ∷ 1 ∷ 20 ∷ []; holders = [] ∷ [] ∷ (3 ∷ []) ∷ [] ∷ []; choices = Absent ∷ Over Committed (Ended (run_no 1) Committed ∷ []) ∷ Over Committed [] ∷ HandsOut 2 (Commands 1) ∷ [] })
      ∷ row 14 no_grips 1000 (λ p. record p { overdue = less 0 p.overdue; starts = (300 ∷ 700 ∷ []) ∷ []; ends = (400 ∷ 800 ∷ []) ∷ []; whole_ends = 800 ∷ []; choices = slice_set p.choices 1 (Over Committed []) })
      ∷ row 14 (held 2 3 (Commands 1) no_grips) 1000 (λ p. record p { touched = slice_set p.touched 2 (1 ∷ 3 ∷ []); choices = slice_set p.choices 3 (Waits (Busy (device_no 2))) })
      ∷ row 15 no_grips 1100 (λ p. record p { writers = Some 2 ∷ Some 3 ∷ Some 3 ∷ Some 1 ∷ []; values = 0 ∷ 0 ∷ 0 ∷ 20 ∷ []; holders = [] ∷ [] ∷ [] ∷ [] ∷ []; choices = slice_set p.choices 3 (Over Committed (Ended (run_no 3) Committed ∷ [])) })
      ∷ row 16 no_grips 1100 (λ p. record p { overdue = []; starts = []; ends = []; whole_ends = []; choices = slice_set p.choices 3 (Over Committed []) }) ∷ [];
  gives = give 2 0 1 (Commands 0) Worked (Did (run_no 1) 0 Fine ∷ []) ∷ give 5 0 2 (Commands 0) Worked (Did (run_no 2) 0 Fine ∷ [])
      ∷ give 6 1 2 (Commands 1) Worked (Did (run_no 2) 1 Fine ∷ []) ∷ give 10 1 3 (Commands 0) Worked (Did (run_no 3) 0 Fine ∷ [])
      ∷ give 11 3 1 (Commands 1) Worked (Did (run_no 1) 1 Fine ∷ []) ∷ give 12 2 1 (Commands 2) Worked (Did (run_no 1) 2 Fine ∷ [])
      ∷ give 14 2 3 (Commands 1) Worked (Did (run_no 3) 1 Fine ∷ []) ∷ [];
  calls = 2 ∷ 2 ∷ 2 ∷ 1 ∷ [];
  outcome = record {
    order = Ran (run_no 1) ∷ Ran (run_no 2) ∷ Ran (run_no 3) ∷ [];
    home = record { value = 0; up = true } ∷ record { value = 0; up = true } ∷ record { value = 0; up = true } ∷ record { value = 20; up = true } ∷ [];
    answers =
        record { run = run_no 1; answers = Fine ∷ Fine ∷ Fine ∷ [] } ∷ record { run = run_no 2; answers = Fine ∷ Fine ∷ [] }
        ∷ record { run = run_no 3; answers = Fine ∷ Fine ∷ [] } ∷ [];
  };
}

is_worked : IsWorked window history table
unfolding chosen closure either_of gap_set others split_of
is_worked = record { points = refl; clauses = refl; gives = refl; calls = refl; ended = refl; allowed = refl; order = refl; answers = refl }
