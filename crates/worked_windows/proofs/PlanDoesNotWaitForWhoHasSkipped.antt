-- The window plan-does-not-wait-for-who-has-skipped: timeline: a device is free for a plan when the run that was to use it has skipped.
use Rattle.worked_windows.proofs.Words.{Absent, Always, Arrived, At, Busy, Commands, Committed, Did, Ended, Entry, Eventual, Fine, HandsOut, Is, IsWorked, List, Moves, None, Over, Placed, Ran, Set, Setting, Skipped, Some, Table, Timeline, Waits, Worked, [], chosen, closure, device_no, either_of, gap_set, give, held, home_of_four, less, more, no_grips, others, refl, row, run_no, slice_set, split_at, split_of, still, true, ◌∷◌}

abbrev pub window : Setting
window = record home_of_four {
  runs = record {
    commands =
        record { device = device_no 3; job = Set 20; when = Always; must = true; ms = 100; takes = 100 }
        ∷ record { device = device_no 0; job = Set 1; when = Is 5; must = true; ms = 1000; takes = 1000 }
        ∷ record { device = device_no 2; job = Set 1; when = Always; must = true; ms = 100; takes = 100 } ∷ [];
    follows = None;
  }
      ∷ record { commands = record { device = device_no 1; job = Set 1; when = Always; must = true; ms = 600; takes = 600 } ∷ record { device = device_no 0; job = Set 0; when = Always; must = true; ms = 100; takes = 100 } ∷ []; follows = None }
      ∷ record { commands = record { device = device_no 3; job = Set 25; when = Always; must = true; ms = 10; takes = 10 } ∷ record { device = device_no 0; job = Set 1; when = Always; must = true; ms = 10; takes = 10 } ∷ []; follows = None } ∷ [];
  mode = record { model = Eventual; scheduler = Timeline };
}

abbrev pub history : List Entry
history = Arrived (run_no 1) 0 ∷ Placed (run_no 1) 0 0 ∷ Arrived (run_no 2) 0 ∷ Placed (run_no 2) 1 0 ∷ Did (run_no 1) 0 Fine
    ∷ Did (run_no 1) 1 Skipped ∷ Arrived (run_no 3) 100 ∷ Placed (run_no 3) 1 100 ∷ Did (run_no 3) 0 Fine ∷ Did (run_no 3) 1 Fine
    ∷ Ended (run_no 3) Committed ∷ Did (run_no 1) 2 Fine ∷ Ended (run_no 1) Committed ∷ Did (run_no 2) 0 Fine ∷ Did (run_no 2) 1 Fine
    ∷ Ended (run_no 2) Committed ∷ []

abbrev pub table : Table
table = record {
  first = record {
    line = [];
    up = true ∷ true ∷ true ∷ true ∷ [];
    writers = None ∷ None ∷ None ∷ None ∷ [];
    values = 0 ∷ 0 ∷ 0 ∷ 18 ∷ [];
    holders = [] ∷ [] ∷ [] ∷ [] ∷ [];
    touched = [] ∷ [] ∷ [] ∷ [] ∷ [];
    first_places = [];
    places = [];
    overdue = [];
    starts = [];
    ends = [];
    whole_ends = [];
    choices = Absent ∷ Moves (Arrived (run_no 1) 0 ∷ []) ∷ Moves (Arrived (run_no 2) 0 ∷ []) ∷ Moves (Arrived (run_no 3) 0 ∷ []) ∷ [];
  };
  rows = still 0 no_grips 0
      ∷ row 1 no_grips 0 (λ p. record p { first_places = 0 ∷ []; places = At (split_at [] 0) ∷ []; choices = slice_set p.choices 1 (Moves (Placed (run_no 1) 0 0 ∷ [])) })
      ∷ row 2 no_grips 0 (λ p. record p {
        line = Ran (run_no 1) ∷ [];
        holders = (1 ∷ []) ∷ [] ∷ (1 ∷ []) ∷ (1 ∷ []) ∷ [];
        first_places = [];
        places = [];
        overdue = (None ∷ None ∷ None ∷ None ∷ []) ∷ [];
        starts = (100 ∷ 1100 ∷ 0 ∷ []) ∷ [];
        ends = (1100 ∷ 1200 ∷ 100 ∷ []) ∷ [];
        whole_ends = 1200 ∷ [];
        choices = slice_set p.choices 1 (HandsOut 3 (Commands 0));
      })
      ∷ row 3 no_grips 0 (λ p. record p { first_places = 0 ∷ []; places = At (split_at (Ran (run_no 1) ∷ []) 1) ∷ []; choices = slice_set p.choices 2 (Moves (Placed (run_no 2) 1 0 ∷ [])) })
      ∷ row 4 no_grips 0 (λ p. record p {
        line = Ran (run_no 1) ∷ Ran (run_no 2) ∷ [];
        holders = (1 ∷ 2 ∷ []) ∷ (2 ∷ []) ∷ (1 ∷ []) ∷ (1 ∷ []) ∷ [];
        first_places = [];
        places = [];
        overdue = more 0 (None ∷ None ∷ None ∷ None ∷ []) p.overdue;
        starts = (100 ∷ 1100 ∷ 0 ∷ []) ∷ (1100 ∷ 0 ∷ []) ∷ [];
        ends = more 1 (1200 ∷ 600 ∷ []) p.ends;
        whole_ends = 1200 ∷ 1200 ∷ [];
        choices = slice_set p.choices 2 (HandsOut 1 (Commands 0));
      })
      ∷ row 4 (held 3 1 (Commands 0) no_grips) 0 (λ p. record p { touched = [] ∷ [] ∷ [] ∷ (1 ∷ []) ∷ []; choices = slice_set p.choices 1 (Waits (Busy (device_no 3))) })
      ∷ row 5 no_grips 100 (λ p. record p { writers = None ∷ None ∷ None ∷ Some 1 ∷ []; values = 0 ∷ 0 ∷ 0 ∷ 20 ∷ []; holders = slice_set p.holders 3 []; choices = slice_set (slice_set p.choices 1 (Moves (Did (run_no 1) 1 Skipped ∷ []))) 3 (Moves (Arrived (run_no 3) 100 ∷ [])) })
      ∷ row 6 no_grips 100 (λ p. record p { holders = (2 ∷ []) ∷ (2 ∷ []) ∷ (1 ∷ []) ∷ [] ∷ []; choices = slice_set p.choices 1 (HandsOut 2 (Commands 2)) })
      ∷ row 7 no_grips 100 (λ p. record p { first_places = 1 ∷ []; places = At (split_at (Ran (run_no 1) ∷ Ran (run_no 2) ∷ []) 1) ∷ []; choices = slice_set p.choices 3 (Moves (Placed (run_no 3) 1 100 ∷ [])) })
      ∷ row 8 no_grips 100 (λ p. record p {
        line = more 1 (Ran (run_no 3)) p.line;
        holders = (2 ∷ 3 ∷ []) ∷ (2 ∷ []) ∷ (1 ∷ []) ∷ (3 ∷ []) ∷ [];
        first_places = [];
        places = [];
        overdue = more 0 (None ∷ None ∷ None ∷ None ∷ []) p.overdue;
        starts = more 1 (110 ∷ 100 ∷ []) p.starts;
        ends = more 1 (120 ∷ 110 ∷ []) p.ends;
        whole_ends = 1200 ∷ 120 ∷ 1200 ∷ [];
        choices = slice_set p.choices 3 (HandsOut 3 (Commands 0));
      })
      ∷ row 8 (held 2 1 (Commands 2) no_grips) 100 (λ p. record p { touched = [] ∷ [] ∷ (1 ∷ []) ∷ (1 ∷ []) ∷ []; choices = slice_set p.choices 1 (Waits (Busy (device_no 2))) })
      ∷ row 8 (held 3 3 (Commands 0) (held 2 1 (Commands 2) no_grips)) 100 (λ p. record p { touched = [] ∷ [] ∷ (1 ∷ []) ∷ (1 ∷ 3 ∷ []) ∷ []; choices = slice_set p.choices 3 (Waits (Busy (device_no 3))) })
      ∷ row 9 (held 2 1 (Commands 2) no_grips) 110 (λ p. record p { writers = None ∷ None ∷ None ∷ Some 3 ∷ []; values = 0 ∷ 0 ∷ 0 ∷ 25 ∷ []; holders = slice_set p.holders 3 []; choices = slice_set p.choices 3 (HandsOut 0 (Commands 1)) })
      ∷ row 9 (held 0 3 (Commands 1) (held 2 1 (Commands 2) no_grips)) 110 (λ p. record p { touched = (3 ∷ []) ∷ [] ∷ (1 ∷ []) ∷ (1 ∷ 3 ∷ []) ∷ []; choices = slice_set p.choices 3 (Waits (Busy (device_no 0))) })
      ∷ row 10 (held 2 1 (Commands 2) no_grips) 120 (λ p. record p { writers = Some 3 ∷ None ∷ None ∷ Some 3 ∷ []; values = 1 ∷ 0 ∷ 0 ∷ 25 ∷ []; holders = (2 ∷ []) ∷ (2 ∷ []) ∷ (1 ∷ []) ∷ [] ∷ []; choices = slice_set p.choices 3 (Over Committed (Ended (run_no 3) Committed ∷ [])) })
      ∷ row 11 (held 2 1 (Commands 2) no_grips) 120 (λ p. record p { overdue = less 0 p.overdue; starts = less 1 p.starts; ends = less 1 p.ends; whole_ends = 1200 ∷ 1200 ∷ []; choices = slice_set p.choices 3 (Over Committed []) })
      ∷ row 12 no_grips 220 (λ p. record p { writers = Some 3 ∷ None ∷ Some 1 ∷ Some 3 ∷ []; values = 1 ∷ 0 ∷ 1 ∷ 25 ∷ []; holders = (2 ∷ []) ∷ (2 ∷ []) ∷ [] ∷ [] ∷ []; choices = slice_set p.choices 1 (Over Committed (Ended (run_no 1) Committed ∷ [])) })
      ∷ row 13 no_grips 220 (λ p. record p { overdue = (None ∷ None ∷ None ∷ None ∷ []) ∷ []; starts = (1100 ∷ 0 ∷ []) ∷ []; ends = (1200 ∷ 600 ∷ []) ∷ []; whole_ends = 1200 ∷ []; choices = slice_set p.choices 1 (Over Committed []) })
      ∷ row 13 (held 1 2 (Commands 0) no_grips) 220 (λ p. record p { touched = slice_set p.touched 1 (2 ∷ []); choices = slice_set p.choices 2 (Waits (Busy (device_no 1))) })
      ∷ row 14 no_grips 820 (λ p. record p { writers = Some 3 ∷ Some 2 ∷ Some 1 ∷ Some 3 ∷ []; values = 1 ∷ 1 ∷ 1 ∷ 25 ∷ []; holders = (2 ∷ []) ∷ [] ∷ [] ∷ [] ∷ []; choices = slice_set p.choices 2 (HandsOut 0 (Commands 1)) })
      ∷ row 14 (held 0 2 (Commands 1) no_grips) 820 (λ p. record p { touched = slice_set p.touched 0 (2 ∷ 3 ∷ []); choices = slice_set p.choices 2 (Waits (Busy (device_no 0))) })
      ∷ row 15 no_grips 920 (λ p. record p { writers = Some 2 ∷ Some 2 ∷ Some 1 ∷ Some 3 ∷ []; values = 0 ∷ 1 ∷ 1 ∷ 25 ∷ []; holders = [] ∷ [] ∷ [] ∷ [] ∷ []; choices = slice_set p.choices 2 (Over Committed (Ended (run_no 2) Committed ∷ [])) })
      ∷ row 16 no_grips 920 (λ p. record p { overdue = []; starts = []; ends = []; whole_ends = []; choices = slice_set p.choices 2 (Over Committed []) }) ∷ [];
  gives = give 4 3 1 (Commands 0) Worked (Did (run_no 1) 0 Fine ∷ []) ∷ give 8 3 3 (Commands 0) Worked (Did (run_no 3) 0 Fine ∷ [])
      ∷ give 9 0 3 (Commands 1) Worked (Did (run_no 3) 1 Fine ∷ []) ∷ give 11 2 1 (Commands 2) Worked (Did (run_no 1) 2 Fine ∷ [])
      ∷ give 13 1 2 (Commands 0) Worked (Did (run_no 2) 0 Fine ∷ []) ∷ give 14 0 2 (Commands 1) Worked (Did (run_no 2) 1 Fine ∷ []) ∷ [];
  calls = 2 ∷ 1 ∷ 1 ∷ 2 ∷ [];
  outcome = record {
    order = Ran (run_no 1) ∷ Ran (run_no 3) ∷ Ran (run_no 2) ∷ [];
    home = record { value = 0; up = true } ∷ record { value = 1; up = true } ∷ record { value = 1; up = true } ∷ record { value = 25; up = true } ∷ [];
    answers =
        record { run = run_no 1; answers = Fine ∷ Skipped ∷ Fine ∷ [] } ∷ record { run = run_no 3; answers = Fine ∷ Fine ∷ [] }
        ∷ record { run = run_no 2; answers = Fine ∷ Fine ∷ [] } ∷ [];
  };
}

is_worked : IsWorked window history table
unfolding chosen closure either_of gap_set others split_of
is_worked = record { points = refl; clauses = refl; gives = refl; calls = refl; ended = refl; allowed = refl; order = refl; answers = refl }
