-- The window follows-behind-live-run: the run that a run follows has committed behind a live one, and the follower stands behind it.
use Rattle.worked_windows.proofs.Prelude.{Always}
use Rattle.worked_windows.proofs.Words.{Absent, Arrived, At, Busy, Commands, Committed, Did, Ended, Entry, Eventual, Fine, HandsOut, IsWorked, JustInTime, List, Moves, None, Over, Placed, Ran, Set, Setting, Some, Table, Waits, Worked, [], device_no, give, held, home_of_four, more, no_grips, refl, row, run_no, slice_set, split_at, split_of, still, true, ◌++◌, ◌∷◌}

abbrev pub window : Setting
window = record home_of_four {
  runs = record { commands = record { device = device_no 1; job = Set 1; when = Always; must = true; ms = 100; takes = 100 } ∷ record { device = device_no 3; job = Set 20; when = Always; must = true; ms = 100; takes = 100 } ∷ []; follows = None }
      ∷ record { commands = record { device = device_no 1; job = Set 0; when = Always; must = true; ms = 100; takes = 100 } ∷ []; follows = None }
      ∷ record { commands = record { device = device_no 2; job = Set 1; when = Always; must = true; ms = 100; takes = 100 } ∷ []; follows = Some (run_no 2) } ∷ [];
  mode = record { model = Eventual; scheduler = JustInTime };
}

abbrev pub history : List Entry
history = Arrived (run_no 1) 0 ∷ Placed (run_no 1) 0 0 ∷ Did (run_no 1) 0 Fine ∷ Arrived (run_no 2) 100 ∷ Placed (run_no 2) 1 100
    ∷ Did (run_no 2) 0 Fine ∷ Ended (run_no 2) Committed ∷ Arrived (run_no 3) 200 ∷ Placed (run_no 3) 2 200 ∷ Did (run_no 3) 0 Fine
    ∷ Ended (run_no 3) Committed ∷ Did (run_no 1) 1 Fine ∷ Ended (run_no 1) Committed ∷ []

abbrev pub table : Table
table = record {
  first = record {
    line = [];
    up = true ∷ true ∷ true ∷ true ∷ [];
    writers = None ∷ None ∷ None ∷ None ∷ [];
    values = 0 ∷ 0 ∷ 0 ∷ 18 ∷ [];
    holders = [] ∷ [] ∷ [] ∷ [] ∷ [];
    touched = [] ∷ [] ∷ [] ∷ [] ∷ [];
    first_places = [];
    places = [];
    overdue = [];
    starts = [];
    ends = [];
    whole_ends = [];
    choices = Absent ∷ Moves (Arrived (run_no 1) 0 ∷ []) ∷ Moves (Arrived (run_no 2) 0 ∷ []) ∷ Moves (Arrived (run_no 3) 0 ∷ []) ∷ [];
  };
  rows = still 0 no_grips 0
      ∷ row 1 no_grips 0 (λ p. record p { first_places = 0 ∷ []; places = At (split_at [] 0) ∷ []; choices = slice_set p.choices 1 (Moves (Placed (run_no 1) 0 0 ∷ [])) })
      ∷ row 2 no_grips 0 (λ p. record p {
        line = Ran (run_no 1) ∷ [];
        holders = [] ∷ (1 ∷ []) ∷ [] ∷ (1 ∷ []) ∷ [];
        first_places = [];
        places = [];
        overdue = (None ∷ None ∷ None ∷ None ∷ []) ∷ [];
        starts = (0 ∷ 100 ∷ []) ∷ [];
        ends = (100 ∷ 200 ∷ []) ∷ [];
        whole_ends = 200 ∷ [];
        choices = slice_set p.choices 1 (HandsOut 1 (Commands 0));
      })
      ∷ row 2 (held 1 1 (Commands 0) no_grips) 0 (λ p. record p { touched = [] ∷ (1 ∷ []) ∷ [] ∷ [] ∷ []; choices = slice_set p.choices 1 (Waits (Busy (device_no 1))) })
      ∷ row 3 no_grips 100 (λ p. record p { writers = None ∷ Some 1 ∷ None ∷ None ∷ []; values = 0 ∷ 1 ∷ 0 ∷ 18 ∷ []; holders = [] ∷ [] ∷ [] ∷ (1 ∷ []) ∷ []; choices = Absent ∷ HandsOut 3 (Commands 1) ∷ Moves (Arrived (run_no 2) 100 ∷ []) ∷ Moves (Arrived (run_no 3) 100 ∷ []) ∷ [] })
      ∷ row 4 no_grips 100 (λ p. record p { first_places = 1 ∷ []; places = At (split_at (Ran (run_no 1) ∷ []) 1) ∷ []; choices = slice_set p.choices 2 (Moves (Placed (run_no 2) 1 100 ∷ [])) })
      ∷ row 5 no_grips 100 (λ p. record p {
        line = Ran (run_no 1) ∷ Ran (run_no 2) ∷ [];
        holders = [] ∷ (2 ∷ []) ∷ [] ∷ (1 ∷ []) ∷ [];
        first_places = [];
        places = [];
        overdue = more 0 (None ∷ None ∷ None ∷ None ∷ []) p.overdue;
        starts = (0 ∷ 100 ∷ []) ∷ (100 ∷ []) ∷ [];
        ends = (100 ∷ 200 ∷ []) ∷ (200 ∷ []) ∷ [];
        whole_ends = 200 ∷ 200 ∷ [];
        choices = slice_set p.choices 2 (HandsOut 1 (Commands 0));
      })
      ∷ row 5 (held 1 2 (Commands 0) no_grips) 100 (λ p. record p { touched = [] ∷ (1 ∷ 2 ∷ []) ∷ [] ∷ [] ∷ []; choices = slice_set p.choices 2 (Waits (Busy (device_no 1))) })
      ∷ row 6 no_grips 200 (λ p. record p { writers = None ∷ Some 2 ∷ None ∷ None ∷ []; values = 0 ∷ 0 ∷ 0 ∷ 18 ∷ []; holders = [] ∷ [] ∷ [] ∷ (1 ∷ []) ∷ []; choices = slice_set (slice_set p.choices 2 (Over Committed (Ended (run_no 2) Committed ∷ []))) 3 (Moves (Arrived (run_no 3) 200 ∷ [])) })
      ∷ row 7 no_grips 200 (λ p. record p { overdue = (None ∷ None ∷ None ∷ None ∷ []) ∷ []; starts = (0 ∷ 100 ∷ []) ∷ []; ends = (100 ∷ 200 ∷ []) ∷ []; whole_ends = 200 ∷ []; choices = slice_set p.choices 2 (Over Committed []) })
      ∷ row 8 no_grips 200 (λ p. record p { first_places = 2 ∷ []; places = At (split_at (Ran (run_no 1) ∷ Ran (run_no 2) ∷ []) 2) ∷ []; choices = slice_set p.choices 3 (Moves (Placed (run_no 3) 2 200 ∷ [])) })
      ∷ row 9 no_grips 200 (λ p. record p {
        line = p.line ++ Ran (run_no 3) ∷ [];
        holders = [] ∷ [] ∷ (3 ∷ []) ∷ (1 ∷ []) ∷ [];
        first_places = [];
        places = [];
        overdue = more 0 (None ∷ None ∷ None ∷ None ∷ []) p.overdue;
        starts = (0 ∷ 100 ∷ []) ∷ (200 ∷ []) ∷ [];
        ends = (100 ∷ 200 ∷ []) ∷ (300 ∷ []) ∷ [];
        whole_ends = 200 ∷ 300 ∷ [];
        choices = slice_set p.choices 3 (HandsOut 2 (Commands 0));
      })
      ∷ row 9 (held 2 3 (Commands 0) no_grips) 200 (λ p. record p { touched = [] ∷ (1 ∷ 2 ∷ []) ∷ (3 ∷ []) ∷ [] ∷ []; choices = slice_set p.choices 3 (Waits (Busy (device_no 2))) })
      ∷ row 10 no_grips 300 (λ p. record p { writers = None ∷ Some 2 ∷ Some 3 ∷ None ∷ []; values = 0 ∷ 0 ∷ 1 ∷ 18 ∷ []; holders = [] ∷ [] ∷ [] ∷ (1 ∷ []) ∷ []; choices = slice_set p.choices 3 (Over Committed (Ended (run_no 3) Committed ∷ [])) })
      ∷ row 11 no_grips 300 (λ p. record p { overdue = (None ∷ None ∷ None ∷ None ∷ []) ∷ []; starts = (0 ∷ 100 ∷ []) ∷ []; ends = (100 ∷ 200 ∷ []) ∷ []; whole_ends = 200 ∷ []; choices = slice_set p.choices 3 (Over Committed []) })
      ∷ row 11 (held 3 1 (Commands 1) no_grips) 300 (λ p. record p { touched = [] ∷ (1 ∷ 2 ∷ []) ∷ (3 ∷ []) ∷ (1 ∷ []) ∷ []; choices = slice_set p.choices 1 (Waits (Busy (device_no 3))) })
      ∷ row 12 no_grips 400 (λ p. record p { writers = None ∷ Some 2 ∷ Some 3 ∷ Some 1 ∷ []; values = 0 ∷ 0 ∷ 1 ∷ 20 ∷ []; holders = [] ∷ [] ∷ [] ∷ [] ∷ []; choices = slice_set p.choices 1 (Over Committed (Ended (run_no 1) Committed ∷ [])) })
      ∷ row 13 no_grips 400 (λ p. record p { overdue = []; starts = []; ends = []; whole_ends = []; choices = slice_set p.choices 1 (Over Committed []) }) ∷ [];
  gives = give 2 1 1 (Commands 0) Worked (Did (run_no 1) 0 Fine ∷ []) ∷ give 5 1 2 (Commands 0) Worked (Did (run_no 2) 0 Fine ∷ [])
      ∷ give 9 2 3 (Commands 0) Worked (Did (run_no 3) 0 Fine ∷ []) ∷ give 11 3 1 (Commands 1) Worked (Did (run_no 1) 1 Fine ∷ []) ∷ [];
  calls = 0 ∷ 2 ∷ 1 ∷ 1 ∷ [];
  outcome = record {
    order = Ran (run_no 1) ∷ Ran (run_no 2) ∷ Ran (run_no 3) ∷ [];
    home = record { value = 0; up = true } ∷ record { value = 0; up = true } ∷ record { value = 1; up = true } ∷ record { value = 20; up = true } ∷ [];
    answers =
        record { run = run_no 1; answers = Fine ∷ Fine ∷ [] } ∷ record { run = run_no 2; answers = Fine ∷ [] }
        ∷ record { run = run_no 3; answers = Fine ∷ [] } ∷ [];
  };
}

is_worked : IsWorked window history table
unfolding split_of
is_worked = record { points = refl; clauses = refl; gives = refl; calls = refl; ended = refl; allowed = refl; order = refl; answers = refl }
