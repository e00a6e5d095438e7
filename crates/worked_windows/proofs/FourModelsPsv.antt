-- The window four-models-psv: three runs under the partitioned model.
use Rattle.worked_windows.proofs.Prelude.{Always}
use Rattle.worked_windows.proofs.Words.{Absent, Arrived, At, Behind, Busy, Commands, Committed, Did, Ended, Entry, Fcfs, Fine, HandsOut, IsWorked, List, Moves, None, Over, Partitioned, Placed, Ran, Set, Setting, Some, Strict, Table, Waits, Worked, [], device_no, give, held, home_of_four, less, more, no_grips, refl, row, run_no, slice_set, split_at, split_of, still, true, ◌++◌, ◌∷◌}

abbrev pub window : Setting
window = record home_of_four {
  runs = record { commands = record { device = device_no 0; job = Set 1; when = Always; must = true; ms = 100; takes = 100 } ∷ record { device = device_no 1; job = Set 1; when = Always; must = true; ms = 100; takes = 100 } ∷ []; follows = None }
      ∷ record { commands = record { device = device_no 1; job = Set 0; when = Always; must = true; ms = 100; takes = 100 } ∷ record { device = device_no 0; job = Set 0; when = Always; must = true; ms = 100; takes = 100 } ∷ []; follows = None }
      ∷ record { commands = record { device = device_no 3; job = Set 25; when = Always; must = true; ms = 100; takes = 100 } ∷ []; follows = None } ∷ [];
  mode = record { model = Partitioned; scheduler = Fcfs };
}

abbrev pub history : List Entry
history = Arrived (run_no 1) 0 ∷ Placed (run_no 1) 0 0 ∷ Arrived (run_no 2) 0 ∷ Placed (run_no 2) 1 0 ∷ Arrived (run_no 3) 0
    ∷ Placed (run_no 3) 2 0 ∷ Did (run_no 1) 0 Fine ∷ Did (run_no 3) 0 Fine ∷ Ended (run_no 3) Committed ∷ Did (run_no 1) 1 Fine
    ∷ Ended (run_no 1) Committed ∷ Did (run_no 2) 0 Fine ∷ Did (run_no 2) 1 Fine ∷ Ended (run_no 2) Committed ∷ []

abbrev pub table : Table
table = record {
  first = record {
    line = [];
    up = true ∷ true ∷ true ∷ true ∷ [];
    writers = None ∷ None ∷ None ∷ None ∷ [];
    values = 0 ∷ 0 ∷ 0 ∷ 18 ∷ [];
    holders = [] ∷ [] ∷ [] ∷ [] ∷ [];
    touched = [] ∷ [] ∷ [] ∷ [] ∷ [];
    first_places = [];
    places = [];
    overdue = [];
    starts = [];
    ends = [];
    whole_ends = [];
    choices = Absent ∷ Moves (Arrived (run_no 1) 0 ∷ []) ∷ Moves (Arrived (run_no 2) 0 ∷ []) ∷ Moves (Arrived (run_no 3) 0 ∷ []) ∷ [];
  };
  rows = still 0 no_grips 0
      ∷ row 1 no_grips 0 (λ p. record p { first_places = 0 ∷ []; places = At (split_at [] 0) ∷ []; choices = slice_set p.choices 1 (Moves (Placed (run_no 1) 0 0 ∷ [])) })
      ∷ row 2 no_grips 0 (λ p. record p {
        line = Ran (run_no 1) ∷ [];
        holders = (1 ∷ []) ∷ (1 ∷ []) ∷ [] ∷ [] ∷ [];
        first_places = [];
        places = [];
        overdue = (None ∷ None ∷ None ∷ None ∷ []) ∷ [];
        starts = (0 ∷ 100 ∷ []) ∷ [];
        ends = (100 ∷ 200 ∷ []) ∷ [];
        whole_ends = 200 ∷ [];
        choices = slice_set p.choices 1 (HandsOut 0 (Commands 0));
      })
      ∷ row 3 no_grips 0 (λ p. record p { first_places = 0 ∷ []; places = At (split_at (Ran (run_no 1) ∷ []) 1) ∷ []; choices = slice_set p.choices 2 (Moves (Placed (run_no 2) 1 0 ∷ [])) })
      ∷ row 4 no_grips 0 (λ p. record p {
        line = Ran (run_no 1) ∷ Ran (run_no 2) ∷ [];
        holders = (1 ∷ 2 ∷ []) ∷ (1 ∷ 2 ∷ []) ∷ [] ∷ [] ∷ [];
        first_places = [];
        places = [];
        overdue = more 0 (None ∷ None ∷ None ∷ None ∷ []) p.overdue;
        starts = (0 ∷ 100 ∷ []) ∷ (100 ∷ 0 ∷ []) ∷ [];
        ends = (100 ∷ 200 ∷ []) ∷ (200 ∷ 100 ∷ []) ∷ [];
        whole_ends = 200 ∷ 200 ∷ [];
        choices = slice_set p.choices 2 (Waits (Behind (device_no 1) (run_no 1)));
      })
      ∷ row 5 no_grips 0 (λ p. record p { first_places = 0 ∷ []; places = At (split_at (Ran (run_no 1) ∷ Ran (run_no 2) ∷ []) 2) ∷ []; choices = slice_set p.choices 3 (Moves (Placed (run_no 3) 2 0 ∷ [])) })
      ∷ row 6 no_grips 0 (λ p. record p {
        line = p.line ++ Ran (run_no 3) ∷ [];
        holders = slice_set p.holders 3 (3 ∷ []);
        first_places = [];
        places = [];
        overdue = more 0 (None ∷ None ∷ None ∷ None ∷ []) p.overdue;
        starts = (0 ∷ 100 ∷ []) ∷ (100 ∷ 0 ∷ []) ∷ (0 ∷ []) ∷ [];
        ends = more 2 (100 ∷ []) p.ends;
        whole_ends = 200 ∷ 200 ∷ 100 ∷ [];
        choices = slice_set p.choices 3 (HandsOut 3 (Commands 0));
      })
      ∷ row 6 (held 0 1 (Commands 0) no_grips) 0 (λ p. record p { touched = (1 ∷ []) ∷ [] ∷ [] ∷ [] ∷ []; choices = slice_set p.choices 1 (Waits (Busy (device_no 0))) })
      ∷ row 6 (held 3 3 (Commands 0) (held 0 1 (Commands 0) no_grips)) 0 (λ p. record p { touched = (1 ∷ []) ∷ [] ∷ [] ∷ (3 ∷ []) ∷ []; choices = slice_set p.choices 3 (Waits (Busy (device_no 3))) })
      ∷ row 7 (held 3 3 (Commands 0) no_grips) 100 (λ p. record p { writers = Some 1 ∷ None ∷ None ∷ None ∷ []; values = 1 ∷ 0 ∷ 0 ∷ 18 ∷ []; holders = (2 ∷ []) ∷ (1 ∷ 2 ∷ []) ∷ [] ∷ (3 ∷ []) ∷ []; choices = slice_set p.choices 1 (HandsOut 1 (Commands 1)) })
      ∷ row 8 no_grips 200 (λ p. record p { writers = Some 1 ∷ None ∷ None ∷ Some 3 ∷ []; values = 1 ∷ 0 ∷ 0 ∷ 25 ∷ []; holders = (2 ∷ []) ∷ (1 ∷ 2 ∷ []) ∷ [] ∷ [] ∷ []; choices = slice_set p.choices 3 (Over Committed (Ended (run_no 3) Committed ∷ [])) })
      ∷ row 9 no_grips 200 (λ p. record p { overdue = less 0 p.overdue; starts = (0 ∷ 100 ∷ []) ∷ (100 ∷ 0 ∷ []) ∷ []; ends = (100 ∷ 200 ∷ []) ∷ (200 ∷ 100 ∷ []) ∷ []; whole_ends = 200 ∷ 200 ∷ []; choices = slice_set p.choices 3 (Over Committed []) })
      ∷ row 9 (held 1 1 (Commands 1) no_grips) 200 (λ p. record p { touched = (1 ∷ []) ∷ (1 ∷ []) ∷ [] ∷ (3 ∷ []) ∷ []; choices = slice_set p.choices 1 (Waits (Busy (device_no 1))) })
      ∷ row 10 no_grips 300 (λ p. record p { writers = Some 1 ∷ Some 1 ∷ None ∷ Some 3 ∷ []; values = 1 ∷ 1 ∷ 0 ∷ 25 ∷ []; holders = (2 ∷ []) ∷ (2 ∷ []) ∷ [] ∷ [] ∷ []; choices = Absent ∷ Over Committed (Ended (run_no 1) Committed ∷ []) ∷ Waits (Strict (run_no 1)) ∷ Over Committed [] ∷ [] })
      ∷ row 11 no_grips 300 (λ p. record p { overdue = (None ∷ None ∷ None ∷ None ∷ []) ∷ []; starts = (100 ∷ 0 ∷ []) ∷ []; ends = (200 ∷ 100 ∷ []) ∷ []; whole_ends = 200 ∷ []; choices = Absent ∷ Over Committed [] ∷ HandsOut 1 (Commands 0) ∷ Over Committed [] ∷ [] })
      ∷ row 11 (held 1 2 (Commands 0) no_grips) 300 (λ p. record p { touched = (1 ∷ []) ∷ (1 ∷ 2 ∷ []) ∷ [] ∷ (3 ∷ []) ∷ []; choices = slice_set p.choices 2 (Waits (Busy (device_no 1))) })
      ∷ row 12 no_grips 400 (λ p. record p { writers = Some 1 ∷ Some 2 ∷ None ∷ Some 3 ∷ []; values = 1 ∷ 0 ∷ 0 ∷ 25 ∷ []; holders = (2 ∷ []) ∷ [] ∷ [] ∷ [] ∷ []; choices = slice_set p.choices 2 (HandsOut 0 (Commands 1)) })
      ∷ row 12 (held 0 2 (Commands 1) no_grips) 400 (λ p. record p { touched = slice_set p.touched 0 (1 ∷ 2 ∷ []); choices = slice_set p.choices 2 (Waits (Busy (device_no 0))) })
      ∷ row 13 no_grips 500 (λ p. record p { writers = Some 2 ∷ Some 2 ∷ None ∷ Some 3 ∷ []; values = 0 ∷ 0 ∷ 0 ∷ 25 ∷ []; holders = [] ∷ [] ∷ [] ∷ [] ∷ []; choices = slice_set p.choices 2 (Over Committed (Ended (run_no 2) Committed ∷ [])) })
      ∷ row 14 no_grips 500 (λ p. record p { overdue = []; starts = []; ends = []; whole_ends = []; choices = slice_set p.choices 2 (Over Committed []) }) ∷ [];
  gives = give 6 0 1 (Commands 0) Worked (Did (run_no 1) 0 Fine ∷ []) ∷ give 7 3 3 (Commands 0) Worked (Did (run_no 3) 0 Fine ∷ [])
      ∷ give 9 1 1 (Commands 1) Worked (Did (run_no 1) 1 Fine ∷ []) ∷ give 11 1 2 (Commands 0) Worked (Did (run_no 2) 0 Fine ∷ [])
      ∷ give 12 0 2 (Commands 1) Worked (Did (run_no 2) 1 Fine ∷ []) ∷ [];
  calls = 2 ∷ 2 ∷ 0 ∷ 1 ∷ [];
  outcome = record {
    order = Ran (run_no 1) ∷ Ran (run_no 2) ∷ Ran (run_no 3) ∷ [];
    home = record { value = 0; up = true } ∷ record { value = 0; up = true } ∷ record { value = 0; up = true } ∷ record { value = 25; up = true } ∷ [];
    answers =
        record { run = run_no 1; answers = Fine ∷ Fine ∷ [] } ∷ record { run = run_no 2; answers = Fine ∷ Fine ∷ [] }
        ∷ record { run = run_no 3; answers = Fine ∷ [] } ∷ [];
  };
}

is_worked : IsWorked window history table
unfolding split_of
is_worked = record { points = refl; clauses = refl; gives = refl; calls = refl; ended = refl; allowed = refl; order = refl; answers = refl }
