-- The window released-lamp-overwritten: a run lets its lamp go, and a later one overwrites it and commits first.
use Rattle.worked_windows.proofs.Prelude.{Always}
use Rattle.worked_windows.proofs.Words.{Absent, Arrived, At, Behind, Busy, Commands, Committed, Did, Ended, Entry, Eventual, Fcfs, Fine, HandsOut, IsWorked, List, Moves, None, Over, Placed, Ran, Set, Setting, Some, Table, Waits, Worked, [], device_no, give, held, home_of_four, more, no_grips, refl, row, run_no, slice_set, split_at, split_of, still, true, ◌∷◌}

abbrev pub window : Setting
window = record home_of_four {
  runs = record { commands = record { device = device_no 0; job = Set 1; when = Always; must = true; ms = 100; takes = 100 } ∷ record { device = device_no 1; job = Set 1; when = Always; must = true; ms = 100; takes = 100 } ∷ []; follows = None }
      ∷ record { commands = record { device = device_no 0; job = Set 0; when = Always; must = true; ms = 100; takes = 100 } ∷ []; follows = None } ∷ [];
  mode = record { model = Eventual; scheduler = Fcfs };
}

abbrev pub history : List Entry
history = Arrived (run_no 1) 0 ∷ Placed (run_no 1) 0 0 ∷ Arrived (run_no 2) 0 ∷ Placed (run_no 2) 1 0 ∷ Did (run_no 1) 0 Fine
    ∷ Did (run_no 2) 0 Fine ∷ Ended (run_no 2) Committed ∷ Did (run_no 1) 1 Fine ∷ Ended (run_no 1) Committed ∷ []

abbrev pub table : Table
table = record {
  first = record {
    line = [];
    up = true ∷ true ∷ true ∷ true ∷ [];
    writers = None ∷ None ∷ None ∷ None ∷ [];
    values = 0 ∷ 0 ∷ 0 ∷ 18 ∷ [];
    holders = [] ∷ [] ∷ [] ∷ [] ∷ [];
    touched = [] ∷ [] ∷ [] ∷ [] ∷ [];
    first_places = [];
    places = [];
    overdue = [];
    starts = [];
    ends = [];
    whole_ends = [];
    choices = Absent ∷ Moves (Arrived (run_no 1) 0 ∷ []) ∷ Moves (Arrived (run_no 2) 0 ∷ []) ∷ [];
  };
  rows = still 0 no_grips 0
      ∷ row 1 no_grips 0 (λ p. record p { first_places = 0 ∷ []; places = At (split_at [] 0) ∷ []; choices = slice_set p.choices 1 (Moves (Placed (run_no 1) 0 0 ∷ [])) })
      ∷ row 2 no_grips 0 (λ p. record p {
        line = Ran (run_no 1) ∷ [];
        holders = (1 ∷ []) ∷ (1 ∷ []) ∷ [] ∷ [] ∷ [];
        first_places = [];
        places = [];
        overdue = (None ∷ None ∷ None ∷ None ∷ []) ∷ [];
        starts = (0 ∷ 100 ∷ []) ∷ [];
        ends = (100 ∷ 200 ∷ []) ∷ [];
        whole_ends = 200 ∷ [];
        choices = slice_set p.choices 1 (HandsOut 0 (Commands 0));
      })
      ∷ row 3 no_grips 0 (λ p. record p { first_places = 0 ∷ []; places = At (split_at (Ran (run_no 1) ∷ []) 1) ∷ []; choices = slice_set p.choices 2 (Moves (Placed (run_no 2) 1 0 ∷ [])) })
      ∷ row 4 no_grips 0 (λ p. record p {
        line = Ran (run_no 1) ∷ Ran (run_no 2) ∷ [];
        holders = (1 ∷ 2 ∷ []) ∷ (1 ∷ []) ∷ [] ∷ [] ∷ [];
        first_places = [];
        places = [];
        overdue = more 0 (None ∷ None ∷ None ∷ None ∷ []) p.overdue;
        starts = (0 ∷ 100 ∷ []) ∷ (0 ∷ []) ∷ [];
        ends = (100 ∷ 200 ∷ []) ∷ (100 ∷ []) ∷ [];
        whole_ends = 200 ∷ 100 ∷ [];
        choices = slice_set p.choices 2 (Waits (Behind (device_no 0) (run_no 1)));
      })
      ∷ row 4 (held 0 1 (Commands 0) no_grips) 0 (λ p. record p { touched = (1 ∷ []) ∷ [] ∷ [] ∷ [] ∷ []; choices = slice_set p.choices 1 (Waits (Busy (device_no 0))) })
      ∷ row 5 no_grips 100 (λ p. record p { writers = Some 1 ∷ None ∷ None ∷ None ∷ []; values = 1 ∷ 0 ∷ 0 ∷ 18 ∷ []; holders = (2 ∷ []) ∷ (1 ∷ []) ∷ [] ∷ [] ∷ []; choices = Absent ∷ HandsOut 1 (Commands 1) ∷ HandsOut 0 (Commands 0) ∷ [] })
      ∷ row 5 (held 0 2 (Commands 0) no_grips) 100 (λ p. record p { touched = (1 ∷ 2 ∷ []) ∷ [] ∷ [] ∷ [] ∷ []; choices = slice_set p.choices 2 (Waits (Busy (device_no 0))) })
      ∷ row 6 no_grips 200 (λ p. record p { writers = Some 2 ∷ None ∷ None ∷ None ∷ []; values = 0 ∷ 0 ∷ 0 ∷ 18 ∷ []; holders = [] ∷ (1 ∷ []) ∷ [] ∷ [] ∷ []; choices = slice_set p.choices 2 (Over Committed (Ended (run_no 2) Committed ∷ [])) })
      ∷ row 7 no_grips 200 (λ p. record p { overdue = (None ∷ None ∷ None ∷ None ∷ []) ∷ []; starts = (0 ∷ 100 ∷ []) ∷ []; ends = (100 ∷ 200 ∷ []) ∷ []; whole_ends = 200 ∷ []; choices = slice_set p.choices 2 (Over Committed []) })
      ∷ row 7 (held 1 1 (Commands 1) no_grips) 200 (λ p. record p { touched = (1 ∷ 2 ∷ []) ∷ (1 ∷ []) ∷ [] ∷ [] ∷ []; choices = slice_set p.choices 1 (Waits (Busy (device_no 1))) })
      ∷ row 8 no_grips 300 (λ p. record p { writers = Some 2 ∷ Some 1 ∷ None ∷ None ∷ []; values = 0 ∷ 1 ∷ 0 ∷ 18 ∷ []; holders = [] ∷ [] ∷ [] ∷ [] ∷ []; choices = slice_set p.choices 1 (Over Committed (Ended (run_no 1) Committed ∷ [])) })
      ∷ row 9 no_grips 300 (λ p. record p { overdue = []; starts = []; ends = []; whole_ends = []; choices = slice_set p.choices 1 (Over Committed []) }) ∷ [];
  gives = give 4 0 1 (Commands 0) Worked (Did (run_no 1) 0 Fine ∷ []) ∷ give 5 0 2 (Commands 0) Worked (Did (run_no 2) 0 Fine ∷ [])
      ∷ give 7 1 1 (Commands 1) Worked (Did (run_no 1) 1 Fine ∷ []) ∷ [];
  calls = 2 ∷ 1 ∷ 0 ∷ 0 ∷ [];
  outcome = record {
    order = Ran (run_no 1) ∷ Ran (run_no 2) ∷ [];
    home = record { value = 0; up = true } ∷ record { value = 1; up = true } ∷ record { value = 0; up = true } ∷ record { value = 18; up = true } ∷ [];
    answers = record { run = run_no 1; answers = Fine ∷ Fine ∷ [] } ∷ record { run = run_no 2; answers = Fine ∷ [] } ∷ [];
  };
}

is_worked : IsWorked window history table
unfolding split_of
is_worked = record { points = refl; clauses = refl; gives = refl; calls = refl; ended = refl; allowed = refl; order = refl; answers = refl }
