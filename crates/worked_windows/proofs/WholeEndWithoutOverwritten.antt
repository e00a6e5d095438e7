-- The window whole-end-without-overwritten: timeline: a device that a committed run behind it has written does not count in a whole planned end.
use Rattle.worked_windows.proofs.Prelude.{Always}
use Rattle.worked_windows.proofs.Words.{Absent, Arrived, At, Busy, Check, Commands, Committed, Did, Dirty, Ended, Entry, Eventual, Fine, Found, HandsOut, IsWorked, List, Moves, None, Over, Placed, Ran, Range, Sensed, Set, Setting, Some, States, Table, Timeline, Waits, Worked, [], chosen, closure, device_no, either_of, gap_set, give, held, more, no_grips, others, refl, row, run_no, slice_set, split_at, split_of, still, true, ◌∷◌}

abbrev pub window : Setting
window = record {
  runs = record { commands = record { device = device_no 0; job = Set 1; when = Always; must = true; ms = 100; takes = 100 } ∷ record { device = device_no 1; job = Set 20; when = Always; must = true; ms = 2000; takes = 2000 } ∷ []; follows = None }
      ∷ record { commands = record { device = device_no 1; job = Set 25; when = Always; must = true; ms = 10; takes = 10 } ∷ []; follows = None }
      ∷ record { commands = record { device = device_no 0; job = Check 1; when = Always; must = true; ms = 100; takes = 100 } ∷ record { device = device_no 2; job = Set 1; when = Always; must = true; ms = 100; takes = 100 } ∷ []; follows = None } ∷ [];
  mode = record { model = Eventual; scheduler = Timeline };
  kinds = States 2 ∷ Range 10 30 ∷ States 2 ∷ [];
  first = record { value = 0; up = true } ∷ record { value = 18; up = true } ∷ record { value = 0; up = true } ∷ [];
}

abbrev pub history : List Entry
history = Arrived (run_no 1) 0 ∷ Placed (run_no 1) 0 0 ∷ Did (run_no 1) 0 Fine ∷ Did (run_no 1) 1 Fine ∷ Arrived (run_no 2) 2100
    ∷ Placed (run_no 2) 1 2100 ∷ Did (run_no 2) 0 Fine ∷ Ended (run_no 2) Committed ∷ Arrived (run_no 3) 2110 ∷ Placed (run_no 3) 1 2110
    ∷ Ended (run_no 1) Committed ∷ Did (run_no 3) 0 (Found 1) ∷ Did (run_no 3) 1 Fine ∷ Ended (run_no 3) Committed ∷ []

abbrev pub table : Table
table = record {
  first = record {
    line = [];
    up = true ∷ true ∷ true ∷ [];
    writers = None ∷ None ∷ None ∷ [];
    values = 0 ∷ 18 ∷ 0 ∷ [];
    holders = [] ∷ [] ∷ [] ∷ [];
    touched = [] ∷ [] ∷ [] ∷ [];
    first_places = [];
    places = [];
    overdue = [];
    starts = [];
    ends = [];
    whole_ends = [];
    choices = Absent ∷ Moves (Arrived (run_no 1) 0 ∷ []) ∷ Moves (Arrived (run_no 2) 0 ∷ []) ∷ Moves (Arrived (run_no 3) 0 ∷ []) ∷ [];
  };
  rows = still 0 no_grips 0
      ∷ row 1 no_grips 0 (λ p. record p { first_places = 0 ∷ []; places = At (split_at [] 0) ∷ []; choices = slice_set p.choices 1 (Moves (Placed (run_no 1) 0 0 ∷ [])) })
      ∷ row 2 no_grips 0 (λ p. record p {
        line = Ran (run_no 1) ∷ [];
        holders = (1 ∷ []) ∷ (1 ∷ []) ∷ [] ∷ [];
        first_places = [];
        places = [];
        overdue = (None ∷ None ∷ None ∷ []) ∷ [];
        starts = (0 ∷ 100 ∷ []) ∷ [];
        ends = (100 ∷ 2100 ∷ []) ∷ [];
        whole_ends = 2100 ∷ [];
        choices = slice_set p.choices 1 (HandsOut 0 (Commands 0));
      })
      ∷ row 2 (held 0 1 (Commands 0) no_grips) 0 (λ p. record p { touched = (1 ∷ []) ∷ [] ∷ [] ∷ []; choices = slice_set p.choices 1 (Waits (Busy (device_no 0))) })
      ∷ row 3 no_grips 100 (λ p. record p { writers = Some 1 ∷ None ∷ None ∷ []; values = 1 ∷ 18 ∷ 0 ∷ []; holders = [] ∷ (1 ∷ []) ∷ [] ∷ []; choices = Absent ∷ HandsOut 1 (Commands 1) ∷ Moves (Arrived (run_no 2) 100 ∷ []) ∷ Moves (Arrived (run_no 3) 100 ∷ []) ∷ [] })
      ∷ row 3 (held 1 1 (Commands 1) no_grips) 100 (λ p. record p { touched = (1 ∷ []) ∷ (1 ∷ []) ∷ [] ∷ []; choices = slice_set p.choices 1 (Waits (Busy (device_no 1))) })
      ∷ row 4 no_grips 2100 (λ p. record p { writers = Some 1 ∷ Some 1 ∷ None ∷ []; values = 1 ∷ 20 ∷ 0 ∷ []; holders = [] ∷ [] ∷ [] ∷ []; choices = Absent ∷ Over Committed (Ended (run_no 1) Committed ∷ []) ∷ Moves (Arrived (run_no 2) 2100 ∷ []) ∷ Moves (Arrived (run_no 3) 2100 ∷ []) ∷ [] })
      ∷ row 5 no_grips 2100 (λ p. record p { first_places = 1 ∷ []; places = At (split_at (Ran (run_no 1) ∷ []) 1) ∷ []; choices = slice_set p.choices 2 (Moves (Placed (run_no 2) 1 2100 ∷ [])) })
      ∷ row 6 no_grips 2100 (λ p. record p {
        line = Ran (run_no 1) ∷ Ran (run_no 2) ∷ [];
        holders = [] ∷ (2 ∷ []) ∷ [] ∷ [];
        first_places = [];
        places = [];
        overdue = more 0 (None ∷ None ∷ None ∷ []) p.overdue;
        starts = (0 ∷ 100 ∷ []) ∷ (2100 ∷ []) ∷ [];
        ends = (100 ∷ 2100 ∷ []) ∷ (2110 ∷ []) ∷ [];
        whole_ends = 2100 ∷ 2110 ∷ [];
        choices = slice_set p.choices 2 (HandsOut 1 (Commands 0));
      })
      ∷ row 6 (held 1 2 (Commands 0) no_grips) 2100 (λ p. record p { touched = (1 ∷ []) ∷ (1 ∷ 2 ∷ []) ∷ [] ∷ []; choices = slice_set p.choices 2 (Waits (Busy (device_no 1))) })
      ∷ row 7 no_grips 2110 (λ p. record p { writers = Some 1 ∷ Some 2 ∷ None ∷ []; values = 1 ∷ 25 ∷ 0 ∷ []; holders = [] ∷ [] ∷ [] ∷ []; choices = slice_set (slice_set p.choices 2 (Over Committed (Ended (run_no 2) Committed ∷ []))) 3 (Moves (Arrived (run_no 3) 2110 ∷ [])) })
      ∷ row 8 no_grips 2110 (λ p. record p { overdue = (None ∷ None ∷ None ∷ []) ∷ []; starts = (0 ∷ 100 ∷ []) ∷ []; ends = (100 ∷ 2100 ∷ []) ∷ []; whole_ends = 100 ∷ []; choices = slice_set p.choices 2 (Over Committed []) })
      ∷ row 9 no_grips 2110 (λ p. record p { first_places = 1 ∷ []; places = At (split_at (Ran (run_no 1) ∷ Ran (run_no 2) ∷ []) 1) ∷ []; choices = slice_set p.choices 3 (Moves (Placed (run_no 3) 1 2110 ∷ [])) })
      ∷ row 10 no_grips 2110 (λ p. record p {
        line = more 1 (Ran (run_no 3)) p.line;
        holders = (3 ∷ []) ∷ [] ∷ (3 ∷ []) ∷ [];
        first_places = [];
        places = [];
        overdue = more 0 (None ∷ None ∷ None ∷ []) p.overdue;
        starts = (0 ∷ 100 ∷ []) ∷ (2110 ∷ 2210 ∷ []) ∷ [];
        ends = (100 ∷ 2100 ∷ []) ∷ (2210 ∷ 2310 ∷ []) ∷ [];
        whole_ends = 100 ∷ 2310 ∷ [];
        choices = slice_set p.choices 3 (Waits (Dirty (device_no 0) (run_no 1)));
      })
      ∷ row 11 no_grips 2110 (λ p. record p { overdue = (None ∷ None ∷ None ∷ []) ∷ []; starts = (2110 ∷ 2210 ∷ []) ∷ []; ends = (2210 ∷ 2310 ∷ []) ∷ []; whole_ends = 2310 ∷ []; choices = Absent ∷ Over Committed [] ∷ Over Committed [] ∷ HandsOut 0 (Commands 0) ∷ [] })
      ∷ row 11 (held 0 3 (Commands 0) no_grips) 2110 (λ p. record p { touched = (1 ∷ 3 ∷ []) ∷ (1 ∷ 2 ∷ []) ∷ [] ∷ []; choices = slice_set p.choices 3 (Waits (Busy (device_no 0))) })
      ∷ row 12 no_grips 2210 (λ p. record p { holders = [] ∷ [] ∷ (3 ∷ []) ∷ []; choices = slice_set p.choices 3 (HandsOut 2 (Commands 1)) })
      ∷ row 12 (held 2 3 (Commands 1) no_grips) 2210 (λ p. record p { touched = (1 ∷ 3 ∷ []) ∷ (1 ∷ 2 ∷ []) ∷ (3 ∷ []) ∷ []; choices = slice_set p.choices 3 (Waits (Busy (device_no 2))) })
      ∷ row 13 no_grips 2310 (λ p. record p { writers = Some 1 ∷ Some 2 ∷ Some 3 ∷ []; values = 1 ∷ 25 ∷ 1 ∷ []; holders = [] ∷ [] ∷ [] ∷ []; choices = slice_set p.choices 3 (Over Committed (Ended (run_no 3) Committed ∷ [])) })
      ∷ row 14 no_grips 2310 (λ p. record p { overdue = []; starts = []; ends = []; whole_ends = []; choices = slice_set p.choices 3 (Over Committed []) }) ∷ [];
  gives = give 2 0 1 (Commands 0) Worked (Did (run_no 1) 0 Fine ∷ []) ∷ give 3 1 1 (Commands 1) Worked (Did (run_no 1) 1 Fine ∷ [])
      ∷ give 6 1 2 (Commands 0) Worked (Did (run_no 2) 0 Fine ∷ [])
      ∷ give 11 0 3 (Commands 0) (Sensed 1) (Did (run_no 3) 0 (Found 1) ∷ [])
      ∷ give 12 2 3 (Commands 1) Worked (Did (run_no 3) 1 Fine ∷ []) ∷ [];
  calls = 2 ∷ 2 ∷ 1 ∷ [];
  outcome = record {
    order = Ran (run_no 1) ∷ Ran (run_no 3) ∷ Ran (run_no 2) ∷ [];
    home = record { value = 1; up = true } ∷ record { value = 25; up = true } ∷ record { value = 1; up = true } ∷ [];
    answers =
        record { run = run_no 1; answers = Fine ∷ Fine ∷ [] } ∷ record { run = run_no 3; answers = (Found 1) ∷ Fine ∷ [] }
        ∷ record { run = run_no 2; answers = Fine ∷ [] } ∷ [];
  };
}

is_worked : IsWorked window history table
unfolding chosen closure either_of gap_set others split_of
is_worked = record { points = refl; clauses = refl; gives = refl; calls = refl; ended = refl; allowed = refl; order = refl; answers = refl }
