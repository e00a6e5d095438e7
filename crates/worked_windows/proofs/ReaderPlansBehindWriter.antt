-- The window reader-plans-behind-writer: timeline: the plan of a run that reads waits for the whole planned end of a writer before it.
use Rattle.worked_windows.proofs.Prelude.{Always}
use Rattle.worked_windows.proofs.Words.{Absent, Arrived, At, Busy, Commands, Committed, Did, Dirty, Ended, Entry, Eventual, Fine, Found, HandsOut, IsWorked, List, Load, Moves, None, Over, Placed, Ran, Range, Sensed, Set, Setting, Some, States, Table, Timeline, Waits, Worked, [], chosen, closure, device_no, either_of, gap_set, give, held, more, no_grips, others, refl, row, run_no, slice_set, split_at, split_of, still, true, ◌∷◌}

abbrev pub window : Setting
window = record {
  runs = record { commands = record { device = device_no 1; job = Set 20; when = Always; must = true; ms = 100; takes = 100 } ∷ record { device = device_no 0; job = Set 1; when = Always; must = true; ms = 1000; takes = 1000 } ∷ []; follows = None }
      ∷ record { commands = record { device = device_no 1; job = Load; when = Always; must = true; ms = 100; takes = 100 } ∷ record { device = device_no 2; job = Set 1; when = Always; must = true; ms = 100; takes = 100 } ∷ []; follows = None } ∷ [];
  mode = record { model = Eventual; scheduler = Timeline };
  kinds = States 2 ∷ Range 10 30 ∷ States 2 ∷ [];
  first = record { value = 0; up = true } ∷ record { value = 18; up = true } ∷ record { value = 0; up = true } ∷ [];
}

abbrev pub history : List Entry
history = Arrived (run_no 1) 0 ∷ Placed (run_no 1) 0 0 ∷ Did (run_no 1) 0 Fine ∷ Arrived (run_no 2) 100 ∷ Placed (run_no 2) 1 100
    ∷ Did (run_no 1) 1 Fine ∷ Ended (run_no 1) Committed ∷ Did (run_no 2) 0 (Found 20) ∷ Did (run_no 2) 1 Fine ∷ Ended (run_no 2) Committed ∷ []

abbrev pub table : Table
table = record {
  first = record {
    line = [];
    up = true ∷ true ∷ true ∷ [];
    writers = None ∷ None ∷ None ∷ [];
    values = 0 ∷ 18 ∷ 0 ∷ [];
    holders = [] ∷ [] ∷ [] ∷ [];
    touched = [] ∷ [] ∷ [] ∷ [];
    first_places = [];
    places = [];
    overdue = [];
    starts = [];
    ends = [];
    whole_ends = [];
    choices = Absent ∷ Moves (Arrived (run_no 1) 0 ∷ []) ∷ Moves (Arrived (run_no 2) 0 ∷ []) ∷ [];
  };
  rows = still 0 no_grips 0
      ∷ row 1 no_grips 0 (λ p. record p { first_places = 0 ∷ []; places = At (split_at [] 0) ∷ []; choices = slice_set p.choices 1 (Moves (Placed (run_no 1) 0 0 ∷ [])) })
      ∷ row 2 no_grips 0 (λ p. record p {
        line = Ran (run_no 1) ∷ [];
        holders = (1 ∷ []) ∷ (1 ∷ []) ∷ [] ∷ [];
        first_places = [];
        places = [];
        overdue = (None ∷ None ∷ None ∷ []) ∷ [];
        starts = (100 ∷ 0 ∷ []) ∷ [];
        ends = (1100 ∷ 100 ∷ []) ∷ [];
        whole_ends = 1100 ∷ [];
        choices = slice_set p.choices 1 (HandsOut 1 (Commands 0));
      })
      ∷ row 2 (held 1 1 (Commands 0) no_grips) 0 (λ p. record p { touched = [] ∷ (1 ∷ []) ∷ [] ∷ []; choices = slice_set p.choices 1 (Waits (Busy (device_no 1))) })
      ∷ row 3 no_grips 100 (λ p. record p { writers = None ∷ Some 1 ∷ None ∷ []; values = 0 ∷ 20 ∷ 0 ∷ []; holders = (1 ∷ []) ∷ [] ∷ [] ∷ []; choices = Absent ∷ HandsOut 0 (Commands 1) ∷ Moves (Arrived (run_no 2) 100 ∷ []) ∷ [] })
      ∷ row 4 no_grips 100 (λ p. record p { first_places = 1 ∷ []; places = At (split_at (Ran (run_no 1) ∷ []) 1) ∷ []; choices = slice_set p.choices 2 (Moves (Placed (run_no 2) 1 100 ∷ [])) })
      ∷ row 5 no_grips 100 (λ p. record p {
        line = Ran (run_no 1) ∷ Ran (run_no 2) ∷ [];
        holders = (1 ∷ []) ∷ (2 ∷ []) ∷ (2 ∷ []) ∷ [];
        first_places = [];
        places = [];
        overdue = more 0 (None ∷ None ∷ None ∷ []) p.overdue;
        starts = (100 ∷ 0 ∷ []) ∷ (1100 ∷ 1200 ∷ []) ∷ [];
        ends = (1100 ∷ 100 ∷ []) ∷ (1200 ∷ 1300 ∷ []) ∷ [];
        whole_ends = 1100 ∷ 1300 ∷ [];
        choices = slice_set p.choices 2 (Waits (Dirty (device_no 1) (run_no 1)));
      })
      ∷ row 5 (held 0 1 (Commands 1) no_grips) 100 (λ p. record p { touched = (1 ∷ []) ∷ (1 ∷ []) ∷ [] ∷ []; choices = slice_set p.choices 1 (Waits (Busy (device_no 0))) })
      ∷ row 6 no_grips 1100 (λ p. record p { writers = Some 1 ∷ Some 1 ∷ None ∷ []; values = 1 ∷ 20 ∷ 0 ∷ []; holders = [] ∷ (2 ∷ []) ∷ (2 ∷ []) ∷ []; choices = slice_set p.choices 1 (Over Committed (Ended (run_no 1) Committed ∷ [])) })
      ∷ row 7 no_grips 1100 (λ p. record p { overdue = (None ∷ None ∷ None ∷ []) ∷ []; starts = (1100 ∷ 1200 ∷ []) ∷ []; ends = (1200 ∷ 1300 ∷ []) ∷ []; whole_ends = 1300 ∷ []; choices = Absent ∷ Over Committed [] ∷ HandsOut 1 (Commands 0) ∷ [] })
      ∷ row 7 (held 1 2 (Commands 0) no_grips) 1100 (λ p. record p { touched = (1 ∷ []) ∷ (1 ∷ 2 ∷ []) ∷ [] ∷ []; choices = slice_set p.choices 2 (Waits (Busy (device_no 1))) })
      ∷ row 8 no_grips 1200 (λ p. record p { holders = [] ∷ [] ∷ (2 ∷ []) ∷ []; choices = slice_set p.choices 2 (HandsOut 2 (Commands 1)) })
      ∷ row 8 (held 2 2 (Commands 1) no_grips) 1200 (λ p. record p { touched = (1 ∷ []) ∷ (1 ∷ 2 ∷ []) ∷ (2 ∷ []) ∷ []; choices = slice_set p.choices 2 (Waits (Busy (device_no 2))) })
      ∷ row 9 no_grips 1300 (λ p. record p { writers = Some 1 ∷ Some 1 ∷ Some 2 ∷ []; values = 1 ∷ 20 ∷ 1 ∷ []; holders = [] ∷ [] ∷ [] ∷ []; choices = slice_set p.choices 2 (Over Committed (Ended (run_no 2) Committed ∷ [])) })
      ∷ row 10 no_grips 1300 (λ p. record p { overdue = []; starts = []; ends = []; whole_ends = []; choices = slice_set p.choices 2 (Over Committed []) }) ∷ [];
  gives = give 2 1 1 (Commands 0) Worked (Did (run_no 1) 0 Fine ∷ []) ∷ give 5 0 1 (Commands 1) Worked (Did (run_no 1) 1 Fine ∷ [])
      ∷ give 7 1 2 (Commands 0) (Sensed 20) (Did (run_no 2) 0 (Found 20) ∷ [])
      ∷ give 8 2 2 (Commands 1) Worked (Did (run_no 2) 1 Fine ∷ []) ∷ [];
  calls = 1 ∷ 2 ∷ 1 ∷ [];
  outcome = record {
    order = Ran (run_no 1) ∷ Ran (run_no 2) ∷ [];
    home = record { value = 1; up = true } ∷ record { value = 20; up = true } ∷ record { value = 1; up = true } ∷ [];
    answers = record { run = run_no 1; answers = Fine ∷ Fine ∷ [] } ∷ record { run = run_no 2; answers = (Found 20) ∷ Fine ∷ [] } ∷ [];
  };
}

is_worked : IsWorked window history table
unfolding chosen closure either_of gap_set others split_of
is_worked = record { points = refl; clauses = refl; gives = refl; calls = refl; ended = refl; allowed = refl; order = refl; answers = refl }
