-- The window skip-revokes-no-overdue-lease: just in time: a lender revokes no overdue lease by a command that is skipped; the deadline counts what may be skipped.
use Rattle.worked_windows.proofs.Words.{Absent, Always, Arrived, At, Busy, Commands, Committed, Did, Ended, Entry, Eventual, Fine, HandsOut, Is, IsWorked, JustInTime, List, Moves, None, Over, Placed, Ran, Set, Setting, Skipped, Some, Table, Waits, Worked, [], device_no, give, held, home_of_four, less, more, no_grips, refl, row, run_no, slice_set, split_at, split_of, still, true, ◌∷◌}

abbrev pub window : Setting
window = record home_of_four {
  runs = record { commands = record { device = device_no 1; job = Set 1; when = Always; must = true; ms = 100; takes = 100 } ∷ record { device = device_no 0; job = Set 1; when = Is 5; must = true; ms = 100; takes = 100 } ∷ []; follows = None }
      ∷ record { commands = record { device = device_no 3; job = Set 20; when = Is 5; must = true; ms = 100; takes = 100 } ∷ record { device = device_no 0; job = Set 1; when = Always; must = true; ms = 100; takes = 100 } ∷ []; follows = None }
      ∷ record { commands = record { device = device_no 2; job = Set 1; when = Always; must = true; ms = 100; takes = 220 } ∷ record { device = device_no 2; job = Set 0; when = Always; must = true; ms = 100; takes = 1 } ∷ []; follows = None } ∷ [];
  mode = record { model = Eventual; scheduler = JustInTime };
}

abbrev pub history : List Entry
history = Arrived (run_no 1) 0 ∷ Placed (run_no 1) 0 0 ∷ Did (run_no 1) 0 Fine ∷ Arrived (run_no 2) 100 ∷ Placed (run_no 2) 0 100
    ∷ Arrived (run_no 3) 100 ∷ Placed (run_no 3) 0 100 ∷ Did (run_no 3) 0 Fine ∷ Did (run_no 3) 1 Fine ∷ Did (run_no 1) 1 Skipped
    ∷ Ended (run_no 1) Committed ∷ Did (run_no 2) 0 Skipped ∷ Did (run_no 2) 1 Fine ∷ Ended (run_no 2) Committed ∷ Ended (run_no 3) Committed ∷ []

abbrev pub table : Table
table = record {
  first = record {
    line = [];
    up = true ∷ true ∷ true ∷ true ∷ [];
    writers = None ∷ None ∷ None ∷ None ∷ [];
    values = 0 ∷ 0 ∷ 0 ∷ 18 ∷ [];
    holders = [] ∷ [] ∷ [] ∷ [] ∷ [];
    touched = [] ∷ [] ∷ [] ∷ [] ∷ [];
    first_places = [];
    places = [];
    overdue = [];
    starts = [];
    ends = [];
    whole_ends = [];
    choices = Absent ∷ Moves (Arrived (run_no 1) 0 ∷ []) ∷ Moves (Arrived (run_no 2) 0 ∷ []) ∷ Moves (Arrived (run_no 3) 0 ∷ []) ∷ [];
  };
  rows = still 0 no_grips 0
      ∷ row 1 no_grips 0 (λ p. record p { first_places = 0 ∷ []; places = At (split_at [] 0) ∷ []; choices = slice_set p.choices 1 (Moves (Placed (run_no 1) 0 0 ∷ [])) })
      ∷ row 2 no_grips 0 (λ p. record p {
        line = Ran (run_no 1) ∷ [];
        holders = (1 ∷ []) ∷ (1 ∷ []) ∷ [] ∷ [] ∷ [];
        first_places = [];
        places = [];
        overdue = (None ∷ None ∷ None ∷ None ∷ []) ∷ [];
        starts = (100 ∷ 0 ∷ []) ∷ [];
        ends = (200 ∷ 100 ∷ []) ∷ [];
        whole_ends = 200 ∷ [];
        choices = slice_set p.choices 1 (HandsOut 1 (Commands 0));
      })
      ∷ row 2 (held 1 1 (Commands 0) no_grips) 0 (λ p. record p { touched = [] ∷ (1 ∷ []) ∷ [] ∷ [] ∷ []; choices = slice_set p.choices 1 (Waits (Busy (device_no 1))) })
      ∷ row 3 no_grips 100 (λ p. record p { writers = None ∷ Some 1 ∷ None ∷ None ∷ []; values = 0 ∷ 1 ∷ 0 ∷ 18 ∷ []; holders = (1 ∷ []) ∷ [] ∷ [] ∷ [] ∷ []; choices = Absent ∷ Moves (Did (run_no 1) 1 Skipped ∷ []) ∷ Moves (Arrived (run_no 2) 100 ∷ []) ∷ Moves (Arrived (run_no 3) 100 ∷ []) ∷ [] })
      ∷ row 4 no_grips 100 (λ p. record p { first_places = 0 ∷ []; places = At (split_at (Ran (run_no 1) ∷ []) 0) ∷ []; choices = slice_set p.choices 2 (Moves (Placed (run_no 2) 0 100 ∷ [])) })
      ∷ row 5 no_grips 100 (λ p. record p {
        line = Ran (run_no 2) ∷ Ran (run_no 1) ∷ [];
        holders = (1 ∷ 2 ∷ []) ∷ [] ∷ [] ∷ (2 ∷ []) ∷ [];
        first_places = [];
        places = [];
        overdue = more 0 (None ∷ None ∷ None ∷ None ∷ []) p.overdue;
        starts = (200 ∷ 100 ∷ []) ∷ (100 ∷ 0 ∷ []) ∷ [];
        ends = (300 ∷ 200 ∷ []) ∷ (200 ∷ 100 ∷ []) ∷ [];
        whole_ends = 300 ∷ 200 ∷ [];
        choices = slice_set p.choices 2 (Moves (Did (run_no 2) 0 Skipped ∷ []));
      })
      ∷ row 6 no_grips 100 (λ p. record p { first_places = 0 ∷ []; places = At (split_at (Ran (run_no 2) ∷ Ran (run_no 1) ∷ []) 0) ∷ []; choices = slice_set p.choices 3 (Moves (Placed (run_no 3) 0 100 ∷ [])) })
      ∷ row 7 no_grips 100 (λ p. record p {
        line = more 0 (Ran (run_no 3)) p.line;
        holders = (1 ∷ 2 ∷ []) ∷ [] ∷ (3 ∷ []) ∷ (2 ∷ []) ∷ [];
        first_places = [];
        places = [];
        overdue = more 0 (None ∷ None ∷ None ∷ None ∷ []) p.overdue;
        starts = more 0 (100 ∷ []) p.starts;
        ends = more 0 (300 ∷ []) p.ends;
        whole_ends = 300 ∷ 300 ∷ 200 ∷ [];
        choices = slice_set p.choices 3 (HandsOut 2 (Commands 0));
      })
      ∷ row 7 (held 2 3 (Commands 0) no_grips) 100 (λ p. record p { touched = [] ∷ (1 ∷ []) ∷ (3 ∷ []) ∷ [] ∷ []; choices = slice_set p.choices 3 (Waits (Busy (device_no 2))) })
      ∷ row 8 no_grips 320 (λ p. record p { writers = None ∷ Some 1 ∷ Some 3 ∷ None ∷ []; values = 0 ∷ 1 ∷ 1 ∷ 18 ∷ []; overdue = slice_set p.overdue 2 (None ∷ None ∷ None ∷ Some 2 ∷ []); choices = slice_set p.choices 3 (HandsOut 2 (Commands 1)) })
      ∷ row 8 (held 2 3 (Commands 1) no_grips) 320 (λ p. record p { choices = slice_set p.choices 3 (Waits (Busy (device_no 2))) })
      ∷ row 9 no_grips 321 (λ p. record p { values = 0 ∷ 1 ∷ 0 ∷ 18 ∷ []; holders = (1 ∷ 2 ∷ []) ∷ [] ∷ [] ∷ (2 ∷ []) ∷ []; overdue = slice_set p.overdue 2 (Some 2 ∷ None ∷ None ∷ Some 2 ∷ []); choices = slice_set p.choices 3 (Over Committed (Ended (run_no 3) Committed ∷ [])) })
      ∷ row 10 no_grips 321 (λ p. record p { holders = (2 ∷ []) ∷ [] ∷ [] ∷ (2 ∷ []) ∷ []; whole_ends = 300 ∷ 300 ∷ 100 ∷ []; choices = slice_set p.choices 1 (Over Committed (Ended (run_no 1) Committed ∷ [])) })
      ∷ row 11 no_grips 321 (λ p. record p { overdue = less 2 p.overdue; starts = less 2 p.starts; ends = less 2 p.ends; whole_ends = 300 ∷ 300 ∷ []; choices = slice_set p.choices 1 (Over Committed []) })
      ∷ row 12 no_grips 321 (λ p. record p { holders = (2 ∷ []) ∷ [] ∷ [] ∷ [] ∷ []; choices = slice_set p.choices 2 (HandsOut 0 (Commands 1)) })
      ∷ row 12 (held 0 2 (Commands 1) no_grips) 321 (λ p. record p { touched = (2 ∷ []) ∷ (1 ∷ []) ∷ (3 ∷ []) ∷ [] ∷ []; choices = slice_set p.choices 2 (Waits (Busy (device_no 0))) })
      ∷ row 13 no_grips 421 (λ p. record p { writers = Some 2 ∷ Some 1 ∷ Some 3 ∷ None ∷ []; values = 1 ∷ 1 ∷ 0 ∷ 18 ∷ []; holders = [] ∷ [] ∷ [] ∷ [] ∷ []; choices = slice_set p.choices 2 (Over Committed (Ended (run_no 2) Committed ∷ [])) })
      ∷ row 14 no_grips 421 (λ p. record p { overdue = (None ∷ None ∷ None ∷ None ∷ []) ∷ []; starts = (100 ∷ []) ∷ []; ends = (300 ∷ []) ∷ []; whole_ends = 300 ∷ []; choices = slice_set p.choices 2 (Over Committed []) })
      ∷ row 15 no_grips 421 (λ p. record p { overdue = []; starts = []; ends = []; whole_ends = []; choices = slice_set p.choices 3 (Over Committed []) }) ∷ [];
  gives = give 2 1 1 (Commands 0) Worked (Did (run_no 1) 0 Fine ∷ []) ∷ give 7 2 3 (Commands 0) Worked (Did (run_no 3) 0 Fine ∷ [])
      ∷ give 8 2 3 (Commands 1) Worked (Did (run_no 3) 1 Fine ∷ []) ∷ give 12 0 2 (Commands 1) Worked (Did (run_no 2) 1 Fine ∷ []) ∷ [];
  calls = 1 ∷ 1 ∷ 2 ∷ 0 ∷ [];
  outcome = record {
    order = Ran (run_no 3) ∷ Ran (run_no 2) ∷ Ran (run_no 1) ∷ [];
    home = record { value = 1; up = true } ∷ record { value = 1; up = true } ∷ record { value = 0; up = true } ∷ record { value = 18; up = true } ∷ [];
    answers =
        record { run = run_no 3; answers = Fine ∷ Fine ∷ [] } ∷ record { run = run_no 2; answers = Skipped ∷ Fine ∷ [] }
        ∷ record { run = run_no 1; answers = Fine ∷ Skipped ∷ [] } ∷ [];
  };
}

is_worked : IsWorked window history table
unfolding split_of
is_worked = record { points = refl; clauses = refl; gives = refl; calls = refl; ended = refl; allowed = refl; order = refl; answers = refl }
