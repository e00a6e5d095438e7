-- The window timeline-behind-all-before-the-first-live-run: timeline: all items before the first live run stand before the run, all where none is live.
use Rattle.worked_windows.proofs.Prelude.{Always}
use Rattle.worked_windows.proofs.Words.{Absent, Arrived, At, Busy, Commands, Committed, Did, Ended, Entry, Eventual, Fine, HandsOut, IsWorked, List, Moves, None, Over, Placed, Ran, Range, Set, Setting, Some, States, Table, Timeline, Waits, Worked, [], chosen, closure, device_no, either_of, gap_set, give, held, less, more, no_grips, others, refl, row, run_no, slice_set, split_at, split_of, still, true, ◌++◌, ◌∷◌}

abbrev pub window : Setting
window = record {
  runs = record { commands = record { device = device_no 1; job = Set 1; when = Always; must = true; ms = 100; takes = 0 } ∷ []; follows = None }
      ∷ record { commands = record { device = device_no 2; job = Set 20; when = Always; must = true; ms = 1000; takes = 1000 } ∷ []; follows = None }
      ∷ record { commands = record { device = device_no 0; job = Set 1; when = Always; must = true; ms = 100; takes = 100 } ∷ []; follows = None }
      ∷ record { commands = record { device = device_no 0; job = Set 0; when = Always; must = true; ms = 100; takes = 100 } ∷ []; follows = None } ∷ [];
  mode = record { model = Eventual; scheduler = Timeline };
  kinds = States 2 ∷ States 2 ∷ Range 10 30 ∷ [];
  first = record { value = 0; up = true } ∷ record { value = 0; up = true } ∷ record { value = 18; up = true } ∷ [];
}

abbrev pub history : List Entry
history = Arrived (run_no 2) 0 ∷ Placed (run_no 2) 0 0 ∷ Arrived (run_no 1) 0 ∷ Placed (run_no 1) 0 0 ∷ Did (run_no 1) 0 Fine
    ∷ Ended (run_no 1) Committed ∷ Arrived (run_no 3) 0 ∷ Placed (run_no 3) 1 0 ∷ Did (run_no 3) 0 Fine ∷ Ended (run_no 3) Committed
    ∷ Did (run_no 2) 0 Fine ∷ Ended (run_no 2) Committed ∷ Arrived (run_no 4) 1100 ∷ Placed (run_no 4) 3 1100 ∷ Did (run_no 4) 0 Fine
    ∷ Ended (run_no 4) Committed ∷ []

abbrev pub table : Table
table = record {
  first = record {
    line = [];
    up = true ∷ true ∷ true ∷ [];
    writers = None ∷ None ∷ None ∷ [];
    values = 0 ∷ 0 ∷ 18 ∷ [];
    holders = [] ∷ [] ∷ [] ∷ [];
    touched = [] ∷ [] ∷ [] ∷ [];
    first_places = [];
    places = [];
    overdue = [];
    starts = [];
    ends = [];
    whole_ends = [];
    choices =
        Absent ∷ Moves (Arrived (run_no 1) 0 ∷ []) ∷ Moves (Arrived (run_no 2) 0 ∷ []) ∷ Moves (Arrived (run_no 3) 0 ∷ [])
        ∷ Moves (Arrived (run_no 4) 0 ∷ []) ∷ [];
  };
  rows = still 0 no_grips 0
      ∷ row 1 no_grips 0 (λ p. record p { first_places = 0 ∷ []; places = At (split_at [] 0) ∷ []; choices = slice_set p.choices 2 (Moves (Placed (run_no 2) 0 0 ∷ [])) })
      ∷ row 2 no_grips 0 (λ p. record p {
        line = Ran (run_no 2) ∷ [];
        holders = [] ∷ [] ∷ (2 ∷ []) ∷ [];
        first_places = [];
        places = [];
        overdue = (None ∷ None ∷ None ∷ []) ∷ [];
        starts = (0 ∷ []) ∷ [];
        ends = (1000 ∷ []) ∷ [];
        whole_ends = 1000 ∷ [];
        choices = slice_set p.choices 2 (HandsOut 2 (Commands 0));
      })
      ∷ row 3 no_grips 0 (λ p. record p { first_places = 0 ∷ []; places = At (split_at (Ran (run_no 2) ∷ []) 0) ∷ []; choices = slice_set p.choices 1 (Moves (Placed (run_no 1) 0 0 ∷ [])) })
      ∷ row 4 no_grips 0 (λ p. record p {
        line = Ran (run_no 1) ∷ Ran (run_no 2) ∷ [];
        holders = [] ∷ (1 ∷ []) ∷ (2 ∷ []) ∷ [];
        first_places = [];
        places = [];
        overdue = more 0 (None ∷ None ∷ None ∷ []) p.overdue;
        starts = (0 ∷ []) ∷ (0 ∷ []) ∷ [];
        ends = (100 ∷ []) ∷ (1000 ∷ []) ∷ [];
        whole_ends = 100 ∷ 1000 ∷ [];
        choices = slice_set p.choices 1 (HandsOut 1 (Commands 0));
      })
      ∷ row 4 (held 1 1 (Commands 0) no_grips) 0 (λ p. record p { touched = [] ∷ (1 ∷ []) ∷ [] ∷ []; choices = slice_set p.choices 1 (Waits (Busy (device_no 1))) })
      ∷ row 5 no_grips 0 (λ p. record p { writers = None ∷ Some 1 ∷ None ∷ []; values = 0 ∷ 1 ∷ 18 ∷ []; holders = [] ∷ [] ∷ (2 ∷ []) ∷ []; choices = slice_set p.choices 1 (Over Committed (Ended (run_no 1) Committed ∷ [])) })
      ∷ row 6 no_grips 0 (λ p. record p { overdue = less 0 p.overdue; starts = (0 ∷ []) ∷ []; ends = (1000 ∷ []) ∷ []; whole_ends = 1000 ∷ []; choices = slice_set p.choices 1 (Over Committed []) })
      ∷ row 7 no_grips 0 (λ p. record p { first_places = 1 ∷ []; places = At (split_at (Ran (run_no 1) ∷ Ran (run_no 2) ∷ []) 1) ∷ []; choices = slice_set p.choices 3 (Moves (Placed (run_no 3) 1 0 ∷ [])) })
      ∷ row 8 no_grips 0 (λ p. record p {
        line = more 1 (Ran (run_no 3)) p.line;
        holders = (3 ∷ []) ∷ [] ∷ (2 ∷ []) ∷ [];
        first_places = [];
        places = [];
        overdue = more 0 (None ∷ None ∷ None ∷ []) p.overdue;
        starts = (0 ∷ []) ∷ (0 ∷ []) ∷ [];
        ends = (100 ∷ []) ∷ (1000 ∷ []) ∷ [];
        whole_ends = 100 ∷ 1000 ∷ [];
        choices = slice_set p.choices 3 (HandsOut 0 (Commands 0));
      })
      ∷ row 8 (held 0 3 (Commands 0) no_grips) 0 (λ p. record p { touched = (3 ∷ []) ∷ (1 ∷ []) ∷ [] ∷ []; choices = slice_set p.choices 3 (Waits (Busy (device_no 0))) })
      ∷ row 9 no_grips 100 (λ p. record p { writers = Some 3 ∷ Some 1 ∷ None ∷ []; values = 1 ∷ 1 ∷ 18 ∷ []; holders = [] ∷ [] ∷ (2 ∷ []) ∷ []; choices = slice_set (slice_set p.choices 3 (Over Committed (Ended (run_no 3) Committed ∷ []))) 4 (Moves (Arrived (run_no 4) 100 ∷ [])) })
      ∷ row 10 no_grips 100 (λ p. record p { overdue = less 0 p.overdue; starts = (0 ∷ []) ∷ []; ends = (1000 ∷ []) ∷ []; whole_ends = 1000 ∷ []; choices = slice_set p.choices 3 (Over Committed []) })
      ∷ row 10 (held 2 2 (Commands 0) no_grips) 100 (λ p. record p { touched = (3 ∷ []) ∷ (1 ∷ []) ∷ (2 ∷ []) ∷ []; choices = slice_set p.choices 2 (Waits (Busy (device_no 2))) })
      ∷ row 11 no_grips 1100 (λ p. record p { writers = Some 3 ∷ Some 1 ∷ Some 2 ∷ []; values = 1 ∷ 1 ∷ 20 ∷ []; holders = [] ∷ [] ∷ [] ∷ []; choices = slice_set (slice_set p.choices 2 (Over Committed (Ended (run_no 2) Committed ∷ []))) 4 (Moves (Arrived (run_no 4) 1100 ∷ [])) })
      ∷ row 12 no_grips 1100 (λ p. record p { overdue = []; starts = []; ends = []; whole_ends = []; choices = slice_set p.choices 2 (Over Committed []) })
      ∷ row 13 no_grips 1100 (λ p. record p { first_places = 3 ∷ []; places = At (split_at (Ran (run_no 1) ∷ Ran (run_no 3) ∷ Ran (run_no 2) ∷ []) 3) ∷ []; choices = slice_set p.choices 4 (Moves (Placed (run_no 4) 3 1100 ∷ [])) })
      ∷ row 14 no_grips 1100 (λ p. record p {
        line = p.line ++ Ran (run_no 4) ∷ [];
        holders = (4 ∷ []) ∷ [] ∷ [] ∷ [];
        first_places = [];
        places = [];
        overdue = (None ∷ None ∷ None ∷ []) ∷ [];
        starts = (1100 ∷ []) ∷ [];
        ends = (1200 ∷ []) ∷ [];
        whole_ends = 1200 ∷ [];
        choices = slice_set p.choices 4 (HandsOut 0 (Commands 0));
      })
      ∷ row 14 (held 0 4 (Commands 0) no_grips) 1100 (λ p. record p { touched = (3 ∷ 4 ∷ []) ∷ (1 ∷ []) ∷ (2 ∷ []) ∷ []; choices = slice_set p.choices 4 (Waits (Busy (device_no 0))) })
      ∷ row 15 no_grips 1200 (λ p. record p { writers = Some 4 ∷ Some 1 ∷ Some 2 ∷ []; values = 0 ∷ 1 ∷ 20 ∷ []; holders = [] ∷ [] ∷ [] ∷ []; choices = slice_set p.choices 4 (Over Committed (Ended (run_no 4) Committed ∷ [])) })
      ∷ row 16 no_grips 1200 (λ p. record p { overdue = []; starts = []; ends = []; whole_ends = []; choices = slice_set p.choices 4 (Over Committed []) }) ∷ [];
  gives = give 4 1 1 (Commands 0) Worked (Did (run_no 1) 0 Fine ∷ []) ∷ give 8 0 3 (Commands 0) Worked (Did (run_no 3) 0 Fine ∷ [])
      ∷ give 10 2 2 (Commands 0) Worked (Did (run_no 2) 0 Fine ∷ []) ∷ give 14 0 4 (Commands 0) Worked (Did (run_no 4) 0 Fine ∷ []) ∷ [];
  calls = 2 ∷ 1 ∷ 1 ∷ [];
  outcome = record {
    order = Ran (run_no 1) ∷ Ran (run_no 3) ∷ Ran (run_no 2) ∷ Ran (run_no 4) ∷ [];
    home = record { value = 0; up = true } ∷ record { value = 1; up = true } ∷ record { value = 20; up = true } ∷ [];
    answers =
        record { run = run_no 1; answers = Fine ∷ [] } ∷ record { run = run_no 3; answers = Fine ∷ [] } ∷ record { run = run_no 2; answers = Fine ∷ [] }
        ∷ record { run = run_no 4; answers = Fine ∷ [] } ∷ [];
  };
}

is_worked : IsWorked window history table
unfolding chosen closure either_of gap_set others split_of
is_worked = record { points = refl; clauses = refl; gives = refl; calls = refl; ended = refl; allowed = refl; order = refl; answers = refl }
