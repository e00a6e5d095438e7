-- The window timeline-closed-through-a-run-between: timeline: what stands before what stands before a run of the set is in it.
use Rattle.worked_windows.proofs.Prelude.{Always}
use Rattle.worked_windows.proofs.Words.{Absent, Arrived, At, Behind, Busy, Check, Commands, Committed, Did, Ended, Entry, Eventual, Fine, Found, HandsOut, IsWorked, List, Moves, None, Over, Placed, Ran, Range, Sensed, Set, Setting, Some, States, Table, Timeline, Waits, Worked, [], chosen, closure, device_no, either_of, false, gap_set, give, held, less, more, no_grips, others, refl, row, run_no, slice_set, split_at, split_of, still, true, ◌++◌, ◌∷◌}

abbrev pub window : Setting
window = record {
  runs = record { commands = record { device = device_no 2; job = Set 20; when = Always; must = true; ms = 100; takes = 100 } ∷ []; follows = None }
      ∷ record {
        commands =
            record { device = device_no 3; job = Check 0; when = Always; must = false; ms = 0; takes = 0 }
            ∷ record { device = device_no 2; job = Set 25; when = Always; must = true; ms = 100; takes = 100 }
            ∷ record { device = device_no 1; job = Set 1; when = Always; must = true; ms = 0; takes = 0 } ∷ [];
        follows = None;
      }
      ∷ record { commands = record { device = device_no 0; job = Set 1; when = Always; must = true; ms = 150; takes = 150 } ∷ record { device = device_no 1; job = Set 0; when = Always; must = true; ms = 100; takes = 100 } ∷ []; follows = None }
      ∷ record { commands = record { device = device_no 0; job = Set 0; when = Always; must = true; ms = 100; takes = 100 } ∷ []; follows = None } ∷ [];
  mode = record { model = Eventual; scheduler = Timeline };
  kinds = States 2 ∷ States 2 ∷ Range 10 30 ∷ States 2 ∷ [];
  first = record { value = 0; up = true } ∷ record { value = 0; up = true } ∷ record { value = 18; up = true } ∷ record { value = 0; up = true } ∷ [];
}

abbrev pub history : List Entry
history = Arrived (run_no 1) 0 ∷ Placed (run_no 1) 0 0 ∷ Arrived (run_no 2) 0 ∷ Placed (run_no 2) 1 0 ∷ Arrived (run_no 3) 0
    ∷ Placed (run_no 3) 2 0 ∷ Arrived (run_no 4) 0 ∷ Placed (run_no 4) 3 0 ∷ Did (run_no 1) 0 Fine ∷ Ended (run_no 1) Committed
    ∷ Did (run_no 2) 0 (Found 0) ∷ Did (run_no 2) 1 Fine ∷ Did (run_no 2) 2 Fine ∷ Ended (run_no 2) Committed ∷ Did (run_no 3) 0 Fine
    ∷ Did (run_no 3) 1 Fine ∷ Ended (run_no 3) Committed ∷ Did (run_no 4) 0 Fine ∷ Ended (run_no 4) Committed ∷ []

abbrev pub table : Table
table = record {
  first = record {
    line = [];
    up = true ∷ true ∷ true ∷ true ∷ [];
    writers = None ∷ None ∷ None ∷ None ∷ [];
    values = 0 ∷ 0 ∷ 18 ∷ 0 ∷ [];
    holders = [] ∷ [] ∷ [] ∷ [] ∷ [];
    touched = [] ∷ [] ∷ [] ∷ [] ∷ [];
    first_places = [];
    places = [];
    overdue = [];
    starts = [];
    ends = [];
    whole_ends = [];
    choices =
        Absent ∷ Moves (Arrived (run_no 1) 0 ∷ []) ∷ Moves (Arrived (run_no 2) 0 ∷ []) ∷ Moves (Arrived (run_no 3) 0 ∷ [])
        ∷ Moves (Arrived (run_no 4) 0 ∷ []) ∷ [];
  };
  rows = still 0 no_grips 0
      ∷ row 1 no_grips 0 (λ p. record p { first_places = 0 ∷ []; places = At (split_at [] 0) ∷ []; choices = slice_set p.choices 1 (Moves (Placed (run_no 1) 0 0 ∷ [])) })
      ∷ row 2 no_grips 0 (λ p. record p {
        line = Ran (run_no 1) ∷ [];
        holders = [] ∷ [] ∷ (1 ∷ []) ∷ [] ∷ [];
        first_places = [];
        places = [];
        overdue = (None ∷ None ∷ None ∷ None ∷ []) ∷ [];
        starts = (0 ∷ []) ∷ [];
        ends = (100 ∷ []) ∷ [];
        whole_ends = 100 ∷ [];
        choices = slice_set p.choices 1 (HandsOut 2 (Commands 0));
      })
      ∷ row 3 no_grips 0 (λ p. record p { first_places = 0 ∷ []; places = At (split_at (Ran (run_no 1) ∷ []) 1) ∷ []; choices = slice_set p.choices 2 (Moves (Placed (run_no 2) 1 0 ∷ [])) })
      ∷ row 4 no_grips 0 (λ p. record p {
        line = Ran (run_no 1) ∷ Ran (run_no 2) ∷ [];
        holders = [] ∷ (2 ∷ []) ∷ (1 ∷ 2 ∷ []) ∷ (2 ∷ []) ∷ [];
        first_places = [];
        places = [];
        overdue = more 0 (None ∷ None ∷ None ∷ None ∷ []) p.overdue;
        starts = (0 ∷ []) ∷ (200 ∷ 100 ∷ 0 ∷ []) ∷ [];
        ends = (100 ∷ []) ∷ (200 ∷ 200 ∷ 0 ∷ []) ∷ [];
        whole_ends = 100 ∷ 200 ∷ [];
        choices = slice_set p.choices 2 (HandsOut 3 (Commands 0));
      })
      ∷ row 5 no_grips 0 (λ p. record p { first_places = 0 ∷ []; places = At (split_at (Ran (run_no 1) ∷ Ran (run_no 2) ∷ []) 2) ∷ []; choices = slice_set p.choices 3 (Moves (Placed (run_no 3) 2 0 ∷ [])) })
      ∷ row 6 no_grips 0 (λ p. record p {
        line = p.line ++ Ran (run_no 3) ∷ [];
        holders = (3 ∷ []) ∷ (2 ∷ 3 ∷ []) ∷ (1 ∷ 2 ∷ []) ∷ (2 ∷ []) ∷ [];
        first_places = [];
        places = [];
        overdue = more 0 (None ∷ None ∷ None ∷ None ∷ []) p.overdue;
        starts = more 2 (0 ∷ 200 ∷ []) p.starts;
        ends = more 2 (150 ∷ 300 ∷ []) p.ends;
        whole_ends = 100 ∷ 200 ∷ 300 ∷ [];
        choices = slice_set p.choices 3 (HandsOut 0 (Commands 0));
      })
      ∷ row 7 no_grips 0 (λ p. record p { first_places = 0 ∷ []; places = At (split_at (Ran (run_no 1) ∷ Ran (run_no 2) ∷ Ran (run_no 3) ∷ []) 3) ∷ []; choices = slice_set p.choices 4 (Moves (Placed (run_no 4) 3 0 ∷ [])) })
      ∷ row 8 no_grips 0 (λ p. record p {
        line = p.line ++ Ran (run_no 4) ∷ [];
        holders = slice_set p.holders 0 (3 ∷ 4 ∷ []);
        first_places = [];
        places = [];
        overdue = more 0 (None ∷ None ∷ None ∷ None ∷ []) p.overdue;
        starts = more 3 (150 ∷ []) p.starts;
        ends = more 3 (250 ∷ []) p.ends;
        whole_ends = 100 ∷ 200 ∷ 300 ∷ 250 ∷ [];
        choices = slice_set p.choices 4 (Waits (Behind (device_no 0) (run_no 3)));
      })
      ∷ row 8 (held 2 1 (Commands 0) no_grips) 0 (λ p. record p { touched = [] ∷ [] ∷ (1 ∷ []) ∷ [] ∷ []; choices = slice_set p.choices 1 (Waits (Busy (device_no 2))) })
      ∷ row 9 no_grips 100 (λ p. record p { writers = None ∷ None ∷ Some 1 ∷ None ∷ []; values = 0 ∷ 0 ∷ 20 ∷ 0 ∷ []; holders = slice_set p.holders 2 (2 ∷ []); choices = slice_set p.choices 1 (Over Committed (Ended (run_no 1) Committed ∷ [])) })
      ∷ row 10 no_grips 100 (λ p. record p { overdue = less 0 p.overdue; starts = less 0 p.starts; ends = less 0 p.ends; whole_ends = 200 ∷ 300 ∷ 250 ∷ []; choices = slice_set p.choices 1 (Over Committed []) })
      ∷ row 10 (held 3 2 (Commands 0) no_grips) 100 (λ p. record p { touched = [] ∷ [] ∷ (1 ∷ []) ∷ (2 ∷ []) ∷ []; choices = slice_set p.choices 2 (Waits (Busy (device_no 3))) })
      ∷ row 11 no_grips 100 (λ p. record p { holders = slice_set p.holders 3 []; choices = slice_set p.choices 2 (HandsOut 2 (Commands 1)) })
      ∷ row 11 (held 2 2 (Commands 1) no_grips) 100 (λ p. record p { touched = [] ∷ [] ∷ (1 ∷ 2 ∷ []) ∷ (2 ∷ []) ∷ []; choices = slice_set p.choices 2 (Waits (Busy (device_no 2))) })
      ∷ row 12 no_grips 200 (λ p. record p { writers = None ∷ None ∷ Some 2 ∷ None ∷ []; values = 0 ∷ 0 ∷ 25 ∷ 0 ∷ []; holders = slice_set p.holders 2 []; choices = slice_set p.choices 2 (HandsOut 1 (Commands 2)) })
      ∷ row 12 (held 1 2 (Commands 2) no_grips) 200 (λ p. record p { touched = slice_set p.touched 1 (2 ∷ []); choices = slice_set p.choices 2 (Waits (Busy (device_no 1))) })
      ∷ row 13 no_grips 200 (λ p. record p { writers = None ∷ Some 2 ∷ Some 2 ∷ None ∷ []; values = 0 ∷ 1 ∷ 25 ∷ 0 ∷ []; holders = (3 ∷ 4 ∷ []) ∷ (3 ∷ []) ∷ [] ∷ [] ∷ []; choices = slice_set p.choices 2 (Over Committed (Ended (run_no 2) Committed ∷ [])) })
      ∷ row 14 no_grips 200 (λ p. record p { overdue = less 0 p.overdue; starts = less 0 p.starts; ends = less 0 p.ends; whole_ends = 300 ∷ 250 ∷ []; choices = slice_set p.choices 2 (Over Committed []) })
      ∷ row 14 (held 0 3 (Commands 0) no_grips) 200 (λ p. record p { touched = slice_set p.touched 0 (3 ∷ []); choices = slice_set p.choices 3 (Waits (Busy (device_no 0))) })
      ∷ row 15 no_grips 350 (λ p. record p { writers = Some 3 ∷ Some 2 ∷ Some 2 ∷ None ∷ []; values = 1 ∷ 1 ∷ 25 ∷ 0 ∷ []; holders = (4 ∷ []) ∷ (3 ∷ []) ∷ [] ∷ [] ∷ []; choices = slice_set (slice_set p.choices 3 (HandsOut 1 (Commands 1))) 4 (HandsOut 0 (Commands 0)) })
      ∷ row 15 (held 1 3 (Commands 1) no_grips) 350 (λ p. record p { touched = slice_set p.touched 1 (2 ∷ 3 ∷ []); choices = slice_set p.choices 3 (Waits (Busy (device_no 1))) })
      ∷ row 16 no_grips 450 (λ p. record p { writers = Some 3 ∷ Some 3 ∷ Some 2 ∷ None ∷ []; values = 1 ∷ 0 ∷ 25 ∷ 0 ∷ []; holders = (4 ∷ []) ∷ [] ∷ [] ∷ [] ∷ []; choices = slice_set p.choices 3 (Over Committed (Ended (run_no 3) Committed ∷ [])) })
      ∷ row 17 no_grips 450 (λ p. record p { overdue = less 0 p.overdue; starts = (150 ∷ []) ∷ []; ends = (250 ∷ []) ∷ []; whole_ends = 250 ∷ []; choices = slice_set p.choices 3 (Over Committed []) })
      ∷ row 17 (held 0 4 (Commands 0) no_grips) 450 (λ p. record p { touched = slice_set p.touched 0 (3 ∷ 4 ∷ []); choices = slice_set p.choices 4 (Waits (Busy (device_no 0))) })
      ∷ row 18 no_grips 550 (λ p. record p { writers = Some 4 ∷ Some 3 ∷ Some 2 ∷ None ∷ []; values = 0 ∷ 0 ∷ 25 ∷ 0 ∷ []; holders = [] ∷ [] ∷ [] ∷ [] ∷ []; choices = slice_set p.choices 4 (Over Committed (Ended (run_no 4) Committed ∷ [])) })
      ∷ row 19 no_grips 550 (λ p. record p { overdue = []; starts = []; ends = []; whole_ends = []; choices = slice_set p.choices 4 (Over Committed []) }) ∷ [];
  gives = give 8 2 1 (Commands 0) Worked (Did (run_no 1) 0 Fine ∷ []) ∷ give 10 3 2 (Commands 0) (Sensed 0) (Did (run_no 2) 0 (Found 0) ∷ [])
      ∷ give 11 2 2 (Commands 1) Worked (Did (run_no 2) 1 Fine ∷ []) ∷ give 12 1 2 (Commands 2) Worked (Did (run_no 2) 2 Fine ∷ [])
      ∷ give 14 0 3 (Commands 0) Worked (Did (run_no 3) 0 Fine ∷ []) ∷ give 15 1 3 (Commands 1) Worked (Did (run_no 3) 1 Fine ∷ [])
      ∷ give 17 0 4 (Commands 0) Worked (Did (run_no 4) 0 Fine ∷ []) ∷ [];
  calls = 2 ∷ 2 ∷ 2 ∷ 1 ∷ [];
  outcome = record {
    order = Ran (run_no 1) ∷ Ran (run_no 2) ∷ Ran (run_no 3) ∷ Ran (run_no 4) ∷ [];
    home = record { value = 0; up = true } ∷ record { value = 0; up = true } ∷ record { value = 25; up = true } ∷ record { value = 0; up = true } ∷ [];
    answers =
        record { run = run_no 1; answers = Fine ∷ [] } ∷ record { run = run_no 2; answers = (Found 0) ∷ Fine ∷ Fine ∷ [] }
        ∷ record { run = run_no 3; answers = Fine ∷ Fine ∷ [] } ∷ record { run = run_no 4; answers = Fine ∷ [] } ∷ [];
  };
}

is_worked : IsWorked window history table
unfolding chosen closure either_of gap_set others split_of
is_worked = record { points = refl; clauses = refl; gives = refl; calls = refl; ended = refl; allowed = refl; order = refl; answers = refl }
