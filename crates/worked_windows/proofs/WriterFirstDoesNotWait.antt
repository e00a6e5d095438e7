-- The window writer-first-does-not-wait.
use Rattle.worked_windows.proofs.Prelude.{Always}
use Rattle.worked_windows.proofs.Words.{Aborted, Absent, Arrived, At, Behind, Busy, Check, Commands, Committed, Did, Died, Doomed, Down, Ended, Entry, Eventual, Failed, Fell, Fine, Found, HandsOut, IsWorked, List, Load, Moves, MustDown, None, Over, Placed, Ran, Range, Sensed, Set, Setting, Some, States, Store, Table, Timeline, Waits, Worked, [], chosen, closure, device_no, either_of, false, gap_set, give, held, less, more, no_grips, others, refl, row, run_no, slice_set, split_at, split_of, still, true, ◌++◌, ◌∷◌}

abbrev pub window : Setting
window = record {
  runs = record { commands = record { device = device_no 0; job = Set 1; when = Always; must = true; ms = 100; takes = 100 } ∷ record { device = device_no 1; job = Store; when = Always; must = true; ms = 100; takes = 100 } ∷ []; follows = None }
      ∷ record {
        commands =
            record { device = device_no 3; job = Check 0; when = Always; must = false; ms = 0; takes = 0 }
            ∷ record { device = device_no 0; job = Load; when = Always; must = true; ms = 100; takes = 100 }
            ∷ record { device = device_no 2; job = Set 1; when = Always; must = true; ms = 100; takes = 100 } ∷ [];
        follows = None;
      }
      ∷ record { commands = record { device = device_no 0; job = Load; when = Always; must = true; ms = 100; takes = 100 } ∷ []; follows = None }
      ∷ record { commands = record { device = device_no 0; job = Set 2; when = Always; must = true; ms = 100; takes = 100 } ∷ []; follows = None } ∷ [];
  mode = record { model = Eventual; scheduler = Timeline };
  kinds = Range 0 3 ∷ Range 0 3 ∷ Range 0 2 ∷ States 2 ∷ [];
  first = record { value = 0; up = true } ∷ record { value = 0; up = true } ∷ record { value = 0; up = true } ∷ record { value = 0; up = true } ∷ [];
}

abbrev pub history : List Entry
history = Arrived (run_no 1) 0 ∷ Placed (run_no 1) 0 0 ∷ Arrived (run_no 2) 0 ∷ Placed (run_no 2) 1 0 ∷ Arrived (run_no 4) 0
    ∷ Placed (run_no 4) 1 0 ∷ Did (run_no 1) 0 Fine ∷ Arrived (run_no 3) 100 ∷ Placed (run_no 3) 3 100 ∷ Fell (device_no 0)
    ∷ Did (run_no 4) 0 Down ∷ Doomed (run_no 4) (MustDown 0) ∷ Ended (run_no 4) (Aborted (MustDown 0)) ∷ Did (run_no 1) 1 Fine ∷ Ended (run_no 1) Committed
    ∷ Did (run_no 2) 0 (Found 0) ∷ Did (run_no 2) 1 Down ∷ Doomed (run_no 2) (MustDown 1) ∷ Ended (run_no 2) (Aborted (MustDown 1)) ∷ Did (run_no 3) 0 Down
    ∷ Doomed (run_no 3) (MustDown 0) ∷ Ended (run_no 3) (Aborted (MustDown 0)) ∷ []

abbrev pub table : Table
table = record {
  first = record {
    line = [];
    up = true ∷ true ∷ true ∷ true ∷ [];
    writers = None ∷ None ∷ None ∷ None ∷ [];
    values = 0 ∷ 0 ∷ 0 ∷ 0 ∷ [];
    holders = [] ∷ [] ∷ [] ∷ [] ∷ [];
    touched = [] ∷ [] ∷ [] ∷ [] ∷ [];
    first_places = [];
    places = [];
    overdue = [];
    starts = [];
    ends = [];
    whole_ends = [];
    choices =
        Absent ∷ Moves (Arrived (run_no 1) 0 ∷ []) ∷ Moves (Arrived (run_no 2) 0 ∷ []) ∷ Moves (Arrived (run_no 3) 0 ∷ [])
        ∷ Moves (Arrived (run_no 4) 0 ∷ []) ∷ [];
  };
  rows = still 0 no_grips 0
      ∷ row 1 no_grips 0 (λ p. record p { first_places = 0 ∷ []; places = At (split_at [] 0) ∷ []; choices = slice_set p.choices 1 (Moves (Placed (run_no 1) 0 0 ∷ [])) })
      ∷ row 2 no_grips 0 (λ p. record p {
        line = Ran (run_no 1) ∷ [];
        holders = (1 ∷ []) ∷ (1 ∷ []) ∷ [] ∷ [] ∷ [];
        first_places = [];
        places = [];
        overdue = (None ∷ None ∷ None ∷ None ∷ []) ∷ [];
        starts = (0 ∷ 100 ∷ []) ∷ [];
        ends = (100 ∷ 200 ∷ []) ∷ [];
        whole_ends = 200 ∷ [];
        choices = slice_set p.choices 1 (HandsOut 0 (Commands 0));
      })
      ∷ row 3 no_grips 0 (λ p. record p { first_places = 0 ∷ []; places = At (split_at (Ran (run_no 1) ∷ []) 1) ∷ []; choices = slice_set p.choices 2 (Moves (Placed (run_no 2) 1 0 ∷ [])) })
      ∷ row 4 no_grips 0 (λ p. record p {
        line = Ran (run_no 1) ∷ Ran (run_no 2) ∷ [];
        holders = (1 ∷ 2 ∷ []) ∷ (1 ∷ []) ∷ (2 ∷ []) ∷ (2 ∷ []) ∷ [];
        first_places = [];
        places = [];
        overdue = more 0 (None ∷ None ∷ None ∷ None ∷ []) p.overdue;
        starts = (0 ∷ 100 ∷ []) ∷ (200 ∷ 300 ∷ 0 ∷ []) ∷ [];
        ends = (100 ∷ 200 ∷ []) ∷ (300 ∷ 400 ∷ 0 ∷ []) ∷ [];
        whole_ends = 200 ∷ 400 ∷ [];
        choices = slice_set p.choices 2 (HandsOut 3 (Commands 0));
      })
      ∷ row 5 no_grips 0 (λ p. record p { first_places = 0 ∷ []; places = At (split_at (Ran (run_no 1) ∷ Ran (run_no 2) ∷ []) 1) ∷ []; choices = slice_set p.choices 4 (Moves (Placed (run_no 4) 1 0 ∷ [])) })
      ∷ row 6 no_grips 0 (λ p. record p {
        line = more 1 (Ran (run_no 4)) p.line;
        holders = slice_set p.holders 0 (1 ∷ 2 ∷ 4 ∷ []);
        first_places = [];
        places = [];
        overdue = more 0 (None ∷ None ∷ None ∷ None ∷ []) p.overdue;
        starts = more 1 (100 ∷ []) p.starts;
        ends = more 1 (200 ∷ []) p.ends;
        whole_ends = 200 ∷ 200 ∷ 400 ∷ [];
        choices = slice_set p.choices 4 (Waits (Behind (device_no 0) (run_no 1)));
      })
      ∷ row 6 (held 0 1 (Commands 0) no_grips) 0 (λ p. record p { touched = (1 ∷ []) ∷ [] ∷ [] ∷ [] ∷ []; choices = slice_set p.choices 1 (Waits (Busy (device_no 0))) })
      ∷ row 7 no_grips 100 (λ p. record p {
        writers = Some 1 ∷ None ∷ None ∷ None ∷ [];
        values = 1 ∷ 0 ∷ 0 ∷ 0 ∷ [];
        holders = slice_set p.holders 0 (2 ∷ 4 ∷ []);
        choices = Absent ∷ HandsOut 1 (Commands 1) ∷ HandsOut 3 (Commands 0) ∷ Moves (Arrived (run_no 3) 100 ∷ []) ∷ HandsOut 0 (Commands 0) ∷ [];
      })
      ∷ row 8 no_grips 100 (λ p. record p { first_places = 1 ∷ []; places = At (split_at (Ran (run_no 1) ∷ Ran (run_no 4) ∷ Ran (run_no 2) ∷ []) 3) ∷ []; choices = slice_set p.choices 3 (Moves (Placed (run_no 3) 3 100 ∷ [])) })
      ∷ row 9 no_grips 100 (λ p. record p {
        line = p.line ++ Ran (run_no 3) ∷ [];
        holders = slice_set p.holders 0 (2 ∷ 3 ∷ 4 ∷ []);
        first_places = [];
        places = [];
        overdue = more 0 (None ∷ None ∷ None ∷ None ∷ []) p.overdue;
        starts = more 3 (300 ∷ []) p.starts;
        ends = more 3 (400 ∷ []) p.ends;
        whole_ends = 200 ∷ 200 ∷ 400 ∷ 400 ∷ [];
        choices = slice_set p.choices 3 (Waits (Behind (device_no 0) (run_no 4)));
      })
      ∷ row 9 (held 0 4 (Commands 0) no_grips) 100 (λ p. record p { touched = (1 ∷ 4 ∷ []) ∷ [] ∷ [] ∷ [] ∷ []; choices = slice_set p.choices 4 (Waits (Busy (device_no 0))) })
      ∷ row 12 no_grips 200 (λ p. record p {
        line = more 1 (Failed (device_no 0) 1) p.line;
        up = false ∷ true ∷ true ∷ true ∷ [];
        holders = slice_set p.holders 0 (2 ∷ 3 ∷ []);
        choices =
            slice_set (slice_set p.choices 3 (Waits (Behind (device_no 0) (run_no 2)))) 4
            (Over (Aborted (MustDown 0)) (Ended (run_no 4) (Aborted (MustDown 0)) ∷ []));
      })
      ∷ row 13 no_grips 200 (λ p. record p { line = less 2 p.line; overdue = less 0 p.overdue; starts = less 1 p.starts; ends = less 1 p.ends; whole_ends = 200 ∷ 400 ∷ 400 ∷ []; choices = slice_set p.choices 4 (Over (Aborted (MustDown 0)) []) })
      ∷ row 13 (held 1 1 (Commands 1) no_grips) 200 (λ p. record p { touched = (1 ∷ 4 ∷ []) ∷ (1 ∷ []) ∷ [] ∷ [] ∷ []; choices = slice_set p.choices 1 (Waits (Busy (device_no 1))) })
      ∷ row 14 no_grips 300 (λ p. record p { writers = Some 1 ∷ Some 1 ∷ None ∷ None ∷ []; holders = slice_set p.holders 1 []; choices = slice_set p.choices 1 (Over Committed (Ended (run_no 1) Committed ∷ [])) })
      ∷ row 15 no_grips 300 (λ p. record p { overdue = less 0 p.overdue; starts = less 0 p.starts; ends = less 0 p.ends; whole_ends = 400 ∷ 400 ∷ []; choices = slice_set p.choices 1 (Over Committed []) })
      ∷ row 15 (held 3 2 (Commands 0) no_grips) 300 (λ p. record p { touched = slice_set p.touched 3 (2 ∷ []); choices = slice_set p.choices 2 (Waits (Busy (device_no 3))) })
      ∷ row 16 no_grips 300 (λ p. record p { holders = slice_set p.holders 3 []; choices = slice_set p.choices 2 (Moves (Did (run_no 2) 1 Down ∷ Doomed (run_no 2) (MustDown 1) ∷ [])) })
      ∷ row 18 no_grips 300 (λ p. record p {
        holders = (3 ∷ []) ∷ [] ∷ [] ∷ [] ∷ [];
        touched = (1 ∷ 2 ∷ 4 ∷ []) ∷ (1 ∷ []) ∷ [] ∷ (2 ∷ []) ∷ [];
        choices =
            slice_set (slice_set p.choices 2 (Over (Aborted (MustDown 1)) (Ended (run_no 2) (Aborted (MustDown 1)) ∷ []))) 3
            (Moves (Did (run_no 3) 0 Down ∷ Doomed (run_no 3) (MustDown 0) ∷ []));
      })
      ∷ row 19 no_grips 300 (λ p. record p { line = less 2 p.line; overdue = less 0 p.overdue; starts = (300 ∷ []) ∷ []; ends = (400 ∷ []) ∷ []; whole_ends = 400 ∷ []; choices = slice_set p.choices 2 (Over (Aborted (MustDown 1)) []) })
      ∷ row 21 no_grips 300 (λ p. record p { holders = [] ∷ [] ∷ [] ∷ [] ∷ []; touched = (1 ∷ 2 ∷ 3 ∷ 4 ∷ []) ∷ (1 ∷ []) ∷ [] ∷ (2 ∷ []) ∷ []; choices = slice_set p.choices 3 (Over (Aborted (MustDown 0)) (Ended (run_no 3) (Aborted (MustDown 0)) ∷ [])) })
      ∷ row 22 no_grips 300 (λ p. record p { line = less 2 p.line; overdue = []; starts = []; ends = []; whole_ends = []; choices = slice_set p.choices 3 (Over (Aborted (MustDown 0)) []) }) ∷ [];
  gives = give 6 0 1 (Commands 0) Worked (Did (run_no 1) 0 Fine ∷ [])
      ∷ give 9 0 4 (Commands 0) Died (Fell (device_no 0) ∷ Did (run_no 4) 0 Down ∷ Doomed (run_no 4) (MustDown 0) ∷ [])
      ∷ give 13 1 1 (Commands 1) Worked (Did (run_no 1) 1 Fine ∷ []) ∷ give 15 3 2 (Commands 0) (Sensed 0) (Did (run_no 2) 0 (Found 0) ∷ []) ∷ [];
  calls = 1 ∷ 1 ∷ 0 ∷ 1 ∷ [];
  outcome = record { order = Ran (run_no 1) ∷ Failed (device_no 0) 1 ∷ []; home = record { value = 1; up = false } ∷ record { value = 0; up = true } ∷ record { value = 0; up = true } ∷ record { value = 0; up = true } ∷ []; answers = record { run = run_no 1; answers = Fine ∷ Fine ∷ [] } ∷ [] };
}

is_worked : IsWorked window history table
unfolding chosen closure either_of gap_set others split_of
is_worked = record { points = refl; clauses = refl; gives = refl; calls = refl; ended = refl; allowed = refl; order = refl; answers = refl }
