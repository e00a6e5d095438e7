-- The window jit-patience-puts-at-the-end.
use Rattle.worked_windows.proofs.Prelude.{Always}
use Rattle.worked_windows.proofs.Words.{Aborted, Absent, Arrived, At, Behind, Busy, Check, Commands, Committed, Did, Doomed, Ended, Entry, Eventual, Fine, Found, HandsOut, IsWorked, JustInTime, List, Moves, None, Over, Placed, Ran, Range, Refuted, Revoked, Sensed, Set, Setting, Some, Store, Table, Undid, Undoes, Waits, Worked, [], device_no, give, held, less, more, no_grips, refl, row, run_no, slice_set, split_at, split_of, still, true, ◌++◌, ◌∷◌}

abbrev pub window : Setting
window = record {
  runs = record { commands = record { device = device_no 0; job = Store; when = Always; must = true; ms = 100; takes = 100 } ∷ []; follows = None }
      ∷ record {
        commands =
            record { device = device_no 1; job = Set 3; when = Always; must = true; ms = 100; takes = 12000 }
            ∷ record { device = device_no 0; job = Set 3; when = Always; must = true; ms = 100; takes = 100 }
            ∷ record { device = device_no 2; job = Check 2; when = Always; must = true; ms = 100; takes = 100 } ∷ [];
        follows = None;
      }
      ∷ record { commands = record { device = device_no 0; job = Set 3; when = Always; must = true; ms = 100; takes = 100 } ∷ []; follows = None } ∷ [];
  mode = record { model = Eventual; scheduler = JustInTime };
  kinds = Range 0 3 ∷ Range 0 3 ∷ Range 0 2 ∷ [];
  first = record { value = 0; up = true } ∷ record { value = 0; up = true } ∷ record { value = 0; up = true } ∷ [];
}

abbrev pub history : List Entry
history = Arrived (run_no 1) 0 ∷ Placed (run_no 1) 0 0 ∷ Arrived (run_no 3) 0 ∷ Arrived (run_no 2) 0 ∷ Placed (run_no 2) 0 0
    ∷ Did (run_no 2) 0 Fine ∷ Did (run_no 2) 1 Fine ∷ Placed (run_no 3) 2 12100 ∷ Did (run_no 1) 0 Fine ∷ Did (run_no 2) 2 (Found 0)
    ∷ Doomed (run_no 2) (Refuted 2 0) ∷ Undid (run_no 2) (device_no 1) true ∷ Did (run_no 3) 0 Fine ∷ Ended (run_no 2) (Aborted (Refuted 2 0)) ∷ Ended (run_no 3) Committed
    ∷ Ended (run_no 1) Committed ∷ []

abbrev pub table : Table
table = record {
  first = record {
    line = [];
    up = true ∷ true ∷ true ∷ [];
    writers = None ∷ None ∷ None ∷ [];
    values = 0 ∷ 0 ∷ 0 ∷ [];
    holders = [] ∷ [] ∷ [] ∷ [];
    touched = [] ∷ [] ∷ [] ∷ [];
    first_places = [];
    places = [];
    overdue = [];
    starts = [];
    ends = [];
    whole_ends = [];
    choices = Absent ∷ Moves (Arrived (run_no 1) 0 ∷ []) ∷ Moves (Arrived (run_no 2) 0 ∷ []) ∷ Moves (Arrived (run_no 3) 0 ∷ []) ∷ [];
  };
  rows = still 0 no_grips 0
      ∷ row 1 no_grips 0 (λ p. record p { first_places = 0 ∷ []; places = At (split_at [] 0) ∷ []; choices = slice_set p.choices 1 (Moves (Placed (run_no 1) 0 0 ∷ [])) })
      ∷ row 2 no_grips 0 (λ p. record p {
        line = Ran (run_no 1) ∷ [];
        holders = (1 ∷ []) ∷ [] ∷ [] ∷ [];
        first_places = [];
        places = [];
        overdue = (None ∷ None ∷ None ∷ []) ∷ [];
        starts = (0 ∷ []) ∷ [];
        ends = (100 ∷ []) ∷ [];
        whole_ends = 100 ∷ [];
        choices = slice_set p.choices 1 (HandsOut 0 (Commands 0));
      })
      ∷ row 3 no_grips 0 (λ p. record p { first_places = 0 ∷ []; places = At (split_at (Ran (run_no 1) ∷ []) 0) ∷ []; choices = slice_set p.choices 3 (Moves (Placed (run_no 3) 0 0 ∷ [])) })
      ∷ row 4 no_grips 0 (λ p. record p { first_places = 0 ∷ 0 ∷ []; places = p.places ++ At (split_at (Ran (run_no 1) ∷ []) 0) ∷ []; choices = slice_set p.choices 2 (Moves (Placed (run_no 2) 0 0 ∷ [])) })
      ∷ row 5 no_grips 0 (λ p. record p {
        line = Ran (run_no 2) ∷ Ran (run_no 1) ∷ [];
        holders = (1 ∷ 2 ∷ []) ∷ (2 ∷ []) ∷ (2 ∷ []) ∷ [];
        first_places = 0 ∷ [];
        places = At (split_at (Ran (run_no 2) ∷ Ran (run_no 1) ∷ []) 0) ∷ [];
        overdue = more 0 (None ∷ None ∷ None ∷ []) p.overdue;
        starts = (100 ∷ 0 ∷ 200 ∷ []) ∷ (0 ∷ []) ∷ [];
        ends = (200 ∷ 100 ∷ 300 ∷ []) ∷ (100 ∷ []) ∷ [];
        whole_ends = 300 ∷ 100 ∷ [];
        choices = slice_set (slice_set p.choices 1 (Waits (Behind (device_no 0) (run_no 2)))) 2 (HandsOut 1 (Commands 0));
      })
      ∷ row 5 (held 1 2 (Commands 0) no_grips) 0 (λ p. record p { touched = [] ∷ (2 ∷ []) ∷ [] ∷ []; choices = slice_set p.choices 2 (Waits (Busy (device_no 1))) })
      ∷ row 6 no_grips 12000 (λ p. record p {
        writers = None ∷ Some 2 ∷ None ∷ [];
        values = 0 ∷ 3 ∷ 0 ∷ [];
        holders = (1 ∷ 2 ∷ []) ∷ [] ∷ (2 ∷ []) ∷ [];
        overdue = slice_set p.overdue 1 (Some 2 ∷ None ∷ Some 2 ∷ []);
        choices =
            Absent ∷ Moves (Doomed (run_no 2) (Revoked (run_no 1) (device_no 0) 220 12000) ∷ []) ∷ HandsOut 0 (Commands 1)
            ∷ Moves (Placed (run_no 3) 0 12000 ∷ []) ∷ [];
      })
      ∷ row 6 (held 0 2 (Commands 1) no_grips) 12000 (λ p. record p {
        touched = (2 ∷ []) ∷ (2 ∷ []) ∷ [] ∷ [];
        first_places = 1 ∷ [];
        places = At (split_at (Ran (run_no 2) ∷ Ran (run_no 1) ∷ []) 2) ∷ [];
        choices = slice_set (slice_set p.choices 2 (Waits (Busy (device_no 0)))) 3 (Moves (Placed (run_no 3) 2 12000 ∷ []));
      })
      ∷ row 7 no_grips 12100 (λ p. record p {
        writers = Some 2 ∷ Some 2 ∷ None ∷ [];
        values = 3 ∷ 3 ∷ 0 ∷ [];
        holders = (1 ∷ []) ∷ [] ∷ (2 ∷ []) ∷ [];
        places = At (split_at (Ran (run_no 2) ∷ Ran (run_no 1) ∷ []) 1) ∷ [];
        overdue = slice_set p.overdue 1 (None ∷ None ∷ Some 2 ∷ []);
        choices = Absent ∷ HandsOut 0 (Commands 0) ∷ HandsOut 2 (Commands 2) ∷ Moves (Placed (run_no 3) 1 12100 ∷ []) ∷ [];
      })
      ∷ row 7 (held 0 1 (Commands 0) no_grips) 12100 (λ p. record p {
        touched = (1 ∷ 2 ∷ []) ∷ (2 ∷ []) ∷ [] ∷ [];
        first_places = 2 ∷ [];
        places = At (split_at (Ran (run_no 2) ∷ Ran (run_no 1) ∷ []) 2) ∷ [];
        choices = slice_set (slice_set p.choices 1 (Waits (Busy (device_no 0)))) 3 (Moves (Placed (run_no 3) 2 12100 ∷ []));
      })
      ∷ row 8 (held 0 1 (Commands 0) no_grips) 12100 (λ p. record p {
        line = p.line ++ Ran (run_no 3) ∷ [];
        holders = (1 ∷ 3 ∷ []) ∷ [] ∷ (2 ∷ []) ∷ [];
        first_places = [];
        places = [];
        overdue = more 2 (None ∷ None ∷ None ∷ []) p.overdue;
        starts = more 2 (12100 ∷ []) p.starts;
        ends = more 2 (12200 ∷ []) p.ends;
        whole_ends = 300 ∷ 100 ∷ 12200 ∷ [];
        choices = slice_set p.choices 3 (Waits (Behind (device_no 0) (run_no 1)));
      })
      ∷ row 8 (held 2 2 (Commands 2) (held 0 1 (Commands 0) no_grips)) 12100 (λ p. record p { touched = (1 ∷ 2 ∷ []) ∷ (2 ∷ []) ∷ (2 ∷ []) ∷ []; choices = slice_set p.choices 2 (Waits (Busy (device_no 2))) })
      ∷ row 9 (held 2 2 (Commands 2) no_grips) 12200 (λ p. record p { writers = Some 1 ∷ Some 2 ∷ None ∷ []; values = 0 ∷ 3 ∷ 0 ∷ []; holders = (3 ∷ []) ∷ [] ∷ (2 ∷ []) ∷ []; choices = slice_set (slice_set p.choices 1 (Over Committed (Ended (run_no 1) Committed ∷ []))) 3 (HandsOut 0 (Commands 0)) })
      ∷ row 9 (held 0 3 (Commands 0) (held 2 2 (Commands 2) no_grips)) 12200 (λ p. record p { touched = (1 ∷ 2 ∷ 3 ∷ []) ∷ (2 ∷ []) ∷ (2 ∷ []) ∷ []; choices = slice_set p.choices 3 (Waits (Busy (device_no 0))) })
      ∷ row 11 (held 0 3 (Commands 0) no_grips) 12300 (λ p. record p { holders = (3 ∷ []) ∷ (2 ∷ []) ∷ [] ∷ []; overdue = slice_set p.overdue 1 (None ∷ None ∷ None ∷ []); choices = slice_set p.choices 2 (HandsOut 1 (Undoes 0)) })
      ∷ row 11 (held 1 2 (Undoes 0) (held 0 3 (Commands 0) no_grips)) 12300 (λ p. record p { writers = Some 1 ∷ None ∷ None ∷ []; values = 0 ∷ 0 ∷ 0 ∷ []; holders = (3 ∷ []) ∷ [] ∷ [] ∷ []; choices = slice_set p.choices 2 (Waits (Busy (device_no 1))) })
      ∷ row 12 (held 0 3 (Commands 0) no_grips) 12300 (λ p. record p { choices = slice_set p.choices 2 (Over (Aborted (Refuted 2 0)) (Ended (run_no 2) (Aborted (Refuted 2 0)) ∷ [])) })
      ∷ row 13 no_grips 12400 (λ p. record p { writers = Some 3 ∷ None ∷ None ∷ []; values = 3 ∷ 0 ∷ 0 ∷ []; holders = [] ∷ [] ∷ [] ∷ []; choices = slice_set p.choices 3 (Over Committed (Ended (run_no 3) Committed ∷ [])) })
      ∷ row 14 no_grips 12400 (λ p. record p { line = Ran (run_no 1) ∷ Ran (run_no 3) ∷ []; overdue = less 0 p.overdue; starts = (0 ∷ []) ∷ (12100 ∷ []) ∷ []; ends = (100 ∷ []) ∷ (12200 ∷ []) ∷ []; whole_ends = 100 ∷ 12200 ∷ []; choices = slice_set p.choices 2 (Over (Aborted (Refuted 2 0)) []) })
      ∷ row 15 no_grips 12400 (λ p. record p { overdue = (None ∷ None ∷ None ∷ []) ∷ []; starts = (0 ∷ []) ∷ []; ends = (100 ∷ []) ∷ []; whole_ends = 0 ∷ []; choices = slice_set p.choices 3 (Over Committed []) })
      ∷ row 16 no_grips 12400 (λ p. record p { overdue = []; starts = []; ends = []; whole_ends = []; choices = slice_set p.choices 1 (Over Committed []) }) ∷ [];
  gives = give 5 1 2 (Commands 0) Worked (Did (run_no 2) 0 Fine ∷ []) ∷ give 6 0 2 (Commands 1) Worked (Did (run_no 2) 1 Fine ∷ [])
      ∷ give 8 0 1 (Commands 0) Worked (Did (run_no 1) 0 Fine ∷ [])
      ∷ give 9 2 2 (Commands 2) (Sensed 0) (Did (run_no 2) 2 (Found 0) ∷ Doomed (run_no 2) (Refuted 2 0) ∷ [])
      ∷ give 11 1 2 (Undoes 0) Worked (Undid (run_no 2) (device_no 1) true ∷ [])
      ∷ give 12 0 3 (Commands 0) Worked (Did (run_no 3) 0 Fine ∷ []) ∷ [];
  calls = 3 ∷ 2 ∷ 1 ∷ [];
  outcome = record { order = Ran (run_no 1) ∷ Ran (run_no 3) ∷ []; home = record { value = 3; up = true } ∷ record { value = 0; up = true } ∷ record { value = 0; up = true } ∷ []; answers = record { run = run_no 1; answers = Fine ∷ [] } ∷ record { run = run_no 3; answers = Fine ∷ [] } ∷ [] };
}

is_worked : IsWorked window history table
unfolding split_of
is_worked = record { points = refl; clauses = refl; gives = refl; calls = refl; ended = refl; allowed = refl; order = refl; answers = refl }
