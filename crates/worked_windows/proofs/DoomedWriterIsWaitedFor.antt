-- The window doomed-writer-is-waited-for.
use Rattle.worked_windows.proofs.Prelude.{Always}
use Rattle.worked_windows.proofs.Words.{Aborted, Absent, Arrived, At, Behind, Busy, Check, Commands, Did, Doomed, Ended, Entry, Eventual, Fine, Found, HandsOut, IsWorked, List, Moves, None, Over, Placed, Ran, Range, Refuted, Sensed, Set, Setting, Some, Table, Timeline, Undid, Undoes, Waits, Worked, [], chosen, closure, device_no, either_of, gap_set, give, held, no_grips, others, refl, row, run_no, slice_set, split_at, split_of, still, true, ◌∷◌}

abbrev pub window : Setting
window = record {
  runs = record { commands = record { device = device_no 0; job = Check 1; when = Always; must = true; ms = 100; takes = 100 } ∷ []; follows = None }
      ∷ record { commands = record { device = device_no 0; job = Check 1; when = Always; must = true; ms = 100; takes = 100 } ∷ []; follows = None }
      ∷ record {
        commands =
            record { device = device_no 0; job = Set 1; when = Always; must = true; ms = 100; takes = 100 }
            ∷ record { device = device_no 0; job = Check 0; when = Always; must = true; ms = 100; takes = 100 }
            ∷ record { device = device_no 0; job = Check 0; when = Always; must = true; ms = 100; takes = 100 } ∷ [];
        follows = None;
      } ∷ [];
  mode = record { model = Eventual; scheduler = Timeline };
  kinds = Range 0 1 ∷ [];
  first = record { value = 0; up = true } ∷ [];
}

abbrev pub history : List Entry
history = Arrived (run_no 3) 0 ∷ Placed (run_no 3) 0 0 ∷ Arrived (run_no 2) 0 ∷ Placed (run_no 2) 1 0 ∷ Did (run_no 3) 0 Fine
    ∷ Did (run_no 3) 1 (Found 1) ∷ Doomed (run_no 3) (Refuted 1 1) ∷ Undid (run_no 3) (device_no 0) true ∷ Arrived (run_no 1) 200 ∷ Did (run_no 2) 0 (Found 0)
    ∷ Doomed (run_no 2) (Refuted 0 0) ∷ Ended (run_no 2) (Aborted (Refuted 0 0)) ∷ Ended (run_no 3) (Aborted (Refuted 1 1)) ∷ Placed (run_no 1) 0 300 ∷ Did (run_no 1) 0 (Found 0)
    ∷ Doomed (run_no 1) (Refuted 0 0) ∷ Ended (run_no 1) (Aborted (Refuted 0 0)) ∷ []

abbrev pub table : Table
table = record {
  first = record {
    line = [];
    up = true ∷ [];
    writers = None ∷ [];
    values = 0 ∷ [];
    holders = [] ∷ [];
    touched = [] ∷ [];
    first_places = [];
    places = [];
    overdue = [];
    starts = [];
    ends = [];
    whole_ends = [];
    choices = Absent ∷ Moves (Arrived (run_no 1) 0 ∷ []) ∷ Moves (Arrived (run_no 2) 0 ∷ []) ∷ Moves (Arrived (run_no 3) 0 ∷ []) ∷ [];
  };
  rows = still 0 no_grips 0
      ∷ row 1 no_grips 0 (λ p. record p { first_places = 0 ∷ []; places = At (split_at [] 0) ∷ []; choices = slice_set p.choices 3 (Moves (Placed (run_no 3) 0 0 ∷ [])) })
      ∷ row 2 no_grips 0 (λ p. record p { line = Ran (run_no 3) ∷ []; holders = (3 ∷ []) ∷ []; first_places = []; places = []; overdue = (None ∷ []) ∷ []; starts = (0 ∷ []) ∷ []; ends = (300 ∷ []) ∷ []; whole_ends = 300 ∷ []; choices = slice_set p.choices 3 (HandsOut 0 (Commands 0)) })
      ∷ row 3 no_grips 0 (λ p. record p { first_places = 0 ∷ []; places = At (split_at (Ran (run_no 3) ∷ []) 1) ∷ []; choices = slice_set p.choices 2 (Moves (Placed (run_no 2) 1 0 ∷ [])) })
      ∷ row 4 no_grips 0 (λ p. record p {
        line = Ran (run_no 3) ∷ Ran (run_no 2) ∷ [];
        holders = (2 ∷ 3 ∷ []) ∷ [];
        first_places = [];
        places = [];
        overdue = (None ∷ []) ∷ (None ∷ []) ∷ [];
        starts = (0 ∷ []) ∷ (300 ∷ []) ∷ [];
        ends = (300 ∷ []) ∷ (400 ∷ []) ∷ [];
        whole_ends = 300 ∷ 400 ∷ [];
        choices = slice_set p.choices 2 (Waits (Behind (device_no 0) (run_no 3)));
      })
      ∷ row 4 (held 0 3 (Commands 0) no_grips) 0 (λ p. record p { touched = (3 ∷ []) ∷ []; choices = slice_set p.choices 3 (Waits (Busy (device_no 0))) })
      ∷ row 5 no_grips 100 (λ p. record p { writers = Some 3 ∷ []; values = 1 ∷ []; choices = slice_set (slice_set p.choices 1 (Moves (Arrived (run_no 1) 100 ∷ []))) 3 (HandsOut 0 (Commands 1)) })
      ∷ row 5 (held 0 3 (Commands 1) no_grips) 100 (λ p. record p { choices = slice_set p.choices 3 (Waits (Busy (device_no 0))) })
      ∷ row 7 no_grips 200 (λ p. record p { choices = slice_set (slice_set p.choices 1 (Moves (Arrived (run_no 1) 200 ∷ []))) 3 (HandsOut 0 (Undoes 0)) })
      ∷ row 7 (held 0 3 (Undoes 0) no_grips) 200 (λ p. record p { writers = None ∷ []; values = 0 ∷ []; holders = (2 ∷ []) ∷ []; choices = slice_set (slice_set p.choices 2 (Waits (Busy (device_no 0)))) 3 (Waits (Busy (device_no 0))) })
      ∷ row 8 no_grips 200 (λ p. record p { choices = slice_set (slice_set p.choices 2 (HandsOut 0 (Commands 0))) 3 (Over (Aborted (Refuted 1 1)) (Ended (run_no 3) (Aborted (Refuted 1 1)) ∷ [])) })
      ∷ row 9 no_grips 200 (λ p. record p { first_places = 1 ∷ []; places = At (split_at (Ran (run_no 3) ∷ Ran (run_no 2) ∷ []) 2) ∷ []; choices = slice_set p.choices 1 (Moves (Placed (run_no 1) 2 200 ∷ [])) })
      ∷ row 9 (held 0 2 (Commands 0) no_grips) 200 (λ p. record p { touched = (2 ∷ 3 ∷ []) ∷ []; first_places = 2 ∷ []; choices = slice_set p.choices 2 (Waits (Busy (device_no 0))) })
      ∷ row 11 no_grips 300 (λ p. record p { holders = [] ∷ []; choices = slice_set (slice_set p.choices 1 (Moves (Placed (run_no 1) 2 300 ∷ []))) 2 (Over (Aborted (Refuted 0 0)) (Ended (run_no 2) (Aborted (Refuted 0 0)) ∷ [])) })
      ∷ row 12 no_grips 300 (λ p. record p {
        line = Ran (run_no 3) ∷ [];
        first_places = 1 ∷ [];
        places = At (split_at (Ran (run_no 3) ∷ []) 1) ∷ [];
        overdue = (None ∷ []) ∷ [];
        starts = (0 ∷ []) ∷ [];
        ends = (300 ∷ []) ∷ [];
        whole_ends = 300 ∷ [];
        choices = slice_set (slice_set p.choices 1 (Moves (Placed (run_no 1) 1 300 ∷ []))) 2 (Over (Aborted (Refuted 0 0)) []);
      })
      ∷ row 13 no_grips 300 (λ p. record p { line = []; first_places = 0 ∷ []; places = At (split_at [] 0) ∷ []; overdue = []; starts = []; ends = []; whole_ends = []; choices = slice_set (slice_set p.choices 1 (Moves (Placed (run_no 1) 0 300 ∷ []))) 3 (Over (Aborted (Refuted 1 1)) []) })
      ∷ row 14 no_grips 300 (λ p. record p { line = Ran (run_no 1) ∷ []; holders = (1 ∷ []) ∷ []; first_places = []; places = []; overdue = (None ∷ []) ∷ []; starts = (300 ∷ []) ∷ []; ends = (400 ∷ []) ∷ []; whole_ends = 400 ∷ []; choices = slice_set p.choices 1 (HandsOut 0 (Commands 0)) })
      ∷ row 14 (held 0 1 (Commands 0) no_grips) 300 (λ p. record p { touched = (1 ∷ 2 ∷ 3 ∷ []) ∷ []; choices = slice_set p.choices 1 (Waits (Busy (device_no 0))) })
      ∷ row 16 no_grips 400 (λ p. record p { holders = [] ∷ []; choices = slice_set p.choices 1 (Over (Aborted (Refuted 0 0)) (Ended (run_no 1) (Aborted (Refuted 0 0)) ∷ [])) })
      ∷ row 17 no_grips 400 (λ p. record p { line = []; overdue = []; starts = []; ends = []; whole_ends = []; choices = slice_set p.choices 1 (Over (Aborted (Refuted 0 0)) []) }) ∷ [];
  gives = give 4 0 3 (Commands 0) Worked (Did (run_no 3) 0 Fine ∷ [])
      ∷ give 5 0 3 (Commands 1) (Sensed 1) (Did (run_no 3) 1 (Found 1) ∷ Doomed (run_no 3) (Refuted 1 1) ∷ [])
      ∷ give 7 0 3 (Undoes 0) Worked (Undid (run_no 3) (device_no 0) true ∷ [])
      ∷ give 9 0 2 (Commands 0) (Sensed 0) (Did (run_no 2) 0 (Found 0) ∷ Doomed (run_no 2) (Refuted 0 0) ∷ [])
      ∷ give 14 0 1 (Commands 0) (Sensed 0) (Did (run_no 1) 0 (Found 0) ∷ Doomed (run_no 1) (Refuted 0 0) ∷ []) ∷ [];
  calls = 5 ∷ [];
  outcome = record { order = []; home = record { value = 0; up = true } ∷ []; answers = [] };
}

is_worked : IsWorked window history table
unfolding chosen closure either_of gap_set others split_of
is_worked = record { points = refl; clauses = refl; gives = refl; calls = refl; ended = refl; allowed = refl; order = refl; answers = refl }
