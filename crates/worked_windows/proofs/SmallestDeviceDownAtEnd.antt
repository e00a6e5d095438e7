-- The window smallest-device-down-at-end.
use Rattle.worked_windows.proofs.Prelude.{Always}
use Rattle.worked_windows.proofs.Words.{Aborted, Absent, Arrived, At, Busy, Check, Commands, Did, Died, Doomed, Down, DownAtEnd, Ended, Entry, Failed, Fcfs, Fell, Fine, Found, Global, HandsOut, IsWorked, List, Moves, None, Over, Placed, Probes, Ran, Range, Refuted, Sensed, Set, Setting, Some, Strict, Table, Undid, Undoes, Waits, Worked, [], device_no, false, give, held, less, more, no_grips, refl, row, run_no, slice_set, split_at, split_of, still, true, ◌∷◌}

abbrev pub window : Setting
window = record {
  runs = record { commands = record { device = device_no 0; job = Set 2; when = Always; must = true; ms = 100; takes = 100 } ∷ record { device = device_no 0; job = Check 0; when = Always; must = true; ms = 100; takes = 100 } ∷ []; follows = None }
      ∷ record { commands = record { device = device_no 0; job = Set 1; when = Always; must = false; ms = 100; takes = 100 } ∷ record { device = device_no 1; job = Check 1; when = Always; must = false; ms = 100; takes = 100 } ∷ []; follows = None } ∷ [];
  mode = record { model = Global; scheduler = Fcfs };
  kinds = Range 0 3 ∷ Range 0 3 ∷ [];
  first = record { value = 0; up = true } ∷ record { value = 0; up = true } ∷ [];
}

abbrev pub history : List Entry
history = Arrived (run_no 1) 0 ∷ Placed (run_no 1) 0 0 ∷ Did (run_no 1) 0 Fine ∷ Did (run_no 1) 1 (Found 2) ∷ Doomed (run_no 1) (Refuted 1 2)
    ∷ Arrived (run_no 2) 200 ∷ Undid (run_no 1) (device_no 0) true ∷ Placed (run_no 2) 1 200 ∷ Ended (run_no 1) (Aborted (Refuted 1 2)) ∷ Fell (device_no 0)
    ∷ Did (run_no 2) 0 Down ∷ Fell (device_no 1) ∷ Did (run_no 2) 1 Down ∷ Doomed (run_no 2) (DownAtEnd (device_no 0)) ∷ Ended (run_no 2) (Aborted (DownAtEnd (device_no 0))) ∷ []

abbrev pub table : Table
table = record {
  first = record {
    line = [];
    up = true ∷ true ∷ [];
    writers = None ∷ None ∷ [];
    values = 0 ∷ 0 ∷ [];
    holders = [] ∷ [] ∷ [];
    touched = [] ∷ [] ∷ [];
    first_places = [];
    places = [];
    overdue = [];
    starts = [];
    ends = [];
    whole_ends = [];
    choices = Absent ∷ Moves (Arrived (run_no 1) 0 ∷ []) ∷ Moves (Arrived (run_no 2) 0 ∷ []) ∷ [];
  };
  rows = still 0 no_grips 0
      ∷ row 1 no_grips 0 (λ p. record p { first_places = 0 ∷ []; places = At (split_at [] 0) ∷ []; choices = slice_set p.choices 1 (Moves (Placed (run_no 1) 0 0 ∷ [])) })
      ∷ row 2 no_grips 0 (λ p. record p { line = Ran (run_no 1) ∷ []; holders = (1 ∷ []) ∷ [] ∷ []; first_places = []; places = []; overdue = (None ∷ None ∷ []) ∷ []; starts = (0 ∷ []) ∷ []; ends = (200 ∷ []) ∷ []; whole_ends = 200 ∷ []; choices = slice_set p.choices 1 (HandsOut 0 (Commands 0)) })
      ∷ row 2 (held 0 1 (Commands 0) no_grips) 0 (λ p. record p { touched = (1 ∷ []) ∷ [] ∷ []; choices = slice_set p.choices 1 (Waits (Busy (device_no 0))) })
      ∷ row 3 no_grips 100 (λ p. record p { writers = Some 1 ∷ None ∷ []; values = 2 ∷ 0 ∷ []; choices = Absent ∷ HandsOut 0 (Commands 1) ∷ Moves (Arrived (run_no 2) 100 ∷ []) ∷ [] })
      ∷ row 3 (held 0 1 (Commands 1) no_grips) 100 (λ p. record p { choices = slice_set p.choices 1 (Waits (Busy (device_no 0))) })
      ∷ row 5 no_grips 200 (λ p. record p { choices = Absent ∷ HandsOut 0 (Undoes 0) ∷ Moves (Arrived (run_no 2) 200 ∷ []) ∷ [] })
      ∷ row 5 (held 0 1 (Undoes 0) no_grips) 200 (λ p. record p { writers = None ∷ None ∷ []; values = 0 ∷ 0 ∷ []; holders = [] ∷ [] ∷ []; choices = slice_set p.choices 1 (Waits (Busy (device_no 0))) })
      ∷ row 6 (held 0 1 (Undoes 0) no_grips) 200 (λ p. record p { first_places = 1 ∷ []; places = At (split_at (Ran (run_no 1) ∷ []) 1) ∷ []; choices = slice_set p.choices 2 (Moves (Placed (run_no 2) 1 200 ∷ [])) })
      ∷ still 6 (held 1 0 (Probes None) (held 0 1 (Undoes 0) no_grips)) 200
      ∷ still 6 (held 0 1 (Undoes 0) no_grips) 200
      ∷ row 7 no_grips 200 (λ p. record p { choices = slice_set p.choices 1 (Over (Aborted (Refuted 1 2)) (Ended (run_no 1) (Aborted (Refuted 1 2)) ∷ [])) })
      ∷ row 8 no_grips 200 (λ p. record p {
        line = Ran (run_no 1) ∷ Ran (run_no 2) ∷ [];
        holders = (2 ∷ []) ∷ (2 ∷ []) ∷ [];
        first_places = [];
        places = [];
        overdue = (None ∷ None ∷ []) ∷ (None ∷ None ∷ []) ∷ [];
        starts = (0 ∷ []) ∷ (200 ∷ 300 ∷ []) ∷ [];
        ends = (200 ∷ []) ∷ (300 ∷ 400 ∷ []) ∷ [];
        whole_ends = 200 ∷ 400 ∷ [];
        choices = slice_set p.choices 2 (Waits (Strict (run_no 1)));
      })
      ∷ row 9 no_grips 200 (λ p. record p { line = Ran (run_no 2) ∷ []; overdue = (None ∷ None ∷ []) ∷ []; starts = (200 ∷ 300 ∷ []) ∷ []; ends = (300 ∷ 400 ∷ []) ∷ []; whole_ends = 400 ∷ []; choices = Absent ∷ Over (Aborted (Refuted 1 2)) [] ∷ HandsOut 0 (Commands 0) ∷ [] })
      ∷ row 9 (held 0 2 (Commands 0) no_grips) 200 (λ p. record p { touched = (1 ∷ 2 ∷ []) ∷ [] ∷ []; choices = slice_set p.choices 2 (Waits (Busy (device_no 0))) })
      ∷ row 11 no_grips 300 (λ p. record p { line = Failed (device_no 0) 1 ∷ Ran (run_no 2) ∷ []; up = false ∷ true ∷ []; holders = [] ∷ (2 ∷ []) ∷ []; choices = slice_set p.choices 2 (HandsOut 1 (Commands 1)) })
      ∷ row 11 (held 1 2 (Commands 1) no_grips) 300 (λ p. record p { touched = (1 ∷ 2 ∷ []) ∷ (2 ∷ []) ∷ []; choices = slice_set p.choices 2 (Waits (Busy (device_no 1))) })
      ∷ row 13 no_grips 400 (λ p. record p { line = more 1 (Failed (device_no 1) 1) p.line; up = false ∷ false ∷ []; holders = [] ∷ [] ∷ []; choices = slice_set p.choices 2 (Moves (Doomed (run_no 2) (DownAtEnd (device_no 0)) ∷ [])) })
      ∷ row 14 no_grips 400 (λ p. record p { choices = slice_set p.choices 2 (Over (Aborted (DownAtEnd (device_no 0))) (Ended (run_no 2) (Aborted (DownAtEnd (device_no 0))) ∷ [])) })
      ∷ row 15 no_grips 400 (λ p. record p { line = less 2 p.line; overdue = []; starts = []; ends = []; whole_ends = []; choices = slice_set p.choices 2 (Over (Aborted (DownAtEnd (device_no 0))) []) }) ∷ [];
  gives = give 2 0 1 (Commands 0) Worked (Did (run_no 1) 0 Fine ∷ [])
      ∷ give 3 0 1 (Commands 1) (Sensed 2) (Did (run_no 1) 1 (Found 2) ∷ Doomed (run_no 1) (Refuted 1 2) ∷ [])
      ∷ give 6 1 0 (Probes None) Worked [] ∷ give 6 0 1 (Undoes 0) Worked (Undid (run_no 1) (device_no 0) true ∷ [])
      ∷ give 9 0 2 (Commands 0) Died (Fell (device_no 0) ∷ Did (run_no 2) 0 Down ∷ [])
      ∷ give 11 1 2 (Commands 1) Died (Fell (device_no 1) ∷ Did (run_no 2) 1 Down ∷ []) ∷ [];
  calls = 3 ∷ 0 ∷ [];
  outcome = record { order = Failed (device_no 0) 1 ∷ Failed (device_no 1) 1 ∷ []; home = record { value = 0; up = false } ∷ record { value = 0; up = false } ∷ []; answers = [] };
}

is_worked : IsWorked window history table
unfolding split_of
is_worked = record { points = refl; clauses = refl; gives = refl; calls = refl; ended = refl; allowed = refl; order = refl; answers = refl }
