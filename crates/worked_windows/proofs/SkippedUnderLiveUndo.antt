-- The window skipped-under-live-undo: a run sees a device down while an earlier one has still to undo its write there.
use Rattle.worked_windows.proofs.Prelude.{Always}
use Rattle.worked_windows.proofs.Words.{Aborted, Absent, Arrived, At, Back, Behind, Busy, Check, Commands, Committed, Did, Died, Doomed, Down, Ended, Entry, Eventual, Failed, Fcfs, Fell, Fine, Found, HandsOut, IsWorked, List, Moves, None, Over, Placed, Probes, Ran, Refuted, Rose, Sensed, Set, Setting, Some, Table, Undid, Undoes, Waits, Worked, [], device_no, false, give, held, home_of_four, less, more, no_grips, refl, row, run_no, slice_set, split_at, split_of, still, true, ◌++◌, ◌∷◌}

abbrev pub window : Setting
window = record home_of_four {
  runs = record { commands = record { device = device_no 3; job = Set 20; when = Always; must = true; ms = 100; takes = 100 } ∷ record { device = device_no 1; job = Check 1; when = Always; must = true; ms = 100; takes = 100 } ∷ []; follows = None }
      ∷ record { commands = record { device = device_no 3; job = Set 25; when = Always; must = false; ms = 100; takes = 100 } ∷ []; follows = None } ∷ [];
  mode = record { model = Eventual; scheduler = Fcfs };
}

abbrev pub history : List Entry
history = Arrived (run_no 1) 0 ∷ Placed (run_no 1) 0 0 ∷ Arrived (run_no 2) 0 ∷ Placed (run_no 2) 1 0 ∷ Did (run_no 1) 0 Fine
    ∷ Fell (device_no 3) ∷ Did (run_no 2) 0 Down ∷ Rose (device_no 3) ∷ Ended (run_no 2) Committed ∷ Did (run_no 1) 1 (Found 0)
    ∷ Doomed (run_no 1) (Refuted 1 0) ∷ Undid (run_no 1) (device_no 3) true ∷ Ended (run_no 1) (Aborted (Refuted 1 0)) ∷ []

abbrev pub table : Table
table = record {
  first = record {
    line = [];
    up = true ∷ true ∷ true ∷ true ∷ [];
    writers = None ∷ None ∷ None ∷ None ∷ [];
    values = 0 ∷ 0 ∷ 0 ∷ 18 ∷ [];
    holders = [] ∷ [] ∷ [] ∷ [] ∷ [];
    touched = [] ∷ [] ∷ [] ∷ [] ∷ [];
    first_places = [];
    places = [];
    overdue = [];
    starts = [];
    ends = [];
    whole_ends = [];
    choices = Absent ∷ Moves (Arrived (run_no 1) 0 ∷ []) ∷ Moves (Arrived (run_no 2) 0 ∷ []) ∷ [];
  };
  rows = still 0 no_grips 0
      ∷ row 1 no_grips 0 (λ p. record p { first_places = 0 ∷ []; places = At (split_at [] 0) ∷ []; choices = slice_set p.choices 1 (Moves (Placed (run_no 1) 0 0 ∷ [])) })
      ∷ row 2 no_grips 0 (λ p. record p {
        line = Ran (run_no 1) ∷ [];
        holders = [] ∷ (1 ∷ []) ∷ [] ∷ (1 ∷ []) ∷ [];
        first_places = [];
        places = [];
        overdue = (None ∷ None ∷ None ∷ None ∷ []) ∷ [];
        starts = (100 ∷ 0 ∷ []) ∷ [];
        ends = (200 ∷ 100 ∷ []) ∷ [];
        whole_ends = 200 ∷ [];
        choices = slice_set p.choices 1 (HandsOut 3 (Commands 0));
      })
      ∷ row 3 no_grips 0 (λ p. record p { first_places = 0 ∷ []; places = At (split_at (Ran (run_no 1) ∷ []) 1) ∷ []; choices = slice_set p.choices 2 (Moves (Placed (run_no 2) 1 0 ∷ [])) })
      ∷ row 4 no_grips 0 (λ p. record p {
        line = Ran (run_no 1) ∷ Ran (run_no 2) ∷ [];
        holders = [] ∷ (1 ∷ []) ∷ [] ∷ (1 ∷ 2 ∷ []) ∷ [];
        first_places = [];
        places = [];
        overdue = more 0 (None ∷ None ∷ None ∷ None ∷ []) p.overdue;
        starts = (100 ∷ 0 ∷ []) ∷ (0 ∷ []) ∷ [];
        ends = (200 ∷ 100 ∷ []) ∷ (100 ∷ []) ∷ [];
        whole_ends = 200 ∷ 100 ∷ [];
        choices = slice_set p.choices 2 (Waits (Behind (device_no 3) (run_no 1)));
      })
      ∷ row 4 (held 3 1 (Commands 0) no_grips) 0 (λ p. record p { touched = [] ∷ [] ∷ [] ∷ (1 ∷ []) ∷ []; choices = slice_set p.choices 1 (Waits (Busy (device_no 3))) })
      ∷ row 5 no_grips 100 (λ p. record p { writers = None ∷ None ∷ None ∷ Some 1 ∷ []; values = 0 ∷ 0 ∷ 0 ∷ 20 ∷ []; holders = [] ∷ (1 ∷ []) ∷ [] ∷ (2 ∷ []) ∷ []; choices = Absent ∷ HandsOut 1 (Commands 1) ∷ HandsOut 3 (Commands 0) ∷ [] })
      ∷ row 5 (held 3 2 (Commands 0) no_grips) 100 (λ p. record p { touched = [] ∷ [] ∷ [] ∷ (1 ∷ 2 ∷ []) ∷ []; choices = slice_set p.choices 2 (Waits (Busy (device_no 3))) })
      ∷ row 7 no_grips 200 (λ p. record p { line = more 1 (Failed (device_no 3) 1) p.line; up = true ∷ true ∷ true ∷ false ∷ []; holders = [] ∷ (1 ∷ []) ∷ [] ∷ [] ∷ []; choices = slice_set p.choices 2 (Over Committed (Ended (run_no 2) Committed ∷ [])) })
      ∷ still 7 (held 0 0 (Probes None) no_grips) 200 ∷ still 7 no_grips 200
      ∷ row 7 (held 1 0 (Probes None) no_grips) 200 (λ p. record p { choices = slice_set p.choices 1 (Waits (Busy (device_no 1))) })
      ∷ row 7 no_grips 200 (λ p. record p { choices = slice_set p.choices 1 (HandsOut 1 (Commands 1)) })
      ∷ still 7 (held 2 0 (Probes None) no_grips) 200 ∷ still 7 no_grips 200
      ∷ still 7 (held 3 0 (Probes (Some 20)) no_grips) 200
      ∷ row 8 no_grips 200 (λ p. record p { line = p.line ++ Back (device_no 3) 1 ∷ []; up = true ∷ true ∷ true ∷ true ∷ [] })
      ∷ row 9 no_grips 200 (λ p. record p { overdue = (None ∷ None ∷ None ∷ None ∷ []) ∷ []; starts = (100 ∷ 0 ∷ []) ∷ []; ends = (200 ∷ 100 ∷ []) ∷ []; whole_ends = 200 ∷ []; choices = slice_set p.choices 2 (Over Committed []) })
      ∷ row 9 (held 1 1 (Commands 1) no_grips) 200 (λ p. record p { touched = [] ∷ (1 ∷ []) ∷ [] ∷ (1 ∷ 2 ∷ []) ∷ []; choices = slice_set p.choices 1 (Waits (Busy (device_no 1))) })
      ∷ row 11 no_grips 300 (λ p. record p { holders = [] ∷ [] ∷ [] ∷ (1 ∷ []) ∷ []; choices = slice_set p.choices 1 (HandsOut 3 (Undoes 18)) })
      ∷ row 11 (held 3 1 (Undoes 18) no_grips) 300 (λ p. record p { writers = None ∷ None ∷ None ∷ None ∷ []; values = 0 ∷ 0 ∷ 0 ∷ 18 ∷ []; holders = [] ∷ [] ∷ [] ∷ [] ∷ []; choices = slice_set p.choices 1 (Waits (Busy (device_no 3))) })
      ∷ row 12 no_grips 300 (λ p. record p { choices = slice_set p.choices 1 (Over (Aborted (Refuted 1 0)) (Ended (run_no 1) (Aborted (Refuted 1 0)) ∷ [])) })
      ∷ row 13 no_grips 300 (λ p. record p { line = less 0 p.line; overdue = []; starts = []; ends = []; whole_ends = []; choices = slice_set p.choices 1 (Over (Aborted (Refuted 1 0)) []) }) ∷ [];
  gives = give 4 3 1 (Commands 0) Worked (Did (run_no 1) 0 Fine ∷ [])
      ∷ give 5 3 2 (Commands 0) Died (Fell (device_no 3) ∷ Did (run_no 2) 0 Down ∷ []) ∷ give 7 0 0 (Probes None) Worked []
      ∷ give 7 1 0 (Probes None) Worked [] ∷ give 7 2 0 (Probes None) Worked []
      ∷ give 7 3 0 (Probes (Some 20)) Worked (Rose (device_no 3) ∷ [])
      ∷ give 9 1 1 (Commands 1) (Sensed 0) (Did (run_no 1) 1 (Found 0) ∷ Doomed (run_no 1) (Refuted 1 0) ∷ [])
      ∷ give 11 3 1 (Undoes 18) Worked (Undid (run_no 1) (device_no 3) true ∷ []) ∷ [];
  calls = 0 ∷ 1 ∷ 0 ∷ 3 ∷ [];
  outcome = record {
    order = Failed (device_no 3) 1 ∷ Ran (run_no 2) ∷ Back (device_no 3) 1 ∷ [];
    home = record { value = 0; up = true } ∷ record { value = 0; up = true } ∷ record { value = 0; up = true } ∷ record { value = 18; up = true } ∷ [];
    answers = record { run = run_no 2; answers = Down ∷ [] } ∷ [];
  };
}

is_worked : IsWorked window history table
unfolding split_of
is_worked = record { points = refl; clauses = refl; gives = refl; calls = refl; ended = refl; allowed = refl; order = refl; answers = refl }
