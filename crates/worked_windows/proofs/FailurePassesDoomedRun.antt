-- The window failure-passes-doomed-run: a failure stands behind a run that has touched the device, though a doomed one before it has not.
use Rattle.worked_windows.proofs.Prelude.{Always}
use Rattle.worked_windows.proofs.Words.{Aborted, Absent, Arrived, At, Behind, Busy, Check, Commands, Committed, Did, Died, Doomed, Ended, Entry, Eventual, Failed, Fcfs, Fell, Fine, Found, HandsOut, IsWorked, List, Moves, None, Over, Placed, Probes, Ran, Range, Refuted, Sensed, Set, Setting, Some, States, Table, Undid, Undoes, Waits, Worked, [], device_no, false, give, held, more, no_grips, refl, row, run_no, slice_set, split_at, split_of, still, true, ◌++◌, ◌∷◌}

abbrev pub window : Setting
window = record {
  runs = record {
    commands =
        record { device = device_no 2; job = Set 20; when = Always; must = true; ms = 100; takes = 100 }
        ∷ record { device = device_no 1; job = Check 1; when = Always; must = true; ms = 100; takes = 100 }
        ∷ record { device = device_no 0; job = Set 1; when = Always; must = true; ms = 100; takes = 100 } ∷ [];
    follows = None;
  }
      ∷ record { commands = record { device = device_no 0; job = Set 1; when = Always; must = true; ms = 100; takes = 100 } ∷ record { device = device_no 3; job = Set 1; when = Always; must = true; ms = 100; takes = 100 } ∷ []; follows = None } ∷ [];
  mode = record { model = Eventual; scheduler = Fcfs };
  kinds = States 2 ∷ States 2 ∷ Range 10 30 ∷ States 2 ∷ [];
  first = record { value = 0; up = true } ∷ record { value = 0; up = true } ∷ record { value = 18; up = true } ∷ record { value = 0; up = true } ∷ [];
}

abbrev pub history : List Entry
history = Arrived (run_no 1) 0 ∷ Placed (run_no 1) 0 0 ∷ Arrived (run_no 2) 0 ∷ Placed (run_no 2) 1 0 ∷ Did (run_no 1) 0 Fine
    ∷ Did (run_no 1) 1 (Found 0) ∷ Doomed (run_no 1) (Refuted 1 0) ∷ Did (run_no 2) 0 Fine ∷ Fell (device_no 0) ∷ Did (run_no 2) 1 Fine
    ∷ Ended (run_no 2) Committed ∷ Undid (run_no 1) (device_no 2) true ∷ Ended (run_no 1) (Aborted (Refuted 1 0)) ∷ []

abbrev pub table : Table
table = record {
  first = record {
    line = [];
    up = true ∷ true ∷ true ∷ true ∷ [];
    writers = None ∷ None ∷ None ∷ None ∷ [];
    values = 0 ∷ 0 ∷ 18 ∷ 0 ∷ [];
    holders = [] ∷ [] ∷ [] ∷ [] ∷ [];
    touched = [] ∷ [] ∷ [] ∷ [] ∷ [];
    first_places = [];
    places = [];
    overdue = [];
    starts = [];
    ends = [];
    whole_ends = [];
    choices = Absent ∷ Moves (Arrived (run_no 1) 0 ∷ []) ∷ Moves (Arrived (run_no 2) 0 ∷ []) ∷ [];
  };
  rows = still 0 no_grips 0
      ∷ row 1 no_grips 0 (λ p. record p { first_places = 0 ∷ []; places = At (split_at [] 0) ∷ []; choices = slice_set p.choices 1 (Moves (Placed (run_no 1) 0 0 ∷ [])) })
      ∷ row 2 no_grips 0 (λ p. record p {
        line = Ran (run_no 1) ∷ [];
        holders = (1 ∷ []) ∷ (1 ∷ []) ∷ (1 ∷ []) ∷ [] ∷ [];
        first_places = [];
        places = [];
        overdue = (None ∷ None ∷ None ∷ None ∷ []) ∷ [];
        starts = (200 ∷ 100 ∷ 0 ∷ []) ∷ [];
        ends = (300 ∷ 200 ∷ 100 ∷ []) ∷ [];
        whole_ends = 300 ∷ [];
        choices = slice_set p.choices 1 (HandsOut 2 (Commands 0));
      })
      ∷ row 3 no_grips 0 (λ p. record p { first_places = 0 ∷ []; places = At (split_at (Ran (run_no 1) ∷ []) 1) ∷ []; choices = slice_set p.choices 2 (Moves (Placed (run_no 2) 1 0 ∷ [])) })
      ∷ row 4 no_grips 0 (λ p. record p {
        line = Ran (run_no 1) ∷ Ran (run_no 2) ∷ [];
        holders = (1 ∷ 2 ∷ []) ∷ (1 ∷ []) ∷ (1 ∷ []) ∷ (2 ∷ []) ∷ [];
        first_places = [];
        places = [];
        overdue = more 0 (None ∷ None ∷ None ∷ None ∷ []) p.overdue;
        starts = (200 ∷ 100 ∷ 0 ∷ []) ∷ (0 ∷ 100 ∷ []) ∷ [];
        ends = (300 ∷ 200 ∷ 100 ∷ []) ∷ (100 ∷ 200 ∷ []) ∷ [];
        whole_ends = 300 ∷ 200 ∷ [];
        choices = slice_set p.choices 2 (Waits (Behind (device_no 0) (run_no 1)));
      })
      ∷ row 4 (held 2 1 (Commands 0) no_grips) 0 (λ p. record p { touched = [] ∷ [] ∷ (1 ∷ []) ∷ [] ∷ []; choices = slice_set p.choices 1 (Waits (Busy (device_no 2))) })
      ∷ row 5 no_grips 100 (λ p. record p { writers = None ∷ None ∷ Some 1 ∷ None ∷ []; values = 0 ∷ 0 ∷ 20 ∷ 0 ∷ []; holders = (1 ∷ 2 ∷ []) ∷ (1 ∷ []) ∷ [] ∷ (2 ∷ []) ∷ []; choices = slice_set p.choices 1 (HandsOut 1 (Commands 1)) })
      ∷ row 5 (held 1 1 (Commands 1) no_grips) 100 (λ p. record p { touched = [] ∷ (1 ∷ []) ∷ (1 ∷ []) ∷ [] ∷ []; choices = slice_set p.choices 1 (Waits (Busy (device_no 1))) })
      ∷ row 7 no_grips 200 (λ p. record p { holders = (2 ∷ []) ∷ [] ∷ (1 ∷ []) ∷ (2 ∷ []) ∷ []; choices = Absent ∷ HandsOut 2 (Undoes 18) ∷ HandsOut 0 (Commands 0) ∷ [] })
      ∷ row 7 (held 0 2 (Commands 0) no_grips) 200 (λ p. record p { touched = (2 ∷ []) ∷ (1 ∷ []) ∷ (1 ∷ []) ∷ [] ∷ []; choices = slice_set p.choices 2 (Waits (Busy (device_no 0))) })
      ∷ row 8 no_grips 300 (λ p. record p { writers = Some 2 ∷ None ∷ Some 1 ∷ None ∷ []; values = 1 ∷ 0 ∷ 20 ∷ 0 ∷ []; holders = [] ∷ [] ∷ (1 ∷ []) ∷ (2 ∷ []) ∷ []; choices = slice_set p.choices 2 (HandsOut 3 (Commands 1)) })
      ∷ still 8 (held 0 0 (Probes None) no_grips) 300
      ∷ row 9 no_grips 300 (λ p. record p { line = p.line ++ Failed (device_no 0) 1 ∷ []; up = false ∷ true ∷ true ∷ true ∷ [] })
      ∷ row 9 (held 3 2 (Commands 1) no_grips) 300 (λ p. record p { touched = (2 ∷ []) ∷ (1 ∷ []) ∷ (1 ∷ []) ∷ (2 ∷ []) ∷ []; choices = slice_set p.choices 2 (Waits (Busy (device_no 3))) })
      ∷ row 10 no_grips 400 (λ p. record p { writers = Some 2 ∷ None ∷ Some 1 ∷ Some 2 ∷ []; values = 1 ∷ 0 ∷ 20 ∷ 1 ∷ []; holders = [] ∷ [] ∷ (1 ∷ []) ∷ [] ∷ []; choices = slice_set p.choices 2 (Over Committed (Ended (run_no 2) Committed ∷ [])) })
      ∷ row 11 no_grips 400 (λ p. record p { overdue = (None ∷ None ∷ None ∷ None ∷ []) ∷ []; starts = (200 ∷ 100 ∷ 0 ∷ []) ∷ []; ends = (300 ∷ 200 ∷ 100 ∷ []) ∷ []; whole_ends = 200 ∷ []; choices = slice_set p.choices 2 (Over Committed []) })
      ∷ row 11 (held 2 1 (Undoes 18) no_grips) 400 (λ p. record p { writers = Some 2 ∷ None ∷ None ∷ Some 2 ∷ []; values = 1 ∷ 0 ∷ 18 ∷ 1 ∷ []; holders = [] ∷ [] ∷ [] ∷ [] ∷ []; choices = slice_set p.choices 1 (Waits (Busy (device_no 2))) })
      ∷ row 12 no_grips 400 (λ p. record p { choices = slice_set p.choices 1 (Over (Aborted (Refuted 1 0)) (Ended (run_no 1) (Aborted (Refuted 1 0)) ∷ [])) })
      ∷ row 13 no_grips 400 (λ p. record p { line = Ran (run_no 2) ∷ Failed (device_no 0) 1 ∷ []; overdue = []; starts = []; ends = []; whole_ends = []; choices = slice_set p.choices 1 (Over (Aborted (Refuted 1 0)) []) })
      ∷ still 13 (held 1 0 (Probes None) no_grips) 400 ∷ still 13 no_grips 400
      ∷ still 13 (held 2 0 (Probes None) no_grips) 400 ∷ still 13 no_grips 400
      ∷ still 13 (held 3 0 (Probes None) no_grips) 400 ∷ still 13 no_grips 400 ∷ [];
  gives = give 4 2 1 (Commands 0) Worked (Did (run_no 1) 0 Fine ∷ [])
      ∷ give 5 1 1 (Commands 1) (Sensed 0) (Did (run_no 1) 1 (Found 0) ∷ Doomed (run_no 1) (Refuted 1 0) ∷ [])
      ∷ give 7 0 2 (Commands 0) Worked (Did (run_no 2) 0 Fine ∷ []) ∷ give 8 0 0 (Probes None) Died (Fell (device_no 0) ∷ [])
      ∷ give 9 3 2 (Commands 1) Worked (Did (run_no 2) 1 Fine ∷ [])
      ∷ give 11 2 1 (Undoes 18) Worked (Undid (run_no 1) (device_no 2) true ∷ []) ∷ give 13 1 0 (Probes None) Worked []
      ∷ give 13 2 0 (Probes None) Worked [] ∷ give 13 3 0 (Probes None) Worked [] ∷ [];
  calls = 1 ∷ 1 ∷ 2 ∷ 1 ∷ [];
  outcome = record { order = Ran (run_no 2) ∷ Failed (device_no 0) 1 ∷ []; home = record { value = 1; up = false } ∷ record { value = 0; up = true } ∷ record { value = 18; up = true } ∷ record { value = 1; up = true } ∷ []; answers = record { run = run_no 2; answers = Fine ∷ Fine ∷ [] } ∷ [] };
}

is_worked : IsWorked window history table
unfolding split_of
is_worked = record { points = refl; clauses = refl; gives = refl; calls = refl; ended = refl; allowed = refl; order = refl; answers = refl }
