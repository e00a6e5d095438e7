-- The window undo-dies: the device fails under the drive of an undo.
use Rattle.worked_windows.proofs.Prelude.{Always}
use Rattle.worked_windows.proofs.Words.{Aborted, Absent, Arrived, At, Back, Busy, Check, Commands, Did, Died, Doomed, Ended, Entry, Eventual, Failed, Fcfs, Fell, Fine, Found, HandsOut, IsWorked, List, Moves, None, Over, Placed, Probes, Ran, Refuted, Rose, Sensed, Set, Setting, Some, Table, Undid, Undoes, Waits, Worked, [], device_no, false, give, held, home_of_four, no_grips, refl, row, run_no, split_at, split_of, still, true, ◌++◌, ◌∷◌}

abbrev pub window : Setting
window = record home_of_four {
  runs = record { commands = record { device = device_no 0; job = Set 1; when = Always; must = true; ms = 100; takes = 100 } ∷ record { device = device_no 1; job = Check 1; when = Always; must = true; ms = 100; takes = 100 } ∷ []; follows = None } ∷ [];
  mode = record { model = Eventual; scheduler = Fcfs };
}

abbrev pub history : List Entry
history = Arrived (run_no 1) 0 ∷ Placed (run_no 1) 0 0 ∷ Did (run_no 1) 0 Fine ∷ Did (run_no 1) 1 (Found 0) ∷ Doomed (run_no 1) (Refuted 1 0)
    ∷ Fell (device_no 0) ∷ Undid (run_no 1) (device_no 0) false ∷ Ended (run_no 1) (Aborted (Refuted 1 0)) ∷ Rose (device_no 0) ∷ []

abbrev pub table : Table
table = record {
  first = record {
    line = [];
    up = true ∷ true ∷ true ∷ true ∷ [];
    writers = None ∷ None ∷ None ∷ None ∷ [];
    values = 0 ∷ 0 ∷ 0 ∷ 18 ∷ [];
    holders = [] ∷ [] ∷ [] ∷ [] ∷ [];
    touched = [] ∷ [] ∷ [] ∷ [] ∷ [];
    first_places = [];
    places = [];
    overdue = [];
    starts = [];
    ends = [];
    whole_ends = [];
    choices = Absent ∷ Moves (Arrived (run_no 1) 0 ∷ []) ∷ [];
  };
  rows = still 0 no_grips 0
      ∷ row 1 no_grips 0 (λ p. record p { first_places = 0 ∷ []; places = At (split_at [] 0) ∷ []; choices = Absent ∷ Moves (Placed (run_no 1) 0 0 ∷ []) ∷ [] })
      ∷ row 2 no_grips 0 (λ p. record p {
        line = Ran (run_no 1) ∷ [];
        holders = (1 ∷ []) ∷ (1 ∷ []) ∷ [] ∷ [] ∷ [];
        first_places = [];
        places = [];
        overdue = (None ∷ None ∷ None ∷ None ∷ []) ∷ [];
        starts = (0 ∷ 100 ∷ []) ∷ [];
        ends = (100 ∷ 200 ∷ []) ∷ [];
        whole_ends = 200 ∷ [];
        choices = Absent ∷ HandsOut 0 (Commands 0) ∷ [];
      })
      ∷ row 2 (held 0 1 (Commands 0) no_grips) 0 (λ p. record p { touched = (1 ∷ []) ∷ [] ∷ [] ∷ [] ∷ []; choices = Absent ∷ Waits (Busy (device_no 0)) ∷ [] })
      ∷ row 3 no_grips 100 (λ p. record p { writers = Some 1 ∷ None ∷ None ∷ None ∷ []; values = 1 ∷ 0 ∷ 0 ∷ 18 ∷ []; holders = [] ∷ (1 ∷ []) ∷ [] ∷ [] ∷ []; choices = Absent ∷ HandsOut 1 (Commands 1) ∷ [] })
      ∷ row 3 (held 1 1 (Commands 1) no_grips) 100 (λ p. record p { touched = (1 ∷ []) ∷ (1 ∷ []) ∷ [] ∷ [] ∷ []; choices = Absent ∷ Waits (Busy (device_no 1)) ∷ [] })
      ∷ row 5 no_grips 200 (λ p. record p { holders = (1 ∷ []) ∷ [] ∷ [] ∷ [] ∷ []; choices = Absent ∷ HandsOut 0 (Undoes 0) ∷ [] })
      ∷ row 5 (held 0 1 (Undoes 0) no_grips) 200 (λ p. record p { writers = None ∷ None ∷ None ∷ None ∷ []; values = 0 ∷ 0 ∷ 0 ∷ 18 ∷ []; holders = [] ∷ [] ∷ [] ∷ [] ∷ []; choices = Absent ∷ Waits (Busy (device_no 0)) ∷ [] })
      ∷ row 7 no_grips 200 (λ p. record p { line = Ran (run_no 1) ∷ Failed (device_no 0) 1 ∷ []; up = false ∷ true ∷ true ∷ true ∷ []; choices = Absent ∷ Over (Aborted (Refuted 1 0)) (Ended (run_no 1) (Aborted (Refuted 1 0)) ∷ []) ∷ [] })
      ∷ row 8 no_grips 200 (λ p. record p { line = Failed (device_no 0) 1 ∷ []; overdue = []; starts = []; ends = []; whole_ends = []; choices = Absent ∷ Over (Aborted (Refuted 1 0)) [] ∷ [] })
      ∷ still 8 (held 0 0 (Probes (Some 0)) no_grips) 200
      ∷ row 9 no_grips 200 (λ p. record p { line = p.line ++ Back (device_no 0) 1 ∷ []; up = true ∷ true ∷ true ∷ true ∷ [] })
      ∷ still 9 (held 1 0 (Probes None) no_grips) 200 ∷ still 9 no_grips 200
      ∷ still 9 (held 2 0 (Probes None) no_grips) 200 ∷ still 9 no_grips 200
      ∷ still 9 (held 3 0 (Probes None) no_grips) 200 ∷ still 9 no_grips 200 ∷ [];
  gives = give 2 0 1 (Commands 0) Worked (Did (run_no 1) 0 Fine ∷ [])
      ∷ give 3 1 1 (Commands 1) (Sensed 0) (Did (run_no 1) 1 (Found 0) ∷ Doomed (run_no 1) (Refuted 1 0) ∷ [])
      ∷ give 5 0 1 (Undoes 0) Died (Fell (device_no 0) ∷ Undid (run_no 1) (device_no 0) false ∷ [])
      ∷ give 8 0 0 (Probes (Some 0)) Worked (Rose (device_no 0) ∷ []) ∷ give 9 1 0 (Probes None) Worked []
      ∷ give 9 2 0 (Probes None) Worked [] ∷ give 9 3 0 (Probes None) Worked [] ∷ [];
  calls = 2 ∷ 1 ∷ 0 ∷ 0 ∷ [];
  outcome = record { order = Failed (device_no 0) 1 ∷ Back (device_no 0) 1 ∷ []; home = record { value = 0; up = true } ∷ record { value = 0; up = true } ∷ record { value = 0; up = true } ∷ record { value = 18; up = true } ∷ []; answers = [] };
}

is_worked : IsWorked window history table
unfolding split_of
is_worked = record { points = refl; clauses = refl; gives = refl; calls = refl; ended = refl; allowed = refl; order = refl; answers = refl }
