-- The window failure-after-last-access: a device fails when its run is done with it.
use Rattle.worked_windows.proofs.Prelude.{Always}
use Rattle.worked_windows.proofs.Words.{Absent, Arrived, At, Busy, Commands, Committed, Did, Died, Ended, Entry, Eventual, Failed, Fcfs, Fell, Fine, HandsOut, IsWorked, List, Moves, None, Over, Placed, Probes, Ran, Set, Setting, Some, Table, Waits, Worked, [], device_no, false, give, held, home_of_four, no_grips, refl, row, run_no, split_at, split_of, still, true, ◌∷◌}

abbrev pub window : Setting
window = record home_of_four {
  runs = record { commands = record { device = device_no 0; job = Set 1; when = Always; must = true; ms = 100; takes = 100 } ∷ record { device = device_no 1; job = Set 1; when = Always; must = true; ms = 100; takes = 100 } ∷ []; follows = None } ∷ [];
  mode = record { model = Eventual; scheduler = Fcfs };
}

abbrev pub history : List Entry
history = Arrived (run_no 1) 0 ∷ Placed (run_no 1) 0 0 ∷ Did (run_no 1) 0 Fine ∷ Fell (device_no 0) ∷ Did (run_no 1) 1 Fine
    ∷ Ended (run_no 1) Committed ∷ []

abbrev pub table : Table
table = record {
  first = record {
    line = [];
    up = true ∷ true ∷ true ∷ true ∷ [];
    writers = None ∷ None ∷ None ∷ None ∷ [];
    values = 0 ∷ 0 ∷ 0 ∷ 18 ∷ [];
    holders = [] ∷ [] ∷ [] ∷ [] ∷ [];
    touched = [] ∷ [] ∷ [] ∷ [] ∷ [];
    first_places = [];
    places = [];
    overdue = [];
    starts = [];
    ends = [];
    whole_ends = [];
    choices = Absent ∷ Moves (Arrived (run_no 1) 0 ∷ []) ∷ [];
  };
  rows = still 0 no_grips 0
      ∷ row 1 no_grips 0 (λ p. record p { first_places = 0 ∷ []; places = At (split_at [] 0) ∷ []; choices = Absent ∷ Moves (Placed (run_no 1) 0 0 ∷ []) ∷ [] })
      ∷ row 2 no_grips 0 (λ p. record p {
        line = Ran (run_no 1) ∷ [];
        holders = (1 ∷ []) ∷ (1 ∷ []) ∷ [] ∷ [] ∷ [];
        first_places = [];
        places = [];
        overdue = (None ∷ None ∷ None ∷ None ∷ []) ∷ [];
        starts = (0 ∷ 100 ∷ []) ∷ [];
        ends = (100 ∷ 200 ∷ []) ∷ [];
        whole_ends = 200 ∷ [];
        choices = Absent ∷ HandsOut 0 (Commands 0) ∷ [];
      })
      ∷ row 2 (held 0 1 (Commands 0) no_grips) 0 (λ p. record p { touched = (1 ∷ []) ∷ [] ∷ [] ∷ [] ∷ []; choices = Absent ∷ Waits (Busy (device_no 0)) ∷ [] })
      ∷ row 3 no_grips 100 (λ p. record p { writers = Some 1 ∷ None ∷ None ∷ None ∷ []; values = 1 ∷ 0 ∷ 0 ∷ 18 ∷ []; holders = [] ∷ (1 ∷ []) ∷ [] ∷ [] ∷ []; choices = Absent ∷ HandsOut 1 (Commands 1) ∷ [] })
      ∷ still 3 (held 0 0 (Probes None) no_grips) 100
      ∷ row 4 no_grips 100 (λ p. record p { line = Ran (run_no 1) ∷ Failed (device_no 0) 1 ∷ []; up = false ∷ true ∷ true ∷ true ∷ [] })
      ∷ row 4 (held 1 1 (Commands 1) no_grips) 100 (λ p. record p { touched = (1 ∷ []) ∷ (1 ∷ []) ∷ [] ∷ [] ∷ []; choices = Absent ∷ Waits (Busy (device_no 1)) ∷ [] })
      ∷ row 5 no_grips 200 (λ p. record p { writers = Some 1 ∷ Some 1 ∷ None ∷ None ∷ []; values = 1 ∷ 1 ∷ 0 ∷ 18 ∷ []; holders = [] ∷ [] ∷ [] ∷ [] ∷ []; choices = Absent ∷ Over Committed (Ended (run_no 1) Committed ∷ []) ∷ [] })
      ∷ row 6 no_grips 200 (λ p. record p { overdue = []; starts = []; ends = []; whole_ends = []; choices = Absent ∷ Over Committed [] ∷ [] })
      ∷ still 6 (held 1 0 (Probes None) no_grips) 200 ∷ still 6 no_grips 200
      ∷ still 6 (held 2 0 (Probes None) no_grips) 200 ∷ still 6 no_grips 200
      ∷ still 6 (held 3 0 (Probes None) no_grips) 200 ∷ still 6 no_grips 200 ∷ [];
  gives = give 2 0 1 (Commands 0) Worked (Did (run_no 1) 0 Fine ∷ []) ∷ give 3 0 0 (Probes None) Died (Fell (device_no 0) ∷ [])
      ∷ give 4 1 1 (Commands 1) Worked (Did (run_no 1) 1 Fine ∷ []) ∷ give 6 1 0 (Probes None) Worked []
      ∷ give 6 2 0 (Probes None) Worked [] ∷ give 6 3 0 (Probes None) Worked [] ∷ [];
  calls = 1 ∷ 1 ∷ 0 ∷ 0 ∷ [];
  outcome = record { order = Ran (run_no 1) ∷ Failed (device_no 0) 1 ∷ []; home = record { value = 1; up = false } ∷ record { value = 1; up = true } ∷ record { value = 0; up = true } ∷ record { value = 18; up = true } ∷ []; answers = record { run = run_no 1; answers = Fine ∷ Fine ∷ [] } ∷ [] };
}

is_worked : IsWorked window history table
unfolding split_of
is_worked = record { points = refl; clauses = refl; gives = refl; calls = refl; ended = refl; allowed = refl; order = refl; answers = refl }
