-- The window restart-keeps-down-view: a run that saw a device down goes on seeing it so.
use Rattle.worked_windows.proofs.Prelude.{Always}
use Rattle.worked_windows.proofs.Words.{Absent, Arrived, At, Back, Busy, Commands, Committed, Did, Died, Down, Ended, Entry, Eventual, Failed, Fcfs, Fell, Fine, HandsOut, IsWorked, List, Moves, None, Over, Placed, Probes, Ran, Rose, Set, Setting, Some, Table, Waits, Worked, [], device_no, false, give, held, home_of_four, no_grips, refl, row, run_no, split_at, split_of, still, true, ◌++◌, ◌∷◌}

abbrev pub window : Setting
window = record home_of_four {
  runs = record {
    commands =
        record { device = device_no 0; job = Set 1; when = Always; must = false; ms = 100; takes = 100 }
        ∷ record { device = device_no 1; job = Set 1; when = Always; must = true; ms = 100; takes = 100 }
        ∷ record { device = device_no 0; job = Set 1; when = Always; must = false; ms = 100; takes = 100 } ∷ [];
    follows = None;
  } ∷ [];
  mode = record { model = Eventual; scheduler = Fcfs };
}

abbrev pub history : List Entry
history = Arrived (run_no 1) 0 ∷ Placed (run_no 1) 0 0 ∷ Fell (device_no 0) ∷ Did (run_no 1) 0 Down ∷ Rose (device_no 0)
    ∷ Did (run_no 1) 1 Fine ∷ Did (run_no 1) 2 Down ∷ Ended (run_no 1) Committed ∷ []

abbrev pub table : Table
table = record {
  first = record {
    line = [];
    up = true ∷ true ∷ true ∷ true ∷ [];
    writers = None ∷ None ∷ None ∷ None ∷ [];
    values = 0 ∷ 0 ∷ 0 ∷ 18 ∷ [];
    holders = [] ∷ [] ∷ [] ∷ [] ∷ [];
    touched = [] ∷ [] ∷ [] ∷ [] ∷ [];
    first_places = [];
    places = [];
    overdue = [];
    starts = [];
    ends = [];
    whole_ends = [];
    choices = Absent ∷ Moves (Arrived (run_no 1) 0 ∷ []) ∷ [];
  };
  rows = still 0 no_grips 0
      ∷ row 1 no_grips 0 (λ p. record p { first_places = 0 ∷ []; places = At (split_at [] 0) ∷ []; choices = Absent ∷ Moves (Placed (run_no 1) 0 0 ∷ []) ∷ [] })
      ∷ row 2 no_grips 0 (λ p. record p {
        line = Ran (run_no 1) ∷ [];
        holders = (1 ∷ []) ∷ (1 ∷ []) ∷ [] ∷ [] ∷ [];
        first_places = [];
        places = [];
        overdue = (None ∷ None ∷ None ∷ None ∷ []) ∷ [];
        starts = (0 ∷ 100 ∷ []) ∷ [];
        ends = (300 ∷ 200 ∷ []) ∷ [];
        whole_ends = 300 ∷ [];
        choices = Absent ∷ HandsOut 0 (Commands 0) ∷ [];
      })
      ∷ row 2 (held 0 1 (Commands 0) no_grips) 0 (λ p. record p { touched = (1 ∷ []) ∷ [] ∷ [] ∷ [] ∷ []; choices = Absent ∷ Waits (Busy (device_no 0)) ∷ [] })
      ∷ row 4 no_grips 100 (λ p. record p { line = Failed (device_no 0) 1 ∷ Ran (run_no 1) ∷ []; up = false ∷ true ∷ true ∷ true ∷ []; choices = Absent ∷ HandsOut 1 (Commands 1) ∷ [] })
      ∷ still 4 (held 0 0 (Probes (Some 0)) no_grips) 100
      ∷ row 5 no_grips 100 (λ p. record p { line = p.line ++ Back (device_no 0) 1 ∷ []; up = true ∷ true ∷ true ∷ true ∷ [] })
      ∷ row 5 (held 1 1 (Commands 1) no_grips) 100 (λ p. record p { touched = (1 ∷ []) ∷ (1 ∷ []) ∷ [] ∷ [] ∷ []; choices = Absent ∷ Waits (Busy (device_no 1)) ∷ [] })
      ∷ row 6 no_grips 200 (λ p. record p { writers = None ∷ Some 1 ∷ None ∷ None ∷ []; values = 0 ∷ 1 ∷ 0 ∷ 18 ∷ []; holders = (1 ∷ []) ∷ [] ∷ [] ∷ [] ∷ []; choices = Absent ∷ Moves (Did (run_no 1) 2 Down ∷ []) ∷ [] })
      ∷ row 7 no_grips 200 (λ p. record p { holders = [] ∷ [] ∷ [] ∷ [] ∷ []; choices = Absent ∷ Over Committed (Ended (run_no 1) Committed ∷ []) ∷ [] })
      ∷ row 8 no_grips 200 (λ p. record p { overdue = []; starts = []; ends = []; whole_ends = []; choices = Absent ∷ Over Committed [] ∷ [] })
      ∷ still 8 (held 1 0 (Probes None) no_grips) 200 ∷ still 8 no_grips 200
      ∷ still 8 (held 2 0 (Probes None) no_grips) 200 ∷ still 8 no_grips 200
      ∷ still 8 (held 3 0 (Probes None) no_grips) 200 ∷ still 8 no_grips 200 ∷ [];
  gives = give 2 0 1 (Commands 0) Died (Fell (device_no 0) ∷ Did (run_no 1) 0 Down ∷ [])
      ∷ give 4 0 0 (Probes (Some 0)) Worked (Rose (device_no 0) ∷ []) ∷ give 5 1 1 (Commands 1) Worked (Did (run_no 1) 1 Fine ∷ [])
      ∷ give 8 1 0 (Probes None) Worked [] ∷ give 8 2 0 (Probes None) Worked [] ∷ give 8 3 0 (Probes None) Worked [] ∷ [];
  calls = 1 ∷ 1 ∷ 0 ∷ 0 ∷ [];
  outcome = record {
    order = Failed (device_no 0) 1 ∷ Ran (run_no 1) ∷ Back (device_no 0) 1 ∷ [];
    home = record { value = 0; up = true } ∷ record { value = 1; up = true } ∷ record { value = 0; up = true } ∷ record { value = 18; up = true } ∷ [];
    answers = record { run = run_no 1; answers = Down ∷ Fine ∷ Down ∷ [] } ∷ [];
  };
}

is_worked : IsWorked window history table
unfolding split_of
is_worked = record { points = refl; clauses = refl; gives = refl; calls = refl; ended = refl; allowed = refl; order = refl; answers = refl }
