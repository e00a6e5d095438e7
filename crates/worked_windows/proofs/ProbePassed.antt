-- The window probe-passed: the detector passes a device that is out.
use Rattle.worked_windows.proofs.Prelude.{Always}
use Rattle.worked_windows.proofs.Words.{Absent, Arrived, At, Busy, Commands, Committed, Did, Ended, Entry, Eventual, Fcfs, Fine, HandsOut, IsWorked, List, Moves, None, Over, Placed, Probes, Ran, Set, Setting, Some, Table, Waits, Worked, [], device_no, give, held, home_of_four, no_grips, refl, row, run_no, split_at, split_of, still, true, ◌∷◌}

abbrev pub window : Setting
window = record home_of_four {
  runs = record { commands = record { device = device_no 0; job = Set 1; when = Always; must = true; ms = 100; takes = 100 } ∷ []; follows = None } ∷ [];
  mode = record { model = Eventual; scheduler = Fcfs };
}

abbrev pub history : List Entry
history = Arrived (run_no 1) 0 ∷ Placed (run_no 1) 0 0 ∷ Did (run_no 1) 0 Fine ∷ Ended (run_no 1) Committed ∷ []

abbrev pub table : Table
table = record {
  first = record {
    line = [];
    up = true ∷ true ∷ true ∷ true ∷ [];
    writers = None ∷ None ∷ None ∷ None ∷ [];
    values = 0 ∷ 0 ∷ 0 ∷ 18 ∷ [];
    holders = [] ∷ [] ∷ [] ∷ [] ∷ [];
    touched = [] ∷ [] ∷ [] ∷ [] ∷ [];
    first_places = [];
    places = [];
    overdue = [];
    starts = [];
    ends = [];
    whole_ends = [];
    choices = Absent ∷ Moves (Arrived (run_no 1) 0 ∷ []) ∷ [];
  };
  rows = still 0 no_grips 0
      ∷ row 1 no_grips 0 (λ p. record p { first_places = 0 ∷ []; places = At (split_at [] 0) ∷ []; choices = Absent ∷ Moves (Placed (run_no 1) 0 0 ∷ []) ∷ [] })
      ∷ row 2 no_grips 0 (λ p. record p {
        line = Ran (run_no 1) ∷ [];
        holders = (1 ∷ []) ∷ [] ∷ [] ∷ [] ∷ [];
        first_places = [];
        places = [];
        overdue = (None ∷ None ∷ None ∷ None ∷ []) ∷ [];
        starts = (0 ∷ []) ∷ [];
        ends = (100 ∷ []) ∷ [];
        whole_ends = 100 ∷ [];
        choices = Absent ∷ HandsOut 0 (Commands 0) ∷ [];
      })
      ∷ row 2 (held 0 1 (Commands 0) no_grips) 0 (λ p. record p { touched = (1 ∷ []) ∷ [] ∷ [] ∷ [] ∷ []; choices = Absent ∷ Waits (Busy (device_no 0)) ∷ [] })
      ∷ row 3 no_grips 100 (λ p. record p { writers = Some 1 ∷ None ∷ None ∷ None ∷ []; values = 1 ∷ 0 ∷ 0 ∷ 18 ∷ []; holders = [] ∷ [] ∷ [] ∷ [] ∷ []; choices = Absent ∷ Over Committed (Ended (run_no 1) Committed ∷ []) ∷ [] })
      ∷ row 4 no_grips 100 (λ p. record p { overdue = []; starts = []; ends = []; whole_ends = []; choices = Absent ∷ Over Committed [] ∷ [] })
      ∷ still 4 (held 1 0 (Probes None) no_grips) 100 ∷ still 4 no_grips 100
      ∷ still 4 (held 2 0 (Probes None) no_grips) 100 ∷ still 4 no_grips 100
      ∷ still 4 (held 3 0 (Probes None) no_grips) 100 ∷ still 4 no_grips 100 ∷ [];
  gives = give 2 0 1 (Commands 0) Worked (Did (run_no 1) 0 Fine ∷ []) ∷ give 4 1 0 (Probes None) Worked []
      ∷ give 4 2 0 (Probes None) Worked [] ∷ give 4 3 0 (Probes None) Worked [] ∷ [];
  calls = 1 ∷ 0 ∷ 0 ∷ 0 ∷ [];
  outcome = record { order = Ran (run_no 1) ∷ []; home = record { value = 1; up = true } ∷ record { value = 0; up = true } ∷ record { value = 0; up = true } ∷ record { value = 18; up = true } ∷ []; answers = record { run = run_no 1; answers = Fine ∷ [] } ∷ [] };
}

is_worked : IsWorked window history table
unfolding split_of
is_worked = record { points = refl; clauses = refl; gives = refl; calls = refl; ended = refl; allowed = refl; order = refl; answers = refl }
