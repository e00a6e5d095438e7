-- The window strict-while-probed: under a strict model a run waits for the run before it, and only then for a probe.
use Rattle.worked_windows.proofs.Prelude.{Always}
use Rattle.worked_windows.proofs.Words.{Absent, Arrived, At, Busy, Commands, Committed, Did, Ended, Entry, Fcfs, Fine, Global, HandsOut, IsWorked, List, Moves, None, Over, Placed, Probes, Ran, Set, Setting, Some, States, Strict, Table, Waits, Worked, [], device_no, give, held, no_grips, refl, row, run_no, slice_set, split_at, split_of, still, true, ◌∷◌}

abbrev pub window : Setting
window = record {
  runs = record { commands = record { device = device_no 0; job = Set 1; when = Always; must = true; ms = 100; takes = 100 } ∷ []; follows = None }
      ∷ record { commands = record { device = device_no 1; job = Set 1; when = Always; must = true; ms = 100; takes = 100 } ∷ []; follows = None } ∷ [];
  mode = record { model = Global; scheduler = Fcfs };
  kinds = States 2 ∷ States 2 ∷ [];
  first = record { value = 0; up = true } ∷ record { value = 0; up = true } ∷ [];
}

abbrev pub history : List Entry
history = Arrived (run_no 1) 0 ∷ Placed (run_no 1) 0 0 ∷ Arrived (run_no 2) 0 ∷ Placed (run_no 2) 1 0 ∷ Did (run_no 1) 0 Fine
    ∷ Ended (run_no 1) Committed ∷ Did (run_no 2) 0 Fine ∷ Ended (run_no 2) Committed ∷ []

abbrev pub table : Table
table = record {
  first = record {
    line = [];
    up = true ∷ true ∷ [];
    writers = None ∷ None ∷ [];
    values = 0 ∷ 0 ∷ [];
    holders = [] ∷ [] ∷ [];
    touched = [] ∷ [] ∷ [];
    first_places = [];
    places = [];
    overdue = [];
    starts = [];
    ends = [];
    whole_ends = [];
    choices = Absent ∷ Moves (Arrived (run_no 1) 0 ∷ []) ∷ Moves (Arrived (run_no 2) 0 ∷ []) ∷ [];
  };
  rows = still 0 no_grips 0
      ∷ row 1 no_grips 0 (λ p. record p { first_places = 0 ∷ []; places = At (split_at [] 0) ∷ []; choices = slice_set p.choices 1 (Moves (Placed (run_no 1) 0 0 ∷ [])) })
      ∷ row 2 no_grips 0 (λ p. record p { line = Ran (run_no 1) ∷ []; holders = (1 ∷ []) ∷ [] ∷ []; first_places = []; places = []; overdue = (None ∷ None ∷ []) ∷ []; starts = (0 ∷ []) ∷ []; ends = (100 ∷ []) ∷ []; whole_ends = 100 ∷ []; choices = slice_set p.choices 1 (HandsOut 0 (Commands 0)) })
      ∷ row 3 no_grips 0 (λ p. record p { first_places = 0 ∷ []; places = At (split_at (Ran (run_no 1) ∷ []) 1) ∷ []; choices = slice_set p.choices 2 (Moves (Placed (run_no 2) 1 0 ∷ [])) })
      ∷ row 4 no_grips 0 (λ p. record p {
        line = Ran (run_no 1) ∷ Ran (run_no 2) ∷ [];
        holders = (1 ∷ []) ∷ (2 ∷ []) ∷ [];
        first_places = [];
        places = [];
        overdue = (None ∷ None ∷ []) ∷ (None ∷ None ∷ []) ∷ [];
        starts = (0 ∷ []) ∷ (0 ∷ []) ∷ [];
        ends = (100 ∷ []) ∷ (100 ∷ []) ∷ [];
        whole_ends = 100 ∷ 100 ∷ [];
        choices = slice_set p.choices 2 (Waits (Strict (run_no 1)));
      })
      ∷ row 4 (held 0 0 (Probes None) no_grips) 0 (λ p. record p { choices = slice_set p.choices 1 (Waits (Busy (device_no 0))) })
      ∷ row 4 no_grips 0 (λ p. record p { choices = slice_set p.choices 1 (HandsOut 0 (Commands 0)) })
      ∷ still 4 (held 1 0 (Probes None) no_grips) 0 ∷ still 4 no_grips 0
      ∷ row 4 (held 0 1 (Commands 0) no_grips) 0 (λ p. record p { touched = (1 ∷ []) ∷ [] ∷ []; choices = slice_set p.choices 1 (Waits (Busy (device_no 0))) })
      ∷ row 5 no_grips 100 (λ p. record p { writers = Some 1 ∷ None ∷ []; values = 1 ∷ 0 ∷ []; holders = [] ∷ (2 ∷ []) ∷ []; choices = slice_set p.choices 1 (Over Committed (Ended (run_no 1) Committed ∷ [])) })
      ∷ row 6 no_grips 100 (λ p. record p { overdue = (None ∷ None ∷ []) ∷ []; starts = (0 ∷ []) ∷ []; ends = (100 ∷ []) ∷ []; whole_ends = 100 ∷ []; choices = Absent ∷ Over Committed [] ∷ HandsOut 1 (Commands 0) ∷ [] })
      ∷ row 6 (held 1 2 (Commands 0) no_grips) 100 (λ p. record p { touched = (1 ∷ []) ∷ (2 ∷ []) ∷ []; choices = slice_set p.choices 2 (Waits (Busy (device_no 1))) })
      ∷ row 7 no_grips 200 (λ p. record p { writers = Some 1 ∷ Some 2 ∷ []; values = 1 ∷ 1 ∷ []; holders = [] ∷ [] ∷ []; choices = slice_set p.choices 2 (Over Committed (Ended (run_no 2) Committed ∷ [])) })
      ∷ row 8 no_grips 200 (λ p. record p { overdue = []; starts = []; ends = []; whole_ends = []; choices = slice_set p.choices 2 (Over Committed []) }) ∷ [];
  gives = give 4 0 0 (Probes None) Worked [] ∷ give 4 1 0 (Probes None) Worked []
      ∷ give 4 0 1 (Commands 0) Worked (Did (run_no 1) 0 Fine ∷ []) ∷ give 6 1 2 (Commands 0) Worked (Did (run_no 2) 0 Fine ∷ []) ∷ [];
  calls = 1 ∷ 1 ∷ [];
  outcome = record { order = Ran (run_no 1) ∷ Ran (run_no 2) ∷ []; home = record { value = 1; up = true } ∷ record { value = 1; up = true } ∷ []; answers = record { run = run_no 1; answers = Fine ∷ [] } ∷ record { run = run_no 2; answers = Fine ∷ [] } ∷ [] };
}

is_worked : IsWorked window history table
unfolding split_of
is_worked = record { points = refl; clauses = refl; gives = refl; calls = refl; ended = refl; allowed = refl; order = refl; answers = refl }
