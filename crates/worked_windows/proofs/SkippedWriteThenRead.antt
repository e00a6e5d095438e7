-- The window skipped-write-then-read.
use Rattle.worked_windows.proofs.Prelude.{Always}
use Rattle.worked_windows.proofs.Words.{Aborted, Absent, Arrived, At, Busy, Commands, Committed, Did, Died, Doomed, Down, Ended, Entry, Eventual, Failed, Fcfs, Fell, Fine, HandsOut, IsWorked, List, Load, Moves, MustDown, None, Over, Placed, Ran, Range, Set, Setting, Some, Table, Waits, Worked, [], device_no, false, give, held, more, no_grips, refl, row, run_no, slice_set, split_at, split_of, still, true, ◌∷◌}

abbrev pub window : Setting
window = record {
  runs = record { commands = record { device = device_no 0; job = Set 20; when = Always; must = true; ms = 100; takes = 100 } ∷ []; follows = None }
      ∷ record { commands = record { device = device_no 0; job = Set 25; when = Always; must = false; ms = 100; takes = 100 } ∷ record { device = device_no 0; job = Load; when = Always; must = true; ms = 100; takes = 100 } ∷ []; follows = None } ∷ [];
  mode = record { model = Eventual; scheduler = Fcfs };
  kinds = Range 10 30 ∷ [];
  first = record { value = 18; up = true } ∷ [];
}

abbrev pub history : List Entry
history = Arrived (run_no 1) 0 ∷ Placed (run_no 1) 0 0 ∷ Arrived (run_no 2) 0 ∷ Did (run_no 1) 0 Fine ∷ Placed (run_no 2) 1 100
    ∷ Fell (device_no 0) ∷ Did (run_no 2) 0 Down ∷ Ended (run_no 1) Committed ∷ Did (run_no 2) 1 Down ∷ Doomed (run_no 2) (MustDown 1)
    ∷ Ended (run_no 2) (Aborted (MustDown 1)) ∷ []

abbrev pub table : Table
table = record {
  first = record {
    line = [];
    up = true ∷ [];
    writers = None ∷ [];
    values = 18 ∷ [];
    holders = [] ∷ [];
    touched = [] ∷ [];
    first_places = [];
    places = [];
    overdue = [];
    starts = [];
    ends = [];
    whole_ends = [];
    choices = Absent ∷ Moves (Arrived (run_no 1) 0 ∷ []) ∷ Moves (Arrived (run_no 2) 0 ∷ []) ∷ [];
  };
  rows = still 0 no_grips 0
      ∷ row 1 no_grips 0 (λ p. record p { first_places = 0 ∷ []; places = At (split_at [] 0) ∷ []; choices = slice_set p.choices 1 (Moves (Placed (run_no 1) 0 0 ∷ [])) })
      ∷ row 2 no_grips 0 (λ p. record p { line = Ran (run_no 1) ∷ []; holders = (1 ∷ []) ∷ []; first_places = []; places = []; overdue = (None ∷ []) ∷ []; starts = (0 ∷ []) ∷ []; ends = (100 ∷ []) ∷ []; whole_ends = 100 ∷ []; choices = slice_set p.choices 1 (HandsOut 0 (Commands 0)) })
      ∷ row 3 no_grips 0 (λ p. record p { first_places = 0 ∷ []; places = At (split_at (Ran (run_no 1) ∷ []) 1) ∷ []; choices = slice_set p.choices 2 (Moves (Placed (run_no 2) 1 0 ∷ [])) })
      ∷ row 3 (held 0 1 (Commands 0) no_grips) 0 (λ p. record p { touched = (1 ∷ []) ∷ []; first_places = 1 ∷ []; choices = slice_set p.choices 1 (Waits (Busy (device_no 0))) })
      ∷ row 4 no_grips 100 (λ p. record p { writers = Some 1 ∷ []; values = 20 ∷ []; holders = [] ∷ []; choices = Absent ∷ Over Committed (Ended (run_no 1) Committed ∷ []) ∷ Moves (Placed (run_no 2) 1 100 ∷ []) ∷ [] })
      ∷ row 5 no_grips 100 (λ p. record p {
        line = Ran (run_no 1) ∷ Ran (run_no 2) ∷ [];
        holders = (2 ∷ []) ∷ [];
        first_places = [];
        places = [];
        overdue = (None ∷ []) ∷ (None ∷ []) ∷ [];
        starts = (0 ∷ []) ∷ (100 ∷ []) ∷ [];
        ends = (100 ∷ []) ∷ (300 ∷ []) ∷ [];
        whole_ends = 100 ∷ 300 ∷ [];
        choices = slice_set p.choices 2 (HandsOut 0 (Commands 0));
      })
      ∷ row 5 (held 0 2 (Commands 0) no_grips) 100 (λ p. record p { touched = (1 ∷ 2 ∷ []) ∷ []; choices = slice_set p.choices 2 (Waits (Busy (device_no 0))) })
      ∷ row 7 no_grips 200 (λ p. record p { line = more 1 (Failed (device_no 0) 1) p.line; up = false ∷ []; choices = slice_set p.choices 2 (Moves (Did (run_no 2) 1 Down ∷ Doomed (run_no 2) (MustDown 1) ∷ [])) })
      ∷ row 8 no_grips 200 (λ p. record p { overdue = (None ∷ []) ∷ []; starts = (100 ∷ []) ∷ []; ends = (300 ∷ []) ∷ []; whole_ends = 300 ∷ []; choices = slice_set p.choices 1 (Over Committed []) })
      ∷ row 10 no_grips 200 (λ p. record p { holders = [] ∷ []; choices = slice_set p.choices 2 (Over (Aborted (MustDown 1)) (Ended (run_no 2) (Aborted (MustDown 1)) ∷ [])) })
      ∷ row 11 no_grips 200 (λ p. record p { line = Ran (run_no 1) ∷ Failed (device_no 0) 1 ∷ []; overdue = []; starts = []; ends = []; whole_ends = []; choices = slice_set p.choices 2 (Over (Aborted (MustDown 1)) []) }) ∷ [];
  gives = give 3 0 1 (Commands 0) Worked (Did (run_no 1) 0 Fine ∷ [])
      ∷ give 5 0 2 (Commands 0) Died (Fell (device_no 0) ∷ Did (run_no 2) 0 Down ∷ []) ∷ [];
  calls = 1 ∷ [];
  outcome = record { order = Ran (run_no 1) ∷ Failed (device_no 0) 1 ∷ []; home = record { value = 20; up = false } ∷ []; answers = record { run = run_no 1; answers = Fine ∷ [] } ∷ [] };
}

is_worked : IsWorked window history table
unfolding split_of
is_worked = record { points = refl; clauses = refl; gives = refl; calls = refl; ended = refl; allowed = refl; order = refl; answers = refl }
