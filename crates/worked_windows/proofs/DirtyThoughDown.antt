-- The window dirty-though-down: a read waits for the writer before it, though its device is down.
use Rattle.worked_windows.proofs.Prelude.{Always}
use Rattle.worked_windows.proofs.Words.{Absent, Arrived, At, Behind, Busy, Commands, Committed, Did, Died, Dirty, Down, Ended, Entry, Eventual, Failed, Fcfs, Fell, Fine, HandsOut, IsWorked, List, Load, Moves, None, Over, Placed, Probes, Ran, Range, Set, Setting, Some, States, Table, Waits, Worked, [], device_no, false, give, held, more, no_grips, refl, row, run_no, slice_set, split_at, split_of, still, true, ◌∷◌}

abbrev pub window : Setting
window = record {
  runs = record { commands = record { device = device_no 0; job = Set 20; when = Always; must = true; ms = 100; takes = 100 } ∷ record { device = device_no 1; job = Set 1; when = Always; must = true; ms = 100; takes = 100 } ∷ []; follows = None }
      ∷ record { commands = record { device = device_no 0; job = Load; when = Always; must = false; ms = 100; takes = 100 } ∷ record { device = device_no 1; job = Set 0; when = Always; must = true; ms = 100; takes = 100 } ∷ []; follows = None } ∷ [];
  mode = record { model = Eventual; scheduler = Fcfs };
  kinds = Range 10 30 ∷ States 2 ∷ [];
  first = record { value = 18; up = true } ∷ record { value = 0; up = true } ∷ [];
}

abbrev pub history : List Entry
history = Arrived (run_no 1) 0 ∷ Placed (run_no 1) 0 0 ∷ Arrived (run_no 2) 0 ∷ Placed (run_no 2) 1 0 ∷ Did (run_no 1) 0 Fine
    ∷ Fell (device_no 0) ∷ Did (run_no 1) 1 Fine ∷ Ended (run_no 1) Committed ∷ Did (run_no 2) 0 Down ∷ Did (run_no 2) 1 Fine
    ∷ Ended (run_no 2) Committed ∷ []

abbrev pub table : Table
table = record {
  first = record {
    line = [];
    up = true ∷ true ∷ [];
    writers = None ∷ None ∷ [];
    values = 18 ∷ 0 ∷ [];
    holders = [] ∷ [] ∷ [];
    touched = [] ∷ [] ∷ [];
    first_places = [];
    places = [];
    overdue = [];
    starts = [];
    ends = [];
    whole_ends = [];
    choices = Absent ∷ Moves (Arrived (run_no 1) 0 ∷ []) ∷ Moves (Arrived (run_no 2) 0 ∷ []) ∷ [];
  };
  rows = still 0 no_grips 0
      ∷ row 1 no_grips 0 (λ p. record p { first_places = 0 ∷ []; places = At (split_at [] 0) ∷ []; choices = slice_set p.choices 1 (Moves (Placed (run_no 1) 0 0 ∷ [])) })
      ∷ row 2 no_grips 0 (λ p. record p {
        line = Ran (run_no 1) ∷ [];
        holders = (1 ∷ []) ∷ (1 ∷ []) ∷ [];
        first_places = [];
        places = [];
        overdue = (None ∷ None ∷ []) ∷ [];
        starts = (0 ∷ 100 ∷ []) ∷ [];
        ends = (100 ∷ 200 ∷ []) ∷ [];
        whole_ends = 200 ∷ [];
        choices = slice_set p.choices 1 (HandsOut 0 (Commands 0));
      })
      ∷ row 3 no_grips 0 (λ p. record p { first_places = 0 ∷ []; places = At (split_at (Ran (run_no 1) ∷ []) 1) ∷ []; choices = slice_set p.choices 2 (Moves (Placed (run_no 2) 1 0 ∷ [])) })
      ∷ row 4 no_grips 0 (λ p. record p {
        line = Ran (run_no 1) ∷ Ran (run_no 2) ∷ [];
        holders = (1 ∷ 2 ∷ []) ∷ (1 ∷ 2 ∷ []) ∷ [];
        first_places = [];
        places = [];
        overdue = (None ∷ None ∷ []) ∷ (None ∷ None ∷ []) ∷ [];
        starts = (0 ∷ 100 ∷ []) ∷ (0 ∷ 100 ∷ []) ∷ [];
        ends = (100 ∷ 200 ∷ []) ∷ (100 ∷ 200 ∷ []) ∷ [];
        whole_ends = 200 ∷ 200 ∷ [];
        choices = slice_set p.choices 2 (Waits (Behind (device_no 0) (run_no 1)));
      })
      ∷ row 4 (held 0 1 (Commands 0) no_grips) 0 (λ p. record p { touched = (1 ∷ []) ∷ [] ∷ []; choices = slice_set p.choices 1 (Waits (Busy (device_no 0))) })
      ∷ row 5 no_grips 100 (λ p. record p { writers = Some 1 ∷ None ∷ []; values = 20 ∷ 0 ∷ []; holders = (2 ∷ []) ∷ (1 ∷ 2 ∷ []) ∷ []; choices = Absent ∷ HandsOut 1 (Commands 1) ∷ Waits (Dirty (device_no 0) (run_no 1)) ∷ [] })
      ∷ still 5 (held 0 0 (Probes None) no_grips) 100
      ∷ row 6 no_grips 100 (λ p. record p { line = more 1 (Failed (device_no 0) 1) p.line; up = false ∷ true ∷ [] })
      ∷ row 6 (held 1 1 (Commands 1) no_grips) 100 (λ p. record p { touched = (1 ∷ []) ∷ (1 ∷ []) ∷ []; choices = slice_set p.choices 1 (Waits (Busy (device_no 1))) })
      ∷ row 7 no_grips 200 (λ p. record p { writers = Some 1 ∷ Some 1 ∷ []; values = 20 ∷ 1 ∷ []; holders = (2 ∷ []) ∷ (2 ∷ []) ∷ []; choices = slice_set p.choices 1 (Over Committed (Ended (run_no 1) Committed ∷ [])) })
      ∷ row 8 no_grips 200 (λ p. record p { overdue = (None ∷ None ∷ []) ∷ []; starts = (0 ∷ 100 ∷ []) ∷ []; ends = (100 ∷ 200 ∷ []) ∷ []; whole_ends = 200 ∷ []; choices = Absent ∷ Over Committed [] ∷ Moves (Did (run_no 2) 0 Down ∷ []) ∷ [] })
      ∷ row 9 no_grips 200 (λ p. record p { holders = [] ∷ (2 ∷ []) ∷ []; touched = (1 ∷ 2 ∷ []) ∷ (1 ∷ []) ∷ []; choices = slice_set p.choices 2 (HandsOut 1 (Commands 1)) })
      ∷ row 9 (held 1 2 (Commands 1) no_grips) 200 (λ p. record p { touched = (1 ∷ 2 ∷ []) ∷ (1 ∷ 2 ∷ []) ∷ []; choices = slice_set p.choices 2 (Waits (Busy (device_no 1))) })
      ∷ row 10 no_grips 300 (λ p. record p { writers = Some 1 ∷ Some 2 ∷ []; values = 20 ∷ 0 ∷ []; holders = [] ∷ [] ∷ []; choices = slice_set p.choices 2 (Over Committed (Ended (run_no 2) Committed ∷ [])) })
      ∷ row 11 no_grips 300 (λ p. record p { overdue = []; starts = []; ends = []; whole_ends = []; choices = slice_set p.choices 2 (Over Committed []) })
      ∷ still 11 (held 1 0 (Probes None) no_grips) 300 ∷ still 11 no_grips 300 ∷ [];
  gives = give 4 0 1 (Commands 0) Worked (Did (run_no 1) 0 Fine ∷ []) ∷ give 5 0 0 (Probes None) Died (Fell (device_no 0) ∷ [])
      ∷ give 6 1 1 (Commands 1) Worked (Did (run_no 1) 1 Fine ∷ []) ∷ give 9 1 2 (Commands 1) Worked (Did (run_no 2) 1 Fine ∷ [])
      ∷ give 11 1 0 (Probes None) Worked [] ∷ [];
  calls = 1 ∷ 2 ∷ [];
  outcome = record { order = Ran (run_no 1) ∷ Failed (device_no 0) 1 ∷ Ran (run_no 2) ∷ []; home = record { value = 20; up = false } ∷ record { value = 0; up = true } ∷ []; answers = record { run = run_no 1; answers = Fine ∷ Fine ∷ [] } ∷ record { run = run_no 2; answers = Down ∷ Fine ∷ [] } ∷ [] };
}

is_worked : IsWorked window history table
unfolding split_of
is_worked = record { points = refl; clauses = refl; gives = refl; calls = refl; ended = refl; allowed = refl; order = refl; answers = refl }
