-- The window undo-waits-for-the-device.
use Rattle.worked_windows.proofs.Prelude.{Always}
use Rattle.worked_windows.proofs.Words.{Aborted, Absent, Arrived, At, Behind, Busy, Commands, Did, Died, Dirty, Doomed, Down, Ended, Entry, Eventual, Failed, Fcfs, Fell, Fine, HandsOut, IsWorked, List, Load, Moves, MustDown, None, Over, Placed, Probes, Ran, Range, Setting, Some, States, Store, Table, Undid, Waits, Worked, [], device_no, false, give, held, less, more, no_grips, refl, row, run_no, slice_set, split_at, split_of, still, true, ◌∷◌}

abbrev pub window : Setting
window = record {
  runs = record { commands = record { device = device_no 1; job = Store; when = Always; must = true; ms = 100; takes = 100 } ∷ record { device = device_no 0; job = Store; when = Always; must = true; ms = 100; takes = 100 } ∷ []; follows = None }
      ∷ record { commands = record { device = device_no 1; job = Load; when = Always; must = true; ms = 100; takes = 100 } ∷ []; follows = None } ∷ [];
  mode = record { model = Eventual; scheduler = Fcfs };
  kinds = Range 0 3 ∷ States 2 ∷ [];
  first = record { value = 1; up = true } ∷ record { value = 1; up = true } ∷ [];
}

abbrev pub history : List Entry
history = Arrived (run_no 1) 0 ∷ Placed (run_no 1) 0 0 ∷ Did (run_no 1) 0 Fine ∷ Arrived (run_no 2) 100 ∷ Placed (run_no 2) 1 100
    ∷ Fell (device_no 0) ∷ Did (run_no 1) 1 Down ∷ Doomed (run_no 1) (MustDown 1) ∷ Fell (device_no 1) ∷ Undid (run_no 1) (device_no 1) false
    ∷ Ended (run_no 1) (Aborted (MustDown 1)) ∷ Did (run_no 2) 0 Down ∷ Doomed (run_no 2) (MustDown 0) ∷ Ended (run_no 2) (Aborted (MustDown 0)) ∷ []

abbrev pub table : Table
table = record {
  first = record {
    line = [];
    up = true ∷ true ∷ [];
    writers = None ∷ None ∷ [];
    values = 1 ∷ 1 ∷ [];
    holders = [] ∷ [] ∷ [];
    touched = [] ∷ [] ∷ [];
    first_places = [];
    places = [];
    overdue = [];
    starts = [];
    ends = [];
    whole_ends = [];
    choices = Absent ∷ Moves (Arrived (run_no 1) 0 ∷ []) ∷ Moves (Arrived (run_no 2) 0 ∷ []) ∷ [];
  };
  rows = still 0 no_grips 0
      ∷ row 1 no_grips 0 (λ p. record p { first_places = 0 ∷ []; places = At (split_at [] 0) ∷ []; choices = slice_set p.choices 1 (Moves (Placed (run_no 1) 0 0 ∷ [])) })
      ∷ row 2 no_grips 0 (λ p. record p {
        line = Ran (run_no 1) ∷ [];
        holders = (1 ∷ []) ∷ (1 ∷ []) ∷ [];
        first_places = [];
        places = [];
        overdue = (None ∷ None ∷ []) ∷ [];
        starts = (100 ∷ 0 ∷ []) ∷ [];
        ends = (200 ∷ 100 ∷ []) ∷ [];
        whole_ends = 200 ∷ [];
        choices = slice_set p.choices 1 (HandsOut 1 (Commands 0));
      })
      ∷ row 2 (held 1 1 (Commands 0) no_grips) 0 (λ p. record p { touched = [] ∷ (1 ∷ []) ∷ []; choices = slice_set p.choices 1 (Waits (Busy (device_no 1))) })
      ∷ still 2 (held 0 0 (Probes None) (held 1 1 (Commands 0) no_grips)) 0
      ∷ still 2 (held 1 1 (Commands 0) no_grips) 0 ∷ still 2 (held 0 0 (Probes None) (held 1 1 (Commands 0) no_grips)) 0
      ∷ row 3 (held 0 0 (Probes None) no_grips) 100 (λ p. record p { writers = None ∷ Some 1 ∷ []; values = 1 ∷ 0 ∷ []; holders = (1 ∷ []) ∷ [] ∷ []; choices = Absent ∷ Waits (Busy (device_no 0)) ∷ Moves (Arrived (run_no 2) 100 ∷ []) ∷ [] })
      ∷ row 4 (held 0 0 (Probes None) no_grips) 100 (λ p. record p { first_places = 1 ∷ []; places = At (split_at (Ran (run_no 1) ∷ []) 1) ∷ []; choices = slice_set p.choices 2 (Moves (Placed (run_no 2) 1 100 ∷ [])) })
      ∷ row 5 (held 0 0 (Probes None) no_grips) 100 (λ p. record p {
        line = Ran (run_no 1) ∷ Ran (run_no 2) ∷ [];
        holders = (1 ∷ []) ∷ (2 ∷ []) ∷ [];
        first_places = [];
        places = [];
        overdue = (None ∷ None ∷ []) ∷ (None ∷ None ∷ []) ∷ [];
        starts = (100 ∷ 0 ∷ []) ∷ (100 ∷ []) ∷ [];
        ends = (200 ∷ 100 ∷ []) ∷ (200 ∷ []) ∷ [];
        whole_ends = 200 ∷ 200 ∷ [];
        choices = slice_set p.choices 2 (Waits (Dirty (device_no 1) (run_no 1)));
      })
      ∷ row 6 no_grips 100 (λ p. record p { line = more 0 (Failed (device_no 0) 1) p.line; up = false ∷ true ∷ []; choices = slice_set p.choices 1 (Moves (Did (run_no 1) 1 Down ∷ Doomed (run_no 1) (MustDown 1) ∷ [])) })
      ∷ still 6 (held 1 0 (Probes None) no_grips) 100
      ∷ row 8 (held 1 0 (Probes None) no_grips) 100 (λ p. record p { holders = [] ∷ (1 ∷ 2 ∷ []) ∷ []; touched = (1 ∷ []) ∷ (1 ∷ []) ∷ []; choices = Absent ∷ Waits (Busy (device_no 1)) ∷ Waits (Behind (device_no 1) (run_no 1)) ∷ [] })
      ∷ row 9 no_grips 100 (λ p. record p { line = more 2 (Failed (device_no 1) 1) p.line; up = false ∷ false ∷ []; choices = slice_set p.choices 1 (Moves (Undid (run_no 1) (device_no 1) false ∷ [])) })
      ∷ row 10 no_grips 100 (λ p. record p { writers = None ∷ None ∷ []; values = 1 ∷ 1 ∷ []; holders = [] ∷ (2 ∷ []) ∷ []; choices = Absent ∷ Over (Aborted (MustDown 1)) (Ended (run_no 1) (Aborted (MustDown 1)) ∷ []) ∷ Moves (Did (run_no 2) 0 Down ∷ Doomed (run_no 2) (MustDown 0) ∷ []) ∷ [] })
      ∷ row 11 no_grips 100 (λ p. record p { line = less 1 p.line; overdue = (None ∷ None ∷ []) ∷ []; starts = (100 ∷ []) ∷ []; ends = (200 ∷ []) ∷ []; whole_ends = 200 ∷ []; choices = slice_set p.choices 1 (Over (Aborted (MustDown 1)) []) })
      ∷ row 13 no_grips 100 (λ p. record p { holders = [] ∷ [] ∷ []; touched = (1 ∷ []) ∷ (1 ∷ 2 ∷ []) ∷ []; choices = slice_set p.choices 2 (Over (Aborted (MustDown 0)) (Ended (run_no 2) (Aborted (MustDown 0)) ∷ [])) })
      ∷ row 14 no_grips 100 (λ p. record p { line = less 2 p.line; overdue = []; starts = []; ends = []; whole_ends = []; choices = slice_set p.choices 2 (Over (Aborted (MustDown 0)) []) }) ∷ [];
  gives = give 2 0 0 (Probes None) Worked [] ∷ give 2 1 1 (Commands 0) Worked (Did (run_no 1) 0 Fine ∷ [])
      ∷ give 5 0 0 (Probes None) Died (Fell (device_no 0) ∷ []) ∷ give 8 1 0 (Probes None) Died (Fell (device_no 1) ∷ []) ∷ [];
  calls = 0 ∷ 1 ∷ [];
  outcome = record { order = Failed (device_no 0) 1 ∷ Failed (device_no 1) 1 ∷ []; home = record { value = 1; up = false } ∷ record { value = 1; up = false } ∷ []; answers = [] };
}

is_worked : IsWorked window history table
unfolding split_of
is_worked = record { points = refl; clauses = refl; gives = refl; calls = refl; ended = refl; allowed = refl; order = refl; answers = refl }
