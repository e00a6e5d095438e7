-- The window doomed-run-is-not-waited-for.
use Rattle.worked_windows.proofs.Prelude.{Always}
use Rattle.worked_windows.proofs.Words.{Aborted, Absent, Arrived, At, Busy, Commands, Did, Died, Doomed, Down, Ended, Entry, Eventual, Failed, Fell, HandsOut, IsWorked, List, Moves, MustDown, None, Over, Placed, Ran, Range, Set, Setting, Table, Timeline, Waits, [], chosen, closure, device_no, either_of, false, gap_set, give, held, no_grips, others, refl, row, run_no, slice_set, split_at, split_of, still, true, ◌++◌, ◌∷◌}

abbrev pub window : Setting
window = record {
  runs = record { commands = record { device = device_no 0; job = Set 3; when = Always; must = true; ms = 100; takes = 100 } ∷ []; follows = None }
      ∷ record { commands = record { device = device_no 0; job = Set 0; when = Always; must = true; ms = 100; takes = 100 } ∷ record { device = device_no 0; job = Set 2; when = Always; must = true; ms = 100; takes = 100 } ∷ []; follows = None } ∷ [];
  mode = record { model = Eventual; scheduler = Timeline };
  kinds = Range 0 3 ∷ [];
  first = record { value = 0; up = true } ∷ [];
}

abbrev pub history : List Entry
history = Arrived (run_no 2) 0 ∷ Placed (run_no 2) 0 0 ∷ Arrived (run_no 1) 0 ∷ Fell (device_no 0) ∷ Did (run_no 2) 0 Down
    ∷ Doomed (run_no 2) (MustDown 0) ∷ Placed (run_no 1) 2 100 ∷ Ended (run_no 2) (Aborted (MustDown 0)) ∷ Did (run_no 1) 0 Down ∷ Doomed (run_no 1) (MustDown 0)
    ∷ Ended (run_no 1) (Aborted (MustDown 0)) ∷ []

abbrev pub table : Table
table = record {
  first = record {
    line = [];
    up = true ∷ [];
    writers = None ∷ [];
    values = 0 ∷ [];
    holders = [] ∷ [];
    touched = [] ∷ [];
    first_places = [];
    places = [];
    overdue = [];
    starts = [];
    ends = [];
    whole_ends = [];
    choices = Absent ∷ Moves (Arrived (run_no 1) 0 ∷ []) ∷ Moves (Arrived (run_no 2) 0 ∷ []) ∷ [];
  };
  rows = still 0 no_grips 0
      ∷ row 1 no_grips 0 (λ p. record p { first_places = 0 ∷ []; places = At (split_at [] 0) ∷ []; choices = slice_set p.choices 2 (Moves (Placed (run_no 2) 0 0 ∷ [])) })
      ∷ row 2 no_grips 0 (λ p. record p { line = Ran (run_no 2) ∷ []; holders = (2 ∷ []) ∷ []; first_places = []; places = []; overdue = (None ∷ []) ∷ []; starts = (0 ∷ []) ∷ []; ends = (200 ∷ []) ∷ []; whole_ends = 200 ∷ []; choices = slice_set p.choices 2 (HandsOut 0 (Commands 0)) })
      ∷ row 2 (held 0 2 (Commands 0) no_grips) 0 (λ p. record p { touched = (2 ∷ []) ∷ []; choices = slice_set p.choices 2 (Waits (Busy (device_no 0))) })
      ∷ row 3 (held 0 2 (Commands 0) no_grips) 0 (λ p. record p { first_places = 1 ∷ []; places = At (split_at (Ran (run_no 2) ∷ []) 1) ∷ []; choices = slice_set p.choices 1 (Moves (Placed (run_no 1) 1 0 ∷ [])) })
      ∷ row 6 no_grips 100 (λ p. record p {
        line = Failed (device_no 0) 1 ∷ Ran (run_no 2) ∷ [];
        up = false ∷ [];
        holders = [] ∷ [];
        first_places = 2 ∷ [];
        places = At (split_at (Failed (device_no 0) 1 ∷ Ran (run_no 2) ∷ []) 2) ∷ [];
        choices = Absent ∷ Moves (Placed (run_no 1) 2 100 ∷ []) ∷ Over (Aborted (MustDown 0)) (Ended (run_no 2) (Aborted (MustDown 0)) ∷ []) ∷ [];
      })
      ∷ row 7 no_grips 100 (λ p. record p {
        line = p.line ++ Ran (run_no 1) ∷ [];
        holders = (1 ∷ []) ∷ [];
        first_places = [];
        places = [];
        overdue = (None ∷ []) ∷ (None ∷ []) ∷ [];
        starts = (0 ∷ []) ∷ (100 ∷ []) ∷ [];
        ends = (200 ∷ []) ∷ (200 ∷ []) ∷ [];
        whole_ends = 200 ∷ 200 ∷ [];
        choices = slice_set p.choices 1 (Moves (Did (run_no 1) 0 Down ∷ Doomed (run_no 1) (MustDown 0) ∷ []));
      })
      ∷ row 8 no_grips 100 (λ p. record p { line = Failed (device_no 0) 1 ∷ Ran (run_no 1) ∷ []; overdue = (None ∷ []) ∷ []; starts = (100 ∷ []) ∷ []; ends = (200 ∷ []) ∷ []; whole_ends = 200 ∷ []; choices = slice_set p.choices 2 (Over (Aborted (MustDown 0)) []) })
      ∷ row 10 no_grips 100 (λ p. record p { holders = [] ∷ []; touched = (1 ∷ 2 ∷ []) ∷ []; choices = slice_set p.choices 1 (Over (Aborted (MustDown 0)) (Ended (run_no 1) (Aborted (MustDown 0)) ∷ [])) })
      ∷ row 11 no_grips 100 (λ p. record p { line = Failed (device_no 0) 1 ∷ []; overdue = []; starts = []; ends = []; whole_ends = []; choices = slice_set p.choices 1 (Over (Aborted (MustDown 0)) []) }) ∷ [];
  gives = give 3 0 2 (Commands 0) Died (Fell (device_no 0) ∷ Did (run_no 2) 0 Down ∷ Doomed (run_no 2) (MustDown 0) ∷ []) ∷ [];
  calls = 0 ∷ [];
  outcome = record { order = Failed (device_no 0) 1 ∷ []; home = record { value = 0; up = false } ∷ []; answers = [] };
}

is_worked : IsWorked window history table
unfolding chosen closure either_of gap_set others split_of
is_worked = record { points = refl; clauses = refl; gives = refl; calls = refl; ended = refl; allowed = refl; order = refl; answers = refl }
