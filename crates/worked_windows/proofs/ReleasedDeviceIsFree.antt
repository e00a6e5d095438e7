-- The window released-device-is-free.
use Rattle.worked_windows.proofs.Prelude.{Always}
use Rattle.worked_windows.proofs.Words.{Absent, Arrived, At, Busy, Commands, Committed, Did, Ended, Entry, Eventual, Fine, Found, HandsOut, IsWorked, List, Load, Moves, None, Over, Placed, Ran, Range, Sensed, Setting, Some, Store, Table, Timeline, Waits, Worked, [], chosen, closure, device_no, either_of, gap_set, give, held, no_grips, others, refl, row, run_no, slice_set, split_at, split_of, still, true, ◌∷◌}

abbrev pub window : Setting
window = record {
  runs = record { commands = record { device = device_no 0; job = Store; when = Always; must = true; ms = 100; takes = 100 } ∷ []; follows = None }
      ∷ record { commands = record { device = device_no 0; job = Load; when = Always; must = true; ms = 100; takes = 0 } ∷ []; follows = None } ∷ [];
  mode = record { model = Eventual; scheduler = Timeline };
  kinds = Range 0 3 ∷ [];
  first = record { value = 0; up = true } ∷ [];
}

abbrev pub history : List Entry
history = Arrived (run_no 2) 0 ∷ Placed (run_no 2) 0 0 ∷ Did (run_no 2) 0 (Found 0) ∷ Arrived (run_no 1) 0 ∷ Placed (run_no 1) 1 0
    ∷ Ended (run_no 2) Committed ∷ Did (run_no 1) 0 Fine ∷ Ended (run_no 1) Committed ∷ []

abbrev pub table : Table
table = record {
  first = record {
    line = [];
    up = true ∷ [];
    writers = None ∷ [];
    values = 0 ∷ [];
    holders = [] ∷ [];
    touched = [] ∷ [];
    first_places = [];
    places = [];
    overdue = [];
    starts = [];
    ends = [];
    whole_ends = [];
    choices = Absent ∷ Moves (Arrived (run_no 1) 0 ∷ []) ∷ Moves (Arrived (run_no 2) 0 ∷ []) ∷ [];
  };
  rows = still 0 no_grips 0
      ∷ row 1 no_grips 0 (λ p. record p { first_places = 0 ∷ []; places = At (split_at [] 0) ∷ []; choices = slice_set p.choices 2 (Moves (Placed (run_no 2) 0 0 ∷ [])) })
      ∷ row 2 no_grips 0 (λ p. record p { line = Ran (run_no 2) ∷ []; holders = (2 ∷ []) ∷ []; first_places = []; places = []; overdue = (None ∷ []) ∷ []; starts = (0 ∷ []) ∷ []; ends = (100 ∷ []) ∷ []; whole_ends = 100 ∷ []; choices = slice_set p.choices 2 (HandsOut 0 (Commands 0)) })
      ∷ row 2 (held 0 2 (Commands 0) no_grips) 0 (λ p. record p { touched = (2 ∷ []) ∷ []; choices = slice_set p.choices 2 (Waits (Busy (device_no 0))) })
      ∷ row 3 no_grips 0 (λ p. record p { holders = [] ∷ []; choices = slice_set p.choices 2 (Over Committed (Ended (run_no 2) Committed ∷ [])) })
      ∷ row 4 no_grips 0 (λ p. record p { first_places = 1 ∷ []; places = At (split_at (Ran (run_no 2) ∷ []) 1) ∷ []; choices = slice_set p.choices 1 (Moves (Placed (run_no 1) 1 0 ∷ [])) })
      ∷ row 5 no_grips 0 (λ p. record p {
        line = Ran (run_no 2) ∷ Ran (run_no 1) ∷ [];
        holders = (1 ∷ []) ∷ [];
        first_places = [];
        places = [];
        overdue = (None ∷ []) ∷ (None ∷ []) ∷ [];
        starts = (0 ∷ []) ∷ (0 ∷ []) ∷ [];
        ends = (100 ∷ []) ∷ (100 ∷ []) ∷ [];
        whole_ends = 100 ∷ 100 ∷ [];
        choices = slice_set p.choices 1 (HandsOut 0 (Commands 0));
      })
      ∷ row 6 no_grips 0 (λ p. record p { overdue = (None ∷ []) ∷ []; starts = (0 ∷ []) ∷ []; ends = (100 ∷ []) ∷ []; whole_ends = 100 ∷ []; choices = slice_set p.choices 2 (Over Committed []) })
      ∷ row 6 (held 0 1 (Commands 0) no_grips) 0 (λ p. record p { touched = (1 ∷ 2 ∷ []) ∷ []; choices = slice_set p.choices 1 (Waits (Busy (device_no 0))) })
      ∷ row 7 no_grips 100 (λ p. record p { writers = Some 1 ∷ []; holders = [] ∷ []; choices = slice_set p.choices 1 (Over Committed (Ended (run_no 1) Committed ∷ [])) })
      ∷ row 8 no_grips 100 (λ p. record p { overdue = []; starts = []; ends = []; whole_ends = []; choices = slice_set p.choices 1 (Over Committed []) }) ∷ [];
  gives = give 2 0 2 (Commands 0) (Sensed 0) (Did (run_no 2) 0 (Found 0) ∷ []) ∷ give 6 0 1 (Commands 0) Worked (Did (run_no 1) 0 Fine ∷ []) ∷ [];
  calls = 2 ∷ [];
  outcome = record { order = Ran (run_no 2) ∷ Ran (run_no 1) ∷ []; home = record { value = 0; up = true } ∷ []; answers = record { run = run_no 2; answers = (Found 0) ∷ [] } ∷ record { run = run_no 1; answers = Fine ∷ [] } ∷ [] };
}

is_worked : IsWorked window history table
unfolding chosen closure either_of gap_set others split_of
is_worked = record { points = refl; clauses = refl; gives = refl; calls = refl; ended = refl; allowed = refl; order = refl; answers = refl }
