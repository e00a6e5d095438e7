-- The window jit-denies-dirty-read: just-in-time: a run that would read a live write is denied.
use Rattle.worked_windows.proofs.Prelude.{Always}
use Rattle.worked_windows.proofs.Words.{Absent, Arrived, At, Busy, Commands, Committed, Denied, DeniedBy, Did, Ended, Entry, Eventual, Fine, Found, HandsOut, IsWorked, JustInTime, List, Load, Moves, None, Over, Placed, Ran, Range, Sensed, Set, Setting, Some, States, Table, Waits, Worked, [], device_no, give, held, no_grips, refl, row, run_no, slice_set, split_at, split_of, still, true, ◌∷◌}

abbrev pub window : Setting
window = record {
  runs = record { commands = record { device = device_no 0; job = Set 20; when = Always; must = true; ms = 100; takes = 100 } ∷ record { device = device_no 1; job = Set 1; when = Always; must = true; ms = 100; takes = 100 } ∷ []; follows = None }
      ∷ record { commands = record { device = device_no 0; job = Load; when = Always; must = true; ms = 100; takes = 100 } ∷ []; follows = None } ∷ [];
  mode = record { model = Eventual; scheduler = JustInTime };
  kinds = Range 10 30 ∷ States 2 ∷ [];
  first = record { value = 18; up = true } ∷ record { value = 0; up = true } ∷ [];
}

abbrev pub history : List Entry
history = Arrived (run_no 1) 0 ∷ Placed (run_no 1) 0 0 ∷ Did (run_no 1) 0 Fine ∷ Arrived (run_no 2) 100 ∷ Did (run_no 1) 1 Fine
    ∷ Ended (run_no 1) Committed ∷ Placed (run_no 2) 1 200 ∷ Did (run_no 2) 0 (Found 20) ∷ Ended (run_no 2) Committed ∷ []

abbrev pub table : Table
table = record {
  first = record {
    line = [];
    up = true ∷ true ∷ [];
    writers = None ∷ None ∷ [];
    values = 18 ∷ 0 ∷ [];
    holders = [] ∷ [] ∷ [];
    touched = [] ∷ [] ∷ [];
    first_places = [];
    places = [];
    overdue = [];
    starts = [];
    ends = [];
    whole_ends = [];
    choices = Absent ∷ Moves (Arrived (run_no 1) 0 ∷ []) ∷ Moves (Arrived (run_no 2) 0 ∷ []) ∷ [];
  };
  rows = still 0 no_grips 0
      ∷ row 1 no_grips 0 (λ p. record p { first_places = 0 ∷ []; places = At (split_at [] 0) ∷ []; choices = slice_set p.choices 1 (Moves (Placed (run_no 1) 0 0 ∷ [])) })
      ∷ row 2 no_grips 0 (λ p. record p {
        line = Ran (run_no 1) ∷ [];
        holders = (1 ∷ []) ∷ (1 ∷ []) ∷ [];
        first_places = [];
        places = [];
        overdue = (None ∷ None ∷ []) ∷ [];
        starts = (0 ∷ 100 ∷ []) ∷ [];
        ends = (100 ∷ 200 ∷ []) ∷ [];
        whole_ends = 200 ∷ [];
        choices = slice_set p.choices 1 (HandsOut 0 (Commands 0));
      })
      ∷ row 2 (held 0 1 (Commands 0) no_grips) 0 (λ p. record p { touched = (1 ∷ []) ∷ [] ∷ []; choices = slice_set p.choices 1 (Waits (Busy (device_no 0))) })
      ∷ row 3 no_grips 100 (λ p. record p { writers = Some 1 ∷ None ∷ []; values = 20 ∷ 0 ∷ []; holders = [] ∷ (1 ∷ []) ∷ []; choices = Absent ∷ HandsOut 1 (Commands 1) ∷ Moves (Arrived (run_no 2) 100 ∷ []) ∷ [] })
      ∷ row 4 no_grips 100 (λ p. record p { first_places = 1 ∷ []; places = DeniedBy 0 1 ∷ []; choices = slice_set p.choices 2 (Waits (Denied (device_no 0) (run_no 1))) })
      ∷ row 4 (held 1 1 (Commands 1) no_grips) 100 (λ p. record p { touched = (1 ∷ []) ∷ (1 ∷ []) ∷ []; choices = slice_set p.choices 1 (Waits (Busy (device_no 1))) })
      ∷ row 5 no_grips 200 (λ p. record p { writers = Some 1 ∷ Some 1 ∷ []; values = 20 ∷ 1 ∷ []; holders = [] ∷ [] ∷ []; choices = slice_set p.choices 1 (Over Committed (Ended (run_no 1) Committed ∷ [])) })
      ∷ row 6 no_grips 200 (λ p. record p { places = At (split_at (Ran (run_no 1) ∷ []) 1) ∷ []; overdue = []; starts = []; ends = []; whole_ends = []; choices = Absent ∷ Over Committed [] ∷ Moves (Placed (run_no 2) 1 200 ∷ []) ∷ [] })
      ∷ row 7 no_grips 200 (λ p. record p {
        line = Ran (run_no 1) ∷ Ran (run_no 2) ∷ [];
        holders = (2 ∷ []) ∷ [] ∷ [];
        first_places = [];
        places = [];
        overdue = (None ∷ None ∷ []) ∷ [];
        starts = (200 ∷ []) ∷ [];
        ends = (300 ∷ []) ∷ [];
        whole_ends = 300 ∷ [];
        choices = slice_set p.choices 2 (HandsOut 0 (Commands 0));
      })
      ∷ row 7 (held 0 2 (Commands 0) no_grips) 200 (λ p. record p { touched = (1 ∷ 2 ∷ []) ∷ (1 ∷ []) ∷ []; choices = slice_set p.choices 2 (Waits (Busy (device_no 0))) })
      ∷ row 8 no_grips 300 (λ p. record p { holders = [] ∷ [] ∷ []; choices = slice_set p.choices 2 (Over Committed (Ended (run_no 2) Committed ∷ [])) })
      ∷ row 9 no_grips 300 (λ p. record p { overdue = []; starts = []; ends = []; whole_ends = []; choices = slice_set p.choices 2 (Over Committed []) }) ∷ [];
  gives = give 2 0 1 (Commands 0) Worked (Did (run_no 1) 0 Fine ∷ []) ∷ give 4 1 1 (Commands 1) Worked (Did (run_no 1) 1 Fine ∷ [])
      ∷ give 7 0 2 (Commands 0) (Sensed 20) (Did (run_no 2) 0 (Found 20) ∷ []) ∷ [];
  calls = 2 ∷ 1 ∷ [];
  outcome = record { order = Ran (run_no 1) ∷ Ran (run_no 2) ∷ []; home = record { value = 20; up = true } ∷ record { value = 1; up = true } ∷ []; answers = record { run = run_no 1; answers = Fine ∷ Fine ∷ [] } ∷ record { run = run_no 2; answers = (Found 20) ∷ [] } ∷ [] };
}

is_worked : IsWorked window history table
unfolding split_of
is_worked = record { points = refl; clauses = refl; gives = refl; calls = refl; ended = refl; allowed = refl; order = refl; answers = refl }
