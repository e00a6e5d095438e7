-- The window events-elsewhere-do-not-bind.
use Rattle.worked_windows.proofs.Prelude.{Always}
use Rattle.worked_windows.proofs.Words.{Aborted, Absent, Arrived, At, Busy, Check, Commands, Committed, Did, Died, Doomed, Down, Ended, Entry, Failed, Fcfs, Fell, Found, HandsOut, IsWeaklyWorked, List, Moves, MustDown, None, Over, Placed, Ran, Range, Refuted, Sensed, Set, Setting, Waits, Weak, WeakTable, [], device_no, false, give, held, no_grips, refl, row, run_no, slice_set, split_at, split_of, still, true, ◌++◌, ◌∷◌}

abbrev pub window : Setting
window = record {
  runs = record { commands = record { device = device_no 1; job = Check 0; when = Always; must = true; ms = 100; takes = 100 } ∷ []; follows = None }
      ∷ record { commands = record { device = device_no 0; job = Set 0; when = Always; must = true; ms = 100; takes = 100 } ∷ []; follows = None }
      ∷ record { commands = record { device = device_no 0; job = Check 2; when = Always; must = true; ms = 100; takes = 100 } ∷ []; follows = None } ∷ [];
  mode = record { model = Weak; scheduler = Fcfs };
  kinds = Range 0 2 ∷ Range 0 3 ∷ [];
  first = record { value = 1; up = true } ∷ record { value = 0; up = true } ∷ [];
}

abbrev pub history : List Entry
history = Arrived (run_no 2) 0 ∷ Placed (run_no 2) 0 0 ∷ Arrived (run_no 3) 0 ∷ Placed (run_no 3) 1 0 ∷ Did (run_no 3) 0 (Found 1)
    ∷ Doomed (run_no 3) (Refuted 0 1) ∷ Ended (run_no 3) (Aborted (Refuted 0 1)) ∷ Fell (device_no 0) ∷ Did (run_no 2) 0 Down ∷ Doomed (run_no 2) (MustDown 0)
    ∷ Arrived (run_no 1) 200 ∷ Placed (run_no 1) 2 200 ∷ Ended (run_no 2) (Aborted (MustDown 0)) ∷ Did (run_no 1) 0 (Found 0) ∷ Ended (run_no 1) Committed ∷ []

abbrev pub table : WeakTable
table = record {
  first = record {
    line = [];
    up = true ∷ true ∷ [];
    writers = None ∷ None ∷ [];
    values = 1 ∷ 0 ∷ [];
    holders = [] ∷ [] ∷ [];
    touched = [] ∷ [] ∷ [];
    first_places = [];
    places = [];
    overdue = [];
    starts = [];
    ends = [];
    whole_ends = [];
    choices = Absent ∷ Moves (Arrived (run_no 1) 0 ∷ []) ∷ Moves (Arrived (run_no 2) 0 ∷ []) ∷ Moves (Arrived (run_no 3) 0 ∷ []) ∷ [];
  };
  rows = still 0 no_grips 0
      ∷ row 1 no_grips 0 (λ p. record p { first_places = 0 ∷ []; places = At (split_at [] 0) ∷ []; choices = slice_set p.choices 2 (Moves (Placed (run_no 2) 0 0 ∷ [])) })
      ∷ row 2 no_grips 0 (λ p. record p { line = Ran (run_no 2) ∷ []; holders = (2 ∷ []) ∷ [] ∷ []; first_places = []; places = []; overdue = (None ∷ None ∷ []) ∷ []; starts = (0 ∷ []) ∷ []; ends = (100 ∷ []) ∷ []; whole_ends = 100 ∷ []; choices = slice_set p.choices 2 (HandsOut 0 (Commands 0)) })
      ∷ row 3 no_grips 0 (λ p. record p { first_places = 0 ∷ []; places = At (split_at (Ran (run_no 2) ∷ []) 1) ∷ []; choices = slice_set p.choices 3 (Moves (Placed (run_no 3) 1 0 ∷ [])) })
      ∷ row 4 no_grips 0 (λ p. record p {
        line = Ran (run_no 2) ∷ Ran (run_no 3) ∷ [];
        holders = (2 ∷ 3 ∷ []) ∷ [] ∷ [];
        first_places = [];
        places = [];
        overdue = (None ∷ None ∷ []) ∷ (None ∷ None ∷ []) ∷ [];
        starts = (0 ∷ []) ∷ (0 ∷ []) ∷ [];
        ends = (100 ∷ []) ∷ (100 ∷ []) ∷ [];
        whole_ends = 100 ∷ 100 ∷ [];
        choices = slice_set p.choices 3 (HandsOut 0 (Commands 0));
      })
      ∷ row 4 (held 0 3 (Commands 0) no_grips) 0 (λ p. record p { touched = (3 ∷ []) ∷ [] ∷ []; choices = slice_set (slice_set p.choices 2 (Waits (Busy (device_no 0)))) 3 (Waits (Busy (device_no 0))) })
      ∷ row 6 no_grips 100 (λ p. record p { holders = (2 ∷ []) ∷ [] ∷ []; choices = Absent ∷ Moves (Arrived (run_no 1) 100 ∷ []) ∷ HandsOut 0 (Commands 0) ∷ Over (Aborted (Refuted 0 1)) (Ended (run_no 3) (Aborted (Refuted 0 1)) ∷ []) ∷ [] })
      ∷ row 7 no_grips 100 (λ p. record p { line = Ran (run_no 2) ∷ []; overdue = (None ∷ None ∷ []) ∷ []; starts = (0 ∷ []) ∷ []; ends = (100 ∷ []) ∷ []; whole_ends = 100 ∷ []; choices = slice_set p.choices 3 (Over (Aborted (Refuted 0 1)) []) })
      ∷ row 7 (held 0 2 (Commands 0) no_grips) 100 (λ p. record p { touched = (2 ∷ 3 ∷ []) ∷ [] ∷ []; choices = slice_set p.choices 2 (Waits (Busy (device_no 0))) })
      ∷ row 10 no_grips 200 (λ p. record p {
        line = Ran (run_no 2) ∷ Failed (device_no 0) 1 ∷ [];
        up = false ∷ true ∷ [];
        holders = [] ∷ [] ∷ [];
        choices =
            slice_set (slice_set p.choices 1 (Moves (Arrived (run_no 1) 200 ∷ []))) 2
            (Over (Aborted (MustDown 0)) (Ended (run_no 2) (Aborted (MustDown 0)) ∷ []));
      })
      ∷ row 11 no_grips 200 (λ p. record p { first_places = 0 ∷ []; places = At (split_at (Ran (run_no 2) ∷ Failed (device_no 0) 1 ∷ []) 2) ∷ []; choices = slice_set p.choices 1 (Moves (Placed (run_no 1) 2 200 ∷ [])) })
      ∷ row 12 no_grips 200 (λ p. record p {
        line = p.line ++ Ran (run_no 1) ∷ [];
        holders = [] ∷ (1 ∷ []) ∷ [];
        first_places = [];
        places = [];
        overdue = (None ∷ None ∷ []) ∷ (None ∷ None ∷ []) ∷ [];
        starts = (0 ∷ []) ∷ (200 ∷ []) ∷ [];
        ends = (100 ∷ []) ∷ (300 ∷ []) ∷ [];
        whole_ends = 100 ∷ 300 ∷ [];
        choices = slice_set p.choices 1 (HandsOut 1 (Commands 0));
      })
      ∷ row 13 no_grips 200 (λ p. record p { line = Failed (device_no 0) 1 ∷ Ran (run_no 1) ∷ []; overdue = (None ∷ None ∷ []) ∷ []; starts = (200 ∷ []) ∷ []; ends = (300 ∷ []) ∷ []; whole_ends = 300 ∷ []; choices = slice_set p.choices 2 (Over (Aborted (MustDown 0)) []) })
      ∷ row 13 (held 1 1 (Commands 0) no_grips) 200 (λ p. record p { touched = (2 ∷ 3 ∷ []) ∷ (1 ∷ []) ∷ []; choices = slice_set p.choices 1 (Waits (Busy (device_no 1))) })
      ∷ row 14 no_grips 300 (λ p. record p { holders = [] ∷ [] ∷ []; choices = slice_set p.choices 1 (Over Committed (Ended (run_no 1) Committed ∷ [])) })
      ∷ row 15 no_grips 300 (λ p. record p { overdue = []; starts = []; ends = []; whole_ends = []; choices = slice_set p.choices 1 (Over Committed []) }) ∷ [];
  gives = give 4 0 3 (Commands 0) (Sensed 1) (Did (run_no 3) 0 (Found 1) ∷ Doomed (run_no 3) (Refuted 0 1) ∷ [])
      ∷ give 7 0 2 (Commands 0) Died (Fell (device_no 0) ∷ Did (run_no 2) 0 Down ∷ Doomed (run_no 2) (MustDown 0) ∷ [])
      ∷ give 13 1 1 (Commands 0) (Sensed 0) (Did (run_no 1) 0 (Found 0) ∷ []) ∷ [];
  calls = 1 ∷ 1 ∷ [];
}

is_worked : IsWeaklyWorked window history table
unfolding split_of
is_worked = record { points = refl; gives = refl; calls = refl; ended = refl; well_formed = refl; allowed = refl }
