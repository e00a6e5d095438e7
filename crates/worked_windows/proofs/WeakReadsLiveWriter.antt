-- The window weak-reads-live-writer: under the weak model a run reads what a live one wrote.
use Rattle.worked_windows.proofs.Prelude.{Always}
use Rattle.worked_windows.proofs.Words.{Aborted, Absent, Arrived, At, Busy, Check, Commands, Committed, Did, Doomed, Ended, Entry, Fcfs, Fine, Found, HandsOut, IsWeaklyWorked, List, Load, Moves, None, Over, Placed, Ran, Range, Refuted, Sensed, Set, Setting, Some, States, Waits, Weak, WeakTable, Worked, [], device_no, give, held, more, no_grips, refl, row, run_no, slice_set, split_at, split_of, still, true, ◌∷◌}

abbrev pub window : Setting
window = record {
  runs = record { commands = record { device = device_no 2; job = Set 20; when = Always; must = true; ms = 100; takes = 100 } ∷ record { device = device_no 1; job = Check 1; when = Always; must = true; ms = 100; takes = 100 } ∷ []; follows = None }
      ∷ record { commands = record { device = device_no 2; job = Load; when = Always; must = true; ms = 100; takes = 100 } ∷ record { device = device_no 0; job = Set 1; when = Always; must = true; ms = 100; takes = 100 } ∷ []; follows = None } ∷ [];
  mode = record { model = Weak; scheduler = Fcfs };
  kinds = States 2 ∷ States 2 ∷ Range 10 30 ∷ [];
  first = record { value = 0; up = true } ∷ record { value = 0; up = true } ∷ record { value = 18; up = true } ∷ [];
}

abbrev pub history : List Entry
history = Arrived (run_no 1) 0 ∷ Placed (run_no 1) 0 0 ∷ Arrived (run_no 2) 0 ∷ Placed (run_no 2) 1 0 ∷ Did (run_no 1) 0 Fine
    ∷ Did (run_no 2) 0 (Found 20) ∷ Did (run_no 1) 1 (Found 0) ∷ Doomed (run_no 1) (Refuted 1 0) ∷ Ended (run_no 1) (Aborted (Refuted 1 0)) ∷ Did (run_no 2) 1 Fine
    ∷ Ended (run_no 2) Committed ∷ []

abbrev pub table : WeakTable
table = record {
  first = record {
    line = [];
    up = true ∷ true ∷ true ∷ [];
    writers = None ∷ None ∷ None ∷ [];
    values = 0 ∷ 0 ∷ 18 ∷ [];
    holders = [] ∷ [] ∷ [] ∷ [];
    touched = [] ∷ [] ∷ [] ∷ [];
    first_places = [];
    places = [];
    overdue = [];
    starts = [];
    ends = [];
    whole_ends = [];
    choices = Absent ∷ Moves (Arrived (run_no 1) 0 ∷ []) ∷ Moves (Arrived (run_no 2) 0 ∷ []) ∷ [];
  };
  rows = still 0 no_grips 0
      ∷ row 1 no_grips 0 (λ p. record p { first_places = 0 ∷ []; places = At (split_at [] 0) ∷ []; choices = slice_set p.choices 1 (Moves (Placed (run_no 1) 0 0 ∷ [])) })
      ∷ row 2 no_grips 0 (λ p. record p {
        line = Ran (run_no 1) ∷ [];
        holders = [] ∷ (1 ∷ []) ∷ (1 ∷ []) ∷ [];
        first_places = [];
        places = [];
        overdue = (None ∷ None ∷ None ∷ []) ∷ [];
        starts = (100 ∷ 0 ∷ []) ∷ [];
        ends = (200 ∷ 100 ∷ []) ∷ [];
        whole_ends = 200 ∷ [];
        choices = slice_set p.choices 1 (HandsOut 2 (Commands 0));
      })
      ∷ row 3 no_grips 0 (λ p. record p { first_places = 0 ∷ []; places = At (split_at (Ran (run_no 1) ∷ []) 1) ∷ []; choices = slice_set p.choices 2 (Moves (Placed (run_no 2) 1 0 ∷ [])) })
      ∷ row 4 no_grips 0 (λ p. record p {
        line = Ran (run_no 1) ∷ Ran (run_no 2) ∷ [];
        holders = (2 ∷ []) ∷ (1 ∷ []) ∷ (1 ∷ 2 ∷ []) ∷ [];
        first_places = [];
        places = [];
        overdue = more 0 (None ∷ None ∷ None ∷ []) p.overdue;
        starts = (100 ∷ 0 ∷ []) ∷ (100 ∷ 0 ∷ []) ∷ [];
        ends = (200 ∷ 100 ∷ []) ∷ (200 ∷ 100 ∷ []) ∷ [];
        whole_ends = 200 ∷ 200 ∷ [];
        choices = slice_set p.choices 2 (HandsOut 2 (Commands 0));
      })
      ∷ row 4 (held 2 1 (Commands 0) no_grips) 0 (λ p. record p { touched = [] ∷ [] ∷ (1 ∷ []) ∷ []; choices = Absent ∷ Waits (Busy (device_no 2)) ∷ Waits (Busy (device_no 2)) ∷ [] })
      ∷ row 5 no_grips 100 (λ p. record p { writers = None ∷ None ∷ Some 1 ∷ []; values = 0 ∷ 0 ∷ 20 ∷ []; holders = (2 ∷ []) ∷ (1 ∷ []) ∷ (2 ∷ []) ∷ []; choices = Absent ∷ HandsOut 1 (Commands 1) ∷ HandsOut 2 (Commands 0) ∷ [] })
      ∷ row 5 (held 2 2 (Commands 0) no_grips) 100 (λ p. record p { touched = [] ∷ [] ∷ (1 ∷ 2 ∷ []) ∷ []; choices = slice_set p.choices 2 (Waits (Busy (device_no 2))) })
      ∷ row 6 no_grips 200 (λ p. record p { holders = (2 ∷ []) ∷ (1 ∷ []) ∷ [] ∷ []; choices = slice_set p.choices 2 (HandsOut 0 (Commands 1)) })
      ∷ row 6 (held 1 1 (Commands 1) no_grips) 200 (λ p. record p { touched = [] ∷ (1 ∷ []) ∷ (1 ∷ 2 ∷ []) ∷ []; choices = slice_set p.choices 1 (Waits (Busy (device_no 1))) })
      ∷ row 8 no_grips 300 (λ p. record p { holders = (2 ∷ []) ∷ [] ∷ (1 ∷ []) ∷ []; choices = slice_set p.choices 1 (Over (Aborted (Refuted 1 0)) (Ended (run_no 1) (Aborted (Refuted 1 0)) ∷ [])) })
      ∷ row 9 no_grips 300 (λ p. record p {
        line = Ran (run_no 2) ∷ [];
        writers = None ∷ None ∷ None ∷ [];
        holders = (2 ∷ []) ∷ [] ∷ [] ∷ [];
        overdue = (None ∷ None ∷ None ∷ []) ∷ [];
        starts = (100 ∷ 0 ∷ []) ∷ [];
        ends = (200 ∷ 100 ∷ []) ∷ [];
        whole_ends = 200 ∷ [];
        choices = slice_set p.choices 1 (Over (Aborted (Refuted 1 0)) []);
      })
      ∷ row 9 (held 0 2 (Commands 1) no_grips) 300 (λ p. record p { touched = (2 ∷ []) ∷ (1 ∷ []) ∷ (1 ∷ 2 ∷ []) ∷ []; choices = slice_set p.choices 2 (Waits (Busy (device_no 0))) })
      ∷ row 10 no_grips 400 (λ p. record p { writers = Some 2 ∷ None ∷ None ∷ []; values = 1 ∷ 0 ∷ 20 ∷ []; holders = [] ∷ [] ∷ [] ∷ []; choices = slice_set p.choices 2 (Over Committed (Ended (run_no 2) Committed ∷ [])) })
      ∷ row 11 no_grips 400 (λ p. record p { overdue = []; starts = []; ends = []; whole_ends = []; choices = slice_set p.choices 2 (Over Committed []) }) ∷ [];
  gives = give 4 2 1 (Commands 0) Worked (Did (run_no 1) 0 Fine ∷ [])
      ∷ give 5 2 2 (Commands 0) (Sensed 20) (Did (run_no 2) 0 (Found 20) ∷ [])
      ∷ give 6 1 1 (Commands 1) (Sensed 0) (Did (run_no 1) 1 (Found 0) ∷ Doomed (run_no 1) (Refuted 1 0) ∷ [])
      ∷ give 9 0 2 (Commands 1) Worked (Did (run_no 2) 1 Fine ∷ []) ∷ [];
  calls = 1 ∷ 1 ∷ 2 ∷ [];
}

is_worked : IsWeaklyWorked window history table
unfolding split_of
is_worked = record { points = refl; gives = refl; calls = refl; ended = refl; well_formed = refl; allowed = refl }
