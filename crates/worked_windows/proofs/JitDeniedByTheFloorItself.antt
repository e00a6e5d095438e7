-- The window jit-denied-by-the-floor-itself.
use Rattle.worked_windows.proofs.Prelude.{Always}
use Rattle.worked_windows.proofs.Words.{Aborted, Absent, Arrived, At, Busy, Commands, Committed, Denied, DeniedBy, Did, Died, Doomed, Down, Ended, Entry, Eventual, Failed, Fell, Fine, HandsOut, IsWorked, JustInTime, List, Moves, MustDown, None, Over, Placed, Ran, Range, Set, Setting, Some, Table, Waits, Worked, [], device_no, false, give, held, less, more, no_grips, refl, row, run_no, slice_set, split_at, split_of, still, true, ◌++◌, ◌∷◌}

abbrev pub window : Setting
window = record {
  runs = record { commands = record { device = device_no 1; job = Set 0; when = Always; must = true; ms = 100; takes = 100 } ∷ []; follows = None }
      ∷ record { commands = record { device = device_no 0; job = Set 0; when = Always; must = true; ms = 100; takes = 100 } ∷ []; follows = None }
      ∷ record { commands = record { device = device_no 1; job = Set 2; when = Always; must = true; ms = 100; takes = 100 } ∷ record { device = device_no 0; job = Set 1; when = Always; must = true; ms = 100; takes = 100 } ∷ []; follows = None } ∷ [];
  mode = record { model = Eventual; scheduler = JustInTime };
  kinds = Range 0 1 ∷ Range 0 3 ∷ [];
  first = record { value = 0; up = true } ∷ record { value = 0; up = true } ∷ [];
}

abbrev pub history : List Entry
history = Arrived (run_no 2) 0 ∷ Arrived (run_no 3) 0 ∷ Placed (run_no 2) 0 0 ∷ Arrived (run_no 1) 0 ∷ Placed (run_no 1) 0 0
    ∷ Fell (device_no 0) ∷ Did (run_no 2) 0 Down ∷ Doomed (run_no 2) (MustDown 0) ∷ Ended (run_no 2) (Aborted (MustDown 0)) ∷ Did (run_no 1) 0 Fine
    ∷ Ended (run_no 1) Committed ∷ Placed (run_no 3) 2 200 ∷ Fell (device_no 1) ∷ Did (run_no 3) 0 Down ∷ Doomed (run_no 3) (MustDown 0)
    ∷ Ended (run_no 3) (Aborted (MustDown 0)) ∷ []

abbrev pub table : Table
table = record {
  first = record {
    line = [];
    up = true ∷ true ∷ [];
    writers = None ∷ None ∷ [];
    values = 0 ∷ 0 ∷ [];
    holders = [] ∷ [] ∷ [];
    touched = [] ∷ [] ∷ [];
    first_places = [];
    places = [];
    overdue = [];
    starts = [];
    ends = [];
    whole_ends = [];
    choices = Absent ∷ Moves (Arrived (run_no 1) 0 ∷ []) ∷ Moves (Arrived (run_no 2) 0 ∷ []) ∷ Moves (Arrived (run_no 3) 0 ∷ []) ∷ [];
  };
  rows = still 0 no_grips 0
      ∷ row 1 no_grips 0 (λ p. record p { first_places = 0 ∷ []; places = At (split_at [] 0) ∷ []; choices = slice_set p.choices 2 (Moves (Placed (run_no 2) 0 0 ∷ [])) })
      ∷ row 2 no_grips 0 (λ p. record p { first_places = 0 ∷ 0 ∷ []; places = At (split_at [] 0) ∷ At (split_at [] 0) ∷ []; choices = slice_set p.choices 3 (Moves (Placed (run_no 3) 0 0 ∷ [])) })
      ∷ row 3 no_grips 0 (λ p. record p {
        line = Ran (run_no 2) ∷ [];
        holders = (2 ∷ []) ∷ [] ∷ [];
        first_places = 0 ∷ [];
        places = At (split_at (Ran (run_no 2) ∷ []) 0) ∷ [];
        overdue = (None ∷ None ∷ []) ∷ [];
        starts = (0 ∷ []) ∷ [];
        ends = (100 ∷ []) ∷ [];
        whole_ends = 100 ∷ [];
        choices = slice_set p.choices 2 (HandsOut 0 (Commands 0));
      })
      ∷ row 4 no_grips 0 (λ p. record p { first_places = 0 ∷ 0 ∷ []; places = p.places ++ At (split_at (Ran (run_no 2) ∷ []) 0) ∷ []; choices = slice_set p.choices 1 (Moves (Placed (run_no 1) 0 0 ∷ [])) })
      ∷ row 4 (held 0 2 (Commands 0) no_grips) 0 (λ p. record p { touched = (2 ∷ []) ∷ [] ∷ []; first_places = 0 ∷ 1 ∷ []; places = slice_set p.places 1 (DeniedBy 0 2); choices = slice_set (slice_set p.choices 2 (Waits (Busy (device_no 0)))) 3 (Waits (Denied (device_no 0) (run_no 2))) })
      ∷ row 5 (held 0 2 (Commands 0) no_grips) 0 (λ p. record p {
        line = Ran (run_no 1) ∷ Ran (run_no 2) ∷ [];
        holders = (2 ∷ []) ∷ (1 ∷ []) ∷ [];
        first_places = 2 ∷ [];
        places = DeniedBy 0 2 ∷ [];
        overdue = (None ∷ None ∷ []) ∷ (None ∷ None ∷ []) ∷ [];
        starts = (0 ∷ []) ∷ (0 ∷ []) ∷ [];
        ends = (100 ∷ []) ∷ (100 ∷ []) ∷ [];
        whole_ends = 100 ∷ 100 ∷ [];
        choices = slice_set p.choices 1 (HandsOut 1 (Commands 0));
      })
      ∷ row 8 no_grips 100 (λ p. record p {
        line = more 1 (Failed (device_no 0) 1) p.line;
        up = false ∷ true ∷ [];
        holders = [] ∷ (1 ∷ []) ∷ [];
        first_places = 3 ∷ [];
        places = DeniedBy 1 1 ∷ [];
        choices =
            slice_set (slice_set p.choices 2 (Over (Aborted (MustDown 0)) (Ended (run_no 2) (Aborted (MustDown 0)) ∷ []))) 3
            (Waits (Denied (device_no 1) (run_no 1)));
      })
      ∷ row 8 (held 1 1 (Commands 0) no_grips) 100 (λ p. record p { touched = (2 ∷ []) ∷ (1 ∷ []) ∷ []; choices = slice_set p.choices 1 (Waits (Busy (device_no 1))) })
      ∷ row 9 (held 1 1 (Commands 0) no_grips) 100 (λ p. record p {
        line = Ran (run_no 1) ∷ Failed (device_no 0) 1 ∷ [];
        first_places = 2 ∷ [];
        overdue = (None ∷ None ∷ []) ∷ [];
        starts = (0 ∷ []) ∷ [];
        ends = (100 ∷ []) ∷ [];
        whole_ends = 100 ∷ [];
        choices = slice_set p.choices 2 (Over (Aborted (MustDown 0)) []);
      })
      ∷ row 10 no_grips 200 (λ p. record p {
        writers = None ∷ Some 1 ∷ [];
        holders = [] ∷ [] ∷ [];
        places = At (split_at (Ran (run_no 1) ∷ Failed (device_no 0) 1 ∷ []) 2) ∷ [];
        choices = slice_set (slice_set p.choices 1 (Over Committed (Ended (run_no 1) Committed ∷ []))) 3 (Moves (Placed (run_no 3) 2 200 ∷ []));
      })
      ∷ row 11 no_grips 200 (λ p. record p { overdue = []; starts = []; ends = []; whole_ends = []; choices = slice_set p.choices 1 (Over Committed []) })
      ∷ row 12 no_grips 200 (λ p. record p {
        line = p.line ++ Ran (run_no 3) ∷ [];
        holders = (3 ∷ []) ∷ (3 ∷ []) ∷ [];
        first_places = [];
        places = [];
        overdue = (None ∷ None ∷ []) ∷ [];
        starts = (300 ∷ 200 ∷ []) ∷ [];
        ends = (400 ∷ 300 ∷ []) ∷ [];
        whole_ends = 400 ∷ [];
        choices = slice_set p.choices 3 (HandsOut 1 (Commands 0));
      })
      ∷ row 12 (held 1 3 (Commands 0) no_grips) 200 (λ p. record p { touched = (2 ∷ []) ∷ (1 ∷ 3 ∷ []) ∷ []; choices = slice_set p.choices 3 (Waits (Busy (device_no 1))) })
      ∷ row 15 no_grips 300 (λ p. record p { line = more 2 (Failed (device_no 1) 1) p.line; up = false ∷ false ∷ []; holders = [] ∷ [] ∷ []; choices = slice_set p.choices 3 (Over (Aborted (MustDown 0)) (Ended (run_no 3) (Aborted (MustDown 0)) ∷ [])) })
      ∷ row 16 no_grips 300 (λ p. record p { line = less 3 p.line; overdue = []; starts = []; ends = []; whole_ends = []; choices = slice_set p.choices 3 (Over (Aborted (MustDown 0)) []) }) ∷ [];
  gives = give 5 0 2 (Commands 0) Died (Fell (device_no 0) ∷ Did (run_no 2) 0 Down ∷ Doomed (run_no 2) (MustDown 0) ∷ [])
      ∷ give 9 1 1 (Commands 0) Worked (Did (run_no 1) 0 Fine ∷ [])
      ∷ give 12 1 3 (Commands 0) Died (Fell (device_no 1) ∷ Did (run_no 3) 0 Down ∷ Doomed (run_no 3) (MustDown 0) ∷ []) ∷ [];
  calls = 0 ∷ 1 ∷ [];
  outcome = record { order = Ran (run_no 1) ∷ Failed (device_no 0) 1 ∷ Failed (device_no 1) 1 ∷ []; home = record { value = 0; up = false } ∷ record { value = 0; up = false } ∷ []; answers = record { run = run_no 1; answers = Fine ∷ [] } ∷ [] };
}

is_worked : IsWorked window history table
unfolding split_of
is_worked = record { points = refl; clauses = refl; gives = refl; calls = refl; ended = refl; allowed = refl; order = refl; answers = refl }
