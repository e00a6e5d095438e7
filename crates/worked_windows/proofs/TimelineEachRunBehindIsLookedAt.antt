-- The window timeline-each-run-behind-is-looked-at: timeline: a run that begins late hides none behind it that begins early.
use Rattle.worked_windows.proofs.Prelude.{Always}
use Rattle.worked_windows.proofs.Words.{Aborted, Absent, Arrived, At, Behind, Busy, Check, Commands, Committed, Did, Doomed, Ended, Entry, Eventual, Fine, Found, HandsOut, IsWorked, List, Moves, None, Over, Placed, Ran, Range, Refuted, Sensed, Set, Setting, Some, States, Table, Timeline, Waits, Worked, [], chosen, closure, device_no, either_of, false, gap_set, give, held, less, more, no_grips, others, refl, row, run_no, slice_set, split_at, split_of, still, true, ◌++◌, ◌∷◌}

abbrev pub window : Setting
window = record {
  runs = record {
    commands =
        record { device = device_no 1; job = Check 1; when = Always; must = true; ms = 100; takes = 0 }
        ∷ record { device = device_no 2; job = Set 20; when = Always; must = true; ms = 500; takes = 500 }
        ∷ record { device = device_no 0; job = Set 1; when = Always; must = true; ms = 100; takes = 100 } ∷ [];
    follows = None;
  }
      ∷ record { commands = record { device = device_no 3; job = Check 0; when = Always; must = false; ms = 0; takes = 0 } ∷ record { device = device_no 0; job = Set 0; when = Always; must = true; ms = 900; takes = 900 } ∷ []; follows = None }
      ∷ record { commands = record { device = device_no 0; job = Set 1; when = Always; must = true; ms = 300; takes = 300 } ∷ []; follows = None } ∷ [];
  mode = record { model = Eventual; scheduler = Timeline };
  kinds = States 2 ∷ States 2 ∷ Range 10 30 ∷ States 2 ∷ [];
  first = record { value = 0; up = true } ∷ record { value = 0; up = true } ∷ record { value = 18; up = true } ∷ record { value = 0; up = true } ∷ [];
}

abbrev pub history : List Entry
history = Arrived (run_no 1) 0 ∷ Placed (run_no 1) 0 0 ∷ Did (run_no 1) 0 (Found 0) ∷ Doomed (run_no 1) (Refuted 0 0) ∷ Arrived (run_no 2) 0
    ∷ Placed (run_no 2) 1 0 ∷ Arrived (run_no 3) 0 ∷ Placed (run_no 3) 2 0 ∷ Ended (run_no 1) (Aborted (Refuted 0 0)) ∷ Did (run_no 2) 0 (Found 0)
    ∷ Did (run_no 2) 1 Fine ∷ Ended (run_no 2) Committed ∷ Did (run_no 3) 0 Fine ∷ Ended (run_no 3) Committed ∷ []

abbrev pub table : Table
table = record {
  first = record {
    line = [];
    up = true ∷ true ∷ true ∷ true ∷ [];
    writers = None ∷ None ∷ None ∷ None ∷ [];
    values = 0 ∷ 0 ∷ 18 ∷ 0 ∷ [];
    holders = [] ∷ [] ∷ [] ∷ [] ∷ [];
    touched = [] ∷ [] ∷ [] ∷ [] ∷ [];
    first_places = [];
    places = [];
    overdue = [];
    starts = [];
    ends = [];
    whole_ends = [];
    choices = Absent ∷ Moves (Arrived (run_no 1) 0 ∷ []) ∷ Moves (Arrived (run_no 2) 0 ∷ []) ∷ Moves (Arrived (run_no 3) 0 ∷ []) ∷ [];
  };
  rows = still 0 no_grips 0
      ∷ row 1 no_grips 0 (λ p. record p { first_places = 0 ∷ []; places = At (split_at [] 0) ∷ []; choices = slice_set p.choices 1 (Moves (Placed (run_no 1) 0 0 ∷ [])) })
      ∷ row 2 no_grips 0 (λ p. record p {
        line = Ran (run_no 1) ∷ [];
        holders = (1 ∷ []) ∷ (1 ∷ []) ∷ (1 ∷ []) ∷ [] ∷ [];
        first_places = [];
        places = [];
        overdue = (None ∷ None ∷ None ∷ None ∷ []) ∷ [];
        starts = (600 ∷ 0 ∷ 100 ∷ []) ∷ [];
        ends = (700 ∷ 100 ∷ 600 ∷ []) ∷ [];
        whole_ends = 700 ∷ [];
        choices = slice_set p.choices 1 (HandsOut 1 (Commands 0));
      })
      ∷ row 2 (held 1 1 (Commands 0) no_grips) 0 (λ p. record p { touched = [] ∷ (1 ∷ []) ∷ [] ∷ [] ∷ []; choices = slice_set p.choices 1 (Waits (Busy (device_no 1))) })
      ∷ row 4 no_grips 0 (λ p. record p { holders = [] ∷ [] ∷ [] ∷ [] ∷ []; choices = slice_set p.choices 1 (Over (Aborted (Refuted 0 0)) (Ended (run_no 1) (Aborted (Refuted 0 0)) ∷ [])) })
      ∷ row 5 no_grips 0 (λ p. record p { first_places = 0 ∷ []; places = At (split_at (Ran (run_no 1) ∷ []) 1) ∷ []; choices = slice_set p.choices 2 (Moves (Placed (run_no 2) 1 0 ∷ [])) })
      ∷ row 6 no_grips 0 (λ p. record p {
        line = Ran (run_no 1) ∷ Ran (run_no 2) ∷ [];
        holders = (2 ∷ []) ∷ [] ∷ [] ∷ (2 ∷ []) ∷ [];
        first_places = [];
        places = [];
        overdue = more 0 (None ∷ None ∷ None ∷ None ∷ []) p.overdue;
        starts = (600 ∷ 0 ∷ 100 ∷ []) ∷ (0 ∷ 0 ∷ []) ∷ [];
        ends = more 1 (900 ∷ 0 ∷ []) p.ends;
        whole_ends = 700 ∷ 900 ∷ [];
        choices = slice_set p.choices 2 (HandsOut 3 (Commands 0));
      })
      ∷ row 7 no_grips 0 (λ p. record p { first_places = 0 ∷ []; places = At (split_at (Ran (run_no 1) ∷ Ran (run_no 2) ∷ []) 2) ∷ []; choices = slice_set p.choices 3 (Moves (Placed (run_no 3) 2 0 ∷ [])) })
      ∷ row 8 no_grips 0 (λ p. record p {
        line = p.line ++ Ran (run_no 3) ∷ [];
        holders = (2 ∷ 3 ∷ []) ∷ [] ∷ [] ∷ (2 ∷ []) ∷ [];
        first_places = [];
        places = [];
        overdue = more 0 (None ∷ None ∷ None ∷ None ∷ []) p.overdue;
        starts = more 2 (900 ∷ []) p.starts;
        ends = more 2 (1200 ∷ []) p.ends;
        whole_ends = 700 ∷ 900 ∷ 1200 ∷ [];
        choices = slice_set p.choices 3 (Waits (Behind (device_no 0) (run_no 2)));
      })
      ∷ row 9 no_grips 0 (λ p. record p { line = less 0 p.line; overdue = less 0 p.overdue; starts = less 0 p.starts; ends = less 0 p.ends; whole_ends = 900 ∷ 1200 ∷ []; choices = slice_set p.choices 1 (Over (Aborted (Refuted 0 0)) []) })
      ∷ row 9 (held 3 2 (Commands 0) no_grips) 0 (λ p. record p { touched = [] ∷ (1 ∷ []) ∷ [] ∷ (2 ∷ []) ∷ []; choices = slice_set p.choices 2 (Waits (Busy (device_no 3))) })
      ∷ row 10 no_grips 0 (λ p. record p { holders = (2 ∷ 3 ∷ []) ∷ [] ∷ [] ∷ [] ∷ []; choices = slice_set p.choices 2 (HandsOut 0 (Commands 1)) })
      ∷ row 10 (held 0 2 (Commands 1) no_grips) 0 (λ p. record p { touched = (2 ∷ []) ∷ (1 ∷ []) ∷ [] ∷ (2 ∷ []) ∷ []; choices = slice_set p.choices 2 (Waits (Busy (device_no 0))) })
      ∷ row 11 no_grips 900 (λ p. record p { writers = Some 2 ∷ None ∷ None ∷ None ∷ []; holders = (3 ∷ []) ∷ [] ∷ [] ∷ [] ∷ []; choices = Absent ∷ Over (Aborted (Refuted 0 0)) [] ∷ Over Committed (Ended (run_no 2) Committed ∷ []) ∷ HandsOut 0 (Commands 0) ∷ [] })
      ∷ row 12 no_grips 900 (λ p. record p { overdue = less 0 p.overdue; starts = (900 ∷ []) ∷ []; ends = (1200 ∷ []) ∷ []; whole_ends = 1200 ∷ []; choices = slice_set p.choices 2 (Over Committed []) })
      ∷ row 12 (held 0 3 (Commands 0) no_grips) 900 (λ p. record p { touched = (2 ∷ 3 ∷ []) ∷ (1 ∷ []) ∷ [] ∷ (2 ∷ []) ∷ []; choices = slice_set p.choices 3 (Waits (Busy (device_no 0))) })
      ∷ row 13 no_grips 1200 (λ p. record p { writers = Some 3 ∷ None ∷ None ∷ None ∷ []; values = 1 ∷ 0 ∷ 18 ∷ 0 ∷ []; holders = [] ∷ [] ∷ [] ∷ [] ∷ []; choices = slice_set p.choices 3 (Over Committed (Ended (run_no 3) Committed ∷ [])) })
      ∷ row 14 no_grips 1200 (λ p. record p { overdue = []; starts = []; ends = []; whole_ends = []; choices = slice_set p.choices 3 (Over Committed []) }) ∷ [];
  gives = give 2 1 1 (Commands 0) (Sensed 0) (Did (run_no 1) 0 (Found 0) ∷ Doomed (run_no 1) (Refuted 0 0) ∷ [])
      ∷ give 9 3 2 (Commands 0) (Sensed 0) (Did (run_no 2) 0 (Found 0) ∷ []) ∷ give 10 0 2 (Commands 1) Worked (Did (run_no 2) 1 Fine ∷ [])
      ∷ give 12 0 3 (Commands 0) Worked (Did (run_no 3) 0 Fine ∷ []) ∷ [];
  calls = 2 ∷ 1 ∷ 0 ∷ 1 ∷ [];
  outcome = record {
    order = Ran (run_no 2) ∷ Ran (run_no 3) ∷ [];
    home = record { value = 1; up = true } ∷ record { value = 0; up = true } ∷ record { value = 18; up = true } ∷ record { value = 0; up = true } ∷ [];
    answers = record { run = run_no 2; answers = (Found 0) ∷ Fine ∷ [] } ∷ record { run = run_no 3; answers = Fine ∷ [] } ∷ [];
  };
}

is_worked : IsWorked window history table
unfolding chosen closure either_of gap_set others split_of
is_worked = record { points = refl; clauses = refl; gives = refl; calls = refl; ended = refl; allowed = refl; order = refl; answers = refl }
