-- The window a-morning: many runs on many devices.
use Rattle.worked_windows.proofs.Prelude.{Always}
use Rattle.worked_windows.proofs.Words.{Aborted, Absent, Arrived, At, Behind, Busy, Check, Commands, Committed, Did, Dirty, Doomed, Down, Ended, Entry, Eventual, Failed, Fcfs, Fell, Fine, Found, HandsOut, IsWorked, List, Load, Moves, None, Over, Placed, Ran, Range, Refuted, Set, Setting, Some, States, Table, Undid, Undoes, Waits, Worked, [], device_no, false, give, held, less, more, no_grips, points_from, refl, row, run_no, slice_set, split_at, split_of, still, true, words_along, ◌++◌, ◌∷◌, ◌≡◌}

abbrev pub window : Setting
window = record {
  runs = record {
    commands =
        record { device = device_no 2; job = Set 1; when = Always; must = true; ms = 100; takes = 100 }
        ∷ record { device = device_no 13; job = Set 1; when = Always; must = true; ms = 100; takes = 100 }
        ∷ record { device = device_no 19; job = Set 1; when = Always; must = true; ms = 100; takes = 100 } ∷ [];
    follows = None;
  }
      ∷ record { commands = record { device = device_no 5; job = Set 1; when = Always; must = true; ms = 100; takes = 100 } ∷ record { device = device_no 6; job = Set 1; when = Always; must = false; ms = 100; takes = 100 } ∷ []; follows = None }
      ∷ record { commands = record { device = device_no 3; job = Set 1; when = Always; must = true; ms = 100; takes = 100 } ∷ record { device = device_no 10; job = Set 22; when = Always; must = true; ms = 100; takes = 100 } ∷ []; follows = None }
      ∷ record {
        commands =
            record { device = device_no 1; job = Set 1; when = Always; must = false; ms = 100; takes = 100 }
            ∷ record { device = device_no 7; job = Set 1; when = Always; must = true; ms = 100; takes = 100 }
            ∷ record { device = device_no 9; job = Check 1; when = Always; must = false; ms = 100; takes = 100 } ∷ [];
        follows = None;
      }
      ∷ record { commands = record { device = device_no 12; job = Set 1; when = Always; must = true; ms = 100; takes = 100 } ∷ record { device = device_no 11; job = Set 0; when = Always; must = false; ms = 100; takes = 100 } ∷ []; follows = None }
      ∷ record { commands = record { device = device_no 0; job = Set 1; when = Always; must = false; ms = 100; takes = 100 } ∷ record { device = device_no 15; job = Check 0; when = Always; must = true; ms = 100; takes = 100 } ∷ []; follows = None }
      ∷ record { commands = record { device = device_no 18; job = Set 1; when = Always; must = true; ms = 100; takes = 100 } ∷ record { device = device_no 4; job = Set 0; when = Always; must = true; ms = 100; takes = 100 } ∷ []; follows = None }
      ∷ record { commands = record { device = device_no 10; job = Load; when = Always; must = true; ms = 100; takes = 100 } ∷ record { device = device_no 10; job = Set 20; when = Always; must = true; ms = 100; takes = 100 } ∷ []; follows = None }
      ∷ record {
        commands =
            record { device = device_no 9; job = Check 0; when = Always; must = false; ms = 100; takes = 100 }
            ∷ record { device = device_no 17; job = Set 1; when = Always; must = true; ms = 100; takes = 100 }
            ∷ record { device = device_no 5; job = Set 0; when = Always; must = true; ms = 100; takes = 100 } ∷ [];
        follows = None;
      }
      ∷ record {
        commands =
            record { device = device_no 2; job = Set 0; when = Always; must = true; ms = 100; takes = 100 }
            ∷ record { device = device_no 3; job = Set 0; when = Always; must = true; ms = 100; takes = 100 }
            ∷ record { device = device_no 19; job = Set 0; when = Always; must = true; ms = 100; takes = 100 }
            ∷ record { device = device_no 1; job = Set 0; when = Always; must = false; ms = 100; takes = 100 } ∷ [];
        follows = None;
      }
      ∷ record { commands = record { device = device_no 16; job = Set 1; when = Always; must = true; ms = 100; takes = 100 } ∷ record { device = device_no 8; job = Check 1; when = Always; must = true; ms = 100; takes = 100 } ∷ []; follows = None }
      ∷ record {
        commands =
            record { device = device_no 15; job = Set 0; when = Always; must = true; ms = 100; takes = 100 }
            ∷ record { device = device_no 16; job = Set 0; when = Always; must = true; ms = 100; takes = 100 }
            ∷ record { device = device_no 14; job = Set 1; when = Always; must = true; ms = 100; takes = 100 } ∷ [];
        follows = None;
      } ∷ [];
  mode = record { model = Eventual; scheduler = Fcfs };
  kinds = States 2 ∷ States 2 ∷ States 2 ∷ States 2 ∷ States 2 ∷ States 2 ∷ States 2 ∷ States 2 ∷ States 2 ∷ States 2 ∷ Range 10 30 ∷ States 2 ∷ States 2 ∷ States 2 ∷ States 2 ∷ States 2 ∷ States 2 ∷ States 2 ∷ States 2 ∷ States 2 ∷ [];
  first =
      record { value = 0; up = true } ∷ record { value = 0; up = true } ∷ record { value = 0; up = true } ∷ record { value = 0; up = true }
      ∷ record { value = 0; up = true } ∷ record { value = 0; up = true } ∷ record { value = 0; up = true } ∷ record { value = 0; up = true }
      ∷ record { value = 0; up = true } ∷ record { value = 1; up = true } ∷ record { value = 18; up = true } ∷ record { value = 0; up = true }
      ∷ record { value = 0; up = true } ∷ record { value = 0; up = true } ∷ record { value = 0; up = true } ∷ record { value = 0; up = true }
      ∷ record { value = 0; up = true } ∷ record { value = 0; up = true } ∷ record { value = 0; up = true } ∷ record { value = 0; up = true } ∷ [];
}

abbrev pub history : List Entry
history = Arrived (run_no 1) 0 ∷ Placed (run_no 1) 0 0 ∷ Arrived (run_no 2) 0 ∷ Placed (run_no 2) 1 0 ∷ Arrived (run_no 3) 0
    ∷ Placed (run_no 3) 2 0 ∷ Arrived (run_no 4) 0 ∷ Placed (run_no 4) 3 0 ∷ Arrived (run_no 5) 0 ∷ Placed (run_no 5) 4 0
    ∷ Arrived (run_no 6) 0 ∷ Placed (run_no 6) 5 0 ∷ Arrived (run_no 7) 0 ∷ Placed (run_no 7) 6 0 ∷ Arrived (run_no 8) 0
    ∷ Placed (run_no 8) 7 0 ∷ Arrived (run_no 9) 0 ∷ Placed (run_no 9) 8 0 ∷ Arrived (run_no 10) 0 ∷ Placed (run_no 10) 9 0
    ∷ Arrived (run_no 11) 0 ∷ Placed (run_no 11) 10 0 ∷ Arrived (run_no 12) 0 ∷ Placed (run_no 12) 11 0 ∷ Did (run_no 7) 0 Fine
    ∷ Did (run_no 1) 0 Fine ∷ Did (run_no 3) 0 Fine ∷ Did (run_no 11) 0 Fine ∷ Did (run_no 11) 1 (Found 0) ∷ Doomed (run_no 11) (Refuted 1 0)
    ∷ Did (run_no 1) 1 Fine ∷ Did (run_no 5) 0 Fine ∷ Did (run_no 10) 0 Fine ∷ Did (run_no 3) 1 Fine ∷ Did (run_no 10) 1 Fine
    ∷ Undid (run_no 11) (device_no 16) true ∷ Did (run_no 1) 2 Fine ∷ Did (run_no 10) 2 Fine ∷ Ended (run_no 1) Committed ∷ Ended (run_no 3) Committed
    ∷ Ended (run_no 11) (Aborted (Refuted 1 0)) ∷ Did (run_no 2) 0 Fine ∷ Did (run_no 2) 1 Fine ∷ Ended (run_no 2) Committed ∷ Fell (device_no 1)
    ∷ Did (run_no 4) 0 Down ∷ Did (run_no 8) 0 (Found 22) ∷ Did (run_no 6) 0 Fine ∷ Did (run_no 4) 1 Fine ∷ Did (run_no 10) 3 Down
    ∷ Ended (run_no 10) Committed ∷ Did (run_no 5) 1 Fine ∷ Ended (run_no 5) Committed ∷ Did (run_no 4) 2 (Found 1) ∷ Did (run_no 7) 1 Fine
    ∷ Did (run_no 9) 0 (Found 1) ∷ Ended (run_no 7) Committed ∷ Ended (run_no 4) Committed ∷ Did (run_no 6) 1 (Found 0) ∷ Did (run_no 9) 1 Fine
    ∷ Did (run_no 8) 1 Fine ∷ Ended (run_no 6) Committed ∷ Did (run_no 9) 2 Fine ∷ Did (run_no 12) 0 Fine ∷ Ended (run_no 9) Committed
    ∷ Ended (run_no 8) Committed ∷ Did (run_no 12) 1 Fine ∷ Did (run_no 12) 2 Fine ∷ Ended (run_no 12) Committed ∷ []

abbrev pub table : Table
table = record {
  first = record {
    line = [];
    up = true ∷ true ∷ true ∷ true ∷ true ∷ true ∷ true ∷ true ∷ true ∷ true ∷ true ∷ true ∷ true ∷ true ∷ true ∷ true ∷ true ∷ true ∷ true ∷ true ∷ [];
    writers = None ∷ None ∷ None ∷ None ∷ None ∷ None ∷ None ∷ None ∷ None ∷ None ∷ None ∷ None ∷ None ∷ None ∷ None ∷ None ∷ None ∷ None ∷ None ∷ None ∷ [];
    values = 0 ∷ 0 ∷ 0 ∷ 0 ∷ 0 ∷ 0 ∷ 0 ∷ 0 ∷ 0 ∷ 1 ∷ 18 ∷ 0 ∷ 0 ∷ 0 ∷ 0 ∷ 0 ∷ 0 ∷ 0 ∷ 0 ∷ 0 ∷ [];
    holders = [] ∷ [] ∷ [] ∷ [] ∷ [] ∷ [] ∷ [] ∷ [] ∷ [] ∷ [] ∷ [] ∷ [] ∷ [] ∷ [] ∷ [] ∷ [] ∷ [] ∷ [] ∷ [] ∷ [] ∷ [];
    touched = [] ∷ [] ∷ [] ∷ [] ∷ [] ∷ [] ∷ [] ∷ [] ∷ [] ∷ [] ∷ [] ∷ [] ∷ [] ∷ [] ∷ [] ∷ [] ∷ [] ∷ [] ∷ [] ∷ [] ∷ [];
    first_places = [];
    places = [];
    overdue = [];
    starts = [];
    ends = [];
    whole_ends = [];
    choices =
        Absent ∷ Moves (Arrived (run_no 1) 0 ∷ []) ∷ Moves (Arrived (run_no 2) 0 ∷ []) ∷ Moves (Arrived (run_no 3) 0 ∷ []) ∷ Moves (Arrived (run_no 4) 0 ∷ [])
        ∷ Moves (Arrived (run_no 5) 0 ∷ []) ∷ Moves (Arrived (run_no 6) 0 ∷ []) ∷ Moves (Arrived (run_no 7) 0 ∷ []) ∷ Moves (Arrived (run_no 8) 0 ∷ [])
        ∷ Moves (Arrived (run_no 9) 0 ∷ []) ∷ Moves (Arrived (run_no 10) 0 ∷ []) ∷ Moves (Arrived (run_no 11) 0 ∷ []) ∷ Moves (Arrived (run_no 12) 0 ∷ []) ∷ [];
  };
  rows = still 0 no_grips 0
      ∷ row 1 no_grips 0 (λ p. record p { first_places = 0 ∷ []; places = At (split_at [] 0) ∷ []; choices = slice_set p.choices 1 (Moves (Placed (run_no 1) 0 0 ∷ [])) })
      ∷ row 2 no_grips 0 (λ p. record p {
        line = Ran (run_no 1) ∷ [];
        holders = slice_set (slice_set (slice_set p.holders 2 (1 ∷ [])) 13 (1 ∷ [])) 19 (1 ∷ []);
        first_places = [];
        places = [];
        overdue =
            (None ∷ None ∷ None ∷ None ∷ None ∷ None ∷ None ∷ None ∷ None ∷ None ∷ None ∷ None ∷ None ∷ None ∷ None ∷ None ∷ None ∷ None ∷ None ∷ None ∷ [])
            ∷ [];
        starts = (0 ∷ 100 ∷ 200 ∷ []) ∷ [];
        ends = (100 ∷ 200 ∷ 300 ∷ []) ∷ [];
        whole_ends = 300 ∷ [];
        choices = slice_set p.choices 1 (HandsOut 2 (Commands 0));
      })
      ∷ row 3 no_grips 0 (λ p. record p { first_places = 0 ∷ []; places = At (split_at (Ran (run_no 1) ∷ []) 1) ∷ []; choices = slice_set p.choices 2 (Moves (Placed (run_no 2) 1 0 ∷ [])) })
      ∷ row 4 no_grips 0 (λ p. record p {
        line = Ran (run_no 1) ∷ Ran (run_no 2) ∷ [];
        holders = slice_set (slice_set p.holders 5 (2 ∷ [])) 6 (2 ∷ []);
        first_places = [];
        places = [];
        overdue =
            more 0
            (None ∷ None ∷ None ∷ None ∷ None ∷ None ∷ None ∷ None ∷ None ∷ None ∷ None ∷ None ∷ None ∷ None ∷ None ∷ None ∷ None ∷ None ∷ None ∷ None ∷ [])
            p.overdue;
        starts = (0 ∷ 100 ∷ 200 ∷ []) ∷ (0 ∷ 100 ∷ []) ∷ [];
        ends = (100 ∷ 200 ∷ 300 ∷ []) ∷ (100 ∷ 200 ∷ []) ∷ [];
        whole_ends = 300 ∷ 200 ∷ [];
        choices = slice_set p.choices 2 (HandsOut 5 (Commands 0));
      })
      ∷ row 5 no_grips 0 (λ p. record p { first_places = 0 ∷ []; places = At (split_at (Ran (run_no 1) ∷ Ran (run_no 2) ∷ []) 2) ∷ []; choices = slice_set p.choices 3 (Moves (Placed (run_no 3) 2 0 ∷ [])) })
      ∷ row 6 no_grips 0 (λ p. record p {
        line = p.line ++ Ran (run_no 3) ∷ [];
        holders = slice_set (slice_set p.holders 3 (3 ∷ [])) 10 (3 ∷ []);
        first_places = [];
        places = [];
        overdue =
            more 0
            (None ∷ None ∷ None ∷ None ∷ None ∷ None ∷ None ∷ None ∷ None ∷ None ∷ None ∷ None ∷ None ∷ None ∷ None ∷ None ∷ None ∷ None ∷ None ∷ None ∷ [])
            p.overdue;
        starts = more 1 (0 ∷ 100 ∷ []) p.starts;
        ends = more 1 (100 ∷ 200 ∷ []) p.ends;
        whole_ends = 300 ∷ 200 ∷ 200 ∷ [];
        choices = slice_set p.choices 3 (HandsOut 3 (Commands 0));
      })
      ∷ row 7 no_grips 0 (λ p. record p { first_places = 0 ∷ []; places = At (split_at (Ran (run_no 1) ∷ Ran (run_no 2) ∷ Ran (run_no 3) ∷ []) 3) ∷ []; choices = slice_set p.choices 4 (Moves (Placed (run_no 4) 3 0 ∷ [])) })
      ∷ row 8 no_grips 0 (λ p. record p {
        line = p.line ++ Ran (run_no 4) ∷ [];
        holders = slice_set (slice_set (slice_set p.holders 1 (4 ∷ [])) 7 (4 ∷ [])) 9 (4 ∷ []);
        first_places = [];
        places = [];
        overdue =
            more 0
            (None ∷ None ∷ None ∷ None ∷ None ∷ None ∷ None ∷ None ∷ None ∷ None ∷ None ∷ None ∷ None ∷ None ∷ None ∷ None ∷ None ∷ None ∷ None ∷ None ∷ [])
            p.overdue;
        starts = more 3 (0 ∷ 100 ∷ 200 ∷ []) p.starts;
        ends = more 3 (100 ∷ 200 ∷ 300 ∷ []) p.ends;
        whole_ends = 300 ∷ 200 ∷ 200 ∷ 300 ∷ [];
        choices = slice_set p.choices 4 (HandsOut 1 (Commands 0));
      })
      ∷ row 9 no_grips 0 (λ p. record p { first_places = 0 ∷ []; places = At (split_at (Ran (run_no 1) ∷ Ran (run_no 2) ∷ Ran (run_no 3) ∷ Ran (run_no 4) ∷ []) 4) ∷ []; choices = slice_set p.choices 5 (Moves (Placed (run_no 5) 4 0 ∷ [])) })
      ∷ row 10 no_grips 0 (λ p. record p {
        line = p.line ++ Ran (run_no 5) ∷ [];
        holders = slice_set (slice_set p.holders 11 (5 ∷ [])) 12 (5 ∷ []);
        first_places = [];
        places = [];
        overdue =
            more 0
            (None ∷ None ∷ None ∷ None ∷ None ∷ None ∷ None ∷ None ∷ None ∷ None ∷ None ∷ None ∷ None ∷ None ∷ None ∷ None ∷ None ∷ None ∷ None ∷ None ∷ [])
            p.overdue;
        starts = more 4 (100 ∷ 0 ∷ []) p.starts;
        ends = more 4 (200 ∷ 100 ∷ []) p.ends;
        whole_ends = 300 ∷ 200 ∷ 200 ∷ 300 ∷ 200 ∷ [];
        choices = slice_set p.choices 5 (HandsOut 12 (Commands 0));
      })
      ∷ row 11 no_grips 0 (λ p. record p { first_places = 0 ∷ []; places = At (split_at (Ran (run_no 1) ∷ Ran (run_no 2) ∷ Ran (run_no 3) ∷ Ran (run_no 4) ∷ Ran (run_no 5) ∷ []) 5) ∷ []; choices = slice_set p.choices 6 (Moves (Placed (run_no 6) 5 0 ∷ [])) })
      ∷ row 12 no_grips 0 (λ p. record p {
        line = p.line ++ Ran (run_no 6) ∷ [];
        holders = slice_set (slice_set p.holders 0 (6 ∷ [])) 15 (6 ∷ []);
        first_places = [];
        places = [];
        overdue =
            more 0
            (None ∷ None ∷ None ∷ None ∷ None ∷ None ∷ None ∷ None ∷ None ∷ None ∷ None ∷ None ∷ None ∷ None ∷ None ∷ None ∷ None ∷ None ∷ None ∷ None ∷ [])
            p.overdue;
        starts = more 5 (0 ∷ 100 ∷ []) p.starts;
        ends = more 5 (100 ∷ 200 ∷ []) p.ends;
        whole_ends = 300 ∷ 200 ∷ 200 ∷ 300 ∷ 200 ∷ 200 ∷ [];
        choices = slice_set p.choices 6 (HandsOut 0 (Commands 0));
      })
      ∷ row 13 no_grips 0 (λ p. record p { first_places = 0 ∷ []; places = At (split_at (Ran (run_no 1) ∷ Ran (run_no 2) ∷ Ran (run_no 3) ∷ Ran (run_no 4) ∷ Ran (run_no 5) ∷ Ran (run_no 6) ∷ []) 6) ∷ []; choices = slice_set p.choices 7 (Moves (Placed (run_no 7) 6 0 ∷ [])) })
      ∷ row 14 no_grips 0 (λ p. record p {
        line = p.line ++ Ran (run_no 7) ∷ [];
        holders = slice_set (slice_set p.holders 4 (7 ∷ [])) 18 (7 ∷ []);
        first_places = [];
        places = [];
        overdue =
            more 0
            (None ∷ None ∷ None ∷ None ∷ None ∷ None ∷ None ∷ None ∷ None ∷ None ∷ None ∷ None ∷ None ∷ None ∷ None ∷ None ∷ None ∷ None ∷ None ∷ None ∷ [])
            p.overdue;
        starts = more 6 (100 ∷ 0 ∷ []) p.starts;
        ends = more 6 (200 ∷ 100 ∷ []) p.ends;
        whole_ends = 300 ∷ 200 ∷ 200 ∷ 300 ∷ 200 ∷ 200 ∷ 200 ∷ [];
        choices = slice_set p.choices 7 (HandsOut 18 (Commands 0));
      })
      ∷ row 15 no_grips 0 (λ p. record p { first_places = 0 ∷ []; places = At (split_at (Ran (run_no 1) ∷ Ran (run_no 2) ∷ Ran (run_no 3) ∷ Ran (run_no 4) ∷ Ran (run_no 5) ∷ Ran (run_no 6) ∷ Ran (run_no 7) ∷ []) 7) ∷ []; choices = slice_set p.choices 8 (Moves (Placed (run_no 8) 7 0 ∷ [])) })
      ∷ row 16 no_grips 0 (λ p. record p {
        line = p.line ++ Ran (run_no 8) ∷ [];
        holders = slice_set p.holders 10 (3 ∷ 8 ∷ []);
        first_places = [];
        places = [];
        overdue =
            more 0
            (None ∷ None ∷ None ∷ None ∷ None ∷ None ∷ None ∷ None ∷ None ∷ None ∷ None ∷ None ∷ None ∷ None ∷ None ∷ None ∷ None ∷ None ∷ None ∷ None ∷ [])
            p.overdue;
        starts = more 7 (0 ∷ []) p.starts;
        ends = more 7 (200 ∷ []) p.ends;
        whole_ends = more 4 200 p.whole_ends;
        choices = slice_set p.choices 8 (Waits (Behind (device_no 10) (run_no 3)));
      })
      ∷ row 17 no_grips 0 (λ p. record p {
        first_places = 0 ∷ [];
        places =
            At (split_at
            (Ran (run_no 1) ∷ Ran (run_no 2) ∷ Ran (run_no 3) ∷ Ran (run_no 4) ∷ Ran (run_no 5) ∷ Ran (run_no 6) ∷ Ran (run_no 7) ∷ Ran (run_no 8) ∷ []) 8)
            ∷ [];
        choices = slice_set p.choices 9 (Moves (Placed (run_no 9) 8 0 ∷ []));
      })
      ∷ row 18 no_grips 0 (λ p. record p {
        line = p.line ++ Ran (run_no 9) ∷ [];
        holders = slice_set (slice_set (slice_set p.holders 5 (2 ∷ 9 ∷ [])) 9 (4 ∷ 9 ∷ [])) 17 (9 ∷ []);
        first_places = [];
        places = [];
        overdue =
            more 0
            (None ∷ None ∷ None ∷ None ∷ None ∷ None ∷ None ∷ None ∷ None ∷ None ∷ None ∷ None ∷ None ∷ None ∷ None ∷ None ∷ None ∷ None ∷ None ∷ None ∷ [])
            p.overdue;
        starts = more 8 (200 ∷ 0 ∷ 100 ∷ []) p.starts;
        ends = more 8 (300 ∷ 100 ∷ 200 ∷ []) p.ends;
        whole_ends = more 8 300 p.whole_ends;
        choices = slice_set p.choices 9 (Waits (Behind (device_no 9) (run_no 4)));
      })
      ∷ row 19 no_grips 0 (λ p. record p {
        first_places = 0 ∷ [];
        places =
            At (split_at (Ran (run_no 1) ∷ Ran (run_no 2) ∷ Ran (run_no 3) ∷ Ran (run_no 4) ∷ Ran (run_no 5) ∷ Ran (run_no 6) ∷ Ran (run_no 7) ∷ Ran (run_no 8)
            ∷ Ran (run_no 9) ∷ []) 9) ∷ [];
        choices = slice_set p.choices 10 (Moves (Placed (run_no 10) 9 0 ∷ []));
      })
      ∷ row 20 no_grips 0 (λ p. record p {
        line = p.line ++ Ran (run_no 10) ∷ [];
        holders = slice_set (slice_set (slice_set (slice_set p.holders 1 (4 ∷ 10 ∷ [])) 2 (1 ∷ 10 ∷ [])) 3 (3 ∷ 10 ∷ [])) 19 (1 ∷ 10 ∷ []);
        first_places = [];
        places = [];
        overdue =
            more 0
            (None ∷ None ∷ None ∷ None ∷ None ∷ None ∷ None ∷ None ∷ None ∷ None ∷ None ∷ None ∷ None ∷ None ∷ None ∷ None ∷ None ∷ None ∷ None ∷ None ∷ [])
            p.overdue;
        starts = more 9 (300 ∷ 0 ∷ 100 ∷ 200 ∷ []) p.starts;
        ends = more 9 (400 ∷ 100 ∷ 200 ∷ 300 ∷ []) p.ends;
        whole_ends = more 9 400 p.whole_ends;
        choices = slice_set p.choices 10 (Waits (Behind (device_no 2) (run_no 1)));
      })
      ∷ row 21 no_grips 0 (λ p. record p {
        first_places = 0 ∷ [];
        places =
            At (split_at (Ran (run_no 1) ∷ Ran (run_no 2) ∷ Ran (run_no 3) ∷ Ran (run_no 4) ∷ Ran (run_no 5) ∷ Ran (run_no 6) ∷ Ran (run_no 7) ∷ Ran (run_no 8)
            ∷ Ran (run_no 9) ∷ Ran (run_no 10) ∷ []) 10) ∷ [];
        choices = slice_set p.choices 11 (Moves (Placed (run_no 11) 10 0 ∷ []));
      })
      ∷ row 22 no_grips 0 (λ p. record p {
        line = p.line ++ Ran (run_no 11) ∷ [];
        holders = slice_set (slice_set p.holders 8 (11 ∷ [])) 16 (11 ∷ []);
        first_places = [];
        places = [];
        overdue =
            more 0
            (None ∷ None ∷ None ∷ None ∷ None ∷ None ∷ None ∷ None ∷ None ∷ None ∷ None ∷ None ∷ None ∷ None ∷ None ∷ None ∷ None ∷ None ∷ None ∷ None ∷ [])
            p.overdue;
        starts = p.starts ++ (100 ∷ 0 ∷ []) ∷ [];
        ends = p.ends ++ (200 ∷ 100 ∷ []) ∷ [];
        whole_ends = p.whole_ends ++ 200 ∷ [];
        choices = slice_set p.choices 11 (HandsOut 16 (Commands 0));
      })
      ∷ row 23 no_grips 0 (λ p. record p {
        first_places = 0 ∷ [];
        places =
            At (split_at (Ran (run_no 1) ∷ Ran (run_no 2) ∷ Ran (run_no 3) ∷ Ran (run_no 4) ∷ Ran (run_no 5) ∷ Ran (run_no 6) ∷ Ran (run_no 7) ∷ Ran (run_no 8)
            ∷ Ran (run_no 9) ∷ Ran (run_no 10) ∷ Ran (run_no 11) ∷ []) 11) ∷ [];
        choices = slice_set p.choices 12 (Moves (Placed (run_no 12) 11 0 ∷ []));
      })
      ∷ row 24 no_grips 0 (λ p. record p {
        line = p.line ++ Ran (run_no 12) ∷ [];
        holders = slice_set (slice_set (slice_set p.holders 14 (12 ∷ [])) 15 (6 ∷ 12 ∷ [])) 16 (11 ∷ 12 ∷ []);
        first_places = [];
        places = [];
        overdue =
            more 0
            (None ∷ None ∷ None ∷ None ∷ None ∷ None ∷ None ∷ None ∷ None ∷ None ∷ None ∷ None ∷ None ∷ None ∷ None ∷ None ∷ None ∷ None ∷ None ∷ None ∷ [])
            p.overdue;
        starts = p.starts ++ (200 ∷ 0 ∷ 100 ∷ []) ∷ [];
        ends = p.ends ++ (300 ∷ 100 ∷ 200 ∷ []) ∷ [];
        whole_ends = p.whole_ends ++ 300 ∷ [];
        choices = slice_set p.choices 12 (Waits (Behind (device_no 15) (run_no 6)));
      })
      ∷ row 24 (held 3 3 (Commands 0) no_grips) 0 (λ p. record p { touched = slice_set p.touched 3 (3 ∷ []); choices = slice_set p.choices 3 (Waits (Busy (device_no 3))) })
      ∷ row 24 (held 16 11 (Commands 0) (held 3 3 (Commands 0) no_grips)) 0 (λ p. record p { touched = slice_set p.touched 16 (11 ∷ []); choices = slice_set p.choices 11 (Waits (Busy (device_no 16))) })
      ∷ row 24 (held 2 1 (Commands 0) (held 16 11 (Commands 0) (held 3 3 (Commands 0) no_grips))) 0 (λ p. record p { touched = slice_set p.touched 2 (1 ∷ []); choices = slice_set p.choices 1 (Waits (Busy (device_no 2))) })
      ∷ row 24 (held 18 7 (Commands 0) (held 2 1 (Commands 0) (held 16 11 (Commands 0) (held 3 3 (Commands 0) no_grips)))) 0 (λ p. record p { touched = slice_set p.touched 18 (7 ∷ []); choices = slice_set p.choices 7 (Waits (Busy (device_no 18))) })
      ∷ row 25 (held 2 1 (Commands 0) (held 16 11 (Commands 0) (held 3 3 (Commands 0) no_grips))) 100 (λ p. record p { writers = slice_set p.writers 18 (Some 7); values = slice_set p.values 18 1; holders = slice_set p.holders 18 []; choices = slice_set p.choices 7 (HandsOut 4 (Commands 1)) })
      ∷ row 26 (held 16 11 (Commands 0) (held 3 3 (Commands 0) no_grips)) 200 (λ p. record p {
        writers = slice_set p.writers 2 (Some 1);
        values = slice_set p.values 2 1;
        holders = slice_set p.holders 2 (10 ∷ []);
        choices = slice_set (slice_set p.choices 1 (HandsOut 13 (Commands 1))) 10 (HandsOut 2 (Commands 0));
      })
      ∷ row 27 (held 16 11 (Commands 0) no_grips) 300 (λ p. record p { writers = slice_set p.writers 3 (Some 3); values = slice_set p.values 3 1; holders = slice_set p.holders 3 (10 ∷ []); choices = slice_set p.choices 3 (HandsOut 10 (Commands 1)) })
      ∷ row 28 no_grips 400 (λ p. record p { writers = slice_set p.writers 16 (Some 11); values = slice_set p.values 16 1; holders = slice_set p.holders 16 (12 ∷ []); choices = slice_set p.choices 11 (HandsOut 8 (Commands 1)) })
      ∷ row 28 (held 2 10 (Commands 0) no_grips) 400 (λ p. record p { touched = slice_set p.touched 2 (1 ∷ 10 ∷ []); choices = slice_set p.choices 10 (Waits (Busy (device_no 2))) })
      ∷ row 28 (held 8 11 (Commands 1) (held 2 10 (Commands 0) no_grips)) 400 (λ p. record p { touched = slice_set p.touched 8 (11 ∷ []); choices = slice_set p.choices 11 (Waits (Busy (device_no 8))) })
      ∷ row 28 (held 1 4 (Commands 0) (held 8 11 (Commands 1) (held 2 10 (Commands 0) no_grips))) 400 (λ p. record p { touched = slice_set p.touched 1 (4 ∷ []); choices = slice_set p.choices 4 (Waits (Busy (device_no 1))) })
      ∷ row 30 (held 1 4 (Commands 0) (held 2 10 (Commands 0) no_grips)) 500 (λ p. record p { holders = slice_set (slice_set p.holders 8 []) 16 (11 ∷ 12 ∷ []); choices = slice_set p.choices 11 (HandsOut 16 (Undoes 0)) })
      ∷ row 30 (held 13 1 (Commands 1) (held 1 4 (Commands 0) (held 2 10 (Commands 0) no_grips))) 500 (λ p. record p { touched = slice_set p.touched 13 (1 ∷ []); choices = slice_set p.choices 1 (Waits (Busy (device_no 13))) })
      ∷ row 31 (held 1 4 (Commands 0) (held 2 10 (Commands 0) no_grips)) 600 (λ p. record p { writers = slice_set p.writers 13 (Some 1); values = slice_set p.values 13 1; holders = slice_set p.holders 13 []; choices = slice_set p.choices 1 (HandsOut 19 (Commands 2)) })
      ∷ row 31 (held 10 3 (Commands 1) (held 1 4 (Commands 0) (held 2 10 (Commands 0) no_grips))) 600 (λ p. record p { touched = slice_set p.touched 10 (3 ∷ []); choices = slice_set p.choices 3 (Waits (Busy (device_no 10))) })
      ∷ row 31 (held 12 5 (Commands 0) (held 10 3 (Commands 1) (held 1 4 (Commands 0) (held 2 10 (Commands 0) no_grips)))) 600 (λ p. record p { touched = slice_set p.touched 12 (5 ∷ []); choices = slice_set p.choices 5 (Waits (Busy (device_no 12))) })
      ∷ row 31 (held 16 11 (Undoes 0) (held 12 5 (Commands 0) (held 10 3 (Commands 1) (held 1 4 (Commands 0) (held 2 10 (Commands 0) no_grips))))) 600
      (λ p. record p {
        writers = slice_set p.writers 16 None;
        values = slice_set p.values 16 0;
        holders = slice_set p.holders 16 (12 ∷ []);
        choices = slice_set p.choices 11 (Waits (Busy (device_no 16)));
      })
      ∷ row 31 (held 19 1 (Commands 2) (held 16 11 (Undoes 0) (held 12 5 (Commands 0) (held 10 3 (Commands 1) (held 1 4 (Commands 0) (held 2 10 (Commands 0) no_grips)))))) 600 (λ p. record p { touched = slice_set p.touched 19 (1 ∷ []); choices = slice_set p.choices 1 (Waits (Busy (device_no 19))) })
      ∷ row 32 (held 19 1 (Commands 2) (held 16 11 (Undoes 0) (held 10 3 (Commands 1) (held 1 4 (Commands 0) (held 2 10 (Commands 0) no_grips))))) 700
      (λ p. record p {
        writers = slice_set p.writers 12 (Some 5);
        values = slice_set p.values 12 1;
        holders = slice_set p.holders 12 [];
        choices = slice_set p.choices 5 (HandsOut 11 (Commands 1));
      })
      ∷ row 33 (held 19 1 (Commands 2) (held 16 11 (Undoes 0) (held 10 3 (Commands 1) (held 1 4 (Commands 0) no_grips)))) 800 (λ p. record p {
        writers = slice_set p.writers 2 (Some 10);
        values = slice_set p.values 2 0;
        holders = slice_set p.holders 2 [];
        choices = slice_set p.choices 10 (HandsOut 3 (Commands 1));
      })
      ∷ row 33 (held 3 10 (Commands 1) (held 19 1 (Commands 2) (held 16 11 (Undoes 0) (held 10 3 (Commands 1) (held 1 4 (Commands 0) no_grips))))) 800 (λ p. record p { touched = slice_set p.touched 3 (3 ∷ 10 ∷ []); choices = slice_set p.choices 10 (Waits (Busy (device_no 3))) })
      ∷ row 33 (held 5 2 (Commands 0) (held 3 10 (Commands 1) (held 19 1 (Commands 2) (held 16 11 (Undoes 0) (held 10 3 (Commands 1) (held 1 4 (Commands 0) no_grips)))))) 800 (λ p. record p { touched = slice_set p.touched 5 (2 ∷ []); choices = slice_set p.choices 2 (Waits (Busy (device_no 5))) })
      ∷ row 34 (held 5 2 (Commands 0) (held 3 10 (Commands 1) (held 19 1 (Commands 2) (held 16 11 (Undoes 0) (held 1 4 (Commands 0) no_grips))))) 900
      (λ p. record p {
        writers = slice_set p.writers 10 (Some 3);
        values = slice_set p.values 10 22;
        holders = slice_set p.holders 10 (8 ∷ []);
        choices = slice_set (slice_set p.choices 3 (Over Committed (Ended (run_no 3) Committed ∷ []))) 8 (Waits (Dirty (device_no 10) (run_no 3)));
      })
      ∷ row 34 (held 4 7 (Commands 1) (held 5 2 (Commands 0) (held 3 10 (Commands 1) (held 19 1 (Commands 2) (held 16 11 (Undoes 0) (held 1 4 (Commands 0) no_grips)))))) 900 (λ p. record p { touched = slice_set p.touched 4 (7 ∷ []); choices = slice_set p.choices 7 (Waits (Busy (device_no 4))) })
      ∷ row 35 (held 4 7 (Commands 1) (held 5 2 (Commands 0) (held 19 1 (Commands 2) (held 16 11 (Undoes 0) (held 1 4 (Commands 0) no_grips))))) 1000
      (λ p. record p {
        writers = slice_set p.writers 3 (Some 10);
        values = slice_set p.values 3 0;
        holders = slice_set p.holders 3 [];
        choices = slice_set p.choices 10 (Waits (Behind (device_no 19) (run_no 1)));
      })
      ∷ row 36 (held 4 7 (Commands 1) (held 5 2 (Commands 0) (held 19 1 (Commands 2) (held 1 4 (Commands 0) no_grips)))) 1000 (λ p. record p { choices = slice_set p.choices 11 (Over (Aborted (Refuted 1 0)) (Ended (run_no 11) (Aborted (Refuted 1 0)) ∷ [])) })
      ∷ row 37 (held 4 7 (Commands 1) (held 5 2 (Commands 0) (held 1 4 (Commands 0) no_grips))) 1100 (λ p. record p {
        writers = slice_set p.writers 19 (Some 1);
        values = slice_set p.values 19 1;
        holders = slice_set p.holders 19 (10 ∷ []);
        choices = slice_set (slice_set p.choices 1 (Over Committed (Ended (run_no 1) Committed ∷ []))) 10 (HandsOut 19 (Commands 2));
      })
      ∷ row 37 (held 19 10 (Commands 2) (held 4 7 (Commands 1) (held 5 2 (Commands 0) (held 1 4 (Commands 0) no_grips)))) 1100 (λ p. record p { touched = slice_set p.touched 19 (1 ∷ 10 ∷ []); choices = slice_set p.choices 10 (Waits (Busy (device_no 19))) })
      ∷ row 38 (held 4 7 (Commands 1) (held 5 2 (Commands 0) (held 1 4 (Commands 0) no_grips))) 1200 (λ p. record p {
        writers = slice_set p.writers 19 (Some 10);
        values = slice_set p.values 19 0;
        holders = slice_set p.holders 19 [];
        choices = slice_set p.choices 10 (Waits (Behind (device_no 1) (run_no 4)));
      })
      ∷ row 38 (held 11 5 (Commands 1) (held 4 7 (Commands 1) (held 5 2 (Commands 0) (held 1 4 (Commands 0) no_grips)))) 1200 (λ p. record p { touched = slice_set p.touched 11 (5 ∷ []); choices = slice_set p.choices 5 (Waits (Busy (device_no 11))) })
      ∷ row 39 (held 11 5 (Commands 1) (held 4 7 (Commands 1) (held 5 2 (Commands 0) (held 1 4 (Commands 0) no_grips)))) 1200 (λ p. record p {
        overdue = less 0 p.overdue;
        starts = less 0 p.starts;
        ends = less 0 p.ends;
        whole_ends = less 0 p.whole_ends;
        choices = slice_set p.choices 1 (Over Committed []);
      })
      ∷ row 40 (held 11 5 (Commands 1) (held 4 7 (Commands 1) (held 5 2 (Commands 0) (held 1 4 (Commands 0) no_grips)))) 1200 (λ p. record p {
        overdue = less 0 p.overdue;
        starts = less 0 p.starts;
        ends = less 0 p.ends;
        whole_ends = less 0 p.whole_ends;
        choices = slice_set (slice_set p.choices 3 (Over Committed [])) 8 (HandsOut 10 (Commands 0));
      })
      ∷ row 41 (held 11 5 (Commands 1) (held 4 7 (Commands 1) (held 5 2 (Commands 0) (held 1 4 (Commands 0) no_grips)))) 1200 (λ p. record p {
        line = less 10 p.line;
        overdue = less 0 p.overdue;
        starts = less 8 p.starts;
        ends = less 8 p.ends;
        whole_ends = less 8 p.whole_ends;
        choices = slice_set p.choices 11 (Over (Aborted (Refuted 1 0)) []);
      })
      ∷ row 42 (held 11 5 (Commands 1) (held 4 7 (Commands 1) (held 1 4 (Commands 0) no_grips))) 1300 (λ p. record p { writers = slice_set p.writers 5 (Some 2); values = slice_set p.values 5 1; holders = slice_set p.holders 5 (9 ∷ []); choices = slice_set p.choices 2 (HandsOut 6 (Commands 1)) })
      ∷ row 42 (held 6 2 (Commands 1) (held 11 5 (Commands 1) (held 4 7 (Commands 1) (held 1 4 (Commands 0) no_grips)))) 1300 (λ p. record p { touched = slice_set p.touched 6 (2 ∷ []); choices = slice_set p.choices 2 (Waits (Busy (device_no 6))) })
      ∷ row 43 (held 11 5 (Commands 1) (held 4 7 (Commands 1) (held 1 4 (Commands 0) no_grips))) 1400 (λ p. record p {
        writers = slice_set p.writers 6 (Some 2);
        values = slice_set p.values 6 1;
        holders = slice_set p.holders 6 [];
        choices = slice_set p.choices 2 (Over Committed (Ended (run_no 2) Committed ∷ []));
      })
      ∷ row 44 (held 11 5 (Commands 1) (held 4 7 (Commands 1) (held 1 4 (Commands 0) no_grips))) 1400 (λ p. record p { overdue = less 0 p.overdue; starts = less 0 p.starts; ends = less 0 p.ends; whole_ends = less 0 p.whole_ends; choices = slice_set p.choices 2 (Over Committed []) })
      ∷ row 44 (held 0 6 (Commands 0) (held 11 5 (Commands 1) (held 4 7 (Commands 1) (held 1 4 (Commands 0) no_grips)))) 1400 (λ p. record p { touched = slice_set p.touched 0 (6 ∷ []); choices = slice_set p.choices 6 (Waits (Busy (device_no 0))) })
      ∷ row 44 (held 10 8 (Commands 0) (held 0 6 (Commands 0) (held 11 5 (Commands 1) (held 4 7 (Commands 1) (held 1 4 (Commands 0) no_grips))))) 1400 (λ p. record p { touched = slice_set p.touched 10 (3 ∷ 8 ∷ []); choices = slice_set p.choices 8 (Waits (Busy (device_no 10))) })
      ∷ row 46 (held 10 8 (Commands 0) (held 0 6 (Commands 0) (held 11 5 (Commands 1) (held 4 7 (Commands 1) no_grips)))) 1500 (λ p. record p {
        line = more 3 (Failed (device_no 1) 1) p.line;
        up = slice_set p.up 1 false;
        holders = slice_set p.holders 1 (10 ∷ []);
        choices = slice_set (slice_set p.choices 4 (HandsOut 7 (Commands 1))) 10 (Moves (Did (run_no 10) 3 Down ∷ []));
      })
      ∷ row 46 (held 7 4 (Commands 1) (held 10 8 (Commands 0) (held 0 6 (Commands 0) (held 11 5 (Commands 1) (held 4 7 (Commands 1) no_grips))))) 1500 (λ p. record p { touched = slice_set p.touched 7 (4 ∷ []); choices = slice_set p.choices 4 (Waits (Busy (device_no 7))) })
      ∷ row 47 (held 7 4 (Commands 1) (held 0 6 (Commands 0) (held 11 5 (Commands 1) (held 4 7 (Commands 1) no_grips)))) 1600 (λ p. record p { choices = slice_set p.choices 8 (HandsOut 10 (Commands 1)) })
      ∷ row 48 (held 7 4 (Commands 1) (held 11 5 (Commands 1) (held 4 7 (Commands 1) no_grips))) 1700 (λ p. record p { writers = slice_set p.writers 0 (Some 6); values = slice_set p.values 0 1; holders = slice_set p.holders 0 []; choices = slice_set p.choices 6 (HandsOut 15 (Commands 1)) })
      ∷ row 49 (held 11 5 (Commands 1) (held 4 7 (Commands 1) no_grips)) 1800 (λ p. record p { writers = slice_set p.writers 7 (Some 4); values = slice_set p.values 7 1; holders = slice_set p.holders 7 []; choices = slice_set p.choices 4 (HandsOut 9 (Commands 2)) })
      ∷ row 50 (held 11 5 (Commands 1) (held 4 7 (Commands 1) no_grips)) 1800 (λ p. record p { holders = slice_set p.holders 1 []; touched = slice_set p.touched 1 (4 ∷ 10 ∷ []); choices = slice_set p.choices 10 (Over Committed (Ended (run_no 10) Committed ∷ [])) })
      ∷ row 51 (held 11 5 (Commands 1) (held 4 7 (Commands 1) no_grips)) 1800 (λ p. record p { overdue = less 0 p.overdue; starts = less 6 p.starts; ends = less 6 p.ends; whole_ends = 300 ∷ 200 ∷ 200 ∷ 200 ∷ 200 ∷ 300 ∷ 300 ∷ []; choices = slice_set p.choices 10 (Over Committed []) })
      ∷ row 52 (held 4 7 (Commands 1) no_grips) 1900 (λ p. record p { writers = slice_set p.writers 11 (Some 5); holders = slice_set p.holders 11 []; choices = slice_set p.choices 5 (Over Committed (Ended (run_no 5) Committed ∷ [])) })
      ∷ row 52 (held 10 8 (Commands 1) (held 4 7 (Commands 1) no_grips)) 1900 (λ p. record p { choices = slice_set p.choices 8 (Waits (Busy (device_no 10))) })
      ∷ row 52 (held 9 4 (Commands 2) (held 10 8 (Commands 1) (held 4 7 (Commands 1) no_grips))) 1900 (λ p. record p { touched = slice_set p.touched 9 (4 ∷ []); choices = slice_set p.choices 4 (Waits (Busy (device_no 9))) })
      ∷ row 53 (held 9 4 (Commands 2) (held 10 8 (Commands 1) (held 4 7 (Commands 1) no_grips))) 1900 (λ p. record p {
        overdue = less 0 p.overdue;
        starts = less 1 p.starts;
        ends = less 1 p.ends;
        whole_ends = 300 ∷ 200 ∷ 200 ∷ 200 ∷ 300 ∷ 300 ∷ [];
        choices = slice_set p.choices 5 (Over Committed []);
      })
      ∷ row 54 (held 10 8 (Commands 1) (held 4 7 (Commands 1) no_grips)) 2000 (λ p. record p { holders = slice_set p.holders 9 (9 ∷ []); choices = slice_set (slice_set p.choices 4 (Over Committed (Ended (run_no 4) Committed ∷ []))) 9 (HandsOut 9 (Commands 0)) })
      ∷ row 54 (held 9 9 (Commands 0) (held 10 8 (Commands 1) (held 4 7 (Commands 1) no_grips))) 2000 (λ p. record p { touched = slice_set p.touched 9 (4 ∷ 9 ∷ []); choices = slice_set p.choices 9 (Waits (Busy (device_no 9))) })
      ∷ row 55 (held 9 9 (Commands 0) (held 10 8 (Commands 1) no_grips)) 2100 (λ p. record p { writers = slice_set p.writers 4 (Some 7); holders = slice_set p.holders 4 []; choices = slice_set p.choices 7 (Over Committed (Ended (run_no 7) Committed ∷ [])) })
      ∷ row 56 (held 10 8 (Commands 1) no_grips) 2200 (λ p. record p { holders = slice_set p.holders 9 []; choices = slice_set p.choices 9 (HandsOut 17 (Commands 1)) })
      ∷ row 56 (held 15 6 (Commands 1) (held 10 8 (Commands 1) no_grips)) 2200 (λ p. record p { touched = slice_set p.touched 15 (6 ∷ []); choices = slice_set p.choices 6 (Waits (Busy (device_no 15))) })
      ∷ row 57 (held 15 6 (Commands 1) (held 10 8 (Commands 1) no_grips)) 2200 (λ p. record p { overdue = less 0 p.overdue; starts = less 2 p.starts; ends = less 2 p.ends; whole_ends = 300 ∷ 200 ∷ 200 ∷ 300 ∷ 300 ∷ []; choices = slice_set p.choices 7 (Over Committed []) })
      ∷ row 57 (held 17 9 (Commands 1) (held 15 6 (Commands 1) (held 10 8 (Commands 1) no_grips))) 2200 (λ p. record p { touched = slice_set p.touched 17 (9 ∷ []); choices = slice_set p.choices 9 (Waits (Busy (device_no 17))) })
      ∷ row 58 (held 17 9 (Commands 1) (held 15 6 (Commands 1) (held 10 8 (Commands 1) no_grips))) 2200 (λ p. record p { overdue = less 0 p.overdue; starts = less 0 p.starts; ends = less 0 p.ends; whole_ends = 200 ∷ 200 ∷ 300 ∷ 300 ∷ []; choices = slice_set p.choices 4 (Over Committed []) })
      ∷ row 59 (held 17 9 (Commands 1) (held 10 8 (Commands 1) no_grips)) 2300 (λ p. record p { holders = slice_set p.holders 15 (12 ∷ []); choices = slice_set (slice_set p.choices 6 (Over Committed (Ended (run_no 6) Committed ∷ []))) 12 (HandsOut 15 (Commands 0)) })
      ∷ row 60 (held 10 8 (Commands 1) no_grips) 2400 (λ p. record p { writers = slice_set p.writers 17 (Some 9); values = slice_set p.values 17 1; holders = slice_set p.holders 17 []; choices = slice_set p.choices 9 (HandsOut 5 (Commands 2)) })
      ∷ row 61 no_grips 2500 (λ p. record p { writers = slice_set p.writers 10 (Some 8); values = slice_set p.values 10 20; holders = slice_set p.holders 10 []; choices = slice_set p.choices 8 (Over Committed (Ended (run_no 8) Committed ∷ [])) })
      ∷ row 61 (held 5 9 (Commands 2) no_grips) 2500 (λ p. record p { touched = slice_set p.touched 5 (2 ∷ 9 ∷ []); choices = slice_set p.choices 9 (Waits (Busy (device_no 5))) })
      ∷ row 62 (held 5 9 (Commands 2) no_grips) 2500 (λ p. record p { overdue = less 0 p.overdue; starts = less 0 p.starts; ends = less 0 p.ends; whole_ends = 200 ∷ 300 ∷ 300 ∷ []; choices = slice_set p.choices 6 (Over Committed []) })
      ∷ row 62 (held 15 12 (Commands 0) (held 5 9 (Commands 2) no_grips)) 2500 (λ p. record p { touched = slice_set p.touched 15 (6 ∷ 12 ∷ []); choices = slice_set p.choices 12 (Waits (Busy (device_no 15))) })
      ∷ row 63 (held 15 12 (Commands 0) no_grips) 2600 (λ p. record p { writers = slice_set p.writers 5 (Some 9); values = slice_set p.values 5 0; holders = slice_set p.holders 5 []; choices = slice_set p.choices 9 (Over Committed (Ended (run_no 9) Committed ∷ [])) })
      ∷ row 64 no_grips 2700 (λ p. record p { writers = slice_set p.writers 15 (Some 12); holders = slice_set p.holders 15 []; choices = slice_set p.choices 12 (HandsOut 16 (Commands 1)) })
      ∷ row 65 no_grips 2700 (λ p. record p { overdue = less 0 p.overdue; starts = (0 ∷ []) ∷ (200 ∷ 0 ∷ 100 ∷ []) ∷ []; ends = (200 ∷ []) ∷ (300 ∷ 100 ∷ 200 ∷ []) ∷ []; whole_ends = 200 ∷ 300 ∷ []; choices = slice_set p.choices 9 (Over Committed []) })
      ∷ row 66 no_grips 2700 (λ p. record p { overdue = less 0 p.overdue; starts = (200 ∷ 0 ∷ 100 ∷ []) ∷ []; ends = (300 ∷ 100 ∷ 200 ∷ []) ∷ []; whole_ends = 300 ∷ []; choices = slice_set p.choices 8 (Over Committed []) })
      ∷ row 66 (held 16 12 (Commands 1) no_grips) 2700 (λ p. record p { touched = slice_set p.touched 16 (11 ∷ 12 ∷ []); choices = slice_set p.choices 12 (Waits (Busy (device_no 16))) })
      ∷ row 67 no_grips 2800 (λ p. record p { writers = slice_set p.writers 16 (Some 12); holders = slice_set p.holders 16 []; choices = slice_set p.choices 12 (HandsOut 14 (Commands 2)) })
      ∷ row 67 (held 14 12 (Commands 2) no_grips) 2800 (λ p. record p { touched = slice_set p.touched 14 (12 ∷ []); choices = slice_set p.choices 12 (Waits (Busy (device_no 14))) })
      ∷ row 68 no_grips 2900 (λ p. record p { writers = slice_set p.writers 14 (Some 12); values = slice_set p.values 14 1; holders = slice_set p.holders 14 []; choices = slice_set p.choices 12 (Over Committed (Ended (run_no 12) Committed ∷ [])) })
      ∷ row 69 no_grips 2900 (λ p. record p { overdue = []; starts = []; ends = []; whole_ends = []; choices = slice_set p.choices 12 (Over Committed []) }) ∷ [];
  gives = give 24 18 7 (Commands 0) Worked (Did (run_no 7) 0 Fine ∷ []) ∷ give 31 12 5 (Commands 0) Worked (Did (run_no 5) 0 Fine ∷ [])
      ∷ give 37 19 10 (Commands 2) Worked (Did (run_no 10) 2 Fine ∷ []) ∷ give 48 7 4 (Commands 1) Worked (Did (run_no 4) 1 Fine ∷ [])
      ∷ give 59 17 9 (Commands 1) Worked (Did (run_no 9) 1 Fine ∷ []) ∷ [];
  calls = 1 ∷ 0 ∷ 2 ∷ 2 ∷ 1 ∷ 2 ∷ 1 ∷ 1 ∷ 1 ∷ 2 ∷ 3 ∷ 1 ∷ 1 ∷ 1 ∷ 1 ∷ 2 ∷ 3 ∷ 1 ∷ 1 ∷ 2 ∷ [];
  outcome = record {
    order =
        Ran (run_no 1) ∷ Ran (run_no 2) ∷ Ran (run_no 3) ∷ Failed (device_no 1) 1 ∷ Ran (run_no 4) ∷ Ran (run_no 5) ∷ Ran (run_no 6) ∷ Ran (run_no 7)
        ∷ Ran (run_no 8) ∷ Ran (run_no 9) ∷ Ran (run_no 10) ∷ Ran (run_no 12) ∷ [];
    home =
        record { value = 1; up = true } ∷ record { value = 0; up = false } ∷ record { value = 0; up = true } ∷ record { value = 0; up = true }
        ∷ record { value = 0; up = true } ∷ record { value = 0; up = true } ∷ record { value = 1; up = true } ∷ record { value = 1; up = true }
        ∷ record { value = 0; up = true } ∷ record { value = 1; up = true } ∷ record { value = 20; up = true } ∷ record { value = 0; up = true }
        ∷ record { value = 1; up = true } ∷ record { value = 1; up = true } ∷ record { value = 1; up = true } ∷ record { value = 0; up = true }
        ∷ record { value = 0; up = true } ∷ record { value = 1; up = true } ∷ record { value = 1; up = true } ∷ record { value = 0; up = true } ∷ [];
    answers =
        record { run = run_no 1; answers = Fine ∷ Fine ∷ Fine ∷ [] } ∷ record { run = run_no 2; answers = Fine ∷ Fine ∷ [] }
        ∷ record { run = run_no 3; answers = Fine ∷ Fine ∷ [] } ∷ record { run = run_no 4; answers = Down ∷ Fine ∷ (Found 1) ∷ [] }
        ∷ record { run = run_no 5; answers = Fine ∷ Fine ∷ [] } ∷ record { run = run_no 6; answers = Fine ∷ (Found 0) ∷ [] }
        ∷ record { run = run_no 7; answers = Fine ∷ Fine ∷ [] } ∷ record { run = run_no 8; answers = (Found 22) ∷ Fine ∷ [] }
        ∷ record { run = run_no 9; answers = (Found 1) ∷ Fine ∷ Fine ∷ [] } ∷ record { run = run_no 10; answers = Fine ∷ Fine ∷ Fine ∷ Down ∷ [] }
        ∷ record { run = run_no 12; answers = Fine ∷ Fine ∷ Fine ∷ [] } ∷ [];
  };
}

points_are : words_along window history table.rows ≡ points_from table.first table.rows
unfolding split_of
points_are = refl

is_worked : IsWorked window history table
unfolding split_of
is_worked = record { points = points_are; clauses = refl; gives = refl; calls = refl; ended = refl; allowed = refl; order = refl; answers = refl }
