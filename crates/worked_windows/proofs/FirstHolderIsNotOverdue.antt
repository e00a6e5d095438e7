-- The window first-holder-is-not-overdue.
use Rattle.worked_windows.proofs.Prelude.{Always}
use Rattle.worked_windows.proofs.Words.{Aborted, Absent, Arrived, At, Back, Behind, Busy, Commands, Committed, Did, Died, Doomed, Down, Ended, Entry, Eventual, Failed, Fell, Fine, Found, HandsOut, IsWorked, JustInTime, List, Load, Moves, MustDown, None, Over, Placed, Probes, Ran, Range, Revoked, Rose, Sensed, Set, Setting, Some, Table, Waits, Worked, [], device_no, false, give, held, less, more, no_grips, refl, row, run_no, slice_set, split_at, split_of, still, true, ◌∷◌}

abbrev pub window : Setting
window = record {
  runs = record { commands = record { device = device_no 0; job = Set 2; when = Always; must = true; ms = 100; takes = 100 } ∷ []; follows = None }
      ∷ record { commands = record { device = device_no 0; job = Set 2; when = Always; must = true; ms = 100; takes = 100 } ∷ []; follows = None }
      ∷ record {
        commands =
            record { device = device_no 1; job = Load; when = Always; must = true; ms = 100; takes = 100 }
            ∷ record { device = device_no 0; job = Set 1; when = Always; must = false; ms = 100; takes = 100 }
            ∷ record { device = device_no 0; job = Load; when = Always; must = true; ms = 100; takes = 100 } ∷ [];
        follows = None;
      } ∷ [];
  mode = record { model = Eventual; scheduler = JustInTime };
  kinds = Range 0 3 ∷ Range 0 2 ∷ [];
  first = record { value = 0; up = true } ∷ record { value = 0; up = true } ∷ [];
}

abbrev pub history : List Entry
history = Arrived (run_no 1) 0 ∷ Placed (run_no 1) 0 0 ∷ Arrived (run_no 2) 0 ∷ Placed (run_no 2) 0 0 ∷ Arrived (run_no 3) 0
    ∷ Placed (run_no 3) 0 0 ∷ Did (run_no 3) 0 (Found 0) ∷ Fell (device_no 0) ∷ Did (run_no 3) 1 Down ∷ Did (run_no 3) 2 Down
    ∷ Doomed (run_no 3) (MustDown 2) ∷ Ended (run_no 3) (Aborted (MustDown 2)) ∷ Doomed (run_no 2) (Revoked (run_no 1) (device_no 0) 110 200) ∷ Rose (device_no 0) ∷ Did (run_no 1) 0 Fine
    ∷ Ended (run_no 1) Committed ∷ Ended (run_no 2) (Aborted (Revoked (run_no 1) (device_no 0) 110 200)) ∷ []

abbrev pub table : Table
table = record {
  first = record {
    line = [];
    up = true ∷ true ∷ [];
    writers = None ∷ None ∷ [];
    values = 0 ∷ 0 ∷ [];
    holders = [] ∷ [] ∷ [];
    touched = [] ∷ [] ∷ [];
    first_places = [];
    places = [];
    overdue = [];
    starts = [];
    ends = [];
    whole_ends = [];
    choices = Absent ∷ Moves (Arrived (run_no 1) 0 ∷ []) ∷ Moves (Arrived (run_no 2) 0 ∷ []) ∷ Moves (Arrived (run_no 3) 0 ∷ []) ∷ [];
  };
  rows = still 0 no_grips 0
      ∷ row 1 no_grips 0 (λ p. record p { first_places = 0 ∷ []; places = At (split_at [] 0) ∷ []; choices = slice_set p.choices 1 (Moves (Placed (run_no 1) 0 0 ∷ [])) })
      ∷ row 2 no_grips 0 (λ p. record p { line = Ran (run_no 1) ∷ []; holders = (1 ∷ []) ∷ [] ∷ []; first_places = []; places = []; overdue = (None ∷ None ∷ []) ∷ []; starts = (0 ∷ []) ∷ []; ends = (100 ∷ []) ∷ []; whole_ends = 100 ∷ []; choices = slice_set p.choices 1 (HandsOut 0 (Commands 0)) })
      ∷ row 3 no_grips 0 (λ p. record p { first_places = 0 ∷ []; places = At (split_at (Ran (run_no 1) ∷ []) 0) ∷ []; choices = slice_set p.choices 2 (Moves (Placed (run_no 2) 0 0 ∷ [])) })
      ∷ row 4 no_grips 0 (λ p. record p {
        line = Ran (run_no 2) ∷ Ran (run_no 1) ∷ [];
        holders = (1 ∷ 2 ∷ []) ∷ [] ∷ [];
        first_places = [];
        places = [];
        overdue = (None ∷ None ∷ []) ∷ (None ∷ None ∷ []) ∷ [];
        starts = (0 ∷ []) ∷ (0 ∷ []) ∷ [];
        ends = (100 ∷ []) ∷ (100 ∷ []) ∷ [];
        whole_ends = 100 ∷ 100 ∷ [];
        choices = slice_set (slice_set p.choices 1 (Waits (Behind (device_no 0) (run_no 2)))) 2 (HandsOut 0 (Commands 0));
      })
      ∷ row 5 no_grips 0 (λ p. record p { first_places = 0 ∷ []; places = At (split_at (Ran (run_no 2) ∷ Ran (run_no 1) ∷ []) 0) ∷ []; choices = slice_set p.choices 3 (Moves (Placed (run_no 3) 0 0 ∷ [])) })
      ∷ row 6 no_grips 0 (λ p. record p {
        line = more 0 (Ran (run_no 3)) p.line;
        holders = (1 ∷ 2 ∷ 3 ∷ []) ∷ (3 ∷ []) ∷ [];
        first_places = [];
        places = [];
        overdue = more 0 (None ∷ None ∷ []) p.overdue;
        starts = (100 ∷ 0 ∷ []) ∷ (0 ∷ []) ∷ (0 ∷ []) ∷ [];
        ends = (300 ∷ 100 ∷ []) ∷ (100 ∷ []) ∷ (100 ∷ []) ∷ [];
        whole_ends = 300 ∷ 100 ∷ 100 ∷ [];
        choices = Absent ∷ Waits (Behind (device_no 0) (run_no 3)) ∷ Waits (Behind (device_no 0) (run_no 3)) ∷ HandsOut 1 (Commands 0) ∷ [];
      })
      ∷ row 6 (held 1 3 (Commands 0) no_grips) 0 (λ p. record p { touched = [] ∷ (3 ∷ []) ∷ []; choices = slice_set p.choices 3 (Waits (Busy (device_no 1))) })
      ∷ row 7 no_grips 100 (λ p. record p { holders = (1 ∷ 2 ∷ 3 ∷ []) ∷ [] ∷ []; choices = slice_set p.choices 3 (HandsOut 0 (Commands 1)) })
      ∷ row 7 (held 0 3 (Commands 1) no_grips) 100 (λ p. record p { touched = (3 ∷ []) ∷ (3 ∷ []) ∷ []; choices = slice_set p.choices 3 (Waits (Busy (device_no 0))) })
      ∷ row 9 no_grips 200 (λ p. record p {
        line = more 0 (Failed (device_no 0) 1) p.line;
        up = false ∷ true ∷ [];
        overdue = slice_set p.overdue 2 (Some 2 ∷ None ∷ []);
        choices =
            slice_set (slice_set p.choices 1 (Moves (Doomed (run_no 2) (Revoked (run_no 1) (device_no 0) 110 200) ∷ []))) 3
            (Moves (Did (run_no 3) 2 Down ∷ Doomed (run_no 3) (MustDown 2) ∷ []));
      })
      ∷ still 9 (held 0 0 (Probes (Some 0)) no_grips) 200
      ∷ row 11 (held 0 0 (Probes (Some 0)) no_grips) 200 (λ p. record p { holders = (1 ∷ 2 ∷ []) ∷ [] ∷ []; choices = slice_set (slice_set p.choices 2 (Waits (Busy (device_no 0)))) 3 (Over (Aborted (MustDown 2)) (Ended (run_no 3) (Aborted (MustDown 2)) ∷ [])) })
      ∷ row 12 (held 0 0 (Probes (Some 0)) no_grips) 200 (λ p. record p {
        line = less 1 p.line;
        overdue = (None ∷ None ∷ []) ∷ (Some 2 ∷ None ∷ []) ∷ [];
        starts = (0 ∷ []) ∷ (0 ∷ []) ∷ [];
        ends = (100 ∷ []) ∷ (100 ∷ []) ∷ [];
        whole_ends = 100 ∷ 100 ∷ [];
        choices = slice_set p.choices 3 (Over (Aborted (MustDown 2)) []);
      })
      ∷ row 13 (held 0 0 (Probes (Some 0)) no_grips) 200 (λ p. record p {
        holders = (1 ∷ []) ∷ [] ∷ [];
        overdue = (None ∷ None ∷ []) ∷ (None ∷ None ∷ []) ∷ [];
        choices =
            slice_set (slice_set p.choices 1 (Waits (Busy (device_no 0)))) 2
            (Over (Aborted (Revoked (run_no 1) (device_no 0) 110 200)) (Ended (run_no 2) (Aborted (Revoked (run_no 1) (device_no 0) 110 200)) ∷ []));
      })
      ∷ row 14 no_grips 200 (λ p. record p { line = more 2 (Back (device_no 0) 1) p.line; up = true ∷ true ∷ []; choices = slice_set p.choices 1 (HandsOut 0 (Commands 0)) })
      ∷ still 14 (held 1 0 (Probes None) no_grips) 200 ∷ still 14 no_grips 200
      ∷ row 14 (held 0 1 (Commands 0) no_grips) 200 (λ p. record p { touched = (1 ∷ 3 ∷ []) ∷ (3 ∷ []) ∷ []; choices = slice_set p.choices 1 (Waits (Busy (device_no 0))) })
      ∷ row 15 no_grips 300 (λ p. record p { writers = Some 1 ∷ None ∷ []; values = 2 ∷ 0 ∷ []; holders = [] ∷ [] ∷ []; choices = slice_set p.choices 1 (Over Committed (Ended (run_no 1) Committed ∷ [])) })
      ∷ row 16 no_grips 300 (λ p. record p { overdue = (None ∷ None ∷ []) ∷ []; starts = (0 ∷ []) ∷ []; ends = (100 ∷ []) ∷ []; whole_ends = 0 ∷ []; choices = slice_set p.choices 1 (Over Committed []) })
      ∷ row 17 no_grips 300 (λ p. record p { line = less 1 p.line; overdue = []; starts = []; ends = []; whole_ends = []; choices = slice_set p.choices 2 (Over (Aborted (Revoked (run_no 1) (device_no 0) 110 200)) []) }) ∷ [];
  gives = give 6 1 3 (Commands 0) (Sensed 0) (Did (run_no 3) 0 (Found 0) ∷ [])
      ∷ give 7 0 3 (Commands 1) Died (Fell (device_no 0) ∷ Did (run_no 3) 1 Down ∷ [])
      ∷ give 13 0 0 (Probes (Some 0)) Worked (Rose (device_no 0) ∷ []) ∷ give 14 1 0 (Probes None) Worked []
      ∷ give 14 0 1 (Commands 0) Worked (Did (run_no 1) 0 Fine ∷ []) ∷ [];
  calls = 2 ∷ 1 ∷ [];
  outcome = record { order = Failed (device_no 0) 1 ∷ Back (device_no 0) 1 ∷ Ran (run_no 1) ∷ []; home = record { value = 2; up = true } ∷ record { value = 0; up = true } ∷ []; answers = record { run = run_no 1; answers = Fine ∷ [] } ∷ [] };
}

is_worked : IsWorked window history table
unfolding split_of
is_worked = record { points = refl; clauses = refl; gives = refl; calls = refl; ended = refl; allowed = refl; order = refl; answers = refl }
