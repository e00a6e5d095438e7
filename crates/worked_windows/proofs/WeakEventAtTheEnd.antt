-- The window weak-event-at-the-end.
use Rattle.worked_windows.proofs.Prelude.{Always}
use Rattle.worked_windows.proofs.Words.{Aborted, Absent, Arrived, At, Busy, Check, Commands, Did, Died, Doomed, Down, Ended, Entry, Failed, Fcfs, Fell, HandsOut, IsWeaklyWorked, List, Moves, MustDown, None, Over, Placed, Ran, Range, Setting, Waits, Weak, WeakTable, [], device_no, false, give, held, no_grips, refl, row, run_no, split_at, split_of, still, true, ◌∷◌}

abbrev pub window : Setting
window = record {
  runs = record { commands = record { device = device_no 0; job = Check 2; when = Always; must = true; ms = 100; takes = 100 } ∷ []; follows = None } ∷ [];
  mode = record { model = Weak; scheduler = Fcfs };
  kinds = Range 0 2 ∷ [];
  first = record { value = 0; up = true } ∷ [];
}

abbrev pub history : List Entry
history = Arrived (run_no 1) 0 ∷ Placed (run_no 1) 0 0 ∷ Fell (device_no 0) ∷ Did (run_no 1) 0 Down ∷ Doomed (run_no 1) (MustDown 0)
    ∷ Ended (run_no 1) (Aborted (MustDown 0)) ∷ []

abbrev pub table : WeakTable
table = record {
  first = record { line = []; up = true ∷ []; writers = None ∷ []; values = 0 ∷ []; holders = [] ∷ []; touched = [] ∷ []; first_places = []; places = []; overdue = []; starts = []; ends = []; whole_ends = []; choices = Absent ∷ Moves (Arrived (run_no 1) 0 ∷ []) ∷ [] };
  rows = still 0 no_grips 0
      ∷ row 1 no_grips 0 (λ p. record p { first_places = 0 ∷ []; places = At (split_at [] 0) ∷ []; choices = Absent ∷ Moves (Placed (run_no 1) 0 0 ∷ []) ∷ [] })
      ∷ row 2 no_grips 0 (λ p. record p { line = Ran (run_no 1) ∷ []; holders = (1 ∷ []) ∷ []; first_places = []; places = []; overdue = (None ∷ []) ∷ []; starts = (0 ∷ []) ∷ []; ends = (100 ∷ []) ∷ []; whole_ends = 100 ∷ []; choices = Absent ∷ HandsOut 0 (Commands 0) ∷ [] })
      ∷ row 2 (held 0 1 (Commands 0) no_grips) 0 (λ p. record p { touched = (1 ∷ []) ∷ []; choices = Absent ∷ Waits (Busy (device_no 0)) ∷ [] })
      ∷ row 5 no_grips 100 (λ p. record p { line = Ran (run_no 1) ∷ Failed (device_no 0) 1 ∷ []; up = false ∷ []; holders = [] ∷ []; choices = Absent ∷ Over (Aborted (MustDown 0)) (Ended (run_no 1) (Aborted (MustDown 0)) ∷ []) ∷ [] })
      ∷ row 6 no_grips 100 (λ p. record p { line = Failed (device_no 0) 1 ∷ []; overdue = []; starts = []; ends = []; whole_ends = []; choices = Absent ∷ Over (Aborted (MustDown 0)) [] ∷ [] }) ∷ [];
  gives = give 2 0 1 (Commands 0) Died (Fell (device_no 0) ∷ Did (run_no 1) 0 Down ∷ Doomed (run_no 1) (MustDown 0) ∷ []) ∷ [];
  calls = 0 ∷ [];
}

is_worked : IsWeaklyWorked window history table
unfolding split_of
is_worked = record { points = refl; gives = refl; calls = refl; ended = refl; well_formed = refl; allowed = refl }
