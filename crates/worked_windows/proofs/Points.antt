-- All words at one point of a history, to be compared with values that were found elsewhere.
use Rattle.command_rules.specs.Serial.{SerialRun}
use Rattle.worked_windows.proofs.Prelude.{Bool, Grips, Item, List, Option, Placing, Reading, answers_in, executed, false, filter, first_place, is_doomed, is_event, is_none, is_some, map, not, point, scheduled_place, sees_up, span_of, true, ℕ, ◌&&◌, ◌||◌, ◌∷◌}
use Rattle.history_book.specs.Plans.{planned_end, planned_start, whole_end}
use Rattle.history_book.specs.Settings.{Setting, device_numbers, devices_of, is_strict, run_numbers}
use Rattle.history_book.specs.WellFormed.{each_entry, is_well_formed}
use Rattle.history_book.specs.declared.entries.Entry.{Entry}
use Rattle.hub_core.specs.Steps.{Choice, decide}
use Rattle.legal_days.specs.CleanReads.{entry_is_clean}
use Rattle.legal_days.specs.Isolation.{is_isolated}
use Rattle.legal_days.specs.JustifiedAborts.{abort_is_justified}
use Rattle.lock_leasing.specs.Order.{committed_home, firsts_of_line, firsts_of_log, is_in_line, live_writes_are_covered, marks_of_line, marks_of_log, open_runs_are_last, settled_items}
use Rattle.lock_leasing.specs.Words.{effective_writer_of, has_touched, holds_device, live_runs, overdue_for, standing_value}
use Rattle.std.specs.List.{list_all, list_any}

-- of the line and of each device; then of the runs that wait for a place, of the live runs, and what `take` does for each run and for 0
pub record Words : Type 0 where
  pub line : List Item
  pub up : List Bool
  pub writers : List (Option ℕ)
  pub values : List ℕ
  pub holders : List (List ℕ)
  pub touched : List (List ℕ)
  pub first_places : List ℕ
  pub places : List Placing
  pub overdue : List (List (Option ℕ))
  pub starts : List (List ℕ)
  pub ends : List (List ℕ)
  pub whole_ends : List ℕ
  pub choices : List Choice

abbrev pub waiting_runs : Setting → Reading → List ℕ
waiting_runs w n = filter (λ r. is_some (n.run r).arrived && is_none (n.run r).placed) (run_numbers w)

abbrev pub words_at : Setting → Reading → Grips → ℕ → Words
words_at w n g m = record {
  line = n.line;
  up = map n.up (device_numbers w);
  writers = map (effective_writer_of n g) (device_numbers w);
  values = map (standing_value (point w n g)) (device_numbers w);
  holders = map (λ d. filter (λ r. holds_device (point w n g) r d) (run_numbers w)) (device_numbers w);
  touched = map (λ d. filter (λ r. has_touched n g r d) (run_numbers w)) (device_numbers w);
  first_places = map (first_place (point w n g)) (waiting_runs w n);
  places = map (λ r. scheduled_place (point w n g) r m) (waiting_runs w n);
  overdue = map (λ r. map (λ d. overdue_for (point w n g) r d m) (device_numbers w)) (live_runs n n.line);
  starts = map (λ r. map (planned_start (n.run r).planned) (devices_of w r)) (live_runs n n.line);
  ends = map (λ r. map (planned_end (n.run r).planned) (devices_of w r)) (live_runs n n.line);
  whole_ends = map (whole_end w n) (live_runs n n.line);
  choices = map (λ r. decide (point w n g) r m) (0 ∷ run_numbers w);
}

-- The four clauses of the serial order

pub record Clauses : Type 0 where
  pub serial : SerialRun
  pub firsts : List (List ℕ)
  pub marks : List (List Item)
  pub holds_on : List Bool

-- no event stands in the span of a run that sees the device up
abbrev pub spans_are_free : Setting → Reading → ℕ → Bool
spans_are_free w n d = list_all (λ r. not (is_in_line n r && not (is_doomed n r) && sees_up n r d) || not (list_any is_event (span_of r (n.log d)))) (run_numbers w)

-- what the line says ..
abbrev pub clauses_of_line : Setting → Reading → Grips → Clauses
clauses_of_line w n g = record {
  serial = executed w (settled_items n);
  firsts = map (firsts_of_line n) (device_numbers w);
  marks = map (marks_of_line n) (device_numbers w);
  holds_on = map (λ d. live_writes_are_covered n g d n.line && open_runs_are_last (point w n g) d n.line && spans_are_free w n d) (device_numbers w);
}

-- .. and what the history says
abbrev pub clauses_of_history : Setting → Reading → Clauses
clauses_of_history w n = record {
  serial = record { home = committed_home w n; answers = answers_in n (settled_items n); refused = false };
  firsts = map (firsts_of_log n) (device_numbers w);
  marks = map (marks_of_log n) (device_numbers w);
  holds_on = map (λ d. true) (device_numbers w);
}

-- The tests of a whole history

pub record Verdict : Type 0 where
  pub well_formed : Bool
  pub clean : Bool
  pub justified : Bool
  pub isolated : Bool

abbrev pub verdict : Setting → List Entry → Verdict
verdict w history = record {
  well_formed = is_well_formed w history;
  clean = each_entry w (entry_is_clean w) history;
  justified = each_entry w (abort_is_justified w) history;
  isolated = not (is_strict w.mode) || each_entry w (is_isolated w) history;
}
