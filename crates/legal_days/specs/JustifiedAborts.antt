-- Justified aborts: the history before a run's doom shows its cause.
use Rattle.command_rules.specs.Rosters.{command_at}
use Rattle.history_book.specs.Readings.{Reading, asks_on, is_fall, is_live, next_command, same_answer, sees_up, span_of}
use Rattle.history_book.specs.Settings.{Setting}
use Rattle.history_book.specs.WellFormed.{each_entry}
use Rattle.history_book.specs.declared.entries.Cause.{Cause}
use Rattle.history_book.specs.declared.entries.Cause.TheVariants.{DownAtEnd, Lost, MustDown, Refuted, Revoked}
use Rattle.history_book.specs.declared.entries.Entry.{Entry}
use Rattle.history_book.specs.declared.entries.Entry.TheVariants.{Doomed}
use Rattle.home_types.specs.Commands.{fails}
use Rattle.home_types.specs.Numbers.{CommandIndex, RunId}
use Rattle.home_types.specs.declared.commands.Answer.{Answer}
use Rattle.home_types.specs.declared.commands.Answer.TheVariants.{Down, Found}
use Rattle.lock_leasing.specs.Configurations.{no_grips, point}
use Rattle.lock_leasing.specs.Waits.{down_at_end}
use Rattle.lock_leasing.specs.Words.{lease_deadline, overdue_for}
use Rattle.std.specs.List.{list_any}
use Rattle.std.specs.Prelude.{Bool, IsTrue, List, Option, false, is_none, option_map, slice_get, true, unwrap_or, ℕ, ◌&&◌, ◌==◌}

-- the run's command has this answer
abbrev pub has_answer : Reading → RunId → CommandIndex → Answer → Bool
has_answer n r c a = unwrap_or (option_map (same_answer a) (slice_get (n.run r).answers c)) false

abbrev pub equals_some : Option ℕ → ℕ → Bool
equals_some o x = unwrap_or (option_map (λ y. y == x) o) false

-- what was read shows the cause:
-- a must command was answered Down, or is a check that found another value;
-- the device failed within the span on it of a run that sees it up;
-- the lease was overdue when the lender asked for the device;
-- or, under a strict model, the run came to its end with a device down that it has touched
abbrev pub shows : Setting → Reading → RunId → Cause → Bool
shows w n r (MustDown c) = (command_at w.runs r c).must && has_answer n r c Down
shows w n r (Refuted c x) = fails (command_at w.runs r c) (Found x) && has_answer n r c (Found x)
shows w n r (Lost d) = sees_up n r d.0 && list_any is_fall (span_of r (n.log d.0))
shows w n r (Revoked lender d deadline m) =
    is_live n lender.0 && asks_on w n lender.0 d.0 && equals_some
    (overdue_for (point w n no_grips) lender.0 d.0 m) r && (deadline == lease_deadline w n r d.0)
shows w n r (DownAtEnd d) =
    is_none (next_command w n r) && equals_some (down_at_end (point w n no_grips) r) d.0

abbrev pub abort_is_justified : Setting → Reading → Entry → Bool
abort_is_justified w n (Doomed r cause) = shows w n r.0 cause
abort_is_justified w n e = true

-- each cause of the history is shown
abbrev pub IsJustified : Setting → List Entry → Type 0
IsJustified w history = IsTrue (each_entry w (abort_is_justified w) history)
