-- Clean reads: no run finds a value that may still be undone.
use Rattle.command_rules.specs.Rosters.{command_at}
use Rattle.history_book.specs.Lines.{before}
use Rattle.history_book.specs.Readings.{Reading, sees_down}
use Rattle.history_book.specs.Settings.{Setting}
use Rattle.history_book.specs.WellFormed.{each_entry}
use Rattle.history_book.specs.declared.entries.Entry.{Entry}
use Rattle.history_book.specs.declared.entries.Entry.TheVariants.{Did}
use Rattle.home_types.specs.HomeStates.{stand_at}
use Rattle.home_types.specs.Numbers.{DeviceId, RunId}
use Rattle.home_types.specs.declared.commands.Answer.{Answer}
use Rattle.home_types.specs.declared.commands.Answer.TheVariants.{Down, Fine, Found, Skipped}
use Rattle.lock_leasing.specs.Configurations.{no_grips}
use Rattle.lock_leasing.specs.Words.{committed_write, has_effect, last_some, live_before}
use Rattle.std.specs.List.{list_any}
use Rattle.std.specs.Option.{option_or}
use Rattle.std.specs.Prelude.{Bool, IsTrue, List, not, true, unwrap_or, ℕ, ◌&&◌, ◌==◌, ◌||◌}

-- what the run has to find on the device: its own last write, else the last write of the committed
-- runs before it in the line, else the first value
abbrev pub clean_value : Setting → Reading → RunId → DeviceId → ℕ
clean_value w n r d =
    unwrap_or (option_or ((n.run r).on d).wrote (last_some (committed_write n d) (before r n.line)))
    (stand_at w.first d).value

-- no live run before r has the effective write on the device
abbrev pub no_dirty_write : Reading → RunId → DeviceId → Bool
no_dirty_write n r d = not (list_any (λ x. has_effect n no_grips x d) (live_before n r))

-- Down is answered where the device is counted down, or where the run saw it down before
abbrev pub answer_is_clean : Setting → Reading → RunId → DeviceId → Answer → Bool
answer_is_clean w n r d Fine = true
answer_is_clean w n r d Skipped = true
answer_is_clean w n r d (Found x) = (x == clean_value w n r d) && no_dirty_write n r d
answer_is_clean w n r d Down = not (n.up d) || sees_down n r d

abbrev pub entry_is_clean : Setting → Reading → Entry → Bool
entry_is_clean w n (Did r c a) = answer_is_clean w n r.0 (command_at w.runs r.0 c).device.0 a
entry_is_clean w n e = true

-- each answer of the history is clean
abbrev pub ReadsAreClean : Setting → List Entry → Type 0
ReadsAreClean w history = IsTrue (each_entry w (entry_is_clean w) history)
