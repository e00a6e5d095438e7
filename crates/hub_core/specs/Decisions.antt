-- What the code chooses, as the choice of a step.
use Rattle.command_rules.specs.Rosters.{run_no}
use Rattle.history_book.specs.declared.entries.Cause.TheVariants.{DownAtEnd, MustDown, Revoked}
use Rattle.history_book.specs.declared.entries.Cause.{Cause}
use Rattle.history_book.specs.declared.entries.End.TheVariants.{Aborted, Committed}
use Rattle.history_book.specs.declared.entries.Entry.TheVariants.{Arrived, Did, Doomed, Ended, Placed, Undid}
use Rattle.home_types.specs.Numbers.{CommandIndex, Moment, RunId}
use Rattle.home_types.specs.declared.commands.Answer.TheVariants.{Down}
use Rattle.home_types.specs.declared.commands.Command.{Command}
use Rattle.hub_core.specs.Steps.{Absent as IsAbsent, Choice, HandsOut as IsHandedOut, Moves, Over as IsOver, Waits as IsWaiting, aborts, behind_case, busy_case, dirty_case, down_case, first_case, overdue_case, skip_entries, strict_case, undo_cases}
use Rattle.hub_core.specs.declared.decisions.Chosen.TheVariants.{Aborts, Absent, AnswersDown, Arrives, Commits, Drops, FailsAtEnd, HandsOut, Joins, Over, Revokes, Skips, Waits}
use Rattle.hub_core.specs.declared.decisions.Chosen.{Chosen}
use Rattle.lock_leasing.specs.Configurations.{Point}
use Rattle.lock_leasing.specs.declared.purposes.Purpose.TheVariants.{Commands}
use Rattle.std.specs.Prelude.{[], false, if◌then◌else◌, ◌∷◌}

-- .. of the run at this moment
abbrev pub told_choice : RunId → Moment → Chosen → Choice
told_choice r m Absent = IsAbsent
told_choice r m (Over end) = IsOver end []
told_choice r m Arrives = Moves (Arrived (run_no r) m ∷ [])
told_choice r m (Joins at) = Moves (Placed (run_no r) at m ∷ [])
told_choice r m Commits = IsOver Committed (Ended (run_no r) Committed ∷ [])
told_choice r m (Aborts cause) = IsOver (Aborted cause) (Ended (run_no r) (Aborted cause) ∷ [])
told_choice r m (Drops d) = Moves (Undid (run_no r) d false ∷ [])
told_choice r m (Revokes x d deadline) = Moves (Doomed x (Revoked (run_no r) d deadline m) ∷ [])
told_choice r m (AnswersDown k must) =
    Moves (Did (run_no r) k Down ∷ (if must then Doomed (run_no r) (MustDown k) ∷ [] else []))
told_choice r m (Skips k) = Moves (skip_entries r k)
told_choice r m (FailsAtEnd d) = Moves (Doomed (run_no r) (DownAtEnd d) ∷ [])
told_choice r m (Waits why) = IsWaiting why
told_choice r m (HandsOut d purpose) = IsHandedOut d.0 purpose

-- what a doomed run does in a model with an order: the next device on which it is undone is out,
-- goes out to stand where it would if the run had not written, or is down and the write is dropped;
-- with none left the run ends for the cause of its doom
abbrev pub strong_doomed : Point → RunId → Cause → Choice
strong_doomed p r cause = first_case (undo_cases p r) (aborts r cause)

-- what the next command, c with the number k, does there where no lease is overdue: a run before it
-- in the line holds its device, it would read the write of a live run before it, a live run before
-- it is one that the model waits for, its device is out, the answer is Down with no call, or the
-- device goes out
abbrev pub current_command : Point → RunId → CommandIndex → Command → Choice
current_command p r k c =
    first_case (behind_case p r c ∷ dirty_case p r c ∷ strict_case p r
    ∷ busy_case p r c ∷ down_case p r k c ∷ []) (IsHandedOut c.device.0 (Commands k))

-- .. and at this moment: a lease that is overdue on its device is revoked first
abbrev pub strong_command : Point → RunId → Moment → CommandIndex
    → Command → Choice
strong_command p r m k c =
    first_case (overdue_case p r m c ∷ []) (current_command p r k c)

-- what the next command, c with the number k, does where no run bars it: its device is waited for,
-- the answer is Down with no call, or the device goes out
abbrev pub unbarred_command : Point → RunId → CommandIndex → Command → Choice
unbarred_command p r k c =
    first_case (busy_case p r c ∷ down_case p r k c ∷ [])
    (IsHandedOut c.device.0 (Commands k))

-- what it does where its guard does not hold: it is skipped, where the model lets the run go
abbrev pub skipped_command : Point → RunId → CommandIndex → Choice
skipped_command p r k = first_case (strict_case p r ∷ []) (Moves (skip_entries r k))
