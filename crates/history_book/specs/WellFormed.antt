-- Facts along a history, and well-formed histories.
use Rattle.command_rules.specs.Rosters.{command_at, commands_of, is_run}
use Rattle.history_book.specs.Histories.{entry}
use Rattle.history_book.specs.Readings.{Reading, has_written, is_doomed, is_live, next_of, nothing_read}
use Rattle.history_book.specs.Settings.{Setting, is_device}
use Rattle.history_book.specs.declared.entries.Cause.{Cause}
use Rattle.history_book.specs.declared.entries.Cause.TheVariants.{DownAtEnd, Lost, MustDown, Refuted, Revoked}
use Rattle.history_book.specs.declared.entries.End.TheVariants.{Aborted, Committed}
use Rattle.history_book.specs.declared.entries.Entry.{Entry}
use Rattle.history_book.specs.declared.entries.Entry.TheVariants.{Arrived, Did, Doomed, Ended, Fell, Placed, Rose, Undid}
use Rattle.home_types.specs.Commands.{holds, reads, writes}
use Rattle.home_types.specs.Kinds.{has_value, kind_at}
use Rattle.home_types.specs.Numbers.{RunId}
use Rattle.home_types.specs.declared.commands.Answer.{Answer}
use Rattle.home_types.specs.declared.commands.Answer.TheVariants.{Down, Fine, Found, Skipped}
use Rattle.home_types.specs.declared.commands.Command.{Command}
use Rattle.std.specs.Prelude.{Bool, IsTrue, List, [], false, is_none, is_some, length, nat_le, nat_lt, not, option_map, true, unwrap_or, ⊤, ◌&&◌, ◌==◌, ◌∷◌}

-- the test holds of each entry and the reading of what stands before it
abbrev pub along : Setting → (Reading → Entry → Bool) → Reading → List Entry → Bool
along w test n [] = true
along w test n (e ∷ es) = test n e && along w test (entry w n e) es

abbrev pub each_entry : Setting → (Reading → Entry → Bool) → List Entry → Bool
each_entry w test history = along w test (nothing_read w) history

-- the same of a fact that is no test
abbrev pub Along : Setting → (Reading → Entry → Type 0) → Reading → List Entry → Type 0
Along w P n [] = ⊤
Along w P n (e ∷ es) = P n e × Along w P (entry w n e) es

abbrev pub same_cause : Cause → Cause → Bool
same_cause (MustDown c) (MustDown k) = c == k
same_cause (Refuted c x) (Refuted k y) = (c == k) && (x == y)
same_cause (Lost d) (Lost e) = d.0 == e.0
same_cause (Revoked l d t m) (Revoked k e s n) =
    (l.0 == k.0) && (d.0 == e.0) && (t == s) && (m == n)
same_cause (DownAtEnd d) (DownAtEnd e) = d.0 == e.0
same_cause a b = false

-- a run of the window, placed and not ended
abbrev pub may_act : Setting → Reading → RunId → Bool
may_act w n r = is_run w.runs r && is_live n r

-- a write is answered Fine, a read with a value of its device, and each of them Down; it is Skipped
-- exactly where its guard does not hold of the run's register, and a doomed run skips none
abbrev pub suits : Setting → Reading → RunId → Command → Answer → Bool
suits w n r c Fine = holds c.when (n.run r).register && writes c.job
suits w n r c (Found x) =
    holds c.when (n.run r).register && reads c.job && has_value (kind_at w.kinds c.device.0) x
suits w n r c Down = holds c.when (n.run r).register
suits w n r c Skipped = not (holds c.when (n.run r).register) && not (is_doomed n r)

-- the cause names commands of the run, and devices and runs that there are; a revocation's moment
-- is not before the last one
abbrev pub cause_fits : Setting → Reading → RunId → Cause → Bool
cause_fits w n r (MustDown c) = nat_lt c (length (commands_of w.runs r))
cause_fits w n r (Refuted c x) = nat_lt c (length (commands_of w.runs r))
cause_fits w n r (Lost d) = is_device w d.0
cause_fits w n r (Revoked lender d deadline m) =
    is_run w.runs lender.0 && is_device w d.0 && nat_le n.moment m
cause_fits w n r (DownAtEnd d) = is_device w d.0

-- the run was doomed for this cause
abbrev pub is_cause_of : Reading → RunId → Cause → Bool
is_cause_of n r cause = unwrap_or (option_map (same_cause cause) (n.run r).doomed) false

-- the entry may stand after what was read
abbrev pub may_follow : Setting → Reading → Entry → Bool
may_follow w n (Arrived r m) = is_run w.runs r.0 && is_none (n.run r.0).arrived && nat_le n.moment m
may_follow w n (Placed r at m) =
    is_run w.runs r.0 && is_some (n.run r.0).arrived && is_none (n.run r.0).placed
    && nat_le n.moment m
may_follow w n (Did r c a) =
    may_act w n r.0 && (c == next_of n r.0) && nat_lt c (length (commands_of w.runs r.0))
    && suits w n r.0 (command_at w.runs r.0 c) a
    && not (n.run r.0).answered_doomed
may_follow w n (Undid r d drove) =
    may_act w n r.0 && is_device w d.0 && is_doomed n r.0 && has_written n r.0 d.0
    && not ((n.run r.0).on d.0).undid
may_follow w n (Fell d) = is_device w d.0 && n.up d.0
may_follow w n (Rose d) = is_device w d.0 && not (n.up d.0)
may_follow w n (Doomed r cause) =
    may_act w n r.0 && not (is_doomed n r.0) && cause_fits w n r.0 cause
may_follow w n (Ended r Committed) =
    may_act w n r.0 && not (is_doomed n r.0) && (next_of n r.0 == length (commands_of w.runs r.0))
may_follow w n (Ended r (Aborted cause)) = may_act w n r.0 && is_cause_of n r.0 cause

abbrev pub is_well_formed : Setting → List Entry → Bool
is_well_formed w history = each_entry w (may_follow w) history

-- each entry may stand where it stands
abbrev pub IsWellFormed : Setting → List Entry → Type 0
IsWellFormed w history = IsTrue (is_well_formed w history)
