use Rattle.printed_records.proofs.held_days.small_entries.Given as goal
use Rattle.printed_records.proofs.Prelude.{are_small, take, true, ◌≡◌}

-- the entries so far have small times
abbrev pub invariant-entries : goal.invariant-entries
invariant-entries l = are_small (take l.kept-index l.history) ≡ true
