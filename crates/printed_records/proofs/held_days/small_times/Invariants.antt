use Rattle.printed_records.proofs.Prelude.{WindowRecord, are_small, list_all, take, true, ◌≡◌}
use Rattle.printed_records.proofs.held_days.small_times.Given as goal

-- the records so far have small times
abbrev pub invariant-records : goal.invariant-records
invariant-records l = list_all (λ (closed : WindowRecord). are_small closed.history.items) (take l.closed-index l.records) ≡ true
