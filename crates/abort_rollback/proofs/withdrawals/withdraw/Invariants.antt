use Rattle.abort_rollback.proofs.withdrawals.withdraw.Given as goal
use Rattle.abort_rollback.proofs.Prelude.{ChangedUpTo, length, removed, ◌-◌}

-- the run is gone from the devices up to here, and from no other
abbrev pub invariant-devices : goal.invariant-devices
invariant-devices l = ChangedUpTo (λ d. removed l.r.0) l.initial.table l.table l.from.0

abbrev pub decreases-devices : goal.decreases-devices
decreases-devices l = length l.table - l.from.0
