use Rattle.window_order.proofs.releases.release_all.Given as goal
use Rattle.window_order.proofs.Prelude.{ChangedUpTo, doomed_unless, length, ◌-◌}

-- the run is done with the devices up to here, and with no other
abbrev pub invariant-devices : goal.invariant-devices
invariant-devices l = ChangedUpTo (doomed_unless l.out l.r.0) l.initial.table l.table l.from.0

abbrev pub decreases-devices : goal.decreases-devices
decreases-devices l = length l.table - l.from.0
