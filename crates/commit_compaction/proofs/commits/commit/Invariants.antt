use Rattle.commit_compaction.proofs.commits.commit.Given as goal
use Rattle.lineage_table.proofs.Cited.{ChangedUpTo}
use Rattle.lineage_table.specs.Lineages.{committed_lineage}
use Rattle.std.proofs.Common.{length, ◌-◌}

-- the run has committed on the devices up to here, and on no other
abbrev pub invariant-devices : goal.invariant-devices
invariant-devices l = ChangedUpTo (λ d. committed_lineage l.r.0) l.initial.table l.table l.from.0

abbrev pub decreases-devices : goal.decreases-devices
decreases-devices l = length l.table - l.from.0
