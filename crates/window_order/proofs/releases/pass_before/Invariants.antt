use Rattle.window_order.proofs.releases.pass_before.Given as goal
use Rattle.window_order.proofs.Prelude.{IsWaiting, accesses_at, length, lineage_at, passed, with_lineage, ◌≡◌}
use Rattle.window_order.proofs.PassedAccesses.{waits_before}

-- with the rest passed the table is what it is when all are, and the run still waits
abbrev pub invariant-passing : goal.invariant-passing
invariant-passing l = record {
  devices : length l.table ≡ length l.initial.table;
  same : with_lineage l.table l.d.0 (passed l.r.0) ≡ with_lineage l.initial.table l.d.0 (passed l.r.0);
  waiting : IsWaiting l.r.0 (lineage_at l.table l.d.0);
}

abbrev pub decreases-passing : goal.decreases-passing
decreases-passing l = waits_before l.r.0 (accesses_at l.table l.d.0)
