use Rattle.lineage_laws.proofs.laws.statuses.Goals as goal
use Rattle.lineage_laws.proofs.Statuses.{stand_by_status}
use Rattle.lineage_laws.proofs.Prelude.{accesses_at}

pub returns : goal.returns
returns c = stand_by_status (accesses_at c.args.table.now c.args.d.0) (c.kept_invariant.ensures c.args.d.0)
