use Rattle.lineage_laws.proofs.laws.compaction_keeps.Goals as goal
use Rattle.lineage_laws.proofs.Prelude.{accesses_at, lineage_at, settled_stands}

pub returns : goal.returns
returns c = settled_stands c.args.r.0 (lineage_at c.args.table.now c.args.d.0).committed (accesses_at c.args.table.now c.args.d.0) c.requires.wrote
