use Rattle.lineage_laws.proofs.laws.removal_keeps.Goals as goal
use Rattle.lineage_laws.proofs.Prelude.{accesses_at, effective_writer, lineage_at, not_writer, without_stands}

pub returns : goal.returns
returns c =
    let accesses = accesses_at c.args.table.now c.args.d.0 in
    without_stands c.args.r.0 (lineage_at c.args.table.now c.args.d.0).committed accesses (not_writer c.args.r (effective_writer accesses) c.requires.not_effective)
