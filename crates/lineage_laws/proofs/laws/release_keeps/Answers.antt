use Rattle.lineage_laws.proofs.laws.release_keeps.Goals as goal
use Rattle.lineage_laws.proofs.Prelude.{Access, Released, accesses_at, change_stands, lineage_at, refl}

pub returns : goal.returns
returns c = change_stands c.args.r.0 (λ (x : Access). record x { status = Released }) (λ x. refl) (lineage_at c.args.table.now c.args.d.0).committed (accesses_at c.args.table.now c.args.d.0)
