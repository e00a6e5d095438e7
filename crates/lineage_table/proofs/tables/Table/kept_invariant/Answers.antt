use Rattle.lineage_table.proofs.tables.Table.kept_invariant.Goals as goal
use Rattle.lineage_table.proofs.Prelude.{IsDisciplined, LineageState, List, accesses_at, subst}

pub returns : goal.returns
returns c = λ d. subst (λ (t : List LineageState). IsDisciplined (accesses_at t d)) c.self.view_is (c.self.invariant.table.turns d)
