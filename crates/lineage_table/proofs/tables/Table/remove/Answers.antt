use Rattle.lineage_table.proofs.tables.Table.remove.Goals as goal
use Rattle.lineage_table.proofs.RunAccesses.{without_has}
use Rattle.lineage_table.proofs.RunSets.{sound_less}
use Rattle.lineage_table.proofs.Prelude.{LineageState, ap, has_access, ◌==◌, ◌∙◌}

pub invariant_of-self : goal.invariant_of-self
invariant_of-self c =
    sound_less c.self.inside.devices c.remove.new.self c.self.inside.lineages.items c.args.self.now c.args.d.0 c.index_mut.result.now c.remove-found.new.self c.index.result.now c.self.invariant c.self.view_is c.requires c.index_mut.ensures.value c.index.ensures c.kept_invariant.ensures
    (λ q. q == c.args.r.0) c.remove.ensures (λ q. ap (λ (s : LineageState). has_access q s.accesses) c.remove-found.ensures.left ∙ without_has q c.args.r.0 c.index_mut.result.now.accesses)
