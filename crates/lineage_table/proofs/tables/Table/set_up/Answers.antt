use Rattle.lineage_table.proofs.tables.Table.set_up.Goals as goal
use Rattle.lineage_table.proofs.RunSets.{sound_same}
use Rattle.lineage_table.proofs.Prelude.{LineageState, ap, has_access, refl}

pub invariant_of-self : goal.invariant_of-self
invariant_of-self c =
    sound_same c.self.inside.devices c.self.inside.devices c.self.inside.lineages.items c.args.self.now c.args.d.0 c.index_mut.result.now c.set_up.new.self c.index.result.now c.self.invariant c.self.view_is c.requires c.index_mut.ensures.value c.index.ensures c.kept_invariant.ensures
    refl (λ q. ap (λ (s : LineageState). has_access q s.accesses) c.set_up.ensures)
