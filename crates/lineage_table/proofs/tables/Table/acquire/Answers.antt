use Rattle.lineage_table.proofs.tables.Table.acquire.Goals as goal
use Rattle.lineage_table.proofs.RunAccesses.{change_has}
use Rattle.lineage_table.proofs.RunSets.{sound_same}
use Rattle.lineage_table.proofs.Prelude.{Access, Acquired, LineageState, Some, ap, has_access, refl, ◌∙◌}

pub invariant_of-self : goal.invariant_of-self
invariant_of-self c =
    sound_same c.self.inside.devices c.self.inside.devices c.self.inside.lineages.items c.args.self.now c.args.d.0 c.index_mut.result.now c.acquire.new.self c.index.result.now c.self.invariant c.self.view_is c.requires.device c.index_mut.ensures.value c.index.ensures c.kept_invariant.ensures
    refl (λ q. ap (λ (s : LineageState). has_access q s.accesses) c.acquire.ensures ∙ change_has q c.args.r.0 (λ (x : Access). record x { status = Acquired; view = Some c.args.view }) c.index_mut.result.now.accesses (λ x. refl))
