use Rattle.lineage_table.proofs.tables.Table.schedule.Goals as goal
use Rattle.lineage_table.proofs.RunAccesses.{put_has}
use Rattle.lineage_table.proofs.RunSets.{sound_more}
use Rattle.lineage_table.proofs.Prelude.{LineageState, ap, has_access, ◌∙◌}

pub invariant_of-self : goal.invariant_of-self
invariant_of-self c =
    sound_more c.self.inside.devices c.add.new.self c.self.inside.lineages.items c.args.self.now c.args.d.0 c.index_mut.result.now c.schedule.new.self c.index.result.now c.self.invariant c.self.view_is c.requires.device c.index_mut.ensures.value c.index.ensures c.kept_invariant.ensures
    c.args.access.run.0 c.add.ensures (λ q. ap (λ (s : LineageState). has_access q s.accesses) c.schedule.ensures ∙ put_has q c.args.before c.args.access c.index_mut.result.now.accesses)
