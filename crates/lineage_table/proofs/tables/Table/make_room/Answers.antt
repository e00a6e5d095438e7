use Rattle.lineage_table.proofs.tables.Table.make_room.Goals as goal
use Rattle.lineage_table.proofs.RunSets.{accesses_stay, sound_same}
use Rattle.lineage_table.proofs.Prelude.{Access, List, ap, has_access, refl}

pub invariant_of-self : goal.invariant_of-self
invariant_of-self c =
    sound_same c.self.inside.devices c.self.inside.devices c.self.inside.lineages.items c.args.self.now c.args.d.0 c.index_mut.result.now c.make_room-made.new.self c.index.result.now c.self.invariant c.self.view_is c.requires c.index_mut.ensures.value c.index.ensures c.kept_invariant.ensures
    refl (λ q. ap (λ (l : List Access). has_access q l) (accesses_stay c.make_room-made.result c.index_mut.result.now c.make_room-made.new.self c.make_room-made.ensures.made c.make_room-made.ensures.refused))
