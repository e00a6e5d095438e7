use Rattle.lineage_table.proofs.RunSets.{read_there, set_less}
use Rattle.lineage_table.proofs.run_devices.RunDevices.remove.Goals as goal
use Rattle.lineage_table.proofs.Prelude.{arith, length, ◌<◌}
use Rattle.std.specs.FinSet as set

pub returns-then-r-len : goal.returns-then-r-len
returns-then-r-len c =
    let within : c.args.r.0 < length c.self.inside.sets.items = omega (arith, c.if-r-len.true, c.len.ensures) in
    rw (← c.self.view_is) (set_less c.self.inside.sets.items c.args.r.0 c.args.d.0 c.index_mut.result.now c.remove.new.self within (read_there c.self.inside.sets.items c.args.r.0 c.index_mut.result.now set.empty within c.index_mut.ensures.value) c.remove.ensures)
