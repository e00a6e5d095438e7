use Rattle.lineage_table.proofs.RunSets.{empty_more}
use Rattle.lineage_table.proofs.run_devices.RunDevices.open.Goals as goal
use Rattle.lineage_table.proofs.Prelude.{arith}

pub runs-preserved : goal.runs-preserved
runs-preserved c = record {
  size = omega (arith, c.push_reserved.ensures.len, c.runs.invariant.size);
  room = omega (arith, c.push_reserved.ensures.capacity, c.runs.invariant.room);
  none = rw (c.push_reserved.ensures.items, c.none.ensures) (empty_more c.runs.sets.items c.runs.invariant.none);
}
