use Rattle.serial_line.proofs.Prelude.{low_device}
use Rattle.serial_line.proofs.KeptRuns.{none_passed, one_passed}
use Rattle.serial_line.proofs.kept_runs.devices_of.Goals as goal

pub commands-init : goal.commands-init
commands-init c = rw c.none-devices.ensures (none_passed c.args.commands.now)

pub add-requires : goal.add-requires
add-requires c = low_device c.args.commands.now c.commands.command-index _ c.commands-test.true c.requires

pub commands-preserved : goal.commands-preserved
commands-preserved c = rw c.add.ensures (one_passed c.commands.devices c.args.commands.now c.commands.command-index _ c.commands-test.true c.commands.invariant)
