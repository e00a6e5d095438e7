use Rattle.serial_meaning.proofs.Items.{run_devices}
use Rattle.serial_meaning.proofs.orders.OrderProgress.run.Goals as goal

pub execute_commands-requires-clause-devices : goal.execute_commands-requires-clause-devices
execute_commands-requires-clause-devices c =
    let devices = run_devices c.args.self.home.items c.args.roster.now c.requires.devices c.args.r.0 in
    rw c.commands.ensures devices
