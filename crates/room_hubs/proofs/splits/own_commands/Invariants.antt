use Rattle.room_hubs.proofs.splits.own_commands.Given as goal
use Rattle.room_hubs.proofs.Prelude.{map, numbers_of_devices, own_command, take, ◌≡◌}

abbrev pub invariant-commands : goal.invariant-commands
invariant-commands l = l.own.items ≡ map (own_command (numbers_of_devices l.devices)) (take l.command-index l.commands)
