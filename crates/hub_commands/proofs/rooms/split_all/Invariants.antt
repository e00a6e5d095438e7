use Rattle.hub_commands.proofs.rooms.split_all.Given as goal
use Rattle.hub_commands.specs.RoomCalls.{SplitBefore}

abbrev pub invariant-windows : goal.invariant-windows
invariant-windows l = SplitBefore l.script l.number
