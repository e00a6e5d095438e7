use Rattle.window_order.proofs.MadeRoom.{HasRoomUpTo}
use Rattle.window_order.proofs.joins.make_room_on_each.Given as goal

-- the devices of the commands up to here have room for one access more
abbrev pub invariant-commands : goal.invariant-commands
invariant-commands l = HasRoomUpTo l.at l.commands l.initial.table l.table
