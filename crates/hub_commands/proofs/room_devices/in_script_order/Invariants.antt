use Rattle.hub_commands.proofs.RoomRanks.{IsOrdering}
use Rattle.hub_commands.proofs.room_devices.in_script_order.Given as goal

abbrev pub invariant-devices : goal.invariant-devices
invariant-devices g l = IsOrdering l.room_of l.fn.homes.items l.of_rooms.items l.backward l.left

abbrev pub decreases-devices : goal.decreases-devices
decreases-devices g l = l.left
