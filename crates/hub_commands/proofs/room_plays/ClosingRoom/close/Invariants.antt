use Rattle.hub_commands.proofs.RoomSteps.{IsTakingApart}
use Rattle.hub_commands.proofs.room_plays.ClosingRoom.close.Given as goal
use Rattle.hub_commands.proofs.Prelude.{length}

abbrev pub invariant-rooms : goal.invariant-rooms
invariant-rooms g l =
    let D = g.Dev.Device in
    IsTakingApart D.shows l.fn.done.items l.backward.items l.homes l.windows

abbrev pub decreases-rooms : goal.decreases-rooms
decreases-rooms g l = length l.backward.items
