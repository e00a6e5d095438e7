use Rattle.hub_commands.proofs.RoomSteps.{IsOpeningBackward}
use Rattle.hub_commands.proofs.room_plays.open_backward.Given as goal
use Rattle.hub_commands.proofs.Prelude.{length}

abbrev pub invariant-rooms : goal.invariant-rooms
invariant-rooms g l =
    let D = g.Dev.Device in
    IsOpeningBackward D.shows l.mode l.rounds l.fn.rosters.items l.fn.homes.items l.rosters.items l.homes.items l.hubs

abbrev pub decreases-rooms : goal.decreases-rooms
decreases-rooms g l = length l.homes.items
