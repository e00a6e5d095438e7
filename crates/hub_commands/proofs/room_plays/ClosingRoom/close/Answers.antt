use Rattle.hub_commands.proofs.RoomSteps.{taking_goes_on}
use Rattle.hub_commands.proofs.room_plays.ClosingRoom.close.Goals as goal
use Rattle.hub_commands.proofs.Prelude.{[], arith, length, rules, ◌++◌, ◌<◌, ◌∷◌, ◌≡◌}

pub rooms-preserved : goal.rooms-preserved
rooms-preserved g c =
    let D = g.Dev.Device in
    let some : 0 < length c.rooms.backward.items = search rules in
    let homes_room = c.rooms.invariant.homes_room in
    let windows_room = c.rooms.invariant.windows_room in
    let more_homes : c.push.new.self.items ≡ c.rooms.homes.items ++ c.in-Some.room.home ∷ [] = search rules in
    let more_windows : c.push-in-Some.new.self.items ≡ c.rooms.windows.items ++ c.in-Some.room.window ∷ [] = search rules in
    taking_goes_on D.shows c.args.done.items c.rooms.backward.items c.pop.new.self.items c.in-Some.room c.rooms.homes c.push.new.self c.rooms.windows c.push-in-Some.new.self
    c.rooms.invariant c.in-Some.ensures.last c.kept_invariant.ensures more_homes (c.push.ensures.used (omega (arith, some, homes_room))) more_windows (c.push-in-Some.ensures.used (omega (arith, some, windows_room)))
