use Rattle.hub_commands.proofs.RoomDaysGoing.{next_day}
use Rattle.hub_commands.proofs.RoomDaysLeft.{rooms_played}
use Rattle.hub_commands.proofs.room_days.work_next.Goals as goal
use Rattle.hub_commands.proofs.Prelude.{[], refl, rules, ◌++◌, ◌∷◌, ◌≡◌}

pub returns-in-Err : goal.returns-in-Err
returns-in-Err g c =
    let D = g.Dev.Device in
    (refl, rooms_played (g.C.Clock.earliest c.args.clock.now) (g.C.Clock.latest c.args.clock.now) D.shows c.args.script.now c.requires.sound c.args.mode c.requires.strong c.args.day.homes.items c.args.day.windows.items c.requires.day.under_way)

pub returns-in-Ok : goal.returns-in-Ok
returns-in-Ok g c =
    let D = g.Dev.Device in
    let shown = D.shows in
    let more : c.push.new.self.items ≡ c.args.day.windows.items ++ c.in-Ok.closed.windows ∷ [] = search rules in
    next_day (g.C.Clock.earliest c.args.clock.now) (g.C.Clock.latest c.args.clock.now) shown c.args.script.now c.requires.sound c.args.mode c.requires.strong c.args.rooms.now c.requires.rooms
    c.args.day c.len-number.result c.in-Ok.closed.homes c.in-Ok.closed.windows c.push.new.self c.requires.day c.len-number.ensures c.requires.next c.in-Ok.ensures more c.push.ensures.used
