use Rattle.hub_commands.proofs.RoomSteps.{all_opened, next_may_open, no_more, opening_begins, opening_goes_on}
use Rattle.hub_commands.proofs.room_plays.open_backward.Goals as goal
use Rattle.hub_commands.proofs.Prelude.{[], arith, length, rules, ◌++◌, ◌<◌, ◌∷◌, ◌≡◌}

pub rooms-init : goal.rooms-init
rooms-init g c =
    let D = g.Dev.Device in
    opening_begins D.shows c.args.mode c.args.rounds c.args.rosters.items c.args.homes.items c.args.hubs c.requires.empty c.requires.count c.requires.room

pub open_room-requires : goal.open_room-requires
open_room-requires g c =
    let D = g.Dev.Device in
    let split : c.rooms.rosters.items ≡ c.pop-in-Some.new.self.items ++ c.unwrap-roster.result ∷ [] = search rules in
    next_may_open D.shows c.args.mode c.args.rounds c.args.rosters.items c.args.homes.items c.rooms.rosters.items c.pop-in-Some.new.self.items c.rooms.homes.items c.pop.new.self.items c.rooms.hubs c.unwrap-roster.result c.in-Some.home
    c.requires.may c.rooms.invariant split c.in-Some.ensures.last

pub rooms-preserved : goal.rooms-preserved
rooms-preserved g c =
    let D = g.Dev.Device in
    let split : c.rooms.rosters.items ≡ c.pop-in-Some.new.self.items ++ c.unwrap-roster.result ∷ [] = search rules in
    let some : 0 < length c.rooms.homes.items = search rules in
    let room = c.rooms.invariant.room in
    let more : c.push.new.self.items ≡ c.rooms.hubs.items ++ c.in-Ok.hub ∷ [] = search rules in
    opening_goes_on D.shows c.args.mode c.args.rounds c.args.rosters.items c.args.homes.items c.rooms.rosters.items c.pop-in-Some.new.self.items c.rooms.homes.items c.pop.new.self.items c.rooms.hubs c.push.new.self c.unwrap-roster.result c.in-Some.home c.in-Ok.hub
    c.rooms.invariant split c.in-Some.ensures.last c.in-Ok.ensures.roster c.in-Ok.ensures.opened more (c.push.ensures.used (omega (arith, some, room)))

pub returns : goal.returns
returns g c =
    let D = g.Dev.Device in
    let none = c.in_default.ensures.found.1 in
    all_opened D.shows c.args.mode c.args.rounds c.args.rosters.items c.args.homes.items c.rooms.rosters.items c.rooms.homes.items c.rooms.hubs c.rooms.invariant (no_more (length c.rooms.homes.items) none)
