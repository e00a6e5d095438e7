use Rattle.hub_commands.proofs.NewRooms.{one_home_more}
use Rattle.hub_commands.proofs.room_days.build_rooms.Goals as goal
use Rattle.hub_commands.proofs.Prelude.{[], ap, arith, length, length-append, rooms_few, rules, ◌++◌, ◌∷◌, ◌≡◌}

pub overflow_cast-room : goal.overflow_cast-room
overflow_cast-room g c =
    let few = (rooms_few c.args.script.now c.requires.sound).0 in
    let same = ap (λ r. length r.names) c.requires.rooms in
    let more = c.rooms-test.true in
    let len = c.len-room-end.ensures in
    omega (arith, few, same, more, len)

pub rooms-preserved : goal.rooms-preserved
rooms-preserved g c =
    let D = g.B.Dev.Device in
    let more : c.push.new.self.items ≡ c.rooms.homes.items ++ c.in-Ok.home ∷ [] = search rules in
    let count = c.rooms.invariant.count in
    let size = ap (λ l. length l) more in
    record {
      count = omega (arith, count, size, length-append c.rooms.homes.items (c.in-Ok.home ∷ []));
      each = one_home_more D.shows c.args.script.now c.rooms.homes.items c.in-Ok.home c.push.new.self.items more (c.rooms.room) count c.in-Ok.ensures c.rooms.invariant.each;
    }
