use Rattle.hub_commands.proofs.RoomDaysGoing.{day_devices, day_roomed, end_finished, end_stopped}
use Rattle.hub_commands.proofs.room_days.end.Goals as goal
use Rattle.hub_commands.proofs.Prelude.{AreAllPlaced, HasDevicesOf, IsRoomed, List, ap, length, refl, subst, sym, ℕ, ◌∙◌}

pub stop-requires-clause-rooms : goal.stop-requires-clause-rooms
stop-requires-clause-rooms g c =
    let D = g.Dev.Device in
    let shown = D.shows in
    day_roomed (g.C.Clock.earliest c.args._clock.now) (g.C.Clock.latest c.args._clock.now) shown c.args.script.now c.requires.sound c.args.mode c.requires.strong c.args.rooms.now c.requires.rooms c.args.day c.args.day.windows.items c.requires.day

pub stop-requires-clause-devices : goal.stop-requires-clause-devices
stop-requires-clause-devices g c =
    let D = g.Dev.Device in
    let shown = D.shows in
    day_devices (g.C.Clock.earliest c.args._clock.now) (g.C.Clock.latest c.args._clock.now) shown c.args.script.now c.requires.sound c.args.mode c.requires.strong c.args.rooms.now c.requires.rooms c.args.day c.args.day.windows.items c.requires.day

pub in_script_order-requires-clause-rooms : goal.in_script_order-requires-clause-rooms
in_script_order-requires-clause-rooms g c =
    let D = g.Dev.Device in
    let shown = D.shows in
    subst (λ (l : List ℕ). IsRoomed l (length c.args.day.homes.items)) (sym c.as_slice.ensures)
    (day_roomed (g.C.Clock.earliest c.args._clock.now) (g.C.Clock.latest c.args._clock.now) shown c.args.script.now c.requires.sound c.args.mode c.requires.strong c.args.rooms.now c.requires.rooms c.args.day c.args.day.windows.items c.requires.day)

pub in_script_order-requires-clause-devices : goal.in_script_order-requires-clause-devices
in_script_order-requires-clause-devices g c =
    let D = g.Dev.Device in
    let shown = D.shows in
    subst (λ (l : List ℕ). HasDevicesOf l c.args.day.homes.items) (sym c.as_slice.ensures)
    (day_devices (g.C.Clock.earliest c.args._clock.now) (g.C.Clock.latest c.args._clock.now) shown c.args.script.now c.requires.sound c.args.mode c.requires.strong c.args.rooms.now c.requires.rooms c.args.day c.args.day.windows.items c.requires.day)

pub returns-in-Err-clause-ends : goal.returns-in-Err-clause-ends
returns-in-Err-clause-ends g c held f so_far =
    let D = g.Dev.Device in
    let shown = D.shows in
    let K = g.K.Sink in
    end_stopped (g.C.Clock.earliest c.args._clock.now) (g.C.Clock.latest c.args._clock.now) shown c.args.script.now c.requires.sound c.args.mode c.requires.strong c.args.rooms.now c.requires.rooms c.args.day c.args.day.windows.items c.requires.day
    held (K.holds c.args.sink.now) (K.holds c.write_chunk.new.sink) f (K.faults c.args.sink.now) (K.faults c.write_chunk.new.sink) c.total_text.result c.in-Err.fault c.stop.result refl so_far c.requires.all c.total_text.ensures c.in-Err.ensures c.stop.ensures.windows c.stop.ensures.ends

pub returns-clause-ends : goal.returns-clause-ends
returns-clause-ends g c held f so_far =
    let D = g.Dev.Device in
    let shown = D.shows in
    let K = g.K.Sink in
    end_finished (g.C.Clock.earliest c.args._clock.now) (g.C.Clock.latest c.args._clock.now) shown c.args.script.now c.requires.sound c.args.mode c.requires.strong c.args.rooms.now c.requires.rooms c.args.day c.args.day.windows.items c.requires.day
    held (K.holds c.args.sink.now) (K.holds c.write_chunk.new.sink) f (K.faults c.args.sink.now)
    (K.faults c.write_chunk.new.sink) c.total_text.result c.in_script_order.result refl so_far c.requires.all c.total_text.ensures c.in_default.ensures
    (c.in_script_order.ensures.size ∙ ap (λ l. length l) c.as_slice.ensures)
    (subst (λ (l : List ℕ). AreAllPlaced l c.args.day.homes.items c.in_script_order.result.items) c.as_slice.ensures c.in_script_order.ensures.placed)
