use Rattle.hub_commands.proofs.RoomDaysGoing.{begin_stopped, begin_unbuilt, begin_written, day_devices, day_roomed, first_is_day}
use Rattle.hub_commands.proofs.room_days.begin.Goals as goal

pub stop-requires-clause-rooms : goal.stop-requires-clause-rooms
stop-requires-clause-rooms g c =
    let D = g.B.Dev.Device in
    let shown = D.shows in
    day_roomed (g.C.Clock.earliest c.args._clock.now) (g.C.Clock.latest c.args._clock.now) shown c.args.script.now c.requires.sound c.args.mode c.requires.strong c.args.rooms.now c.requires.rooms
    c.in-Ok.day c.in-Ok.day.windows.items (first_is_day (g.C.Clock.earliest c.args._clock.now) (g.C.Clock.latest c.args._clock.now) shown c.args.script.now c.requires.sound c.args.mode c.requires.strong c.args.rooms.now c.requires.rooms c.in-Ok.day c.in-Ok.ensures)

pub stop-requires-clause-devices : goal.stop-requires-clause-devices
stop-requires-clause-devices g c =
    let D = g.B.Dev.Device in
    let shown = D.shows in
    day_devices (g.C.Clock.earliest c.args._clock.now) (g.C.Clock.latest c.args._clock.now) shown c.args.script.now c.requires.sound c.args.mode c.requires.strong c.args.rooms.now c.requires.rooms
    c.in-Ok.day c.in-Ok.day.windows.items (first_is_day (g.C.Clock.earliest c.args._clock.now) (g.C.Clock.latest c.args._clock.now) shown c.args.script.now c.requires.sound c.args.mode c.requires.strong c.args.rooms.now c.requires.rooms c.in-Ok.day c.in-Ok.ensures)

pub returns-in-Err : goal.returns-in-Err
returns-in-Err g c =
    let D = g.B.Dev.Device in
    let shown = D.shows in
    let K = g.K.Sink in
    begin_unbuilt (g.C.Clock.earliest c.args._clock.now) (g.C.Clock.latest c.args._clock.now) shown c.args.script.now c.requires.sound c.args.mode c.requires.strong c.args.rooms.now c.requires.rooms
    (K.holds c.args.sink.now) (K.faults c.args.sink.now) c.refuse_rooms.result c.refuse_rooms.ensures.status c.refuse_rooms.ensures.windows c.refuse_rooms.ensures.devices c.refuse_rooms.ensures.fault

pub returns-in-Ok-write_chunk : goal.returns-in-Ok-write_chunk
returns-in-Ok-write_chunk g c =
    let D = g.B.Dev.Device in
    let shown = D.shows in
    let K = g.K.Sink in
    begin_written (g.C.Clock.earliest c.args._clock.now) (g.C.Clock.latest c.args._clock.now) shown c.args.script.now c.requires.sound c.args.mode c.requires.strong c.args.rooms.now c.requires.rooms
    (K.holds c.args.sink.now) (K.holds c.write_chunk.new.sink) (K.faults c.args.sink.now) (K.faults c.write_chunk.new.sink) c.head_text.result c.in-Ok.day c.in-Ok.ensures c.head_text.ensures c.in-Ok-write_chunk.ensures

pub returns-in-Err-write_chunk : goal.returns-in-Err-write_chunk
returns-in-Err-write_chunk g c =
    let D = g.B.Dev.Device in
    let shown = D.shows in
    let K = g.K.Sink in
    begin_stopped (g.C.Clock.earliest c.args._clock.now) (g.C.Clock.latest c.args._clock.now) shown c.args.script.now c.requires.sound c.args.mode c.requires.strong c.args.rooms.now c.requires.rooms
    (K.holds c.args.sink.now) (K.holds c.write_chunk.new.sink) (K.faults c.args.sink.now) (K.faults c.write_chunk.new.sink) c.head_text.result c.in-Err-write_chunk.fault c.in-Ok.day c.stop.result c.in-Ok.ensures c.head_text.ensures c.in-Err-write_chunk.ensures
    c.stop.ensures.status c.stop.ensures.windows c.stop.ensures.ends
