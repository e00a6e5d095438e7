use Rattle.hub_commands.proofs.RoomDaysGoing.{day_devices, day_own, day_roomed, few_devices, next_starved, next_stopped, next_written}
use Rattle.hub_commands.proofs.room_days.go_on.Goals as goal
use Rattle.hub_commands.proofs.Prelude.{Err, Ok, RoomNextIs, subst}

pub tell_lines-lines-requires-clause-devices : goal.tell_lines-lines-requires-clause-devices
tell_lines-lines-requires-clause-devices g c =
    let D = g.Dev.Device in
    let shown = D.shows in
    let next' : RoomNextIs (g.C.Clock.earliest c.args._clock.now) (g.C.Clock.latest c.args._clock.now) shown c.args.script.now c.args.mode c.requires.next.0
    (Ok c.in-Ok.day) =
    subst (λ n. RoomNextIs (g.C.Clock.earliest c.args._clock.now) (g.C.Clock.latest c.args._clock.now) shown c.args.script.now c.args.mode c.requires.next.0 n)
    c.in-Ok.is c.requires.next.1 in
    few_devices (g.C.Clock.earliest c.args._clock.now) (g.C.Clock.latest c.args._clock.now) shown c.args.script.now c.requires.sound c.args.mode c.requires.strong c.args.rooms.now c.requires.rooms c.in-Ok.day c.requires.next.0 next'

pub tell_lines-lines-requires-clause-own : goal.tell_lines-lines-requires-clause-own
tell_lines-lines-requires-clause-own g c =
    let D = g.Dev.Device in
    let shown = D.shows in
    let next' : RoomNextIs (g.C.Clock.earliest c.args._clock.now) (g.C.Clock.latest c.args._clock.now) shown c.args.script.now c.args.mode c.requires.next.0
    (Ok c.in-Ok.day) =
    subst (λ n. RoomNextIs (g.C.Clock.earliest c.args._clock.now) (g.C.Clock.latest c.args._clock.now) shown c.args.script.now c.args.mode c.requires.next.0 n)
    c.in-Ok.is c.requires.next.1 in
    day_own (g.C.Clock.earliest c.args._clock.now) (g.C.Clock.latest c.args._clock.now) shown c.args.script.now c.requires.sound c.args.mode c.requires.strong c.args.rooms.now c.requires.rooms c.in-Ok.day c.requires.next.0 next'.2

pub stop-requires-clause-rooms : goal.stop-requires-clause-rooms
stop-requires-clause-rooms g c =
    let D = g.Dev.Device in
    let shown = D.shows in
    let next' : RoomNextIs (g.C.Clock.earliest c.args._clock.now) (g.C.Clock.latest c.args._clock.now) shown c.args.script.now c.args.mode c.requires.next.0
    (Ok c.in-Ok.day) =
    subst (λ n. RoomNextIs (g.C.Clock.earliest c.args._clock.now) (g.C.Clock.latest c.args._clock.now) shown c.args.script.now c.args.mode c.requires.next.0 n)
    c.in-Ok.is c.requires.next.1 in
    day_roomed (g.C.Clock.earliest c.args._clock.now) (g.C.Clock.latest c.args._clock.now) shown c.args.script.now c.requires.sound c.args.mode c.requires.strong c.args.rooms.now c.requires.rooms c.in-Ok.day c.requires.next.0 next'.2

pub stop-requires-clause-devices : goal.stop-requires-clause-devices
stop-requires-clause-devices g c =
    let D = g.Dev.Device in
    let shown = D.shows in
    let next' : RoomNextIs (g.C.Clock.earliest c.args._clock.now) (g.C.Clock.latest c.args._clock.now) shown c.args.script.now c.args.mode c.requires.next.0
    (Ok c.in-Ok.day) =
    subst (λ n. RoomNextIs (g.C.Clock.earliest c.args._clock.now) (g.C.Clock.latest c.args._clock.now) shown c.args.script.now c.args.mode c.requires.next.0 n)
    c.in-Ok.is c.requires.next.1 in
    day_devices (g.C.Clock.earliest c.args._clock.now) (g.C.Clock.latest c.args._clock.now) shown c.args.script.now c.requires.sound c.args.mode c.requires.strong c.args.rooms.now c.requires.rooms c.in-Ok.day c.requires.next.0 next'.2

pub returns-in-Err : goal.returns-in-Err
returns-in-Err g c held f before so_far next =
    let D = g.Dev.Device in
    let shown = D.shows in
    let K = g.K.Sink in
    let next' : RoomNextIs (g.C.Clock.earliest c.args._clock.now) (g.C.Clock.latest c.args._clock.now) shown c.args.script.now c.args.mode before
    (Err c.in-Err.windows) =
    subst (λ n. RoomNextIs (g.C.Clock.earliest c.args._clock.now) (g.C.Clock.latest c.args._clock.now) shown c.args.script.now c.args.mode before n)
    c.in-Err.is next in
    next_starved (g.C.Clock.earliest c.args._clock.now) (g.C.Clock.latest c.args._clock.now) shown c.args.script.now c.requires.sound c.args.mode c.requires.strong c.args.rooms.now c.requires.rooms
    held (K.holds c.args.sink.now) f (K.faults c.args.sink.now) before c.in-Err.windows c.end_without_devices.result so_far next'
    c.end_without_devices.ensures.status c.end_without_devices.ensures.windows c.end_without_devices.ensures.devices c.end_without_devices.ensures.fault

pub returns-in-Ok-write_chunk : goal.returns-in-Ok-write_chunk
returns-in-Ok-write_chunk g c held f before so_far next =
    let D = g.Dev.Device in
    let shown = D.shows in
    let K = g.K.Sink in
    let next' : RoomNextIs (g.C.Clock.earliest c.args._clock.now) (g.C.Clock.latest c.args._clock.now) shown c.args.script.now c.args.mode before
    (Ok c.in-Ok.day) =
    subst (λ n. RoomNextIs (g.C.Clock.earliest c.args._clock.now) (g.C.Clock.latest c.args._clock.now) shown c.args.script.now c.args.mode before n)
    c.in-Ok.is next in
    next_written (g.C.Clock.earliest c.args._clock.now) (g.C.Clock.latest c.args._clock.now) shown c.args.script.now c.requires.sound c.args.mode c.requires.strong c.args.rooms.now c.requires.rooms c.in-Ok.day before next'
    held (K.holds c.args.sink.now) (K.holds c.write_chunk.new.sink) f (K.faults c.args.sink.now) (K.faults c.write_chunk.new.sink) c.tell_lines-lines.new.told c.tell_lines-lines.result c.tell_lines-lines.ensures so_far c.in-Ok-write_chunk.ensures

pub returns-in-Err-write_chunk : goal.returns-in-Err-write_chunk
returns-in-Err-write_chunk g c held f before so_far next =
    let D = g.Dev.Device in
    let shown = D.shows in
    let K = g.K.Sink in
    let next' : RoomNextIs (g.C.Clock.earliest c.args._clock.now) (g.C.Clock.latest c.args._clock.now) shown c.args.script.now c.args.mode before
    (Ok c.in-Ok.day) =
    subst (λ n. RoomNextIs (g.C.Clock.earliest c.args._clock.now) (g.C.Clock.latest c.args._clock.now) shown c.args.script.now c.args.mode before n)
    c.in-Ok.is next in
    next_stopped (g.C.Clock.earliest c.args._clock.now) (g.C.Clock.latest c.args._clock.now) shown c.args.script.now c.requires.sound c.args.mode c.requires.strong c.args.rooms.now c.requires.rooms c.in-Ok.day before next'
    held (K.holds c.args.sink.now) (K.holds c.write_chunk.new.sink) f (K.faults c.args.sink.now) (K.faults c.write_chunk.new.sink) c.tell_lines-lines.new.told c.tell_lines-lines.result c.tell_lines-lines.ensures so_far c.in-Err-write_chunk.fault c.stop.result c.in-Err-write_chunk.ensures
    c.stop.ensures.status c.stop.ensures.windows c.stop.ensures.ends
