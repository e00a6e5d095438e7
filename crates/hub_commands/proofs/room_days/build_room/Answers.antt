use Rattle.hub_commands.proofs.NewRooms.{new_home}
use Rattle.hub_commands.proofs.room_days.build_room.Goals as goal
use Rattle.hub_commands.proofs.Prelude.{room_devices}

pub returns : goal.returns
returns g c =
    let D = g.B.Dev.Device in
    new_home D.shows c.in_ok-own.own.devices.items (room_devices c.args.script.now c.args.room) c.in_ok-own.ensures.devices
    c.build-home.result c.build-home.ensures.kinds c.build-home.ensures.world c.build-home.ensures.opened c.build-home.ensures.devices
