use Rattle.hub_commands.proofs.RoomSteps.{all_turned, no_more}
use Rattle.hub_commands.proofs.room_devices.devices_of.Goals as goal
use Rattle.hub_commands.proofs.Prelude.{length}

pub returns : goal.returns
returns g c =
    all_turned (λ home. home.devices) (λ devices. devices.items) c.args.homes.items c.homes.homes.items c.homes.of_rooms.items c.reverse.new.self.items
    c.homes.invariant.0 (no_more (length c.homes.homes.items) c.in_default.ensures.found.1) c.reverse.ensures.items
