use Rattle.room_hubs.proofs.naming.rooms_among.Given as goal
use Rattle.room_hubs.proofs.Prelude.{fold, length, map, no_rooms, room_name, take, with_device, ◌≡◌, ◌≤◌}

abbrev pub invariant-devices : goal.invariant-devices
invariant-devices l =
    (record { names = l.names.items; room_of = l.room_of.items } ≡ fold with_device no_rooms (map (λ device. room_name device.name) (take l.device-index l.devices)))
    × (length l.names.items ≤ l.device-index)
