use Rattle.hub_commands.proofs.room_devices.devices_of.Given as goal
use Rattle.hub_commands.proofs.Prelude.{length, map, reverse, vec_capacity, vec_len, ◌++◌, ◌+◌, ◌≡◌, ◌≤◌}

abbrev pub invariant-homes : goal.invariant-homes
invariant-homes g l =
    (map (λ home. home.devices) l.fn.homes.items ≡ map (λ home. home.devices) l.homes.items ++ reverse (map (λ devices. devices.items) l.of_rooms.items))
    × (vec_len l.of_rooms + length l.homes.items ≤ vec_capacity l.of_rooms)

abbrev pub decreases-homes : goal.decreases-homes
decreases-homes g l = length l.homes.items
