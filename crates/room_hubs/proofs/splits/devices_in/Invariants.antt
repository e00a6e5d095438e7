use Rattle.room_hubs.proofs.splits.devices_in.Given as goal
use Rattle.room_hubs.proofs.Prelude.{device_room, filter, length, numbers_of_devices, range_with_len, take, ◌==◌, ◌≡◌}

abbrev pub invariant-devices : goal.invariant-devices
invariant-devices l = numbers_of_devices l.devices.items ≡ filter (λ d. device_room l.room_of d == l.room) (take l.d (range_with_len 0 (length l.room_of)))
