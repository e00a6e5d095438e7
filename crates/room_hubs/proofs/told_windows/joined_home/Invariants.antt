use Rattle.room_hubs.proofs.told_windows.joined_home.Given as goal
use Rattle.room_hubs.proofs.Prelude.{[], device_room, last_of_room, length, map, range_with_len, slice_index_or, stand_in, take, ◌≡◌}

abbrev pub invariant-devices : goal.invariant-devices
invariant-devices l =
    l.home.items ≡ map (λ d. stand_in (slice_index_or (map last_of_room l.windows) (device_room l.room_of d) ([], [])) d) (take l.d (range_with_len 0 (length l.room_of)))
