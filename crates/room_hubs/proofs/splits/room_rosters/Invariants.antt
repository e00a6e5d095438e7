use Rattle.room_hubs.proofs.Prelude.{length, map, plain_room, plain_run, range_with_len, room_at, take, ◌≡◌}
use Rattle.room_hubs.proofs.splits.room_rosters.Given as goal

abbrev pub invariant-rooms : goal.invariant-rooms
invariant-rooms l =
    map plain_room l.rosters.items
    ≡ map (room_at l.rooms.room_of.items (map plain_run l.runs)) (take l.room (range_with_len 0 (length l.rooms.names.items)))
