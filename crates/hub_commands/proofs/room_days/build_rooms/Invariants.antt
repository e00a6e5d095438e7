use Rattle.hub_commands.proofs.room_days.build_rooms.Given as goal
use Rattle.hub_commands.proofs.Prelude.{HomeState, IsNewHome, Some, length, room_devices, slice_get, ℕ, ◌≡◌}

abbrev pub invariant-rooms : goal.invariant-rooms
invariant-rooms g l =
    let D = g.B.Dev.Device in
    record {
      count : length l.homes.items ≡ l.room;
      each : (k : ℕ) (home : HomeState g.row.B-Dev.Denot) → slice_get l.homes.items k ≡ Some home → IsNewHome D.shows (room_devices l.script k) home;
    }
