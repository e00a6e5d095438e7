-- The devices of the rooms' homes in the order of the script.
use Rattle.home_types.specs.Numbers.{DeviceId}
use Rattle.hub_commands.specs.declared.room_devices.DeviceRoom.{DeviceRoom}
use Rattle.hub_core.specs.Homes.{HomeState}
use Rattle.room_hubs.specs.Splits.{device_room, devices_in}
use Rattle.std.specs.Prelude.{List, Some, [], length, slice_get, slice_index_or, vec_capacity, ℕ, ◌<◌, ◌≡◌, ◌≤◌}

-- empty, with room for the devices of so many rooms, and for so many devices
pub record HasRoomFor {D : Type 0} (rooms devices : ℕ) (room : DeviceRoom D) : Type 0 where
  pub no_rooms : room.of_rooms.items ≡ []
  pub none_backward : room.backward.items ≡ []
  pub none_ordered : room.ordered.items ≡ []
  pub for_rooms : rooms ≤ vec_capacity room.of_rooms
  pub for_backward : devices ≤ room.backward.spare
  pub for_ordered : devices ≤ room.ordered.spare

-- each device is in one of so many rooms
abbrev pub IsRoomed : List ℕ → ℕ → Type 0
IsRoomed room_of rooms = (d : DeviceId) → d < length room_of → device_room room_of d < rooms

-- each room's home has as many devices as there are in the room
abbrev pub HasDevicesOf : {D : Type 0} → List ℕ → List (HomeState D) → Type 0
HasDevicesOf {D} room_of homes =
    (k : ℕ) (home : HomeState D) → slice_get homes k ≡ Some home
    → length home.devices ≡ length (devices_in room_of k)

-- each device of each home stands where the home's number of it says
abbrev pub AreAllPlaced : {D : Type 0} → List ℕ → List (HomeState D) → List D → Type 0
AreAllPlaced {D} room_of homes devices =
    (k : ℕ) (home : HomeState D) (a : ℕ) (device : D) → slice_get homes k ≡ Some home
    → slice_get home.devices a ≡ Some device
    → slice_get devices (slice_index_or (devices_in room_of k) a 0) ≡ Some device
