-- The rooms of a home.
use Rattle.room_hubs.specs.declared.rosters.Rooms.{Rooms}
use Rattle.routine_reader.specs.Names.{is_among}
use Rattle.routine_reader.specs.declared.scripts.Script.{Script}
use Rattle.std.specs.List.{before_first, position_or_len}
use Rattle.std.specs.Prelude.{List, [], fold, if◌then◌else◌, map, ℕ, ◌++◌, ◌==◌, ◌∷◌}
use Rattle.std.specs.Str.{bytes_eq}

-- the room of a device: its name before the first `_`, or the whole of it
abbrev pub room_name : List ℕ → List ℕ
room_name name = before_first (λ b. b == 95) name

-- the names of the rooms in the order of their numbers, and the number of each device's room
pub record PlainRooms : Type 0 where
  pub names : List (List ℕ)
  pub room_of : List ℕ

abbrev pub no_rooms : PlainRooms
no_rooms = record { names = []; room_of = [] }

-- the names with a room that is new behind them
abbrev pub with_room : List (List ℕ) → List ℕ → List (List ℕ)
with_room names room = if is_among names room then names else names ++ room ∷ []

-- one more device, of the room with this name: a room that is new gets the next number
abbrev pub with_device : PlainRooms → List ℕ → PlainRooms
with_device rooms room =
    record {
      names = with_room rooms.names room;
      room_of = rooms.room_of ++ position_or_len (bytes_eq room) rooms.names ∷ [];
    }

-- the rooms of devices with these names
abbrev pub rooms_named : List (List ℕ) → PlainRooms
rooms_named names = fold with_device no_rooms (map room_name names)

abbrev pub rooms_of : Script → PlainRooms
rooms_of script = rooms_named (map (λ device. device.name) script.devices.items)

-- what a value of rooms holds
abbrev pub plain_rooms : Rooms → PlainRooms
plain_rooms rooms = record { names = rooms.names.items; room_of = rooms.room_of.items }
