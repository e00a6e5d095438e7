-- A day of rooms: what is true of its windows, and of the homes and devices that they leave.
use Rattle.device_states.specs.Devices.{Shown}
use Rattle.history_book.specs.Histories.{reading}
use Rattle.history_book.specs.Readings.{is_committed}
use Rattle.history_book.specs.declared.records.WindowRecord.{WindowRecord}
use Rattle.home_types.specs.HomeStates.{stand_at}
use Rattle.home_types.specs.Listed.{Listed}
use Rattle.home_types.specs.Numbers.{DeviceId, Moment}
use Rattle.home_types.specs.declared.items.Item.{Item}
use Rattle.home_types.specs.declared.modes.Mode.{Mode}
use Rattle.home_types.specs.declared.worlds.Stand.{Stand}
use Rattle.command_rules.specs.Serial.{SerialRun, serial_execution}
use Rattle.hub_commands.specs.Days.{DayIsUnderWay, DevicesAreProbed, WindowsArePlayed}
use Rattle.hub_commands.specs.Ways.{IsRunWithin}
use Rattle.hub_core.specs.Homes.{HomeState}
use Rattle.legal_days.specs.LegalDays.{DevicesAreLeft, setting_of}
use Rattle.legal_days.specs.LegalWindows.{history_of}
use Rattle.room_hubs.specs.Merges.{Merge, answers_of, home_order, joined_order, order_of_room, own_order, room_in, room_order}
use Rattle.room_hubs.specs.Numbers.{IsOwnDevice, home_device, home_run, plain_room}
use Rattle.room_hubs.specs.RoomScripts.{own_script}
use Rattle.room_hubs.specs.Rooms.{rooms_of}
use Rattle.room_hubs.specs.Splits.{devices_in, script_split}
use Rattle.room_hubs.specs.ToldWindows.{joined_home, last_of_room, told_record}
use Rattle.room_hubs.specs.declared.rosters.RoomWindow.{RoomWindow}
use Rattle.routine_reader.specs.Rosters.{kinds_of, script_runs, start_home}
use Rattle.routine_reader.specs.declared.scripts.Script.{Script}
use Rattle.std.specs.Prelude.{List, Ok, Some, [], false, filter_map, length, map, option_map, slice_get, slice_index_or, suc, true, unwrap_or, zero, ℕ, ◌<◌, ◌∷◌, ◌≡◌, ◌≤◌}

-- windows that every room closed: of each window one of each room, in the order of the rooms
abbrev pub Windows : Type 0
Windows = List (Listed RoomWindow)

-- the records of the room with this number, window after window
abbrev pub records_of : ℕ → Windows → List WindowRecord
records_of k windows =
    filter_map (λ (ws : Listed RoomWindow). option_map (λ w. w.closed) (slice_get ws.items k))
    windows

abbrev pub room_count : Script → ℕ
room_count script = length (rooms_of script).names

-- each room's window has the roster that the split gives it
abbrev pub AreSplit : Script → Windows → Type 0
AreSplit script windows =
    (w : ℕ) (ws : Listed RoomWindow) → slice_get windows w ≡ Some ws
    → script_split script w ≡ Ok (map (λ x. plain_room x.roster) ws.items)

-- the homes of the rooms after these windows
pub record RoomsAreUnderWay {D : Type 0} (earliest latest : Moment) (shows : D → Shown)
    (script : Script) (mode : Mode) (homes : List (HomeState D)) (windows : Windows) : Type 0 where
  pub count : length windows ≤ length script.windows.items
  pub homed : length homes ≡ room_count script
  pub split : AreSplit script windows
  pub each : (k : ℕ) (home : HomeState D) → slice_get homes k ≡ Some home → DayIsUnderWay
      (IsRunWithin earliest latest) shows (own_script script k) mode home (records_of k windows)

-- The serial execution of the home

-- the state of the home at a window's start: every device up at its start, or as the rooms left it
abbrev pub rooms_home_before : Script → Windows → ℕ → List Stand
rooms_home_before script windows zero = start_home script
rooms_home_before script windows (suc w) =
    unwrap_or (option_map
    (λ (ws : Listed RoomWindow). joined_home (rooms_of script).room_of (map last_of_room ws.items))
    (slice_get windows w)) []

-- the order executed from there, over the runs of the home
abbrev pub home_executed : Script → Windows → ℕ → List Item → SerialRun
home_executed script windows w order =
    serial_execution (script_runs script w) (kinds_of script)
    (rooms_home_before script windows w) order

-- the order of a window of the home agrees with its rooms: it is not refused, each committed run
-- answers as in its room, and each device is left as in its room
pub record AgreesWithRooms (script : Script) (mode : Mode) (windows : Windows) (w : ℕ)
    (ws : List RoomWindow) (order : List Item) : Type 0 where
  pub applies : (home_executed script windows w order).refused ≡ false
  pub answers : (k r : ℕ) (window : RoomWindow) → slice_get ws k ≡ Some window
      → is_committed (reading (setting_of (own_script script k) mode (records_of k windows) w)
      (history_of window.closed)) r ≡ true
      → answers_of (home_run (plain_room window.roster) r)
      (home_executed script windows w order).answers
      ≡ ((reading (setting_of (own_script script k) mode (records_of k windows) w)
      (history_of window.closed)).run r).answers ∷ []
  pub last : (k a : ℕ) (window : RoomWindow) → slice_get ws k ≡ Some window
      → IsOwnDevice (plain_room window.roster) a
      → stand_at (home_executed script windows w order).home
      (home_device (plain_room window.roster) a) ≡ stand_at window.closed.last.devices.items a

-- so does the joined order of each window, and every merge of its rooms' orders that keeps the
-- order of each room
pub record EachOrderAgrees (script : Script) (mode : Mode) (windows : Windows) : Type 0 where
  pub joined : (w : ℕ) (ws : Listed RoomWindow) → slice_get windows w ≡ Some ws
      → AgreesWithRooms script mode windows w ws.items (joined_order (map room_order ws.items))
  pub merged : (w : ℕ) (ws : Listed RoomWindow) → slice_get windows w ≡ Some ws
      → (merge : Merge) → ((k : ℕ) → own_order k merge ≡ order_of_room (map room_order ws.items) k)
      → AgreesWithRooms script mode windows w ws.items
      (home_order (room_in (map room_order ws.items)) merge)

-- Rooms, one by one

-- the windows of a room are legal windows of its own script, worked with threads at moments of the
-- clock: the first begins with every device up at its start, and each later one as the room's last
-- one ended
pub record RoomIsPlayed (earliest latest : Moment) (script : Script) (mode : Mode)
    (windows : Windows) (k : ℕ) : Type 0 where
  pub takes : List (DeviceId → ℕ)
  pub played : WindowsArePlayed (IsRunWithin earliest latest) (own_script script k) mode
      (records_of k windows) takes

-- the room's devices are left as its windows say, each in the place that it has among the devices
-- of the home
pub record RoomIsLeft {D : Type 0} (earliest latest : Moment) (shows : D → Shown) (script : Script)
    (mode : Mode) (windows : Windows) (devices : List D) (k : ℕ) : Type 0 where
  pub takes : List (DeviceId → ℕ)
  pub played : WindowsArePlayed (IsRunWithin earliest latest) (own_script script k) mode
      (records_of k windows) takes
  pub own : List D
  pub left : DevicesAreLeft shows (own_script script k) (records_of k windows) own
  pub probed : DevicesAreProbed shows takes own
  pub placed : (a : ℕ) (device : D) → slice_get own a ≡ Some device → slice_get devices
      (slice_index_or (devices_in (rooms_of script).room_of k) a 0) ≡ Some device

-- the windows of a day of rooms, up to where it is
pub record RoomsArePlayed (earliest latest : Moment) (script : Script) (mode : Mode)
    (windows : Windows) : Type 0 where
  pub count : length windows ≤ length script.windows.items
  pub split : AreSplit script windows
  pub rooms : (k : ℕ) → k < room_count script → RoomIsPlayed earliest latest script mode windows k
  pub orders : EachOrderAgrees script mode windows

-- and the devices, in the order of the script
pub record RoomsAreLeft {D : Type 0} (earliest latest : Moment) (shows : D → Shown)
    (script : Script) (mode : Mode) (windows : Windows) (devices : List D) : Type 0 where
  pub played : RoomsArePlayed earliest latest script mode windows
  pub size : length devices ≡ length script.devices.items
  pub rooms : (k : ℕ) → k < room_count script
      → RoomIsLeft earliest latest shows script mode windows devices k

-- Texts

-- what the lines of the windows tell
abbrev pub told_records : Script → Mode → Windows → List WindowRecord
told_records script mode windows =
    map (λ (ws : Listed RoomWindow). told_record (rooms_of script).room_of mode ws.items) windows
