-- A day of rooms that goes on: what was worked of it, and what the sink got.
use Rattle.day_report.specs.Days.{window_text}
use Rattle.device_states.specs.Devices.{Shown}
use Rattle.history_book.specs.declared.entries.Kept.{Kept}
use Rattle.history_book.specs.declared.records.WindowRecord.{WindowRecord}
use Rattle.home_types.specs.Listed.{Listed}
use Rattle.home_types.specs.Numbers.{Moment}
use Rattle.home_types.specs.declared.items.Item.{Item}
use Rattle.home_types.specs.declared.modes.Mode.{Mode}
use Rattle.home_types.specs.declared.worlds.Stand.{Stand}
use Rattle.hub_commands.specs.Days.{text_so_far}
use Rattle.hub_commands.specs.Finishes.{Writes, written}
use Rattle.hub_commands.specs.RoomCalls.{RoomDayEnds}
use Rattle.hub_commands.specs.RoomDays.{RoomsArePlayed, RoomsAreUnderWay, Windows, room_count, told_records}
use Rattle.hub_commands.specs.RoomDevices.{AreAllPlaced, HasRoomFor}
use Rattle.hub_commands.specs.Statuses.{status_for_fault}
use Rattle.hub_commands.specs.declared.chunks.ChunkFault.TheVariants.{Memory, Sink}
use Rattle.hub_commands.specs.declared.chunks.ChunkFault.{ChunkFault}
use Rattle.hub_commands.specs.declared.faults.Fault.TheVariants.{Memory as WantsMemory, Write}
use Rattle.hub_commands.specs.declared.faults.Fault.{Fault}
use Rattle.hub_commands.specs.declared.room_days.RoomDay.{RoomDay}
use Rattle.hub_commands.specs.declared.room_finishes.RoomFinish.{RoomFinish}
use Rattle.hub_core.specs.Homes.{AreNew, HomeState}
use Rattle.room_hubs.specs.RoomScripts.{room_devices}
use Rattle.room_hubs.specs.Rooms.{rooms_of}
use Rattle.room_hubs.specs.ToldWindows.{IsToldOfRooms}
use Rattle.room_hubs.specs.declared.rosters.RoomWindow.{RoomWindow}
use Rattle.routine_reader.specs.Rosters.{start_stand}
use Rattle.routine_reader.specs.declared.scripts.DeviceText.{DeviceText}
use Rattle.routine_reader.specs.declared.scripts.Script.{Script}
use Rattle.std.specs.Io.KnownBytes.{Appends}
use Rattle.std.specs.Prelude.{Err, List, None, Ok, Option, Result, Some, [], false, length, map, slice_get, suc, ℕ, ◌+◌, ◌++◌, ◌∷◌, ◌≡◌, ◌≤◌}

-- what the lines of a window are made from
pub record Lines : Type 0 where
  pub history : List Kept
  pub order : List Item
  pub last : List Stand

abbrev pub lines_from : WindowRecord → Lines
lines_from told = record {
  history = told.history.items;
  order = told.order.items;
  last = told.last.devices.items;
}

-- these records tell of the windows
abbrev pub AreTold : Script → Mode → Windows → List WindowRecord → Type 0
AreTold script mode windows told =
    map lines_from told ≡ map lines_from (told_records script mode windows)

-- the list takes so many windows with no memory
abbrev pub HasRoomForWindows : ℕ → Listed (Listed RoomWindow) → Type 0
HasRoomForWindows n windows = n ≤ length windows.items + windows.spare

-- the homes of the rooms, their windows, and what was told of these windows
pub record IsRoomDay {D : Type 0} (earliest latest : Moment) (shows : D → Shown) (script : Script)
    (mode : Mode) (told : Windows) (day : RoomDay D) : Type 0 where
  pub under_way : RoomsAreUnderWay earliest latest shows script mode day.homes.items
      day.windows.items
  pub told_are : AreTold script mode told day.told.items
  pub room : HasRoomFor (length day.homes.items) (length (rooms_of script).room_of) day.room
  pub windows_room : HasRoomForWindows (length script.windows.items) day.windows

-- the sink got the texts so far
pub record IsWrittenSoFar (script : Script) (mode : Mode) (sink : Writes)
    (windows : Windows) : Type 0 where
  pub text : Appends sink.held sink.holds
      (text_so_far script mode false (told_records script mode windows))
  pub calm : sink.faults_after ≡ sink.faults

-- what came of the next window: it was worked in every room, and is not told yet; or memory was
-- wanted
abbrev pub RoomNextIs : {D : Type 0} → Moment → Moment → (D → Shown) → Script → Mode → Windows
    → Result (RoomDay D) (Listed (Listed RoomWindow)) → Type 0
RoomNextIs earliest latest shows script mode before (Ok day) =
    (closed : Listed RoomWindow) × (day.windows.items ≡ before ++ closed ∷ [])
    × IsRoomDay earliest latest shows script mode before day
RoomNextIs earliest latest shows script mode before (Err windows) =
    (windows.items ≡ before) × RoomsArePlayed earliest latest script mode before

-- the day goes on with so many windows, all of them told and written, or it has ended
abbrev pub RoomGoesOn : {D : Type 0} → Moment → Moment → (D → Shown) → Script → Mode → Writes → ℕ
    → Result (RoomDay D) (RoomFinish D) → Type 0
RoomGoesOn earliest latest shows script mode sink count (Ok day) =
    (length day.windows.items ≡ count) × IsRoomDay earliest latest shows script mode
    day.windows.items day × IsWrittenSoFar script mode sink day.windows.items
RoomGoesOn earliest latest shows script mode sink count (Err finish) =
    (finish.status ≡ status_for_fault finish.fault) × RoomDayEnds earliest latest shows script mode
    sink finish.windows.items finish.devices finish.fault

-- what came of the next window was written, whatever the sink held as the day began
abbrev pub RoomHasWritten : {D : Type 0} → Moment → Moment → (D → Shown) → Script → Mode → Writes
    → Result (RoomDay D) (Listed (Listed RoomWindow)) → Result (RoomDay D) (RoomFinish D) → Type 0
RoomHasWritten {D} earliest latest shows script mode sink next result =
    (held : Option (List ℕ)) (f : ℕ) (before : Windows)
    → IsWrittenSoFar script mode (written held sink.held f sink.faults) before
    → RoomNextIs earliest latest shows script mode before next → RoomGoesOn earliest latest shows
    script mode (written held sink.holds f sink.faults_after) (suc (length before)) result

-- a home of new devices of these texts, each up at its start
pub record IsNewHome {D : Type 0} (shows : D → Shown) (texts : List DeviceText)
    (home : HomeState D) : Type 0 where
  pub kinds : home.kinds ≡ map (λ d. d.kind) texts
  pub world : home.world ≡ map start_stand texts
  pub opened : home.opened ≡ 0
  pub devices : AreNew shows texts home.devices

-- one for each room
pub record AreNewHomes {D : Type 0} (shows : D → Shown) (script : Script)
    (homes : List (HomeState D)) : Type 0 where
  pub count : length homes ≡ room_count script
  pub each : (k : ℕ) (home : HomeState D) → slice_get homes k ≡ Some home
      → IsNewHome shows (room_devices script k) home

-- the day before its first window
pub record IsFirstDay {D : Type 0} (shows : D → Shown) (script : Script)
    (day : RoomDay D) : Type 0 where
  pub homes : AreNewHomes shows script day.homes.items
  pub no_windows : day.windows.items ≡ []
  pub none_told : day.told.items ≡ []
  pub room : HasRoomFor (room_count script) (length (rooms_of script).room_of) day.room
  pub windows_room : HasRoomForWindows (length script.windows.items) day.windows

-- what came of the next window, behind windows that were told
abbrev pub IsNextRoomDay : {D : Type 0} → Moment → Moment → (D → Shown) → Script → Mode
    → Result (RoomDay D) (Listed (Listed RoomWindow)) → Type 0
IsNextRoomDay earliest latest shows script mode next =
    (before : Windows) × RoomNextIs earliest latest shows script mode before next

-- the day ends: with the devices of the homes, in the order of the script, where the sink failed,
-- and without them where memory was wanted
abbrev pub RoomStopEnds : {D : Type 0} → List ℕ → List (HomeState D) → ChunkFault
    → Option (Listed D) → Option Fault → Type 0
RoomStopEnds {D} room_of homes Sink given fault =
    (devices : Listed D) × (given ≡ Some devices) × (length devices.items ≡ length room_of)
    × AreAllPlaced room_of homes devices.items × (fault ≡ Some Write)
RoomStopEnds {D} room_of homes Memory given fault = (given ≡ None) × (fault ≡ Some WantsMemory)

-- the day ended behind its last window, whatever the sink held as it began
abbrev pub RoomHasEnded : {D : Type 0} → Moment → Moment → (D → Shown) → Script → Mode → Writes
    → RoomDay D → RoomFinish D → Type 0
RoomHasEnded earliest latest shows script mode sink last finish =
    (held : Option (List ℕ)) (f : ℕ)
    → IsWrittenSoFar script mode (written held sink.held f sink.faults) last.windows.items
    → RoomDayEnds earliest latest shows script mode
    (written held sink.holds f sink.faults_after) finish.windows.items finish.devices finish.fault

-- the window is told behind those before it, and these are its lines
pub record TellsLines (script : Script) (room_of : List ℕ) (mode : Mode) (ws : List RoomWindow)
    (told more : List WindowRecord) (lines : List ℕ) : Type 0 where
  pub last : WindowRecord
  pub tells : IsToldOfRooms room_of ws last
  pub more_is : more ≡ told ++ last ∷ []
  pub lines_are : lines ≡ window_text script (length told) last mode false
