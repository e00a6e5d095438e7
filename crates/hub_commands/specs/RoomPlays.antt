-- The next window of every room: opened, worked and closed.
use Rattle.device_states.specs.Devices.{Shown}
use Rattle.home_types.specs.Numbers.{Moment}
use Rattle.home_types.specs.declared.modes.Mode.{Mode}
use Rattle.hub_core.specs.HubCalls.{IsOpened}
use Rattle.hub_core.specs.Homes.{HomeIsKept, HomeState, setting_for}
use Rattle.hub_core.specs.OpenHubs.{OpenHub}
use Rattle.hub_core.specs.Openings.{MayOpen}
use Rattle.hub_threads.specs.WorkedWindows.{IsWorked}
use Rattle.hub_threads.specs.declared.rooms.RoomDone.{RoomDone}
use Rattle.hub_threads.specs.declared.rooms.RoomHub.{RoomHub}
use Rattle.room_hubs.specs.Numbers.{plain_room}
use Rattle.room_hubs.specs.Splits.{script_split}
use Rattle.room_hubs.specs.declared.rosters.RoomRoster.{RoomRoster}
use Rattle.room_hubs.specs.declared.rosters.RoomWindow.{RoomWindow}
use Rattle.routine_reader.specs.declared.scripts.Script.{Script}
use Rattle.std.specs.Prelude.{List, Ok, Some, length, map, slice_get, ℕ, ◌≡◌}

-- each roster may be opened on the home in its place
abbrev pub MayAllOpen : {D : Type 0} → Mode → ℕ → List RoomRoster → List (HomeState D) → Type 0
MayAllOpen {D} mode rounds rosters homes =
    (k : ℕ) (roster : RoomRoster) (home : HomeState D) → slice_get rosters k ≡ Some roster
    → slice_get homes k ≡ Some home
    → MayOpen (setting_for home roster.roster mode) rounds home.opened

-- the room's window was opened on this home
abbrev pub IsRoomOpened : {D : Type 0} → (D → Shown) → Mode → ℕ → HomeState D → RoomHub D → Type 0
IsRoomOpened shows mode rounds home room =
    IsOpened shows (setting_for home room.roster.roster mode) rounds home room.hub

-- the windows of all rooms were opened
pub record AreOpened {D : Type 0} (shows : D → Shown) (mode : Mode) (rounds : ℕ)
    (rosters : List RoomRoster) (homes : List (HomeState D))
    (hubs : List (RoomHub D)) : Type 0 where
  pub rosters_are : map (λ room. room.roster) hubs ≡ rosters
  pub count : length homes ≡ length hubs
  pub each : (k : ℕ) (home : HomeState D) (room : RoomHub D) → slice_get homes k ≡ Some home
      → slice_get hubs k ≡ Some room → IsRoomOpened shows mode rounds home room

-- the homes and the windows of the rooms that were worked
pub record AreTakenApart {D : Type 0} (shows : D → Shown) (done : List (RoomDone D))
    (homes : List (HomeState D)) (windows : List RoomWindow) : Type 0 where
  pub homes_are : homes ≡ map (λ room. room.home) done
  pub windows_are : windows ≡ map (λ room. room.window) done
  pub kept : (k : ℕ) (home : HomeState D) → slice_get homes k ≡ Some home → HomeIsKept shows home

-- a room's window was opened on its home, and worked by threads
pub record RoomWent {D : Type 0} (shows : D → Shown) (earliest latest : Moment) (mode : Mode)
    (rounds : ℕ) (before after : HomeState D) (window : RoomWindow) : Type 0 where
  pub hub : OpenHub D
  pub opened : IsOpened shows (setting_for before window.roster.roster mode) rounds before hub
  pub worked : IsWorked shows earliest latest hub after window.closed
  pub kept : HomeIsKept shows after

-- the script's window of this number was worked in every room, with so many rounds of probes
pub record RoomsWent {D : Type 0} (shows : D → Shown) (earliest latest : Moment) (script : Script)
    (mode : Mode) (number rounds : ℕ) (before after : List (HomeState D))
    (windows : List RoomWindow) : Type 0 where
  pub split : script_split script number ≡ Ok (map (λ x. plain_room x.roster) windows)
  pub homed : length after ≡ length before
  pub count : length windows ≡ length before
  pub each : (k : ℕ) (x y : HomeState D) (window : RoomWindow) → slice_get before k ≡ Some x
      → slice_get after k ≡ Some y → slice_get windows k ≡ Some window
      → RoomWent shows earliest latest mode rounds x y window
