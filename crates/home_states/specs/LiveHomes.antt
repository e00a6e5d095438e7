-- A home that is stepped from outside, and what is kept of it.
use Rattle.handed_devices.specs.declared.devices.HandedDevice.{HandedDevice}
use Rattle.history_book.specs.Settings.{Setting}
use Rattle.home_states.specs.Tickets.{TicketsAreLow, tickets_in}
use Rattle.home_states.specs.declared.homes.ClosedWindow.{ClosedWindow}
use Rattle.home_states.specs.declared.homes.Phase.TheVariants.{Between, InWindow, Moving}
use Rattle.home_states.specs.declared.homes.Phase.{Phase}
use Rattle.home_types.specs.declared.modes.Mode.{Mode}
use Rattle.hub_core.specs.Homes.{HomeState}
use Rattle.hub_core.specs.OpenHubs.{OpenHub}
use Rattle.hub_core.specs.Openings.{is_mode}
use Rattle.routine_reader.specs.Readings.{script_reading}
use Rattle.routine_reader.specs.Rosters.{kinds_of, script_runs, start_home}
use Rattle.routine_reader.specs.Scripts.{plain_script}
use Rattle.routine_reader.specs.Sound.{IsSound}
use Rattle.routine_reader.specs.declared.scripts.Script.{Script}
use Rattle.std.specs.Prelude.{Bool, IfSome, IsTrue, List, None, Ok, Option, Some, [], false, length, ℕ, ⊤, ◌+◌, ◌<◌, ◌≡◌}

-- what a live home shows: its script, the mode of its windows, what it is in, how many device
-- calls were handed out before the window that is open, whether the last window was begun and none
-- opened since, the window closed last, and the text made last
pub record LiveState : Type 0 where
  pub script : Script
  pub mode : Mode
  pub phase : Phase
  pub tickets_before : ℕ
  pub is_draft : Bool
  pub closed : Option ClosedWindow
  pub text : List ℕ

-- the window is that of the script with this number, in this mode: it has its runs, those with it
-- that have joined, and devices of the script's kinds
pub record IsWindowOf (script : Script) (mode : Mode) (k : ℕ) (w : Setting) : Type 0 where
  pub runs : w.runs ≡ script_runs script k
  pub mode_is : w.mode ≡ mode
  pub kinds : w.kinds ≡ kinds_of script
  pub size : length w.first ≡ length w.kinds

-- the home is of the script's kinds of devices, or the window is the script's; one of both is there
abbrev pub FitsScript : Script → Mode → Phase → Type 0
FitsScript script mode (Between home) = home.kinds ≡ kinds_of script
FitsScript script mode (InWindow k hub) = IsWindowOf script mode k hub.setting
FitsScript script mode Moving = ⊥

-- the number of the window that is open, or else of the one closed last
abbrev pub closed_number : Option ClosedWindow → Option ℕ
closed_number None = None
closed_number (Some closed) = Some closed.number

abbrev pub number_in : Phase → Option ClosedWindow → Option ℕ
number_in (Between home) closed = closed_number closed
number_in (InWindow k hub) closed = Some k
number_in Moving closed = None

abbrev pub number_told : LiveState → Option ℕ
number_told s = number_in s.phase s.closed

-- what the type of a live home keeps
pub record IsLive (s : LiveState) : Type 0 where
  pub sound : IsSound (plain_script s.script)
  pub goes : IsTrue (is_mode s.mode)
  pub fits : FitsScript s.script s.mode s.phase
  -- the window that can be told of is one of the script
  pub told : IfSome (number_told s) (λ k. k < length s.script.windows.items)
  pub tickets : TicketsAreLow s.tickets_before s.phase

-- how many device calls the home has handed out, in all its windows
abbrev pub tickets_given : LiveState → ℕ
tickets_given s = s.tickets_before + tickets_in s.phase

-- .. and the home counts them
pub record IsCounted (s : LiveState) (tickets : ℕ) : Type 0 where
  pub live : IsLive s
  pub count : tickets ≡ tickets_given s

-- the home is between two windows
abbrev pub IsBetweenIn : Phase → Type 0
IsBetweenIn (Between home) = ⊤
IsBetweenIn (InWindow k hub) = ⊥
IsBetweenIn Moving = ⊥

abbrev pub IsBetweenWindows : LiveState → Type 0
IsBetweenWindows s = IsBetweenIn s.phase

-- a window is open
abbrev pub IsOpenIn : Phase → Type 0
IsOpenIn (Between home) = ⊥
IsOpenIn (InWindow k hub) = ⊤
IsOpenIn Moving = ⊥

abbrev pub IsWindowOpen : LiveState → Type 0
IsWindowOpen s = IsOpenIn s.phase

-- the open window, where there is one
abbrev pub hub_of : Phase → Option (OpenHub HandedDevice)
hub_of (Between home) = None
hub_of (InWindow k hub) = Some hub
hub_of Moving = None

abbrev pub hub_in : LiveState → Option (OpenHub HandedDevice)
hub_in s = hub_of s.phase

-- a live home as it begins: the bytes are read as its script, every device is up at its start, and
-- no window was opened, so no device call handed out
pub record BeginsAs (bytes : List ℕ) (mode : Mode) (s : LiveState) : Type 0 where
  pub home : HomeState HandedDevice
  pub reading : script_reading bytes ≡ Ok (plain_script s.script)
  pub mode_is : s.mode ≡ mode
  pub phase : s.phase ≡ Between home
  pub world : home.world ≡ start_home s.script
  pub opened : home.opened ≡ 0
  pub tickets : s.tickets_before ≡ 0
  pub draft : s.is_draft ≡ false
  pub closed : s.closed ≡ None
  pub text : s.text ≡ []
