-- A window is opened on a live home, and closed.
use Rattle.device_states.specs.Devices.{Shown}
use Rattle.handed_devices.specs.declared.devices.HandedDevice.{HandedDevice}
use Rattle.history_book.specs.Sealed.{BeginsWithSealed}
use Rattle.history_book.specs.Settings.{Setting, is_weak}
use Rattle.history_book.specs.declared.records.WindowRecord.{WindowRecord}
use Rattle.home_states.specs.LiveHomes.{IsWindowOf, LiveState}
use Rattle.home_states.specs.declared.homes.Phase.TheVariants.{Between, InWindow, Moving}
use Rattle.home_states.specs.declared.homes.Phase.{Phase}
use Rattle.home_states.specs.declared.refusals.NotClosed.TheVariants.{NoWindow, NotQuiet}
use Rattle.home_states.specs.declared.refusals.NotClosed.{NotClosed}
use Rattle.home_states.specs.declared.refusals.NotOpened.TheVariants.{Absent, InWindow as IsInWindow, NoMemory, TooMany}
use Rattle.home_states.specs.declared.refusals.NotOpened.{NotOpened}
use Rattle.home_types.specs.declared.modes.Mode.{Mode}
use Rattle.hub_core.specs.HubCalls.{IsOpened, WindowIsClosed}
use Rattle.hub_core.specs.Homes.{HomeState}
use Rattle.hub_core.specs.OpenHubs.{OpenHub, configuration_of}
use Rattle.hub_core.specs.Steps.{not_quiet}
use Rattle.legal_days.specs.LegalWindows.{history_of}
use Rattle.live_scripts.specs.Reasons.{IsRefusedFor}
use Rattle.routine_reader.specs.Rosters.{script_runs}
use Rattle.routine_reader.specs.declared.scripts.Script.{Script}
use Rattle.routine_reader.specs.declared.scripts.WindowText.{WindowText}
use Rattle.std.specs.Prelude.{None, Option, Some, false, if◌then◌else◌, length, nat_le, slice_get, ℕ, ◌+◌, ◌^◌, ◌≡◌}

-- what a device shows whose calls are made elsewhere
abbrev pub handed_shows : HandedDevice → Shown
handed_shows device = record {
  tag = device.number.0;
  plan = None;
  stands = device.value;
  turns = device.turns;
  drives = device.drives;
  probes = device.probes;
  faults = device.faults;
}

-- the window of the script with this number, on the home as it is
abbrev pub live_setting_on : Script → Mode → ℕ → HomeState HandedDevice → Setting
live_setting_on script mode k home =
    record { runs = script_runs script k; mode = mode; kinds = home.kinds; first = home.world }

-- that window was opened on the home, with the rounds of probes that the script says
pub record IsOpenedOn (script : Script) (mode : Mode) (k : ℕ) (home : HomeState HandedDevice)
    (hub : OpenHub HandedDevice) : Type 0 where
  pub window : WindowText
  pub at : slice_get script.windows.items k ≡ Some window
  pub opened : IsOpened handed_shows (live_setting_on script mode k home) window.probes home hub

-- the first reason against the window of this number, on the home as it is
abbrev pub first_against_home : Script → ℕ → HomeState HandedDevice → Option NotOpened
first_against_home script k home =
    if nat_le (length script.windows.items) k then Some Absent
    else (if nat_le (2 ^ 31) home.opened then Some TooMany else None)

-- why it cannot be
abbrev pub CannotOpen : Script → ℕ → HomeState HandedDevice → NotOpened → Type 0
CannotOpen script k home why = IsRefusedFor NoMemory (first_against_home script k home) why

-- the live home is in the window of this number, which was opened on the home that it was
pub record HasOpened (s : LiveState) (k : ℕ) (t : LiveState) : Type 0 where
  pub home : HomeState HandedDevice
  pub hub : OpenHub HandedDevice
  pub was : s.phase ≡ Between home
  pub opened : IsOpenedOn s.script s.mode k home hub
  pub is : t ≡ record s { phase = InWindow k hub; is_draft = false; closed = None }

-- the first reason against opening the window of this number
abbrev pub first_against_opening : LiveState → ℕ → Option NotOpened
first_against_opening s k = by_phase s.phase
  where
    by_phase : Phase → Option NotOpened
    by_phase (Between home) = first_against_home s.script k home
    by_phase (InWindow n hub) = Some IsInWindow
    by_phase Moving = Some IsInWindow

-- why it is not opened
abbrev pub MayNotOpen : LiveState → ℕ → NotOpened → Type 0
MayNotOpen s k why = IsRefusedFor NoMemory (first_against_opening s k) why

-- the live home is between two windows again, has the record of the one that was open, and goes on
-- with the numbers of device calls behind those of that window. What is closed is the script's
-- window as it is then, with the runs that have joined
pub record HasClosed (s t : LiveState) : Type 0 where
  pub number : ℕ
  pub hub : OpenHub HandedDevice
  pub home : HomeState HandedDevice
  pub closed : WindowRecord
  pub was : s.phase ≡ InWindow number hub
  pub of_script : IsWindowOf s.script s.mode number hub.setting
  pub is_closed : WindowIsClosed handed_shows hub home closed
  pub quiet : not_quiet (configuration_of hub) ≡ None
  pub sealed : is_weak hub.setting.mode ≡ false
      → BeginsWithSealed hub.setting (history_of closed) closed.order.items
  pub is : t ≡ record s {
    phase = Between home;
    tickets_before = s.tickets_before + hub.tickets;
    closed = Some (record { number = number; closed = closed });
  }

-- why it cannot be closed
abbrev pub MayNotCloseIn : Phase → NotClosed → Type 0
MayNotCloseIn (Between home) why = why ≡ NoWindow
MayNotCloseIn (InWindow k hub) NoWindow = ⊥
MayNotCloseIn (InWindow k hub) (NotQuiet left) = not_quiet (configuration_of hub) ≡ Some left
MayNotCloseIn Moving why = ⊥

abbrev pub MayNotClose : LiveState → NotClosed → Type 0
MayNotClose s why = MayNotCloseIn s.phase why
