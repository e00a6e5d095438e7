-- Windows of the moment, and devices that were found elsewhere or are lost, between two windows.
use Rattle.day_clock.specs.Times.{time_of}
use Rattle.day_clock.specs.declared.times.When.{When}
use Rattle.handed_devices.specs.declared.devices.HandedDevice.{HandedDevice}
use Rattle.home_states.specs.LiveHomes.{IsBetweenWindows, LiveState}
use Rattle.home_states.specs.declared.homes.Phase.TheVariants.{Between, InWindow, Moving}
use Rattle.home_states.specs.declared.homes.Phase.{Phase}
use Rattle.home_states.specs.declared.refusals.NotLost.TheVariants.{Absent as IsAbsent, InWindow as IsOpen}
use Rattle.home_states.specs.declared.refusals.NotLost.{NotLost}
use Rattle.home_states.specs.declared.refusals.NotRestood.TheVariants.{Absent, InWindow as IsInWindow, NoValue}
use Rattle.home_states.specs.declared.refusals.NotRestood.{NotRestood}
use Rattle.home_types.specs.Kinds.{has_value, kind_at}
use Rattle.home_types.specs.declared.numbers.RunNo.{RunNo}
use Rattle.hub_core.specs.Homes.{HomeState}
use Rattle.hub_core.specs.Restandings.{lost, restood}
use Rattle.live_scripts.specs.Growth.{HasBegun, HasRun}
use Rattle.routine_reader.specs.declared.scripts.Script.{Script}
use Rattle.std.specs.Prelude.{List, None, Option, Some, if◌then◌else◌, length, nat_le, slice_get, true, ℕ, ◌<◌, ◌≡◌}
use Rattle.std.specs.Str.{is_utf8}

-- the time that these bytes tell, where they are a text and it is one
abbrev pub time_told : List ℕ → Option When
time_told bytes = if is_utf8 bytes then time_of bytes else None

-- a window without runs stands last in the script, at the time that the text tells
pub record HasBegunWindow (s : LiveState) (text : List ℕ) (probes k : ℕ)
    (t : LiveState) : Type 0 where
  pub at : When
  pub script : Script
  pub between : IsBetweenWindows s
  pub time : time_told text ≡ Some at
  pub begun : HasBegun s.script at probes k script
  pub is : t ≡ record s { script = script; is_draft = true; closed = None }

-- the window that was begun has one run more
pub record HasAddedRun (s : LiveState) (routine : ℕ) (follows : Option RunNo) (r : ℕ)
    (t : LiveState) : Type 0 where
  pub script : Script
  pub between : IsBetweenWindows s
  pub draft : s.is_draft ≡ true
  pub added : HasRun s.script routine follows r script
  pub is : t ≡ record s { script = script }

-- the device stands for the home where it was found, and is up
pub record WasRestood (home : HomeState HandedDevice) (d value : ℕ)
    (after : HomeState HandedDevice) : Type 0 where
  pub device : HandedDevice
  pub stood : slice_get home.devices d ≡ Some device
  pub has : has_value (kind_at home.kinds d) value ≡ true
  pub is : after ≡ restood home d (record device { value = value }) value

pub record HasRestood (s : LiveState) (d value : ℕ) (t : LiveState) : Type 0 where
  pub home : HomeState HandedDevice
  pub after : HomeState HandedDevice
  pub was : s.phase ≡ Between home
  pub restood_so : WasRestood home d value after
  pub is : t ≡ record s { phase = Between after }

-- the first reason against the device being found at the value
abbrev pub first_against_finding : HomeState HandedDevice → ℕ → ℕ → Option NotRestood
first_against_finding home d value =
    if nat_le (length home.world) d then Some Absent
    else (if has_value (kind_at home.kinds d) value then None else Some NoValue)

abbrev pub first_against_restanding : LiveState → ℕ → ℕ → Option NotRestood
first_against_restanding s d value = by_phase s.phase
  where
    by_phase : Phase → Option NotRestood
    by_phase (Between home) = first_against_finding home d value
    by_phase (InWindow k hub) = Some IsInWindow
    by_phase Moving = Some IsInWindow

-- why the home is not told so
abbrev pub MayNotRestand : LiveState → ℕ → ℕ → NotRestood → Type 0
MayNotRestand s d value why = first_against_restanding s d value ≡ Some why

-- the device is counted down, its value kept
pub record WasLost (home : HomeState HandedDevice) (d : ℕ)
    (after : HomeState HandedDevice) : Type 0 where
  pub there : d < length home.world
  pub is : after ≡ lost home d

pub record HasLost (s : LiveState) (d : ℕ) (t : LiveState) : Type 0 where
  pub home : HomeState HandedDevice
  pub after : HomeState HandedDevice
  pub was : s.phase ≡ Between home
  pub lost_so : WasLost home d after
  pub is : t ≡ record s { phase = Between after }

-- the first reason against the device being lost
abbrev pub first_against_loss : HomeState HandedDevice → ℕ → Option NotLost
first_against_loss home d = if nat_le (length home.world) d then Some IsAbsent else None

abbrev pub first_against_losing : LiveState → ℕ → Option NotLost
first_against_losing s d = by_phase s.phase
  where
    by_phase : Phase → Option NotLost
    by_phase (Between home) = first_against_loss home d
    by_phase (InWindow k hub) = Some IsOpen
    by_phase Moving = Some IsOpen

-- why the home is not told so
abbrev pub MayNotLose : LiveState → ℕ → NotLost → Type 0
MayNotLose s d why = first_against_losing s d ≡ Some why
