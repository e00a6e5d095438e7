-- A home between its windows.
use Rattle.command_rules.specs.Rosters.{runs_of}
use Rattle.command_rules.specs.declared.rosters.Roster.{Roster}
use Rattle.device_gate.specs.Places.{AreNumbered}
use Rattle.device_states.specs.Devices.{Shown}
use Rattle.history_book.specs.Settings.{Setting}
use Rattle.home_types.specs.HomeStates.{stand_at}
use Rattle.home_types.specs.Kinds.{has_value, kind_at}
use Rattle.home_types.specs.Limits.{most_devices}
use Rattle.home_types.specs.Numbers.{DeviceId}
use Rattle.home_types.specs.declared.kinds.Kind.{Kind}
use Rattle.home_types.specs.declared.modes.Mode.{Mode}
use Rattle.home_types.specs.declared.worlds.Stand.{Stand}
use Rattle.legal_days.specs.Agreement.{UpDevicesStand}
use Rattle.legal_days.specs.LegalDays.{IsDeviceOf}
use Rattle.routine_reader.specs.declared.scripts.DeviceText.{DeviceText}
use Rattle.std.specs.Prelude.{IsTrue, List, Some, length, slice_get, ℕ, ◌*◌, ◌+◌, ◌<◌, ◌^◌, ◌≡◌, ◌≤◌}

-- what a home shows: its kinds, its state, its devices, and how many windows were opened on it
pub record HomeState (D : Type 0) : Type 0 where
  pub kinds : List Kind
  pub world : List Stand
  pub devices : List D
  pub opened : ℕ

-- by so much each count of a device rises in a window at most
abbrev pub window_calls : ℕ
window_calls = 2 ^ 17

-- so high the counts of a device are at most, after so many windows, and one call by which the home
-- may have been resumed
pub record CountsAreLow (opened turns probes faults : ℕ) : Type 0 where
  pub few_turns : turns ≤ opened * window_calls + 1
  pub few_probes : probes ≤ opened * window_calls + 1
  pub few_faults : faults ≤ opened * window_calls + 1

-- what is kept of a home: each device is the one of its number, stands where the state says if it
-- is up there, and was called as often as the windows allow; the state has values of the kinds
pub record HomeIsKept {D : Type 0} (shows : D → Shown) (s : HomeState D) : Type 0 where
  pub numbered : AreNumbered shows s.devices
  pub kinds : length s.kinds ≡ length s.world
  pub size : length s.devices ≡ length s.world
  pub few : length s.world ≤ most_devices
  pub opened : s.opened ≤ 2 ^ 31
  pub values : (d : DeviceId) → d < length s.world
      → IsTrue (has_value (kind_at s.kinds d) (stand_at s.world d).value)
  pub stand : UpDevicesStand shows s.devices s.world
  pub counts : (d : DeviceId) (device : D) → slice_get s.devices d ≡ Some device
      → CountsAreLow s.opened (shows device).turns (shows device).probes (shows device).faults

-- a window of the roster, on the home as it is
abbrev pub setting_for : {D : Type 0} → HomeState D → Roster → Mode → Setting
setting_for home roster mode =
    record { runs = runs_of roster; mode = mode; kinds = home.kinds; first = home.world }

-- a new device of the script: it stands at its start, and was not called
pub record IsNew {D : Type 0} (shows : D → Shown) (text : DeviceText) (d : DeviceId)
    (device : D) : Type 0 where
  pub own : IsDeviceOf shows text d device
  pub at_start : (shows device).stands ≡ text.start
  pub no_turns : (shows device).turns ≡ 0
  pub no_probes : (shows device).probes ≡ 0
  pub no_faults : (shows device).faults ≡ 0

-- one new device for each of the script's, in its order
pub record AreNew {D : Type 0} (shows : D → Shown) (texts : List DeviceText)
    (devices : List D) : Type 0 where
  pub size : length devices ≡ length texts
  pub each : (d : DeviceId) (device : D) (text : DeviceText) → slice_get devices d ≡ Some device
      → slice_get texts d ≡ Some text → IsNew shows text d device
