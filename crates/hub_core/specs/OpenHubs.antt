-- What an open hub shows, and the configuration that it stands for.
use Rattle.device_gate.specs.declared.gates.Place.TheVariants.{Home, Out}
use Rattle.device_gate.specs.declared.gates.Place.{Place}
use Rattle.history_book.specs.Readings.{Reading}
use Rattle.history_book.specs.Settings.{Setting}
use Rattle.history_book.specs.declared.entries.Kept.{Kept}
use Rattle.home_types.specs.Numbers.{DeviceId, Moment}
use Rattle.hub_core.specs.HubSteps.{Carried, HubState}
use Rattle.lock_leasing.specs.Configurations.{Configuration}
use Rattle.std.specs.Prelude.{List, None, Option, Some, slice_get, ℕ}
use Rattle.window_devices.specs.KnownDevices.{grip_in, progress_at}
use Rattle.window_devices.specs.declared.known.DeviceProgress.{DeviceProgress}
use Rattle.window_devices.specs.declared.known.Events.{Events}

-- what a hub shows: what is fixed, the rounds of probes and how many windows were opened before,
-- the history and the last moment, what is known of each device, and its place
pub record OpenHub (D : Type 0) : Type 0 where
  pub setting : Setting
  pub rounds : ℕ
  pub opened : ℕ
  pub history : List Kept
  pub moment : Moment
  pub devices : List DeviceProgress
  pub places : List (Place D)
  pub tickets : ℕ

-- how often the device failed and came back, by the history
abbrev pub events_in : Reading → DeviceId → Events
events_in n d = record { fell = n.fell d; rose = n.rose d }

-- what that grip carries
abbrev pub carried_in : {D : Type 0} → Option (Place D) → Option Carried
carried_in None = None
carried_in (Some (Home device)) = None
carried_in (Some (Out slip task)) = Some (record { slip = slip; task = task })

abbrev pub configuration_of : {D : Type 0} → OpenHub D → Configuration
configuration_of s = record {
  setting = s.setting;
  history = s.history;
  moment = s.moment;
  probes = λ d. (progress_at s.devices d).probes_left;
  grips = λ d. grip_in (slice_get s.places d) (progress_at s.devices d).purpose;
}

abbrev pub hub_state_of : {D : Type 0} → OpenHub D → HubState
hub_state_of s =
    record { configuration = configuration_of s; carried = λ d. carried_in (slice_get s.places d) }

-- where the device stands, or stood as it went out
abbrev pub held_in : {D : Type 0} → OpenHub D → DeviceId → ℕ
held_in s d = (progress_at s.devices d).held
