-- A window that was worked in some way, from the hub that was opened to the home that it leaves.
use Rattle.device_gate.specs.Places.{AreNumbered}
use Rattle.device_gate.specs.declared.gates.Place.TheVariants.{Home}
use Rattle.device_states.specs.Devices.{Shown}
use Rattle.history_book.specs.Settings.{Setting}
use Rattle.history_book.specs.declared.records.WindowRecord.{WindowRecord}
use Rattle.home_types.specs.Numbers.{DeviceId}
use Rattle.hub_core.specs.Homes.{HomeState}
use Rattle.hub_core.specs.HubCalls.{HomeAfter, RunsHaveEnded}
use Rattle.hub_core.specs.OpenHubs.{OpenHub}
use Rattle.legal_days.specs.LegalWindows.{IsLegalWindow}
use Rattle.std.specs.Prelude.{Some, length, slice_get, ℕ, ◌≡◌}

-- the hub's window was worked in this way, which is told of its setting, its record and the probes
-- that were taken: the record is legal, every run has ended, and the home has each device in the
-- place of its number, with the plan that it had
pub record WindowIsWorked {D : Type 0} (works : Setting → WindowRecord → (DeviceId → ℕ) → Type 0)
    (shows : D → Shown) (s : OpenHub D) (home : HomeState D) (closed : WindowRecord) : Type 0 where
  pub taken : DeviceId → ℕ
  pub way : works s.setting closed taken
  pub legal : IsLegalWindow s.setting closed
  pub ends : RunsHaveEnded s.setting closed
  pub after : HomeAfter shows s closed taken home
  pub size : length home.devices ≡ length s.places
  pub numbered : AreNumbered shows home.devices
  pub plans : (d : DeviceId) (x y : D) → slice_get s.places d ≡ Some (Home x)
      → slice_get home.devices d ≡ Some y → (shows y).plan ≡ (shows x).plan
