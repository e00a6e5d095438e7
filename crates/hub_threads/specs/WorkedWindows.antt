-- A window that threads worked, from the hub that was opened to the home that it leaves.
use Rattle.device_states.specs.Devices.{Shown}
use Rattle.history_book.specs.Settings.{Setting}
use Rattle.history_book.specs.declared.records.WindowRecord.{WindowRecord}
use Rattle.home_types.specs.Numbers.{DeviceId, Moment}
use Rattle.hub_core.specs.Homes.{HomeState}
use Rattle.hub_core.specs.OpenHubs.{OpenHub}
use Rattle.window_devices.specs.KnownDevices.{progress_at}
use Rattle.hub_core.specs.WindowWays.{WindowIsWorked}
use Rattle.hub_threads.specs.Moments.{AreWithin}
use Rattle.std.specs.Prelude.{length, ℕ, ◌<◌, ◌≡◌}

-- no probe of a device is left
pub record NoneIsLeft {D : Type 0} (s : OpenHub D) : Type 0 where
  pub none : (d : DeviceId) → d < length s.setting.first → (progress_at s.devices d).probes_left ≡ 0

-- a window with so many probes of each device, run by threads: each moment that the record tells is
-- from the clock's earliest to its latest, and all the probes were taken
pub record IsRunBy (probes : ℕ) (earliest latest : Moment) (w : Setting) (closed : WindowRecord)
    (taken : DeviceId → ℕ) : Type 0 where
  pub moments : AreWithin earliest latest closed.history.items
  pub took : (d : DeviceId) → taken d ≡ probes

-- the hub's window was worked by threads, at moments from the clock's earliest to its latest
abbrev pub IsWorked : {D : Type 0} → (D → Shown) → Moment → Moment → OpenHub D → HomeState D
    → WindowRecord → Type 0
IsWorked shows earliest latest s home closed =
    WindowIsWorked (IsRunBy s.rounds earliest latest) shows s home closed
