-- What is kept of the order of a window.
use Rattle.device_order.specs.Windows.{WindowInvariant}
use Rattle.home_types.specs.Numbers.{DeviceId}
use Rattle.lock_leasing.specs.Configurations.{Point}
use Rattle.lock_leasing.specs.Order.{InHistoryOrder}
use Rattle.lock_leasing.specs.Places.{GripsFit}
use Rattle.std.specs.Prelude.{ℕ}
use Rattle.window_order.specs.ReadWindows.{window_of}

-- the invariant of the window's devices and runs holds, the grips fit, and on each device first
-- accesses and events stand in history order
pub record OrderIsKept (p : Point) (held : DeviceId → ℕ) : Type 0 where
  pub grips : GripsFit p
  pub window : WindowInvariant p.setting.kinds (window_of p held)
  pub history : (d : DeviceId) → InHistoryOrder p.reading d
