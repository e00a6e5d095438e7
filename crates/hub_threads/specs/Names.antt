-- What the name of a window says.
use Rattle.device_states.specs.Devices.{Plan}
use Rattle.history_book.specs.Settings.{Setting}
use Rattle.home_types.specs.Numbers.{DeviceId, Moment}
use Rattle.home_types.specs.declared.modes.Scheduler.TheVariants.{Fcfs}
use Rattle.home_types.specs.declared.modes.Visibility.TheVariants.{Weak}
use Rattle.window_devices.specs.KnownDevices.{no_counts}
use Rattle.window_devices.specs.declared.known.DeviceCallCounts.{DeviceCallCounts}
use Rattle.std.specs.Prelude.{None, [], ℕ, ◌≡◌, ◌≤◌}

-- what the hub of a window keeps from its opening on, and between which moments it is worked
pub record NamedWindow : Type 0 where
  -- the runs, the mode, the kinds of the devices, and the first state
  pub setting : Setting
  pub rounds : ℕ
  -- how many windows were opened before
  pub opened : ℕ
  -- the counts of each device as the window was opened
  pub opening : DeviceId → DeviceCallCounts
  pub plans : DeviceId → Plan
  pub earliest : Moment
  pub latest : Moment

-- a window with no run and no device
abbrev pub no_window : NamedWindow
no_window = record {
  setting = record {
    runs = [];
    mode = record { model = Weak; scheduler = Fcfs };
    kinds = [];
    first = [];
  };
  rounds = 0;
  opened = 0;
  opening = λ d. no_counts;
  plans = λ d. None;
  earliest = 0;
  latest = 0;
}

-- the moment is one of the window's
abbrev pub IsWithin : NamedWindow → Moment → Type 0
IsWithin window moment = (window.earliest ≤ moment) × (moment ≤ window.latest)

-- a clock with this least and this greatest moment is the window's
abbrev pub IsTimedBy : NamedWindow → Moment → Moment → Type 0
IsTimedBy window earliest latest = (earliest ≡ window.earliest) × (latest ≡ window.latest)
