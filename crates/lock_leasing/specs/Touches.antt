-- What a run meets at the device of its next command.
use Rattle.command_rules.specs.Rosters.{command_at, run_no}
use Rattle.home_types.specs.Numbers.{CommandIndex, RunId}
use Rattle.home_types.specs.declared.commands.Command.{Command}
use Rattle.home_types.specs.declared.numbers.DeviceNo.{DeviceNo}
use Rattle.lock_leasing.specs.Configurations.{Configuration, Point, point_of}
use Rattle.lock_leasing.specs.Standings.{IsAtCommand, IsStandingOf, WindowParts}
use Rattle.lock_leasing.specs.Waits.{behind_wait, dirty_wait}
use Rattle.lock_leasing.specs.declared.touches.Touch.TheVariants.{Behind, Dirty, Free}
use Rattle.lock_leasing.specs.declared.touches.Touch.{Touch}
use Rattle.std.specs.Prelude.{None, Option, Some, ◌≡◌}

-- at a device: a run that holds it, and one whose write would be read
abbrev pub touch_by : DeviceNo → Option RunId → Option RunId → Touch
touch_by d (Some x) dirty = Behind d (run_no x)
touch_by d None (Some x) = Dirty d (run_no x)
touch_by d None None = Free

-- the first live run before it that holds the device, else the live run before it whose write it
-- would read
abbrev pub touch_of : Point → RunId → Command → Touch
touch_of p r c = touch_by c.device (behind_wait p r c.device.0) (dirty_wait p r c)

-- the touch is that of each configuration to which the parts belong and in which it is the run's
-- turn
abbrev pub IsTouchOf : WindowParts → RunId → CommandIndex → Touch → Type 0
IsTouchOf parts r c touch =
    (s : Configuration) → IsStandingOf s parts → IsAtCommand s r c
    → touch ≡ touch_of (point_of s) r (command_at parts.runs r c)
