-- When a window may be opened on a home.
use Rattle.command_rules.specs.Rosters.{commands_of, followed_by}
use Rattle.history_book.specs.Settings.{Setting, is_device}
use Rattle.home_types.specs.Kinds.{has_value, kind_at}
use Rattle.home_types.specs.Limits.{most_commands, most_devices, most_probes, most_runs}
use Rattle.home_types.specs.Numbers.{CommandIndex, RunId}
use Rattle.home_types.specs.declared.commands.Command.{Command}
use Rattle.home_types.specs.declared.commands.Job.{Job}
use Rattle.home_types.specs.declared.commands.Job.TheVariants.{Check, Load, Set, Store}
use Rattle.home_types.specs.declared.kinds.Kind.{Kind}
use Rattle.home_types.specs.declared.modes.Mode.{Mode}
use Rattle.home_types.specs.declared.modes.Scheduler.{Scheduler}
use Rattle.home_types.specs.declared.modes.Scheduler.TheVariants.{Fcfs, JustInTime, Timeline}
use Rattle.home_types.specs.declared.modes.Visibility.{Visibility}
use Rattle.home_types.specs.declared.modes.Visibility.TheVariants.{Eventual, Global, Partitioned, Weak}
use Rattle.home_types.specs.declared.numbers.RunNo.{RunNo}
use Rattle.std.specs.Prelude.{Bool, IsTrue, Some, false, length, nat_lt, slice_get, true, ℕ, ◌&&◌, ◌<◌, ◌^◌, ◌≡◌, ◌≤◌}

-- the values that the job sets or checks for are values of the kind
abbrev pub names_values_of : Kind → Job → Bool
names_values_of kind (Set v) = has_value kind v
names_values_of kind (Check v) = has_value kind v
names_values_of kind Load = true
names_values_of kind Store = true

abbrev pub is_fcfs : Scheduler → Bool
is_fcfs Fcfs = true
is_fcfs JustInTime = false
is_fcfs Timeline = false

-- models other than the eventual one go first come first served
abbrev pub is_mode : Mode → Bool
is_mode mode = by_model mode.model
  where
    by_model : Visibility → Bool
    by_model Weak = is_fcfs mode.scheduler
    by_model Global = is_fcfs mode.scheduler
    by_model Partitioned = is_fcfs mode.scheduler
    by_model Eventual = true

-- a window of these runs may be opened on the home that is as the setting says, with so many rounds
-- of probes, after so many windows
pub record MayOpen (w : Setting) (rounds opened : ℕ) : Type 0 where
  pub few_devices : length w.first ≤ most_devices
  pub few_runs : length w.runs ≤ most_runs
  pub few_commands : (r : RunId) → length (commands_of w.runs r) ≤ most_commands
  -- each command is on a device of the home, and names values of its kind
  pub homed : (r : RunId) (k : CommandIndex) (c : Command) → slice_get (commands_of w.runs r) k
      ≡ Some c
      → IsTrue (is_device w c.device.0 && names_values_of (kind_at w.kinds c.device.0) c.job)
  -- a run follows an earlier run, or none
  pub follows : (r : RunId) (f : RunNo) → followed_by w.runs r ≡ Some f
      → IsTrue (nat_lt 0 f.0 && nat_lt f.0 r)
  pub mode : IsTrue (is_mode w.mode)
  pub few_rounds : rounds ≤ most_probes
  pub few_windows : opened < 2 ^ 31
