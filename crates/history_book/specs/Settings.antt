-- What is fixed while a window is open: its runs, its mode, and the kinds and the first state of
-- the home's devices.
use Rattle.command_rules.specs.Rosters.{Run, touches}
use Rattle.home_types.specs.Numbers.{DeviceId, RunId}
use Rattle.home_types.specs.declared.kinds.Kind.{Kind}
use Rattle.home_types.specs.declared.modes.Mode.{Mode}
use Rattle.home_types.specs.declared.modes.Scheduler.{Scheduler}
use Rattle.home_types.specs.declared.modes.Scheduler.TheVariants.{Fcfs}
use Rattle.home_types.specs.declared.modes.Visibility.{Visibility}
use Rattle.home_types.specs.declared.modes.Visibility.TheVariants.{Eventual, Global, Partitioned, Weak}
use Rattle.home_types.specs.declared.worlds.Stand.{Stand}
use Rattle.std.specs.List.{range_with_len}
use Rattle.std.specs.Prelude.{Bool, List, false, filter, length, nat_lt, true}

pub record Setting : Type 0 where
  pub runs : List Run
  pub mode : Mode
  pub kinds : List Kind
  pub first : List Stand

-- the numbers of the runs, from 1
abbrev pub run_numbers : Setting → List RunId
run_numbers w = range_with_len 1 (length w.runs)

-- the numbers of the home's devices, from 0
abbrev pub device_numbers : Setting → List DeviceId
device_numbers w = range_with_len 0 (length w.first)

abbrev pub is_device : Setting → DeviceId → Bool
is_device w d = nat_lt d (length w.first)

-- the devices of a run, ascending
abbrev pub devices_of : Setting → RunId → List DeviceId
devices_of w r = filter (touches w.runs r) (device_numbers w)

abbrev pub is_weak : Mode → Bool
is_weak mode = weak mode.model
  where
    weak : Visibility → Bool
    weak Weak = true
    weak Global = false
    weak Partitioned = false
    weak Eventual = false

-- the two models under which runs do not overlap
abbrev pub is_strict : Mode → Bool
is_strict mode = strict mode.model
  where
    strict : Visibility → Bool
    strict Weak = false
    strict Global = true
    strict Partitioned = true
    strict Eventual = false

-- by what a run is placed: models other than the eventual one take first come first served
abbrev pub scheduler_of : Mode → Scheduler
scheduler_of mode = of_model mode.model mode.scheduler
  where
    of_model : Visibility → Scheduler → Scheduler
    of_model Weak s = Fcfs
    of_model Global s = Fcfs
    of_model Partitioned s = Fcfs
    of_model Eventual s = s
