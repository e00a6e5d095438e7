-- What the numbers of a C program stand for.
use Rattle.device_gate.specs.declared.slips.Told.TheVariants.{Died, Sensed, Worked}
use Rattle.device_gate.specs.declared.slips.Told.{Told}
use Rattle.command_rules.specs.Rosters.{run_no}
use Rattle.home_types.specs.declared.modes.Mode.{Mode}
use Rattle.home_types.specs.declared.modes.Scheduler.TheVariants.{Fcfs, JustInTime, Timeline}
use Rattle.home_types.specs.declared.modes.Visibility.TheVariants.{Eventual, Global, Partitioned, Weak}
use Rattle.home_types.specs.declared.modes.Visibility.{Visibility}
use Rattle.home_types.specs.declared.numbers.RunNo.{RunNo}
use Rattle.std.specs.Prelude.{None, Option, Some, if◌then◌else◌, min, ℕ, ◌==◌}

-- a device's number; a number above those of devices stays none
abbrev pub device_number : ℕ → ℕ
device_number device = min device 65535

-- the run that is to be followed; 0 is none
abbrev pub followed : ℕ → Option RunNo
followed run = (if run == 0 then None else Some (run_no run))

abbrev pub in_turn : Visibility → ℕ → Option Mode
in_turn model scheduler =
    (if scheduler == 0 then Some (record { model = model; scheduler = Fcfs }) else None)

abbrev pub eventual : ℕ → Option Mode
eventual scheduler =
    (if scheduler == 0 then Some (record { model = Eventual; scheduler = Fcfs })
    else (if scheduler == 1 then Some (record { model = Eventual; scheduler = JustInTime })
    else (if scheduler == 2 then Some (record { model = Eventual; scheduler = Timeline })
    else None)))

-- models: 0 eventual, 1 partitioned strict, 2 global strict, 3 weak; schedulers: 0 first come first
-- served, 1 just in time, 2 timeline, and those but the first with the eventual model alone
abbrev pub mode_of : ℕ → ℕ → Option Mode
mode_of model scheduler =
    (if model == 0 then eventual scheduler
    else (if model == 1 then in_turn Partitioned scheduler
    else (if model == 2 then in_turn Global scheduler
    else (if model == 3 then in_turn Weak scheduler
    else None))))

-- what the device told: 1 that it worked, 2 the value found, 3 nothing
abbrev pub told_as : ℕ → ℕ → Option Told
told_as answer value =
    (if answer == 1 then Some Worked
    else (if answer == 2 then Some (Sensed value)
    else (if answer == 3 then Some Died
    else None)))
