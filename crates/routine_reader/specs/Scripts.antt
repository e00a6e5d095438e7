-- The plain content of a script.
use Rattle.day_clock.specs.declared.times.When.{When}
use Rattle.home_types.specs.declared.commands.Command.{Command}
use Rattle.home_types.specs.declared.kinds.Kind.{Kind}
use Rattle.routine_reader.specs.declared.scripts.DeviceText.{DeviceText}
use Rattle.routine_reader.specs.declared.scripts.RoutineText.{RoutineText}
use Rattle.routine_reader.specs.declared.scripts.RunText.{RunText}
use Rattle.routine_reader.specs.declared.scripts.Script.{Script}
use Rattle.routine_reader.specs.declared.scripts.WindowText.{WindowText}
use Rattle.std.specs.Prelude.{List, map, ℕ}

-- a device: its name, its kind, the names of its states, where it starts, and the calls at which it
-- is down
pub record PlainDevice : Type 0 where
  pub name : List ℕ
  pub kind : Kind
  pub states : List (List ℕ)
  pub start : ℕ
  pub downs : List (ℕ × ℕ)

-- a routine: its name and its commands
pub record PlainRoutine : Type 0 where
  pub name : List ℕ
  pub commands : List Command

-- a window: its time, the seed and the rounds of probes of its replay, the turns, and the runs
pub record PlainWindow : Type 0 where
  pub at : When
  pub seed : ℕ
  pub probes : ℕ
  pub turns : List ℕ
  pub runs : List RunText

-- a script: its devices, routines and windows, each in the order of their numbers
pub record PlainScript : Type 0 where
  pub devices : List PlainDevice
  pub routines : List PlainRoutine
  pub windows : List PlainWindow

abbrev pub plain_device : DeviceText → PlainDevice
plain_device device =
    record {
      name = device.name;
      kind = device.kind;
      states = device.states.items;
      start = device.start;
      downs = device.downs.items;
    }

abbrev pub plain_routine : RoutineText → PlainRoutine
plain_routine routine = record { name = routine.name; commands = routine.routine.commands.items }

abbrev pub plain_window : WindowText → PlainWindow
plain_window window =
    record {
      at = window.at;
      seed = window.seed;
      probes = window.probes;
      turns = window.turns.items;
      runs = window.runs.items;
    }

-- what a script holds, whatever room its lists have
abbrev pub plain_script : Script → PlainScript
plain_script script =
    record {
      devices = map plain_device script.devices.items;
      routines = map plain_routine script.routines.items;
      windows = map plain_window script.windows.items;
    }
