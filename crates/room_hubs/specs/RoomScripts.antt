-- A room of the home as a home of its own: its script.
use Rattle.home_types.specs.Listed.{Listed}
use Rattle.home_types.specs.declared.kinds.Kind.TheVariants.{States}
use Rattle.room_hubs.specs.Numbers.{own_command, own_run_no}
use Rattle.room_hubs.specs.Rooms.{rooms_of}
use Rattle.room_hubs.specs.Splits.{devices_in, runs_in}
use Rattle.routine_reader.specs.Rosters.{run_of_text}
use Rattle.routine_reader.specs.Scripts.{PlainDevice, plain_device}
use Rattle.routine_reader.specs.declared.scripts.DeviceText.{DeviceText}
use Rattle.routine_reader.specs.declared.scripts.RoutineText.{RoutineText}
use Rattle.routine_reader.specs.declared.scripts.RunText.{RunText}
use Rattle.routine_reader.specs.declared.scripts.Script.{Script}
use Rattle.routine_reader.specs.declared.scripts.WindowText.{WindowText}
use Rattle.std.specs.Prelude.{List, None, [], map, option_map, slice_index_or, suc, zero, ℕ}

abbrev pub listed : {T : Type 0} → List T → Listed T
listed items = record { items = items; spare = 0 }

abbrev pub no_device_text : DeviceText
no_device_text =
    record { name = []; kind = States 0; states = listed []; start = 0; downs = listed [] }

abbrev pub no_run_text : RunText
no_run_text = record { routine = 0; follows = None }

-- the devices with these numbers
abbrev pub devices_at : List DeviceText → List ℕ → List DeviceText
devices_at devices numbers = map (λ d. slice_index_or devices d no_device_text) numbers

-- the devices of the room with this number
abbrev pub room_devices : Script → ℕ → List DeviceText
room_devices script k = devices_at script.devices.items (devices_in (rooms_of script).room_of k)

-- a routine in the own numbers of a room with these devices
abbrev pub own_routine : List ℕ → RoutineText → RoutineText
own_routine devices routine =
    record routine {
      routine =
          record { commands = listed (map (own_command devices) routine.routine.commands.items) };
    }

-- the run with this number, from 1
abbrev pub run_text_at : List RunText → ℕ → RunText
run_text_at texts zero = no_run_text
run_text_at texts (suc i) = slice_index_or texts i no_run_text

-- the same in the own numbers of a room with these runs
abbrev pub own_run_text : List ℕ → List RunText → ℕ → RunText
own_run_text mine texts r = record {
  routine = (run_text_at texts r).routine;
  follows = option_map (own_run_no mine) (run_text_at texts r).follows;
}

-- a window with these runs alone
abbrev pub own_window_text : List ℕ → WindowText → WindowText
own_window_text mine window =
    record window { runs = listed (map (own_run_text mine window.runs.items) mine) }

-- the window with the runs of a room alone
abbrev pub own_window : Script → ℕ → WindowText → WindowText
own_window script k window =
    own_window_text
    (runs_in (rooms_of script).room_of (map (run_of_text script) window.runs.items) k) window

-- the script of a room: its devices, the routines in its own numbers, and of each window its own
-- runs. A routine on devices of other rooms is in it too; no run of the room does it where no run
-- crosses
abbrev pub own_script : Script → ℕ → Script
own_script script k = record {
  devices = listed (room_devices script k);
  routines =
      listed (map (own_routine (devices_in (rooms_of script).room_of k)) script.routines.items);
  windows = listed (map (own_window script k) script.windows.items);
}

-- the same devices, whatever room their lists have
abbrev pub plain_devices : List DeviceText → List PlainDevice
plain_devices devices = map plain_device devices
