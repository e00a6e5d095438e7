-- What a script says of its home and of its windows.
use Rattle.command_rules.specs.Rosters.{Run}
use Rattle.home_types.specs.declared.commands.Command.{Command}
use Rattle.home_types.specs.declared.kinds.Kind.{Kind}
use Rattle.home_types.specs.declared.worlds.Stand.{Stand}
use Rattle.routine_reader.specs.declared.scripts.DeviceText.{DeviceText}
use Rattle.routine_reader.specs.declared.scripts.RunText.{RunText}
use Rattle.routine_reader.specs.declared.scripts.Script.{Script}
use Rattle.std.specs.Prelude.{List, [], map, option_map, slice_get, true, unwrap_or, ℕ}

-- the kinds of the home's devices
abbrev pub kinds_of : Script → List Kind
kinds_of script = map (λ d. d.kind) script.devices.items

abbrev pub start_stand : DeviceText → Stand
start_stand d = record { value = d.start; up = true }

-- the home with every device up at its start
abbrev pub start_home : Script → List Stand
start_home script = map start_stand script.devices.items

abbrev pub routine_commands : Script → ℕ → List Command
routine_commands script i =
    unwrap_or (option_map (λ t. t.routine.commands.items) (slice_get script.routines.items i)) []

abbrev pub run_of_text : Script → RunText → Run
run_of_text script t = record { commands = routine_commands script t.routine; follows = t.follows }

-- the runs of the window with this number, from 0, with the commands of their routines
abbrev pub script_runs : Script → ℕ → List Run
script_runs script k =
    unwrap_or
    (option_map (λ t. map (run_of_text script) t.runs.items) (slice_get script.windows.items k)) []
