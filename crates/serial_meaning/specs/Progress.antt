-- What the values of the code stand for while an execution is under way. None of them is refused.
use Rattle.command_rules.specs.Rosters.{Run}
use Rattle.command_rules.specs.Serial.{SerialRun, serve}
use Rattle.home_types.specs.Commands.{Effect, Execution, execute, routine_execution}
use Rattle.home_types.specs.declared.commands.Command.{Command}
use Rattle.home_types.specs.declared.items.Item.TheVariants.{Back, Failed}
use Rattle.home_types.specs.declared.items.Item.{Item}
use Rattle.home_types.specs.declared.kinds.Kind.{Kind}
use Rattle.home_types.specs.declared.numbers.DeviceNo.{DeviceNo}
use Rattle.home_types.specs.declared.worlds.Stand.{Stand}
use Rattle.serial_meaning.specs.Executions.{served_of}
use Rattle.serial_meaning.specs.declared.effects.Outcome.{Outcome}
use Rattle.serial_meaning.specs.declared.orders.OrderProgress.{OrderProgress}
use Rattle.serial_meaning.specs.declared.routines.RoutineProgress.{RoutineProgress}
use Rattle.std.specs.Prelude.{List, None, Option, Some, false, if◌then◌else◌, map, option_map, ℕ, ◌≡◌}

abbrev pub effect_of : Outcome → Effect
effect_of outcome =
    record { answer = outcome.answer; register = outcome.register; stand = outcome.stand }

abbrev pub execution_of : RoutineProgress → Execution
execution_of run = record {
  home = run.home.items;
  register = run.register;
  answers = run.answers.items;
  refused = false;
}

abbrev pub serial_run_of : OrderProgress → SerialRun
serial_run_of order =
    record { home = order.home.items; answers = map served_of order.answers.items; refused = false }

-- an execution of a routine, where it is not refused
abbrev pub accepted_execution : Execution → Option Execution
accepted_execution x = if x.refused then None else Some x

-- an execution of an order, where it is not refused
abbrev pub accepted_run : SerialRun → Option SerialRun
accepted_run s = if s.refused then None else Some s

-- this is the routine in execution after the command, or none where it is refused
abbrev pub DoesCommand : List Kind → RoutineProgress → Command → Option RoutineProgress → Type 0
DoesCommand kinds run c next =
    option_map execution_of next ≡ accepted_execution (execute kinds (execution_of run) c)

-- this is the routine in execution after all of its commands from the home, or none where it is
-- refused
abbrev pub DoesCommands : List Kind → List Stand → List Command → Option RoutineProgress → Type 0
DoesCommands kinds home commands run =
    option_map execution_of run ≡ accepted_execution (routine_execution kinds commands home)

-- this is the order in execution after the item, or none where it is refused
abbrev pub DoesItem : List Run → List Kind → OrderProgress → Item → Option OrderProgress → Type 0
DoesItem runs kinds order item next =
    option_map serial_run_of next ≡ accepted_run (serve runs kinds (serial_run_of order) item)

-- .. after a failure of the device, whatever the runs are
abbrev pub DoesFailure : OrderProgress → DeviceNo → Option OrderProgress → Type 0
DoesFailure order d next =
    (runs : List Run) (kinds : List Kind) (k : ℕ) → DoesItem runs kinds order (Failed d k) next

-- .. after a restart
abbrev pub DoesRestart : OrderProgress → DeviceNo → Option OrderProgress → Type 0
DoesRestart order d next =
    (runs : List Run) (kinds : List Kind) (k : ℕ) → DoesItem runs kinds order (Back d k) next
