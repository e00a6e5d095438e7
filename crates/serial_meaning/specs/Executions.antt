-- The execution of a routine and of an order in a world, and what a call answers of it.
use Rattle.command_rules.specs.Rosters.{runs_of}
use Rattle.command_rules.specs.Serial.{SerialRun, Served, serial_execution}
use Rattle.command_rules.specs.declared.rosters.Roster.{Roster}
use Rattle.home_types.specs.Commands.{Execution, routine_execution}
use Rattle.home_types.specs.Listed.{Listed}
use Rattle.home_types.specs.declared.commands.Answer.{Answer}
use Rattle.home_types.specs.declared.commands.Routine.{Routine}
use Rattle.home_types.specs.declared.items.Item.{Item}
use Rattle.home_types.specs.declared.kinds.Kind.{Kind}
use Rattle.home_types.specs.declared.worlds.World.{World}
use Rattle.serial_meaning.specs.declared.orders.RunAnswers.{RunAnswers}
use Rattle.std.specs.Prelude.{List, None, Option, Some, if◌then◌else◌, map, option_map}

-- the execution of the whole routine in the world
abbrev pub routine_in : World → Routine → Listed Kind → Execution
routine_in world routine kinds =
    routine_execution kinds.items routine.commands.items world.devices.items

-- the serial execution of the items in the world
abbrev pub order_in : World → Listed Item → Roster → Listed Kind → SerialRun
order_in world items roster kinds =
    serial_execution (runs_of roster) kinds.items world.devices.items items.items

-- the answers of a routine, where its execution is not refused
abbrev pub routine_answers : Execution → Option (List Answer)
routine_answers x = if x.refused then None else Some x.answers

-- the answers of each run of an order, where its execution is not refused
abbrev pub order_answers : SerialRun → Option (List Served)
order_answers s = if s.refused then None else Some s.answers

-- what a run of an order answered
abbrev pub served_of : RunAnswers → Served
served_of a = record { run = a.run; answers = a.answers.items }

-- the call answers this of a routine
abbrev pub shown_answers : Option (Listed Answer) → Option (List Answer)
shown_answers told = option_map (λ answers. answers.items) told

-- the call answers this of an order
abbrev pub shown_runs : Option (Listed RunAnswers) → Option (List Served)
shown_runs told = option_map (λ runs. map served_of runs.items) told
