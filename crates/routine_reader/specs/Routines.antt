-- The reading of a routine.
use Rattle.home_types.specs.declared.commands.Command.{Command}
use Rattle.routine_reader.specs.Commands.{next_command_read}
use Rattle.routine_reader.specs.Forms.{has_form, items_in, needed}
use Rattle.routine_reader.specs.Names.{new_name}
use Rattle.routine_reader.specs.Scripts.{PlainDevice, PlainRoutine}
use Rattle.routine_reader.specs.Spots.{at}
use Rattle.routine_reader.specs.Walks.{read_each, within_limit, ◌>>=◌}
use Rattle.routine_reader.specs.declared.faults.Count.TheVariants as count
use Rattle.routine_reader.specs.declared.faults.Part.TheVariants as part
use Rattle.routine_reader.specs.declared.faults.ReadFault.TheVariants.{Shape}
use Rattle.routine_reader.specs.declared.faults.ReadFault.{ReadFault}
use Rattle.routine_reader.specs.declared.forms.Form.TheVariants as form
use Rattle.serde_json.specs.Data.{Data}
use Rattle.serde_json.specs.Find.{as_str}
use Rattle.std.specs.Prelude.{Err, List, None, Ok, Option, Result, Some, [], codes, if◌then◌else◌, length, map, ok_or, ℕ, ◌+◌, ◌==◌}

-- the members of a routine, each of its type
pub record RoutineMembers : Type 0 where
  pub name : List ℕ
  pub commands : List Data

abbrev pub routine_with : Option (List ℕ) → Option (List Data) → Option RoutineMembers
routine_with (Some name) (Some commands) = Some (record { name = name; commands = commands })
routine_with name commands = None

abbrev pub routine_members : Data → Option RoutineMembers
routine_members value =
    if has_form form.Routine value then
    (routine_with (needed as_str (codes "name") value) (needed items_in (codes "commands") value))
    else None

-- 1 to 64 commands
unfoldable pub commands_reading : ℕ → List PlainDevice → ℕ → List Data
    → Result (List Command) ReadFault
commands_reading version devices routine values =
    if length values == 0 then Err (Shape (at part.Routine routine))
    else do
      few ← within_limit count.Commands (length values)
      read_each (next_command_read version devices routine) [] values

abbrev pub routine_names : List PlainRoutine → List (List ℕ)
routine_names routines = map (λ routine. routine.name) routines

-- the routine with this number of a script of this version, after routines with these names
unfoldable pub routine_reading : ℕ → List PlainDevice → ℕ → List (List ℕ) → Data
    → Result PlainRoutine ReadFault
routine_reading version devices number names value =
    let spot = at part.Routine number in do
      members ← ok_or (routine_members value) (Shape spot)
      name ← new_name spot names members.name
      commands ← commands_reading version devices number members.commands
      Ok (record { name = name; commands = commands })

abbrev pub next_routine : ℕ → List PlainDevice → List PlainRoutine → Data
    → Result PlainRoutine ReadFault
next_routine version devices earlier value =
    routine_reading version devices (length earlier + 1) (routine_names earlier) value
