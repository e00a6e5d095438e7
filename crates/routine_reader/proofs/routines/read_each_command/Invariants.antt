use Rattle.routine_reader.proofs.routines.read_each_command.Given as goal
use Rattle.routine_reader.proofs.Prelude.{[], drop, length, map, next_command_read, plain_device, read_each, view, ◌≡◌}

abbrev pub invariant-values : goal.invariant-values
invariant-values l =
    record {
      walk :
          read_each (next_command_read l.version (map plain_device l.devices.texts.items) l.routine) [] (map view l.values)
          ≡ read_each (next_command_read l.version (map plain_device l.devices.texts.items) l.routine) l.commands.items (map view (drop l.value-index l.values));
      count : length l.commands.items ≡ l.value-index;
    }
