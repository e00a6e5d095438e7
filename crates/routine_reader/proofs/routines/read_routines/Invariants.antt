use Rattle.routine_reader.proofs.routines.read_routines.Given as goal
use Rattle.routine_reader.proofs.Prelude.{[], drop, length, map, next_routine, plain_device, plain_routine, read_each, routine_names, view, ◌≡◌}

abbrev pub invariant-values : goal.invariant-values
invariant-values l =
    record {
      walk :
          read_each (next_routine l.version (map plain_device l.devices.texts.items)) [] (map view l.values)
          ≡ read_each (next_routine l.version (map plain_device l.devices.texts.items)) (map plain_routine l.texts.items) (map view (drop l.value-index l.values));
      names : l.names ≡ routine_names (map plain_routine l.texts.items);
      count : length l.texts.items ≡ l.value-index;
    }
