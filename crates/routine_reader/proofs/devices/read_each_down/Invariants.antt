use Rattle.routine_reader.proofs.devices.read_each_down.Given as goal
use Rattle.routine_reader.proofs.Prelude.{[], drop, length, map, next_down, read_each, view, ◌≡◌}

abbrev pub invariant-values : goal.invariant-values
invariant-values l =
    record {
      walk :
          read_each (next_down l.device) [] (map view l.values)
          ≡ read_each (next_down l.device) l.downs.items (map view (drop l.value-index l.values));
      count : length l.downs.items ≡ l.value-index;
    }
