use Rattle.routine_reader.proofs.devices.read_each_state.Given as goal
use Rattle.routine_reader.proofs.Prelude.{[], drop, length, map, read_each, state_name, view, ◌≡◌}

abbrev pub invariant-values : goal.invariant-values
invariant-values l =
    record {
      walk :
          read_each (state_name l.spot) [] (map view l.values)
          ≡ read_each (state_name l.spot) l.states.items (map view (drop l.value-index l.values));
      names : l.names ≡ l.states.items;
      count : length l.states.items ≡ l.value-index;
    }
