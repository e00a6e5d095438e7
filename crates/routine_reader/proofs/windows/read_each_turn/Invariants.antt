use Rattle.routine_reader.proofs.windows.read_each_turn.Given as goal
use Rattle.routine_reader.proofs.Prelude.{[], drop, length, map, next_turn, read_each, view, ◌≡◌}

abbrev pub invariant-values : goal.invariant-values
invariant-values l =
    record {
      walk :
          read_each (next_turn l.window l.runs) [] (map view l.values)
          ≡ read_each (next_turn l.window l.runs) l.turns.items (map view (drop l.value-index l.values));
      count : length l.turns.items ≡ l.value-index;
    }
