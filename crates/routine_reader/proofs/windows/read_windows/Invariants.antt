use Rattle.routine_reader.proofs.windows.read_windows.Given as goal
use Rattle.routine_reader.proofs.Prelude.{All, IsCivilTime, [], drop, last_time, length, map, next_window_read, plain_window, read_each, view, ◌≡◌}

abbrev pub invariant-values : goal.invariant-values
invariant-values l =
    record {
      walk :
          read_each (next_window_read l.routines) [] (map view l.values)
          ≡ read_each (next_window_read l.routines) (map plain_window l.windows.items) (map view (drop l.value-index l.values));
      before : l.before ≡ last_time (map plain_window l.windows.items);
      in_range : All (λ window. IsCivilTime window.at) l.windows.items;
      count : length l.windows.items ≡ l.value-index;
    }
