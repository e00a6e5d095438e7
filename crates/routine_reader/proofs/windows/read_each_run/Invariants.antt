use Rattle.routine_reader.proofs.windows.read_each_run.Given as goal
use Rattle.routine_reader.proofs.Prelude.{[], drop, length, map, next_run_read, read_each, view, ◌≡◌}

abbrev pub invariant-values : goal.invariant-values
invariant-values l =
    record {
      walk :
          read_each (next_run_read l.routines l.window) [] (map view l.values)
          ≡ read_each (next_run_read l.routines l.window) l.runs.items (map view (drop l.value-index l.values));
      count : length l.runs.items ≡ l.value-index;
    }
