use Rattle.order_checker.proofs.windows.read_runs.Given as goal
use Rattle.order_checker.proofs.Prelude.{[], drop, length, lines_of, next_run_told, plain_ends, walk, ◌≡◌}

-- how the runs so far ended, and what is left of the record
abbrev pub invariant-runs : goal.invariant-runs
invariant-runs l =
    record {
      walk :
          walk (next_run_told l.script (length l.runs)) (record { ends = []; lines = lines_of l.text }) l.runs
          ≡ walk (next_run_told l.script (length l.runs)) (record { ends = plain_ends l.ends.items; lines = lines_of l.rest }) (drop l.i l.runs);
      count : length l.ends.items ≡ l.i;
    }
