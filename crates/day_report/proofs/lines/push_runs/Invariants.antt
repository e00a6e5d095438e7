use Rattle.day_report.proofs.lines.push_runs.Given as goal
use Rattle.day_report.proofs.Prelude.{enumerate_from, flat_map, line_of_run, string_bytes, take, ◌++◌, ◌≡◌}

-- the text has grown by the lines of the runs so far
abbrev pub invariant-runs : goal.invariant-runs
invariant-runs l =
    string_bytes l.text
    ≡ string_bytes l.initial.text
    ++ flat_map (λ (r, run). line_of_run l.script l.window l.history r run.routine) (enumerate_from 1 (take l.i l.all))
