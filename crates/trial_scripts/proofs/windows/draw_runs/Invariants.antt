use Rattle.trial_scripts.proofs.Prelude.{draw_each, draw_run, ◌≡◌}
use Rattle.trial_scripts.proofs.windows.draw_runs.Given as goal

-- the runs so far
abbrev pub invariant-runs : goal.invariant-runs
invariant-runs l = record { made = l.runs.items; state = l.draws } ≡ draw_each (λ _. draw_run) l.counter l.initial.draws
