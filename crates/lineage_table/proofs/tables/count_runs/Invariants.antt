use Rattle.lineage_table.proofs.Prelude.{get_or, most_devices, runs_of, runs_on, take, ℕ, ◌<◌, ◌≡◌}
use Rattle.lineage_table.proofs.tables.count_runs.Given as goal

-- the runs so far are counted
abbrev pub invariant-runs : goal.invariant-runs
invariant-runs l = (d : ℕ) → d < most_devices → get_or l.counts d 0 ≡ runs_on (take l.run-index (runs_of l.roster)) d
