use Rattle.command_rules.proofs.indexed_rosters.IndexedRoster.open.Given as goal
use Rattle.command_rules.proofs.Prelude.{AreFootprints, length, runs_of, ◌≡◌}

-- the runs up to here have their footprints
abbrev pub invariant-runs : goal.invariant-runs
invariant-runs l = (l.at-end ≡ length l.roster.runs.items) × AreFootprints l.at (runs_of l.roster) l.footprints.items
