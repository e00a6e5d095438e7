use Rattle.room_hubs.proofs.Prelude.{map, plain_run, take, ◌≡◌}
use Rattle.room_hubs.proofs.rosters.share_runs.Given as goal

abbrev pub invariant-runs : goal.invariant-runs
invariant-runs l = map plain_run l.shared.items ≡ map plain_run (take l.run-index l.runs)
