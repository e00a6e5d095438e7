use Rattle.run_replay.proofs.LiveRuns.{AreLiveBelow}
use Rattle.run_replay.proofs.players.Player.open.Given as goal
use Rattle.run_replay.proofs.Prelude.{filter, is_ended, not, range_with_len, vec_capacity, vec_len, ◌≡◌, ◌≤◌}

-- the actors up to here that have not ended
abbrev pub invariant-actors : goal.invariant-actors
invariant-actors g l = (l.actors.items ≡ filter (λ a. not (is_ended l.hands a)) (range_with_len 0 l.actor)) × (vec_len l.actors ≤ l.actor) × (l.count ≤ vec_capacity l.actors) × AreLiveBelow l.hands l.runs l.actor
