use Rattle.run_replay.proofs.hands.empty_hands.Given as goal
use Rattle.run_replay.proofs.Prelude.{HoldNothing, vec_capacity, vec_len, ◌-◌, ◌≡◌, ◌≤◌}

-- as many empty hands as fit
abbrev pub invariant-actors : goal.invariant-actors
invariant-actors g l = HoldNothing l.hands.items × (vec_len l.hands ≤ l.actors) × (vec_capacity l.hands ≡ l.actors)

abbrev pub decreases-actors : goal.decreases-actors
decreases-actors g l = l.actors - vec_len l.hands
