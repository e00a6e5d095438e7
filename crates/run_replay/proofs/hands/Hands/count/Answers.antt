use Rattle.run_replay.proofs.Counted.{moves_kept}
use Rattle.run_replay.proofs.hands.Hands.count.Goals as goal
use Rattle.run_replay.proofs.Prelude.{◌+◌}

pub invariant_of-self : goal.invariant_of-self
invariant_of-self g c = moves_kept (c.self.inside.moves + 1) (record { hub = c.self.inside.hub; grips = c.self.inside.grips.items; rounds = c.self.inside.rounds; place = c.self.inside.place; moves = c.self.inside.moves }) c.self.invariant
