use Rattle.run_replay.proofs.players.Player.close.Goals as goal
use Rattle.run_replay.proofs.Prelude.{AreLiveRuns, MovesAreFew, PlayerState, are_live, subst, sym, ◌≡◌}

-- the hands come back as they were
pub invariant_of-result : goal.invariant_of-result
invariant_of-result g c = subst (λ (x : PlayerState _). (c.self.inside.actors.items ≡ are_live x) × MovesAreFew x × AreLiveRuns c.self.inside.runs x) (sym c.in-Err.ensures.same) c.self.invariant
