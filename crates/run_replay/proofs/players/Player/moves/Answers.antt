use Rattle.run_replay.proofs.Counted.{moves_within}
use Rattle.run_replay.proofs.players.Player.moves.Goals as goal
use Rattle.run_replay.proofs.Prelude.{MovesAreFew, ap, subst, ◌∙◌}

pub returns-clause-bounded : goal.returns-clause-bounded
returns-clause-bounded g c = moves_within c.args.self.now c.moves.result (c.moves.ensures ∙ ap (λ s. s.moves) c.self.view_is) (subst MovesAreFew c.self.view_is c.self.invariant.1)
