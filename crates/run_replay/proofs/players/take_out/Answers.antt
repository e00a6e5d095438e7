use Rattle.run_replay.proofs.players.take_out.Goals as goal
use Rattle.run_replay.proofs.Prelude.{rules}
use Rattle.std.proofs.lemmas.Fn.{filter_same}

pub returns : goal.returns
returns c = filter_same _ _ _ (λ x b f' k. search rules) _ _ c.retain.ensures.filtered
