use Rattle.chain_arena.proofs.Chains.{no_nil}
use Rattle.chain_arena.proofs.Words.{put_last}
use Rattle.chain_arena.proofs.chain.Chain.push_back.Goals as goal
use Rattle.chain_arena.proofs.Prelude.{[], ap, knot, nil, pairs_of, ◌∙◌, ◌∷◌}
use Rattle.std.proofs.Common.{◌++◌}

pub returns-clause-pairs : goal.returns-clause-pairs
returns-clause-pairs g c =
    let s = c.self.inside.links in
    c.put.ensures.pairs ∙ put_last nil (knot c.put.result, c.args.t) (pairs_of s) (no_nil s (pairs_of s) c.self.invariant) ∙ ap (λ v. v.pairs ++ (knot c.put.result, c.args.t) ∷ []) c.self.view_is
