use Rattle.chain_arena.proofs.Chains.{still_there}
use Rattle.chain_arena.proofs.chain.Chain.get.Goals as goal
use Rattle.chain_arena.proofs.Prelude.{ap, has_knot, refl, ◌∙◌}

pub get-requires : goal.get-requires
get-requires g c =
    let s = c.self.inside.links in
    still_there s s c.args.k.0 c.self.invariant (ap (λ v. has_knot c.args.k.0 v.pairs) c.self.view_is ∙ c.requires.there) refl
