use Rattle.chain_arena.proofs.Chains.{still_there}
use Rattle.chain_arena.proofs.Values.{set_done}
use Rattle.chain_arena.proofs.chain.Chain.get_mut.Goals as goal
use Rattle.chain_arena.proofs.Prelude.{ap, has_knot, refl, set_value, sym, value_at, ◌∙◌}

pub get_mut-requires : goal.get_mut-requires
get_mut-requires g c =
    let s = c.self.inside.links in
    still_there s s c.args.k.0 c.self.invariant (ap (λ v. has_knot c.args.k.0 v.pairs) c.self.view_is ∙ c.requires.there) refl

pub invariant_of-self-lent : goal.invariant_of-self-lent
invariant_of-self-lent g c w = (set_done c.args.k.0 w c.self.inside.links c.self.invariant (ap (λ v. has_knot c.args.k.0 v.pairs) c.self.view_is ∙ c.requires.there)).0

pub returns : goal.returns
returns g c =
    let s = c.self.inside.links in
    let k = c.args.k.0 in
    let there = ap (λ v. has_knot k v.pairs) c.self.view_is ∙ c.requires.there in (
      (refl, λ w i. record { pairs = ((set_done k w s c.self.invariant there).1 ∙ ap (λ v. set_value k w v.pairs) c.self.view_is) i; spare = (c.self.view_is i).spare }),
      record { writes_back = tt; value = sym (ap (λ v. value_at k v.pairs) c.self.view_is) ∙ sym (c.self.invariant.values k) ∙ c.get_mut.ensures.value },
    )
