use Rattle.chain_arena.proofs.Chains.{is_filled}
use Rattle.chain_arena.proofs.Nexts.{cursor_behind, next_behind}
use Rattle.chain_arena.proofs.chain.Chain.place_after.Goals as goal
use Rattle.chain_arena.proofs.Prelude.{ap, has_knot, pairs_of, ◌∙◌}

pub behind-requires : goal.behind-requires
behind-requires g c =
    let s = c.self.inside.links in
    is_filled s (pairs_of s) c.self.invariant c.args.k.0 (ap (λ v. has_knot c.args.k.0 v.pairs) c.self.view_is ∙ c.requires.there)

pub returns-clause-cursor : goal.returns-clause-cursor
returns-clause-cursor g c =
    cursor_behind c.self.inside.links c.args.self.now.pairs c.args.k.0 c.behind.result c.self.invariant (ap (λ v. v.pairs) c.self.view_is) c.requires.there c.behind.ensures

pub returns-clause-behind : goal.returns-clause-behind
returns-clause-behind g c x is =
    next_behind c.self.inside.links c.args.self.now.pairs c.args.k c.behind.result x c.self.invariant (ap (λ v. v.pairs) c.self.view_is) c.requires.there is c.behind.ensures
