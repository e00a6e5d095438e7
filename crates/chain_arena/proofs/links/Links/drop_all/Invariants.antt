use Rattle.chain_arena.proofs.links.Links.drop_all.Given as goal
use Rattle.chain_arena.proofs.Prelude.{IsLinked, length, pairs_of}

abbrev pub invariant-left : goal.invariant-left
invariant-left g l = IsLinked l.self

abbrev pub decreases-left : goal.decreases-left
decreases-left g l = length (pairs_of l.self)
