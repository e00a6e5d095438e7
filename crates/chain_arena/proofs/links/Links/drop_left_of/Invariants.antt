use Rattle.chain_arena.proofs.links.Links.drop_left_of.Given as goal
use Rattle.chain_arena.proofs.Prelude.{IsLinked, from_knot, has_knot, length, pairs_of, true, ◌+◌, ◌≡◌}

abbrev pub invariant-left : goal.invariant-left
invariant-left g l =
    IsLinked l.self × (has_knot l.place (pairs_of l.self) ≡ true) × (from_knot l.place (pairs_of l.self) ≡ from_knot l.place (pairs_of l.fn.self)) × (l.self.spare + length (pairs_of l.self) ≡ l.fn.self.spare + length (pairs_of l.fn.self))

abbrev pub decreases-left : goal.decreases-left
decreases-left g l = length (pairs_of l.self)
