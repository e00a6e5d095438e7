use Rattle.chain_arena.proofs.Grows.{Growing}
use Rattle.chain_arena.proofs.links.Links.grow.Given as goal
use Rattle.chain_arena.proofs.Prelude.{length}
use Rattle.std.proofs.Common.{◌-◌}

abbrev pub invariant-frees : goal.invariant-frees
invariant-frees g l = Growing l.fn.self l.self l.len

abbrev pub decreases-frees : goal.decreases-frees
decreases-frees g l = l.len - length l.self.block.items
