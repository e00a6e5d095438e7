use Rattle.chain_arena.proofs.Chains.{first_on, none_left}
use Rattle.chain_arena.proofs.Words.{length_without}
use Rattle.chain_arena.proofs.links.Links.drop_all.Goals as goal
use Rattle.chain_arena.proofs.Prelude.{ap, arith, length, pairs_of}

pub left-smaller : goal.left-smaller
left-smaller g c =
    let s = c.left.self in
    let shorter = length_without s.first (pairs_of s) c.left.invariant.apart (first_on s c.left.invariant c.left-test.true) in
    omega (arith, ap length c.unlink-value.ensures.pairs, shorter)

pub returns : goal.returns
returns g c k = none_left c.left.self (pairs_of c.left.self) c.left.invariant c.left-test.false k
