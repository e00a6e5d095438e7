use Rattle.chain_arena.proofs.Chains.{linked}
use Rattle.chain_arena.proofs.chain.Chain.new.Goals as goal
use Rattle.chain_arena.proofs.Prelude.{[]}

pub invariant_of-result : goal.invariant_of-result
invariant_of-result g c = (linked c.new.result [] c.new.ensures.0).0

pub returns : goal.returns
returns g c = record { pairs = (linked c.new.result [] c.new.ensures.0).1; no_room = c.new.ensures.1 }
