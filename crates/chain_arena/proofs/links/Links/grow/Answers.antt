use Rattle.chain_arena.proofs.Chains.{linked}
use Rattle.chain_arena.proofs.Grows.{grows_from, grows_more}
use Rattle.chain_arena.proofs.links.Links.grow.Goals as goal
use Rattle.chain_arena.proofs.Prelude.{arith, pairs_of}

pub frees-init : goal.frees-init
frees-init g c = grows_from c.args.self.now c.grow.new.self c.args.len c.requires.linked c.requires.more c.grow.ensures.items c.in-Ok.ensures.ok

pub frees-preserved : goal.frees-preserved
frees-preserved g c =
    grows_more c.args.self.now c.frees.self c.add_free.new.self c.args.len c.frees.invariant (omega (arith, c.frees-test.true, c.len.ensures)) c.requires.few c.add_free.ensures

pub returns-clause-linked : goal.returns-clause-linked
returns-clause-linked g c = (linked c.frees.self (pairs_of c.args.self.now) c.frees.invariant.chain).0

pub returns-clause-pairs : goal.returns-clause-pairs
returns-clause-pairs g c = (linked c.frees.self (pairs_of c.args.self.now) c.frees.invariant.chain).1
