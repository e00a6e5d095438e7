use Rattle.hub_threads.proofs.RunWords.{one_bit}
use Rattle.hub_threads.proofs.sleepers.bit_of.Goals as goal
use Rattle.hub_threads.proofs.Prelude.{arith, common_steps, ◌-◌, ◌<◌}
use Rattle.std.proofs.lemmas.Nat.{one_shl}

pub returns-then-r-le-MOST : goal.returns-then-r-le-MOST
returns-then-r-le-MOST c =
    let some : 0 < c.args.r.0 = grind (arith, common_steps) in
    let low : c.args.r.0 - 1 < 64 = grind (arith, common_steps) in
    one_bit c.args.r.0 _ some low (one_shl (c.args.r.0 - 1) 64 low)
