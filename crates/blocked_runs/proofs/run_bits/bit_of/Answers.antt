use Rattle.blocked_runs.proofs.run_bits.bit_of.Goals as goal
use Rattle.blocked_runs.proofs.RunBits.{only_run}
use Rattle.blocked_runs.proofs.Prelude.{arith, common_steps, ◌-◌, ◌<◌}
use Rattle.std.proofs.lemmas.Nat.{one_shl}

pub returns-then-r-le64-clause-only : goal.returns-then-r-le64-clause-only
returns-then-r-le64-clause-only c =
    let some : 0 < c.args.r.0 = grind (arith, common_steps) in
    let low : c.args.r.0 - 1 < 64 = grind (arith, common_steps) in
    only_run c.args.r.0 _ some low (one_shl (c.args.r.0 - 1) 64 low)
