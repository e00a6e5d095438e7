use Rattle.run_replay.proofs.Opening.{is_opened, opens_kept}
use Rattle.run_replay.proofs.hands.Hands.open.Goals as goal
use Rattle.run_replay.proofs.Prelude.{arith}

pub invariant_of-result : goal.invariant_of-result
invariant_of-result g c = opens_kept c.args.hub c.in-Ok.grips.items c.args.rounds c.requires.fresh c.ranges.rounds.fits c.in-Ok.ensures.empty (omega (arith, c.in-Ok.ensures.count, c.run_count.ensures))

pub returns-clause-opened : goal.returns-clause-opened
returns-clause-opened g c = is_opened c.args.hub c.in-Ok.grips.items c.args.rounds c.requires.fresh c.in-Ok.ensures.empty
