use Rattle.run_replay.proofs.Finishing.{draws_on, ends, starts}
use Rattle.run_replay.proofs.PlayerSteps.{stays_here, stays_on}
use Rattle.run_replay.proofs.players.Player.finish.Goals as goal
use Rattle.run_replay.proofs.Prelude.{arith}

pub draws-init : goal.draws-init
draws-init g c = (starts c.args.self.now c.args.seed c.new-draws.result c.live_count-live.result c.kept_invariant.ensures.player c.new-draws.ensures c.live_count-live.ensures, stays_here g.D.Device.shows c.args.self.now)

pub draws-preserved : goal.draws-preserved
draws-preserved g c = (
  draws_on c.args.self.now c.draws.self c.pick_from.new.self c.args.seed c.draws.draws c.below-place.new.self c.draws.live c.live_count-live-in-draws.result
      c.below-place.result c.draws.invariant.0 c.kept_invariant-in-draws.ensures.player c.pick_from.ensures.stays.rounds
      (omega (arith, c.draws-test.true)) c.below-place.ensures.state c.below-place.ensures.number c.pick_from.ensures.picked c.live_count-live-in-draws.ensures,
  stays_on g.D.Device.shows c.args.self.now c.draws.self c.pick_from.new.self c.draws.invariant.1 c.pick_from.ensures.stays,
)

pub returns-clause-finished : goal.returns-clause-finished
returns-clause-finished g c = ends c.args.self.now c.draws.self c.args.seed c.draws.draws c.draws.live c.draws.invariant.0 c.draws-test.false
