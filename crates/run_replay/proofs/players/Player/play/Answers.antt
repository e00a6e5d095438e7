use Rattle.run_replay.proofs.Passing.{blocked_now, passed_next}
use Rattle.run_replay.proofs.Played.{played_next, played_whole}
use Rattle.run_replay.proofs.PlayerSteps.{stays_here, stays_on}
use Rattle.run_replay.proofs.Tellings.{stays}
use Rattle.run_replay.proofs.players.Player.play.Goals as goal
use Rattle.run_replay.proofs.Prelude.{arith, refl}

pub picks-init : goal.picks-init
picks-init g c = ((λ acts. (acts, stays _ _ _ (λ course. refl))), stays_here g.D.Device.shows c.args.self.now)

pub picks-preserved : goal.picks-preserved
picks-preserved g c = (
  played_next c.args.self.now c.picks.self c.waits_at.new.self c.args.self.now.rounds c.picks.actor-index _ c.args.picks.now c.waits_at.ensures.picked.picked
      c.picks-test.true c.picks.invariant.1.rounds c.picks.invariant.0 c.waits_at.ensures.picked.picks,
  stays_on g.D.Device.shows c.args.self.now c.picks.self c.waits_at.new.self c.picks.invariant.1 c.waits_at.ensures.stays,
)

pub picks-preserved-then-is_blocked : goal.picks-preserved-then-is_blocked
picks-preserved-then-is_blocked g c = (
  passed_next c.args.self.now c.picks.self c.args.self.now.rounds c.picks.actor-index _ c.args.picks.now c.picks-test.true c.picks.invariant.1.rounds
      (blocked_now c.picks.self c.self.inside.hands _ c.self.view_is (c.is_blocked.ensures c.if-is_blocked.true)) c.picks.invariant.0,
  c.picks.invariant.1,
)

pub returns-clause-played : goal.returns-clause-played
returns-clause-played g c = played_whole c.args.self.now c.picks.self c.args.self.now.rounds c.picks.actor-index c.args.picks.now (let past = c.picks-test.false in omega (arith, past)) c.picks.invariant.0
