use Rattle.run_replay.proofs.EmptyHands.{more_hands}
use Rattle.run_replay.proofs.hands.empty_hands.Goals as goal
use Rattle.run_replay.proofs.Prelude.{HoldNothing, arith, subst, sym, ◌∙◌}

-- one empty hand more
pub actors-preserved : goal.actors-preserved
actors-preserved g c = (
  subst HoldNothing (sym c.push_reserved.ensures.items) (more_hands c.actors.hands.items c.actors.invariant.0),
  omega (arith, c.push_reserved.ensures.len, c.len.ensures, c.actors-test.true),
  c.push_reserved.ensures.capacity ∙ c.actors.invariant.2,
)
