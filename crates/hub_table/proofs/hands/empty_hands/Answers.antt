use Rattle.hub_table.proofs.Leaving.{more_hands}
use Rattle.hub_table.proofs.hands.empty_hands.Goals as goal
use Rattle.hub_table.proofs.Prelude.{PlacesAreEmpty, arith, subst, sym, ◌∙◌}

pub hands-preserved : goal.hands-preserved
hands-preserved g c = (
  subst PlacesAreEmpty (sym c.push_reserved.ensures.items) (more_hands c.hands.hands.items c.hands.invariant.0),
  omega (arith, c.push_reserved.ensures.len, c.len.ensures, c.hands-test.true),
  c.push_reserved.ensures.capacity ∙ c.hands.invariant.2,
)
