use Rattle.hub_table.proofs.Leaving.{front_hands, last_hand}
use Rattle.hub_table.proofs.hands.drop_empty.Goals as goal
use Rattle.hub_table.proofs.Prelude.{PlacesAreEmpty, [], ap, subst, ◌++◌, ◌∙◌, ◌∷◌}

pub hands-preserved : goal.hands-preserved
hands-preserved g c = front_hands c.pop.new.self.items (c.in-Some.hand ∷ []) (subst PlacesAreEmpty c.in-Some.ensures.items c.hands.invariant)

pub unreachable-requires : goal.unreachable-requires
unreachable-requires g c = last_hand c.pop.new.self.items c.in-Some-hand._held (subst PlacesAreEmpty (c.in-Some.ensures.items ∙ ap (λ h. c.pop.new.self.items ++ h ∷ []) c.in-Some-hand.is) c.hands.invariant)
