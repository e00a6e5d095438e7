use Rattle.run_replay.proofs.EmptyHands.{front_hands, hands_at_close, last_hand}
use Rattle.run_replay.proofs.Prelude.{HoldNothing, [], ap, subst, ◌++◌, ◌∙◌, ◌∷◌}
use Rattle.run_replay.proofs.hands.Hands.close.Goals as goal

-- the window closed, so every device is home
pub hands-init : goal.hands-init
hands-init g c = hands_at_close _ _ c.self.invariant c.in-Ok.ensures.closed.places

pub hands-preserved : goal.hands-preserved
hands-preserved g c = front_hands c.pop.new.self.items (c.in-Some.hand ∷ []) (subst HoldNothing c.in-Some.ensures.items c.hands.invariant)

pub unreachable-requires : goal.unreachable-requires
unreachable-requires g c = last_hand c.pop.new.self.items c.in-Some-hand._held (subst HoldNothing (c.in-Some.ensures.items ∙ ap (λ h. c.pop.new.self.items ++ h ∷ []) c.in-Some-hand.is) c.hands.invariant)
