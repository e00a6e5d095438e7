use Rattle.hub_table.proofs.Leaving.{all_kept, last_kept, none_leaves, one_leaves}
use Rattle.hub_table.proofs.tables.Table.drop.Goals as goal
use Rattle.hub_table.proofs.Prelude.{[], ap, ◌++◌, ◌∙◌, ◌∷◌}

pub hands-init : goal.hands-init
hands-init g c = all_kept c.self.inside.hub.places c.self.inside.grips.items c.self.invariant

pub hands-preserved-in-None : goal.hands-preserved-in-None
hands-preserved-in-None g c = none_leaves c.hands.hub.places c.hands.grips.items c.pop.new.self.items (c.in-Some.ensures.items ∙ ap (λ h. c.pop.new.self.items ++ h ∷ []) c.in-None.is) c.hands.invariant

pub bring_home-made-requires : goal.bring_home-made-requires
bring_home-made-requires g c = last_kept c.hands.hub.places c.hands.grips.items c.pop.new.self.items c.in-Some-hand.grip (c.in-Some.ensures.items ∙ ap (λ h. c.pop.new.self.items ++ h ∷ []) c.in-Some-hand.is) c.hands.invariant

pub hands-preserved : goal.hands-preserved
hands-preserved g c =
    one_leaves c.hands.hub.places c.bring_home-made.new.hub.places c.hands.grips.items c.pop.new.self.items c.in-Some-hand.grip c.bring_home-made.ensures.home.0
    (c.in-Some.ensures.items ∙ ap (λ h. c.pop.new.self.items ++ h ∷ []) c.in-Some-hand.is) c.hands.invariant c.bring_home-made.ensures.home.1
