use Rattle.hub_table.proofs.Prelude.{IsBack, ap, kept_of, slice_get, subst, sym, ◌∙◌}
use Rattle.hub_table.proofs.Holding.{comes_home, held_kept, out_held}
use Rattle.hub_table.proofs.tables.Table.give.Goals as goal

pub bring_home-requires : goal.bring_home-requires
bring_home-requires g c = held_kept c.self.inside.hub.places c.self.inside.grips.items c.args.d.0 c.in-Some.grip c.self.invariant c.in-Some.ensures.found

pub invariant_of-self : goal.invariant_of-self
invariant_of-self g c = comes_home c.self.inside.hub.places c.bring_home.new.hub.places c.self.inside.grips.items c.lift.new.hands.items c.args.d.0 c.in-Some.grip c.bring_home.ensures.home.0 c.self.invariant c.in-Some.ensures.found c.bring_home.ensures.home.1 c.in-Some.ensures.lifted

pub returns-in-Some-clause-back : goal.returns-in-Some-clause-back
returns-in-Some-clause-back g c =
    let back = c.bring_home.ensures.back in
    (back.0, ap (λ s. s.device.0) back.1 ∙ c.self.invariant.own c.args.d.0 c.in-Some.grip c.in-Some.ensures.found, subst (λ s. IsBack s back.0 c.args.moment c.bring_home.result c.bring_home.new.hub) c.self.view_is back.2)

pub returns-in-None-clause-none : goal.returns-in-None-clause-none
returns-in-None-clause-none g c = ap (λ s. kept_of (slice_get s.places c.args.d.0)) (sym c.self.view_is) ∙ sym (out_held c.self.inside.hub.places c.self.inside.grips.items c.args.d.0 c.self.invariant) ∙ c.in-None.ensures.none
