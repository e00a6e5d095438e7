use Rattle.hub_table.proofs.Prelude.{Home, IsBack, Slip, ap, kept_of, refusal, slice_get, slice_set, subst, sym, ◌∙◌}
use Rattle.hub_table.proofs.Answering.{answered_kept, is_held_answer}
use Rattle.hub_table.proofs.Holding.{comes_home, out_held}
use Rattle.hub_table.proofs.answers.Table+HandedDevice.answer.Goals as goal

pub returns-in-Some-clause-refused : goal.returns-in-Some-clause-refused
returns-in-Some-clause-refused c =
    ap (λ s. refusal (kept_of (slice_get s.places c.args.d.0)) c.args.ticket c.args.told) (sym c.self.view_is)
    ∙ ap (λ o. refusal o c.args.ticket c.args.told) (sym (out_held c.self.inside.hub.places c.self.inside.grips.items c.args.d.0 c.self.invariant))
    ∙ ap (λ o. refusal o c.args.ticket c.args.told) (sym c.look.ensures)
    ∙ sym c.refusal.ensures
    ∙ c.in-Some.is

pub take_home-requires : goal.take_home-requires
take_home-requires c =
    answered_kept c.self.inside.hub.places c.self.inside.grips.items c.args.d.0 c.in-Some-lift.grip c.in-Ok.done c.self.invariant c.in-Some-lift.ensures.found c.in-Ok.ensures.slip c.in-Ok.ensures.task

pub invariant_of-self : goal.invariant_of-self
invariant_of-self c =
    comes_home c.self.inside.hub.places c.take_home.new.hub.places c.self.inside.grips.items c.lift.new.hands.items c.args.d.0 c.in-Some-lift.grip c.take_home.ensures.home.0 c.self.invariant c.in-Some-lift.ensures.found
    (c.take_home.ensures.home.1 ∙ ap (λ (s : Slip). slice_set c.self.inside.hub.places s.device.0 (Home c.take_home.ensures.home.0)) c.in-Ok.ensures.slip) c.in-Some-lift.ensures.lifted

pub returns-clause-answered : goal.returns-clause-answered
returns-clause-answered c =
    let fits = ap (λ o. refusal o c.args.ticket c.args.told) (sym c.look.ensures) ∙ sym c.refusal.ensures ∙ c.in_default.is in
    record {
      done = c.in-Ok.done;
      device = ap (λ (s : Slip). s.device.0) c.in-Ok.ensures.slip ∙ c.self.invariant.own c.args.d.0 c.in-Some-lift.grip c.in-Some-lift.ensures.found;
      ticket_is = ap (λ (s : Slip). s.ticket) c.in-Ok.ensures.slip ∙ (is_held_answer c.self.inside.grips.items c.args.d.0 c.in-Some-lift.grip c.args.ticket c.args.told c.in-Some-lift.ensures.found fits).0;
      told_is = c.in-Ok.ensures.told;
      free =
          ap (λ s. refusal (kept_of (slice_get s.places c.args.d.0)) c.args.ticket c.args.told) (sym c.self.view_is)
          ∙ ap (λ o. refusal o c.args.ticket c.args.told) (sym (out_held c.self.inside.hub.places c.self.inside.grips.items c.args.d.0 c.self.invariant))
          ∙ fits;
      back = subst (λ s. IsBack s c.in-Ok.done c.args.moment c.take_home.result c.take_home.new.hub) c.self.view_is c.take_home.ensures.back;
    }
