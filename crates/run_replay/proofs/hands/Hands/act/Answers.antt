use Rattle.run_replay.proofs.Prelude.{ap, grip_in, grip_takes, progress_at, refl, slice_get, slice_set, subst, sym, ◌+◌, ◌<◌, ◌^◌, ◌∙◌}
use Rattle.run_replay.proofs.Acting.{done_of, full_now, given_keeps, hand_never, not_refused_now}
use Rattle.run_replay.proofs.PlayerSteps.{given_steps, steps_now}
use Rattle.run_replay.proofs.hands.Hands.act.Goals as goal

pub unreachable-requires : goal.unreachable-requires
unreachable-requires g c =
    not_refused_now _ c.give-given.new.self c.args.actor _ c.in-Some.grip c.act.result _
    (done_of _ _ c.args.actor c.index_mut.result.now c.in-Some.grip c.act.result
    c.self.view_is c.self.invariant c.requires.run c.requires.going c.requires.holds
    c.index_mut.ensures.value (sym c.replace.ensures.value ∙ c.in-Some.is) c.kept_invariant.ensures.size
    c.kept_invariant.ensures.grips c.act.ensures.slip c.act.ensures.task) c.in-Err.ensures.given.0

pub unreachable-requires-in-None : goal.unreachable-requires-in-None
unreachable-requires-in-None g c =
    hand_never (record {
      hub = c.self.inside.hub;
      grips = c.self.inside.grips.items;
      rounds = c.self.inside.rounds;
      place = c.self.inside.place;
      moves = c.self.inside.moves;
    }) c.args.actor c.index_mut.result.now (full_now c.args.self.now (record {
      hub = c.self.inside.hub;
      grips = c.self.inside.grips.items;
      rounds = c.self.inside.rounds;
      place = c.self.inside.place;
      moves = c.self.inside.moves;
    }) c.args.actor c.self.view_is c.requires.holds) c.index_mut.ensures.value (sym c.replace.ensures.value ∙ c.in-None.is)

pub invariant_of-self : goal.invariant_of-self
invariant_of-self g c =
    given_keeps _ _ c.args.actor c.in-Some.grip c.act.result _ (record {
      is =
          done_of _ _ c.args.actor c.index_mut.result.now c.in-Some.grip c.act.result
          c.self.view_is c.self.invariant c.requires.run c.requires.going c.requires.holds
          c.index_mut.ensures.value (sym c.replace.ensures.value ∙ c.in-Some.is) c.kept_invariant.ensures.size
          c.kept_invariant.ensures.grips c.act.ensures.slip c.act.ensures.task;
      at = c.moment-now.result + c.from.result;
      step = c.in-Ok.ensures.given.0;
      places = c.in-Ok.ensures.given.1;
      window = c.in-Ok.ensures.window;
      grips = ap (λ x. slice_set c.self.inside.grips.items c.args.actor x) c.replace.ensures.after;
      rounds = refl;
      place = refl;
      moves = refl;
      low =
          subst (λ n. n < 2 ^ 32) (c.takes.ensures ∙ ap (λ x. grip_takes c.self.inside.hub.setting
          (grip_in (slice_get c.self.inside.hub.places x.device.0) (progress_at c.self.inside.hub.devices x.device.0).purpose)) c.slip.ensures)
          c.takes.type_inv;
      moment =
          (λ i. c.moment-now.ensures i + c.from.result)
          ∙ ap (λ n. c.self.inside.hub.moment + n) (c.from.ensures ∙ c.takes.ensures ∙ ap (λ x. grip_takes c.self.inside.hub.setting
          (grip_in (slice_get c.self.inside.hub.places x.device.0) (progress_at c.self.inside.hub.devices x.device.0).purpose)) c.slip.ensures);
    })

pub returns : goal.returns
returns g c =
    steps_now _ _ _ _ c.args.actor _ c.self.view_is (given_steps g.D.Device.shows _ _ c.args.actor c.in-Some.grip c.act.result c.in-Ok.made (record {
      is =
          done_of _ _ c.args.actor c.index_mut.result.now c.in-Some.grip c.act.result
          c.self.view_is c.self.invariant c.requires.run c.requires.going c.requires.holds
          c.index_mut.ensures.value (sym c.replace.ensures.value ∙ c.in-Some.is) c.kept_invariant.ensures.size
          c.kept_invariant.ensures.grips c.act.ensures.slip c.act.ensures.task;
      at = c.moment-now.result + c.from.result;
      step = c.in-Ok.ensures.given.0;
      places = c.in-Ok.ensures.given.1;
      window = c.in-Ok.ensures.window;
      grips = ap (λ x. slice_set c.self.inside.grips.items c.args.actor x) c.replace.ensures.after;
      rounds = refl;
      place = refl;
      moves = refl;
      low =
          subst (λ n. n < 2 ^ 32) (c.takes.ensures ∙ ap (λ x. grip_takes c.self.inside.hub.setting
          (grip_in (slice_get c.self.inside.hub.places x.device.0) (progress_at c.self.inside.hub.devices x.device.0).purpose)) c.slip.ensures)
          c.takes.type_inv;
      moment =
          (λ i. c.moment-now.ensures i + c.from.result)
          ∙ ap (λ n. c.self.inside.hub.moment + n) (c.from.ensures ∙ c.takes.ensures ∙ ap (λ x. grip_takes c.self.inside.hub.setting
          (grip_in (slice_get c.self.inside.hub.places x.device.0) (progress_at c.self.inside.hub.devices x.device.0).purpose)) c.slip.ensures);
    }) c.act.ensures.plan c.bounded-in-Some.ensures.history)
