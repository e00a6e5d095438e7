use Rattle.run_replay.proofs.Acting.{full_now, hand_never}
use Rattle.run_replay.proofs.PlayerSteps.{steps_now}
use Rattle.run_replay.proofs.Probing.{back_keeps, back_steps, holds, probe_not_refused}
use Rattle.run_replay.proofs.hands.Hands.detector_acts.Goals as goal
use Rattle.run_replay.proofs.Prelude.{ap, refl, slice_set, sym, ◌∙◌}

pub unreachable-requires : goal.unreachable-requires
unreachable-requires g c =
    probe_not_refused _ c.give_probe-given.new.self c.in-Some.grip c.act.result _
    (holds _ _ c.index_mut.result.now c.in-Some.grip c.self.view_is c.self.invariant c.kept_invariant.ensures.size c.requires.going c.requires.holds
    c.index_mut.ensures.value (sym c.replace.ensures.value ∙ c.in-Some.is)) c.act.ensures.slip c.act.ensures.task c.in-Err.ensures.given.0

pub unreachable-requires-in-None : goal.unreachable-requires-in-None
unreachable-requires-in-None g c =
    hand_never (record {
      hub = c.self.inside.hub;
      grips = c.self.inside.grips.items;
      rounds = c.self.inside.rounds;
      place = c.self.inside.place;
      moves = c.self.inside.moves;
    }) 0 c.index_mut.result.now (full_now _ (record {
      hub = c.self.inside.hub;
      grips = c.self.inside.grips.items;
      rounds = c.self.inside.rounds;
      place = c.self.inside.place;
      moves = c.self.inside.moves;
    }) 0 c.self.view_is c.requires.holds) c.index_mut.ensures.value (sym c.replace.ensures.value ∙ c.in-None.is)

pub invariant_of-self : goal.invariant_of-self
invariant_of-self g c =
    back_keeps _ _ c.in-Some.grip c.act.result _ (record {
      held =
          holds _ _ c.index_mut.result.now c.in-Some.grip c.self.view_is c.self.invariant c.kept_invariant.ensures.size c.requires.going c.requires.holds
          c.index_mut.ensures.value (sym c.replace.ensures.value ∙ c.in-Some.is);
      slip = c.act.ensures.slip;
      step = c.in-Ok.ensures.given.0;
      places = c.in-Ok.ensures.given.1;
      window = c.in-Ok.ensures.window;
      grips = ap (λ x. slice_set c.self.inside.grips.items 0 x) c.replace.ensures.after;
      rounds = refl;
      place = refl;
      moves = refl;
    })

pub returns : goal.returns
returns g c =
    steps_now _ _ _ _ 0 _ c.self.view_is (back_steps g.D.Device.shows _ _ c.in-Some.grip c.act.result c.in-Ok.made (record {
      held =
          holds _ _ c.index_mut.result.now c.in-Some.grip c.self.view_is c.self.invariant c.kept_invariant.ensures.size c.requires.going c.requires.holds
          c.index_mut.ensures.value (sym c.replace.ensures.value ∙ c.in-Some.is);
      slip = c.act.ensures.slip;
      step = c.in-Ok.ensures.given.0;
      places = c.in-Ok.ensures.given.1;
      window = c.in-Ok.ensures.window;
      grips = ap (λ x. slice_set c.self.inside.grips.items 0 x) c.replace.ensures.after;
      rounds = refl;
      place = refl;
      moves = refl;
    }) c.act.ensures.plan)
