use Rattle.run_replay.proofs.PlayerSteps.{steps_now}
use Rattle.run_replay.proofs.Probing.{passed_keeps, passed_steps, probed_keeps, probed_steps, rests}
use Rattle.run_replay.proofs.hands.Hands.detector_takes.Goals as goal
use Rattle.run_replay.proofs.Prelude.{ap, refl, slice_set, ◌%◌}

pub invariant_of-self : goal.invariant_of-self
invariant_of-self g c =
    probed_keeps _ _ _ c.in-Some.grip (record {
      rest = rests _ _ c.self.view_is c.self.invariant c.kept_invariant.ensures.size c.requires.going c.requires.empty;
      next = ap (λ n. c.self.inside.place % n) c.device_count.ensures;
      probed = c.in-Some.ensures.probed;
      window = c.in-Some.ensures.window;
      grips = ap (λ x. slice_set c.self.inside.grips.items 0 x) c.replace.ensures.after;
      rounds = refl;
      place = refl;
      moves = refl;
    })

pub returns-in-None-replace : goal.returns-in-None-replace
returns-in-None-replace g c =
    steps_now _ _ _ _ 0 _ c.self.view_is (probed_steps g.D.Device.shows _ _ _ c.in-Some.grip (record {
      rest = rests _ _ c.self.view_is c.self.invariant c.kept_invariant.ensures.size c.requires.going c.requires.empty;
      next = ap (λ n. c.self.inside.place % n) c.device_count.ensures;
      probed = c.in-Some.ensures.probed;
      window = c.in-Some.ensures.window;
      grips = ap (λ x. slice_set c.self.inside.grips.items 0 x) c.replace.ensures.after;
      rounds = refl;
      place = refl;
      moves = refl;
    }))

pub invariant_of-self-in-None : goal.invariant_of-self-in-None
invariant_of-self-in-None g c =
    passed_keeps _ _ _ (record {
      rest = rests _ _ c.self.view_is c.self.invariant c.kept_invariant.ensures.size c.requires.going c.requires.empty;
      next = ap (λ n. c.self.inside.place % n) c.device_count.ensures;
      probed = c.in-None.ensures.probed;
      window = c.in-None.ensures.window;
      grips = refl;
      rounds = refl;
      place = refl;
      moves = refl;
    })

pub returns-in-None : goal.returns-in-None
returns-in-None g c =
    steps_now _ _ _ _ 0 _ c.self.view_is (passed_steps g.D.Device.shows _ _ _ (record {
      rest = rests _ _ c.self.view_is c.self.invariant c.kept_invariant.ensures.size c.requires.going c.requires.empty;
      next = ap (λ n. c.self.inside.place % n) c.device_count.ensures;
      probed = c.in-None.ensures.probed;
      window = c.in-None.ensures.window;
      grips = refl;
      rounds = refl;
      place = refl;
      moves = refl;
    }))
