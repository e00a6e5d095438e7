use Rattle.run_replay.proofs.PlayerSteps.{made_steps, steps_now, waited_steps, went_steps}
use Rattle.run_replay.proofs.Taking.{IsFree, answered_keeps, answers_now, goes_now, hand_is_empty, never_absent, went_keeps}
use Rattle.run_replay.proofs.hands.Hands.run_takes.Goals as goal
use Rattle.run_replay.proofs.Prelude.{None, PlayerIsKept, PlayerState, ap, false, get_or_from_slice_get, is_ended, is_full, refl, slice_set, subst, sym, ℕ, ◌<◌, ◌∙◌, ◌≡◌}

-- the run is free, in the player as it was
free_of : {D : Type 0} (now s : PlayerState D) (r : ℕ) → s ≡ now → PlayerIsKept s → 0 < r → is_ended now r ≡ false → is_full now r ≡ false → IsFree s r
free_of now s r same kept run going empty = record { kept = kept; run = run; going = subst (λ x. is_ended x r ≡ false) (sym same) going; empty = subst (λ x. is_full x r ≡ false) (sym same) empty }

pub invariant_of-self-in-Moved : goal.invariant_of-self-in-Moved
invariant_of-self-in-Moved g c =
    answered_keeps _ _ c.args.r.0 _ (record {
      free = free_of _ _ c.args.r.0 c.self.view_is c.self.invariant c.requires.run c.requires.going c.requires.empty;
      answers = answers_now _ _ _ _ _ c.moment-now.ensures c.in-Moved.ensures.turn;
      window = c.in-Moved.ensures.window;
      grips = refl;
      rounds = refl;
      place = refl;
      moves = refl;
    })

pub returns-in-Moved : goal.returns-in-Moved
returns-in-Moved g c =
    steps_now _ _ _ _ c.args.r.0 _ c.self.view_is (made_steps g.D.Device.shows _ _ c.args.r.0 _ c.in-Moved.made refl refl (record {
      free = free_of _ _ c.args.r.0 c.self.view_is c.self.invariant c.requires.run c.requires.going c.requires.empty;
      answers = answers_now _ _ _ _ _ c.moment-now.ensures c.in-Moved.ensures.turn;
      window = c.in-Moved.ensures.window;
      grips = refl;
      rounds = refl;
      place = refl;
      moves = refl;
    }) c.bounded.ensures.history)

pub invariant_of-self-in-Over : goal.invariant_of-self-in-Over
invariant_of-self-in-Over g c =
    answered_keeps _ _ c.args.r.0 _ (record {
      free = free_of _ _ c.args.r.0 c.self.view_is c.self.invariant c.requires.run c.requires.going c.requires.empty;
      answers = answers_now _ _ _ _ _ c.moment-now.ensures c.in-Over.ensures.turn;
      window = c.in-Over.ensures.window;
      grips = refl;
      rounds = refl;
      place = refl;
      moves = refl;
    })

pub returns-in-Over : goal.returns-in-Over
returns-in-Over g c =
    steps_now _ _ _ _ c.args.r.0 _ c.self.view_is (made_steps g.D.Device.shows _ _ c.args.r.0 _ c.in-Over.made refl refl (record {
      free = free_of _ _ c.args.r.0 c.self.view_is c.self.invariant c.requires.run c.requires.going c.requires.empty;
      answers = answers_now _ _ _ _ _ c.moment-now.ensures c.in-Over.ensures.turn;
      window = c.in-Over.ensures.window;
      grips = refl;
      rounds = refl;
      place = refl;
      moves = refl;
    }) c.bounded.ensures.history)

pub invariant_of-self-in-Wait : goal.invariant_of-self-in-Wait
invariant_of-self-in-Wait g c =
    answered_keeps _ _ c.args.r.0 _ (record {
      free = free_of _ _ c.args.r.0 c.self.view_is c.self.invariant c.requires.run c.requires.going c.requires.empty;
      answers = answers_now _ _ _ _ _ c.moment-now.ensures c.in-Wait.ensures.turn.0;
      window = c.in-Wait.ensures.window;
      grips = refl;
      rounds = refl;
      place = refl;
      moves = refl;
    })

pub returns-in-Wait : goal.returns-in-Wait
returns-in-Wait g c =
    steps_now _ _ _ _ c.args.r.0 _ c.self.view_is (waited_steps g.D.Device.shows _ _ c.args.r.0 _ (record {
      free = free_of _ _ c.args.r.0 c.self.view_is c.self.invariant c.requires.run c.requires.going c.requires.empty;
      answers = answers_now _ _ _ _ _ c.moment-now.ensures c.in-Wait.ensures.turn.0;
      window = c.in-Wait.ensures.window;
      grips = refl;
      rounds = refl;
      place = refl;
      moves = refl;
    }))

pub invariant_of-self-in-Absent : goal.invariant_of-self-in-Absent
invariant_of-self-in-Absent g c =
    answered_keeps _ _ c.args.r.0 _ (record {
      free = free_of _ _ c.args.r.0 c.self.view_is c.self.invariant c.requires.run c.requires.going c.requires.empty;
      answers = answers_now _ _ _ _ _ c.moment-now.ensures c.in-Absent.ensures.turn.0;
      window = c.in-Absent.ensures.window;
      grips = refl;
      rounds = refl;
      place = refl;
      moves = refl;
    })

pub returns-in-Absent : goal.returns-in-Absent
returns-in-Absent g c =
    absurd (never_absent _ _ c.args.r.0 (record {
      free = free_of _ _ c.args.r.0 c.self.view_is c.self.invariant c.requires.run c.requires.going c.requires.empty;
      answers = answers_now _ _ _ _ _ c.moment-now.ensures c.in-Absent.ensures.turn.0;
      window = c.in-Absent.ensures.window;
      grips = refl;
      rounds = refl;
      place = refl;
      moves = refl;
    }))

pub invariant_of-self : goal.invariant_of-self
invariant_of-self g c =
    went_keeps _ _ c.args.r.0 c.in-Go.grip (record {
      free = free_of _ _ c.args.r.0 c.self.view_is c.self.invariant c.requires.run c.requires.going c.requires.empty;
      out = goes_now _ _ _ _ _ c.moment-now.ensures c.in-Go.ensures.turn;
      window = c.in-Go.ensures.window;
      grips = ap (λ x. slice_set c.self.inside.grips.items c.args.r.0 x) c.replace.ensures.after;
      rounds = refl;
      place = refl;
      moves = refl;
    })

pub returns-in-None : goal.returns-in-None
returns-in-None g c =
    steps_now _ _ _ _ c.args.r.0 _ c.self.view_is (went_steps g.D.Device.shows _ _ c.args.r.0 _ c.in-Go.grip (ap (λ x. x.device.0) c.slip.ensures) (record {
      free = free_of _ _ c.args.r.0 c.self.view_is c.self.invariant c.requires.run c.requires.going c.requires.empty;
      out = goes_now _ _ _ _ _ c.moment-now.ensures c.in-Go.ensures.turn;
      window = c.in-Go.ensures.window;
      grips = ap (λ x. slice_set c.self.inside.grips.items c.args.r.0 x) c.replace.ensures.after;
      rounds = refl;
      place = refl;
      moves = refl;
    }))

pub unreachable-requires : goal.unreachable-requires
unreachable-requires g c =
    let free = free_of _ _ c.args.r.0 c.self.view_is c.self.invariant c.requires.run c.requires.going c.requires.empty in
    let none : c.replace.result ≡ None = c.replace.ensures.value ∙ c.index_mut.ensures.value ∙ get_or_from_slice_get c.self.inside.grips.items c.args.r.0 None c.index_mut.result.now (hand_is_empty _ c.args.r.0 free) in
    absurd (let both = sym none ∙ c.in-Some.is in cc)
