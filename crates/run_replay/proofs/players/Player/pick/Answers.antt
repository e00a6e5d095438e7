use Rattle.run_replay.proofs.Leaving.{kept_in, taken_out}
use Rattle.run_replay.proofs.LiveRuns.{run_leaves, runs_stay}
use Rattle.run_replay.proofs.PlayerSteps.{picks_now}
use Rattle.run_replay.proofs.players.Player.pick.Goals as goal
use Rattle.run_replay.proofs.Prelude.{Bool, false, is_ended, refl, sym, true, ◌∙◌, ◌≡◌}

pub invariant_of-self : goal.invariant_of-self
invariant_of-self g c = (
  kept_in c.self.inside.hands c.pick-picked.new.self c.self.inside.actors.items c.args.actor c.self.invariant.0 c.pick-picked.ensures.picked.hands c.pick-picked.ensures.picked.others (c.pick-picked.ensures.picked.waiting (sym c.has_waited.ensures ∙ c.if-has_waited.true)),
  c.pick-picked.ensures.few,
  runs_stay c.self.inside.hands c.pick-picked.new.self c.self.inside.runs c.args.actor c.self.invariant.2 c.pick-picked.ensures.picked.others (c.pick-picked.ensures.picked.waiting (sym c.has_waited.ensures ∙ c.if-has_waited.true)),
)

pub returns-then-has_waited : goal.returns-then-has_waited
returns-then-has_waited g c =
    picks_now g.D.Device.shows _ _ c.pick-picked.new.self c.args.actor c.pick-picked.result c.self.view_is c.pick-picked.ensures.picked

-- an actor that goes on did so before
pub invariant_of-self-then-not-has_ended : goal.invariant_of-self-then-not-has_ended
invariant_of-self-then-not-has_ended g c = (
  kept_in c.self.inside.hands c.pick-picked.new.self c.self.inside.actors.items c.args.actor c.self.invariant.0 c.pick-picked.ensures.picked.hands c.pick-picked.ensures.picked.others
      (going (is_ended c.self.inside.hands c.args.actor) (is_ended c.pick-picked.new.self c.args.actor) (sym c.has_ended.ensures ∙ c.if-not-has_ended.true) c.pick-picked.ensures.picked.over),
  c.pick-picked.ensures.few,
  runs_stay c.self.inside.hands c.pick-picked.new.self c.self.inside.runs c.args.actor c.self.invariant.2 c.pick-picked.ensures.picked.others
      (going (is_ended c.self.inside.hands c.args.actor) (is_ended c.pick-picked.new.self c.args.actor) (sym c.has_ended.ensures ∙ c.if-not-has_ended.true) c.pick-picked.ensures.picked.over),
)
  where
    going : (before after : Bool) → after ≡ false → (before ≡ true → after ≡ true) → after ≡ before
    going true after on over = over refl
    going false after on over = on

pub returns-then-not-has_ended : goal.returns-then-not-has_ended
returns-then-not-has_ended g c =
    picks_now g.D.Device.shows _ _ c.pick-picked.new.self c.args.actor c.pick-picked.result c.self.view_is c.pick-picked.ensures.picked

pub invariant_of-self-2 : goal.invariant_of-self-2
invariant_of-self-2 g c = (
  taken_out c.self.inside.hands c.pick-picked.new.self c.self.inside.actors.items c.take_out.new.actors.items c.args.actor c.self.invariant.0 c.take_out.ensures c.pick-picked.ensures.picked.hands c.pick-picked.ensures.picked.others (sym c.has_ended.ensures ∙ c.if-not-has_ended.false),
  c.pick-picked.ensures.few,
  run_leaves c.self.inside.hands c.pick-picked.new.self c.self.inside.runs c.without_run-self-inside.result c.args.actor c.self.invariant.2 c.without_run-self-inside.ensures c.pick-picked.ensures.picked.others (sym c.has_ended.ensures ∙ c.if-not-has_ended.false),
)

pub returns : goal.returns
returns g c =
    picks_now g.D.Device.shows _ _ c.pick-picked.new.self c.args.actor c.pick-picked.result c.self.view_is c.pick-picked.ensures.picked
