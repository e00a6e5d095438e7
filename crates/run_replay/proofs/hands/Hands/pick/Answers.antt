use Rattle.run_replay.proofs.Counted.{few_after, moves_low}
use Rattle.run_replay.proofs.PlayerSteps.{counted_picks, passed_picks}
use Rattle.run_replay.proofs.hands.Hands.pick.Goals as goal
use Rattle.run_replay.proofs.Prelude.{sym, ◌∙◌}

pub returns-then-has_ended-clause-picked : goal.returns-then-has_ended-clause-picked
returns-then-has_ended-clause-picked g c =
    passed_picks g.D.Device.shows c.args.self.now c.args.actor c.kept_invariant.ensures.player (sym c.has_ended.ensures ∙ c.if-has_ended.true)

pub count-requires : goal.count-requires
count-requires g c =
    record { low = moves_low c.args.self.now c.step-picked.new.self c.step-picked.ensures.moves c.kept_invariant.ensures.player c.requires.few }

pub returns-clause-picked : goal.returns-clause-picked
returns-clause-picked g c =
    counted_picks g.D.Device.shows c.args.self.now c.step-picked.new.self c.count.new.self c.args.actor c.step-picked.result
    c.kept_invariant.ensures.player (sym c.has_ended.ensures ∙ c.if-has_ended.false) c.step-picked.ensures c.count.ensures

pub returns-clause-few : goal.returns-clause-few
returns-clause-few g c =
    let steps = c.step-picked.ensures in
    few_after c.args.self.now c.step-picked.new.self c.count.new.self c.step-picked.result steps.stays.window steps.stays.rounds
    steps.moves steps.fewer steps.left c.count.ensures c.requires.few
