use Rattle.run_replay.proofs.hands.Hands.step.Goals as goal
use Rattle.run_replay.proofs.Prelude.{PlayerSteps, subst, sym}

pub returns-then-actor-eq0 : goal.returns-then-actor-eq0
returns-then-actor-eq0 g c =
    subst (λ a. PlayerSteps g.D.Device.shows c.args.self.now a c.probe.result c.probe.new.self) (sym c.if-actor-eq0.true) c.probe.ensures
