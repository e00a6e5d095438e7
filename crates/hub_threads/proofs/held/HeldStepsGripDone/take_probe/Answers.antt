use Rattle.hub_threads.proofs.Prelude.{IsProbed, Some, subst}
use Rattle.hub_threads.proofs.Holding.{probed_held}
use Rattle.hub_threads.proofs.held.HeldStepsGripDone.take_probe.Goals as goal

pub invariant_of-self-2 : goal.invariant_of-self-2
invariant_of-self-2 g c =
    probed_held g.D.Device.shows g.N.Name.window g.N.Name.desk c.self.inside.hub c.take_probe.new.self c.args.d.0 c.in_ok-grip.grip _ _ _ c.self.inside.desk
    c.lend-pass.new.desk c.self.invariant c.in_ok-grip.ensures.probed c.in_ok-grip.ensures.window c.call.ensures.blocked c.lend-pass.ensures.name
    c.lend-pass.ensures.out

pub returns-clause-probed : goal.returns-clause-probed
returns-clause-probed g c = subst (λ s. IsProbed s c.args.d.0 (Some c.in_ok-grip.grip) c.take_probe.new.self) c.self.view_is c.in_ok-grip.ensures.probed
