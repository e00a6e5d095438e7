use Rattle.hub_core.proofs.calls.FinalItems.{sealed_here}
use Rattle.hub_core.proofs.hubs.Hub.sealed.Goals as goal
use Rattle.hub_core.proofs.Prelude.{◌∙◌}

pub returns : goal.returns
returns g c = c.sealed.ensures.sealed ∙ sealed_here c.window.inside c.args.self.now (c.window.view_is ∙ c.self.view_is) c.window.invariant
