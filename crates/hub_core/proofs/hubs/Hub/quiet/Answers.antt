use Rattle.hub_core.proofs.calls.HubLaws.{quiet_hub}
use Rattle.hub_core.proofs.hubs.Hub.quiet.Goals as goal
use Rattle.hub_core.proofs.Prelude.{None, Some, ◌∙◌}

pub returns-in-Some-first_out : goal.returns-in-Some-first_out
returns-in-Some-first_out g c = quiet_hub g.D.Device.shows _ _ (Some c.in-Some-first_out.d) (c.window.view_is ∙ c.self.view_is) c.window.invariant.shown c.in_default.ensures c.in-Some-first_out.ensures.some c.in-Some-first_out.ensures.none

pub returns-in-None : goal.returns-in-None
returns-in-None g c = quiet_hub g.D.Device.shows _ _ None (c.window.view_is ∙ c.self.view_is) c.window.invariant.shown c.in_default.ensures c.in-None.ensures.some c.in-None.ensures.none
