use Rattle.hub_core.proofs.calls.HubLaws.{kept_at, moves_hub}
use Rattle.hub_core.proofs.hubs.Hub.progress.Goals as goal
use Rattle.hub_core.proofs.Prelude.{◌∙◌}

pub returns : goal.returns
returns g c =
    moves_hub g.D.Device.shows _
    (kept_at g.D.Device.shows _ _ (c.window.view_is ∙ c.self.view_is) c.window.invariant.shown)
