use Rattle.hub_core.proofs.calls.HubLaws.{kept_at, stands_hub}
use Rattle.hub_core.proofs.hubs.Hub.kept_invariant.Goals as goal
use Rattle.hub_core.proofs.Prelude.{OpenHub, ap, slice_get, ◌∙◌}

pub returns : goal.returns
returns g c =
    stands_hub g.D.Device.shows _
    (λ d device at. c.numbered.ensures d device (ap (λ (s : OpenHub g.row.D.Denot). slice_get s.places d) (c.window.view_is ∙ c.self.view_is) ∙ at))
    (kept_at g.D.Device.shows _ _ (c.window.view_is ∙ c.self.view_is) c.window.invariant.shown)
