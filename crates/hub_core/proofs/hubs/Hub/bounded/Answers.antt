use Rattle.hub_core.proofs.calls.HubLaws.{kept_at, bounded_hub}
use Rattle.hub_core.proofs.hubs.Hub.bounded.Goals as goal

pub returns : goal.returns
returns g c = bounded_hub g.D.Device.shows _ (kept_at g.D.Device.shows _ _ c.self.view_is c.whole_invariant.ensures)
