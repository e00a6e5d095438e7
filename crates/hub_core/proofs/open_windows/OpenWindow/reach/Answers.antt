use Rattle.hub_core.proofs.calls.HubChanges.{reached_whole}
use Rattle.hub_core.proofs.open_windows.OpenWindow.reach.Goals as goal

pub invariant_of-self : goal.invariant_of-self
invariant_of-self g c = rw c.max-self-inside.ensures (reached_whole c.self.inside c.args.moment c.self.invariant)
