use Rattle.hub_core.proofs.calls.FinalItems.{legal_begins}
use Rattle.hub_core.proofs.hubs.Hub.close_window.Goals as goal
use Rattle.hub_core.proofs.Prelude.{IsLegalWindow, OpenHub, subst}

pub returns-clause-sealed : goal.returns-clause-sealed
returns-clause-sealed g c strong =
    legal_begins c.args.self.setting c.closed.result.1 (subst (λ (s : OpenHub g.row.D.Denot). IsLegalWindow s.setting c.closed.result.1) c.self.view_is c.closed.ensures.legal) strong
