use Rattle.hub_core.proofs.Prelude.{IsStandingOf, OpenHub, configuration_of, false, runs_of, subst}
use Rattle.hub_core.proofs.calls.HubChanges.{strong_here}
use Rattle.hub_core.proofs.calls.HubOrders.{standing_whole}
use Rattle.hub_core.proofs.open_windows.OpenWindow.standing.Goals as goal

pub returns : goal.returns
returns g c =
    subst (λ (t : OpenHub g.row.D.Denot). IsStandingOf (configuration_of t)
    (record { table = c.self.inside.order.table; line = c.self.inside.order.line.marks; history = c.book.result.now.items; runs = runs_of c.indexed_roster.result.now })) c.self.view_is
    (rw (c.book.ensures, c.indexed_roster.ensures) (standing_whole c.self.inside c.kept_invariant.ensures (strong_here c.self.inside c.args.self.now false c.self.view_is c.requires.strong) c.self.invariant))
