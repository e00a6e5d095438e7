use Rattle.hub_core.proofs.calls.HubOrders.{hub_downs, next_home}
use Rattle.hub_core.proofs.open_windows.OpenWindow.decide_weakly.Goals as goal
use Rattle.hub_core.proofs.Prelude.{sym}

pub is_up-requires : goal.is_up-requires
is_up-requires g c = next_home c.self.inside c.args.r.0 c.in-Some-next_command.command c.in-Some-next_command.ensures c.self.invariant

pub returns-else-is_up : goal.returns-else-is_up
returns-else-is_up g c =
    λ m. hub_downs c.self.inside c.args.self.now c.args.r.0 c.next-k.result c.register.result c.args.progress c.in-Some-next_command.command c.self.view_is
    c.requires.known c.in_default.is c.in-Some-next_command.ensures c.next-k.ensures c.register.ensures (sym c.if-not-holds.ensures)
    (sym c.if-is_out.ensures) c.if-is_up.ensures c.self.invariant
