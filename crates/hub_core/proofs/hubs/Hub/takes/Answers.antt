use Rattle.hub_core.proofs.calls.HubLaws.{command_out}
use Rattle.hub_core.proofs.hubs.Hub.takes.Goals as goal
use Rattle.hub_core.proofs.Prelude.{DeviceProgress, ap, sym, ◌∙◌}

pub command-requires : goal.command-requires
command-requires g c =
    let purpose = ap (λ (x : DeviceProgress). x.purpose) (sym c.known.ensures) ∙ c.in-Commands.is in
    let both = command_out g.D.Device.shows _ c.args.d.0 c.in-Some.slip c.in-Commands.k c.window.invariant.shown c.in-Some.ensures purpose in
    record { run = both.0; there = both.1 }
