use Rattle.window_devices.proofs.checkouts.Checkouts.known.Goals as goal
use Rattle.window_devices.proofs.Prelude.{ap, no_device, unwrap_or, unwrap_or-slice_get, ◌∙◌}

pub returns-in-None : goal.returns-in-None
returns-in-None g c = ap (λ o. unwrap_or o no_device) c.in-None.ensures ∙ unwrap_or-slice_get c.args.self.now.known.items c.args.d.0 no_device
