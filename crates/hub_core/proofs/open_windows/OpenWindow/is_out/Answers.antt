use Rattle.hub_core.proofs.calls.HubChoices.{out_by_slip}
use Rattle.hub_core.proofs.open_windows.OpenWindow.is_out.Goals as goal
use Rattle.hub_core.proofs.Prelude.{ap, configuration_of, is_out, progress_at, ◌∙◌}

pub returns : goal.returns
returns g c =
    c.is_some.ensures ∙ out_by_slip _ (progress_at c.self.inside.checkouts.known.items c.args.d.0).purpose c.slip.result c.slip.ensures
    ∙ ap (λ s. is_out (configuration_of s).grips c.args.d.0) c.self.view_is
