use Rattle.hub_core.proofs.Prelude.{ap, arith, configuration_of, grip_wait, is_run, open_of, option_copied, run_place, sym, ◌-◌, ◌∙◌}
use Rattle.hub_core.proofs.calls.Departures.{is_there}
use Rattle.hub_core.proofs.open_windows.OpenWindow.grip_of.Goals as goal

pub unwrap-requires : goal.unwrap-requires
unwrap-requires g c =
    let place = run_place c.self.inside.history.setting.runs c.args.r.0 (ap (λ s. is_run s.setting.runs c.args.r.0) c.self.view_is ∙ c.requires) in
    is_there c.self.inside.checkouts.held_tokens.items (c.args.r.0 - 1) _ (omega (arith, place.1, c.self.invariant.held_tokens.size)) c.get.ensures

pub returns : goal.returns
returns g c =
    let place = run_place c.self.inside.history.setting.runs c.args.r.0 (ap (λ s. is_run s.setting.runs c.args.r.0) c.self.view_is ∙ c.requires) in
    c.self.invariant.held_tokens.each (c.args.r.0 - 1) _ (sym c.get.ensures ∙ ap option_copied c.unwrap.ensures)
    ∙ ap (grip_wait c.self.inside.history.setting (configuration_of (open_of c.self.inside)).grips) (sym place.0)
    ∙ ap (λ s. grip_wait s.setting (configuration_of s).grips c.args.r.0) c.self.view_is
