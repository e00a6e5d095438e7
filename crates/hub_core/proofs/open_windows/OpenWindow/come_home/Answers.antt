use Rattle.hub_core.proofs.Prelude.{DeviceProgress, ap, has_died, progress_at, sym, ◌∙◌}
use Rattle.hub_core.proofs.open_windows.OpenWindow.come_home.Goals as goal

pub answer_lived-requires-clause-purpose : goal.answer_lived-requires-clause-purpose
answer_lived-requires-clause-purpose g c =
    ap (λ s. (progress_at s.devices c.args.grip.slip.device.0).purpose) (sym c.self.view_is)
    ∙ ap (λ s. (progress_at c.self.inside.checkouts.known.items s.device.0).purpose) (sym c.slip.ensures) ∙ ap (λ (p : DeviceProgress). p.purpose) (sym c.known.ensures) ∙ c.in-Commands.is

pub answer_lived-requires-clause-lives : goal.answer_lived-requires-clause-lives
answer_lived-requires-clause-lives g c = ap has_died (sym c.told.ensures) ∙ sym c.died-died.ensures ∙ c.if-not-died.true
