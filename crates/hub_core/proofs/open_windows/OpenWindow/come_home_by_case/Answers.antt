use Rattle.hub_core.proofs.Prelude.{DeviceProgress, ap, has_died, is_undo, progress_at, sym, ◌∙◌}
use Rattle.hub_core.proofs.calls.HubReturns.{no_probe}
use Rattle.hub_core.proofs.open_windows.OpenWindow.come_home_by_case.Goals as goal

pub answer_died-requires-clause-purpose : goal.answer_died-requires-clause-purpose
answer_died-requires-clause-purpose g c =
    ap (λ s. (progress_at s.devices c.args.grip.slip.device.0).purpose) (sym c.self.view_is)
    ∙ ap (λ s. (progress_at c.self.inside.checkouts.known.items s.device.0).purpose) (sym c.slip.ensures) ∙ ap (λ (p : DeviceProgress). p.purpose) (sym c.known.ensures) ∙ c.in-Commands.is

pub answer_died-requires-clause-died : goal.answer_died-requires-clause-died
answer_died-requires-clause-died g c = ap has_died (sym c.told.ensures) ∙ sym c.died-died.ensures ∙ c.if-died.true

pub answer_lived-requires-clause-purpose : goal.answer_lived-requires-clause-purpose
answer_lived-requires-clause-purpose g c =
    ap (λ s. (progress_at s.devices c.args.grip.slip.device.0).purpose) (sym c.self.view_is)
    ∙ ap (λ s. (progress_at c.self.inside.checkouts.known.items s.device.0).purpose) (sym c.slip.ensures) ∙ ap (λ (p : DeviceProgress). p.purpose) (sym c.known.ensures) ∙ c.in-Commands-2.is

pub answer_lived-requires-clause-lives : goal.answer_lived-requires-clause-lives
answer_lived-requires-clause-lives g c = ap has_died (sym c.told.ensures) ∙ sym c.died-died.ensures ∙ c.if-died.false

pub undo_died-requires-clause-purpose : goal.undo_died-requires-clause-purpose
undo_died-requires-clause-purpose g c =
    ap (λ s. is_undo (progress_at s.devices c.args.grip.slip.device.0).purpose) (sym c.self.view_is)
    ∙ ap is_undo (ap (λ s. (progress_at c.self.inside.checkouts.known.items s.device.0).purpose) (sym c.slip.ensures) ∙ ap (λ (p : DeviceProgress). p.purpose) (sym c.known.ensures) ∙ c.in-Undoes.is)

pub undo_died-requires-clause-died : goal.undo_died-requires-clause-died
undo_died-requires-clause-died g c = ap has_died (sym c.told.ensures) ∙ sym c.died-died.ensures ∙ c.if-died-2.true

pub undo_lived-requires-clause-purpose : goal.undo_lived-requires-clause-purpose
undo_lived-requires-clause-purpose g c =
    ap (λ s. is_undo (progress_at s.devices c.args.grip.slip.device.0).purpose) (sym c.self.view_is)
    ∙ ap is_undo (ap (λ s. (progress_at c.self.inside.checkouts.known.items s.device.0).purpose) (sym c.slip.ensures) ∙ ap (λ (p : DeviceProgress). p.purpose) (sym c.known.ensures) ∙ c.in-Undoes-2.is)

pub undo_lived-requires-clause-lives : goal.undo_lived-requires-clause-lives
undo_lived-requires-clause-lives g c = ap has_died (sym c.told.ensures) ∙ sym c.died-died.ensures ∙ c.if-died-2.false

pub unreachable-requires : goal.unreachable-requires
unreachable-requires g c =
    no_probe c.self.inside c.args.self.now c.args.grip.slip c.args.grip.task c.in-Probes.field-0 c.self.view_is c.requires.kept c.requires.maker
    (ap (λ s. (progress_at c.self.inside.checkouts.known.items s.device.0).purpose) (sym c.slip.ensures) ∙ ap (λ (p : DeviceProgress). p.purpose) (sym c.known.ensures) ∙ c.in-Probes.is) c.self.invariant
