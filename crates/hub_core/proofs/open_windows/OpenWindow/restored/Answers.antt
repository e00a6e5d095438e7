use Rattle.hub_core.proofs.calls.ProbesOut.{restores, restores_weakly}
use Rattle.hub_core.proofs.open_windows.OpenWindow.restored.Goals as goal
use Rattle.hub_core.proofs.Prelude.{DeviceProgress, ap, progress_at, sym, ◌∙◌}

pub returns-then-is_weak : goal.returns-then-is_weak
returns-then-is_weak g c =
    restores_weakly c.self.inside c.args.self.now c.args.d.0 _ c.is_up.result c.self.view_is c.requires c.is_up.ensures c.if-is_up.false
    (ap (λ (k : DeviceProgress). k.held) c.known.ensures ∙ ap (λ s. (progress_at s.devices c.args.d.0).held) c.self.view_is)
    (sym c.if-is_weak.ensures) c.self.invariant

pub returns-else-is_weak : goal.returns-else-is_weak
returns-else-is_weak g c = restores c.self.inside c.args.self.now c.args.d.0 c.stand.result c.is_up.result c.self.view_is c.kept_invariant.ensures c.requires c.is_up.ensures c.if-is_up.false c.stand.ensures (sym c.if-is_weak.ensures) c.self.invariant
