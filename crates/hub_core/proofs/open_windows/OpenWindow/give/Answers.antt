use Rattle.hub_core.proofs.Prelude.{ap, false, refl, slice_get, slip_of, sym, true, ◌∙◌, ◌≡◌}
use Rattle.hub_core.proofs.calls.HubRefusals.{not_a_run, not_out, refused_given}
use Rattle.hub_core.proofs.open_windows.OpenWindow.give.Goals as goal
use Rattle.hub_core.proofs.open_windows.OpenWindow.give.Goals.{then-slip-eq0-via-else-slip-eq0+then-not-is_kept, then-slip-eq0-via-then-slip-eq0}

pub returns-then-slip-eq0-clause-given : goal.returns-then-slip-eq0-clause-given
returns-then-slip-eq0-clause-given g c =
    refused_given c.args.self.now c.args.self.now c.args.grip c.args.moment c.stranger-stranger.result refl (c.stranger-stranger.ensures.kept ∙ ap (λ s. slip_of (slice_get s.places c.args.grip.slip.device.0)) c.self.view_is) c.stranger-stranger.ensures.told (elim c.then-slip-eq0.branch [
      | then-slip-eq0-via-then-slip-eq0 w ↦ not_a_run c.args.self.now c.args.grip (ap (λ s. s.maker) (sym c.slip.ensures) ∙ w.if-slip-eq0.true)
      | then-slip-eq0-via-else-slip-eq0+then-not-is_kept w ↦ not_out c.args.self.now c.args.grip (λ kept. let no : false ≡ true = w.if-not-is_kept.ensures.1 (ap (λ s. slice_get s.places c.args.grip.slip.device.0) c.self.view_is ∙ kept) in cc)
    ])
