use Rattle.hub_core.proofs.Prelude.{ap, false, refl, slice_get, slip_of, true, ◌∙◌, ◌≡◌}
use Rattle.hub_core.proofs.calls.HubRefusals.{not_a_probe, not_probed, refused_probe}
use Rattle.hub_core.proofs.open_windows.OpenWindow.give_probe.Goals as goal
use Rattle.hub_core.proofs.open_windows.OpenWindow.give_probe.Goals.{then-slip-ne0-via-else-slip-ne0+then-not-is_kept, then-slip-ne0-via-then-slip-ne0}

pub returns-then-slip-ne0-clause-given : goal.returns-then-slip-ne0-clause-given
returns-then-slip-ne0-clause-given g c =
    refused_probe c.args.self.now c.args.self.now c.args.grip c.stranger-stranger.result refl (c.stranger-stranger.ensures.kept ∙ ap (λ s. slip_of (slice_get s.places c.args.grip.slip.device.0)) c.self.view_is) c.stranger-stranger.ensures.told (elim c.then-slip-ne0.branch [
      | then-slip-ne0-via-then-slip-ne0 w ↦ not_a_probe c.args.self.now c.args.grip (λ none. w.if-slip-ne0.true (ap (λ s. s.maker) c.slip.ensures ∙ none))
      | then-slip-ne0-via-else-slip-ne0+then-not-is_kept w ↦ not_probed c.args.self.now c.args.grip (λ kept. let no : false ≡ true = w.if-not-is_kept.ensures.1 (ap (λ s. slice_get s.places c.args.grip.slip.device.0) c.self.view_is ∙ kept) in cc)
    ])
