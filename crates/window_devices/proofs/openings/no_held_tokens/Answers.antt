use Rattle.window_devices.proofs.OpenedDevices.{replicate_more}
use Rattle.window_devices.proofs.openings.no_held_tokens.Goals as goal
use Rattle.window_devices.proofs.Prelude.{None, [], ap, ◌++◌, ◌∙◌, ◌∷◌}

pub runs-preserved : goal.runs-preserved
runs-preserved c = c.in_ok-push.ensures.ok ∙ ap (λ (l : _). l ++ None ∷ []) c.runs.invariant ∙ replicate_more c.runs.counter None
