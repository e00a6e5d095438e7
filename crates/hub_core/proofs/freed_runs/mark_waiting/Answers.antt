use Rattle.hub_core.proofs.freed_runs.mark_waiting.Goals as goal
use Rattle.hub_core.specs.BlockedMarks.{Marks}
use Rattle.hub_core.proofs.Prelude.{ap, option_map, refl, sym, ◌∙◌}

pub returns : goal.returns
returns g c = Marks c.in-Some.d.0 (sym c.next_device.ensures ∙ ap (option_map (λ d. d.0)) c.in-Some.is) (c.if-may_lend.ensures refl) c.mark.ensures
