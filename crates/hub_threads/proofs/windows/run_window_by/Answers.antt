use Rattle.hub_threads.proofs.Passes.{none_out}
use Rattle.hub_threads.proofs.Worked.{worked_so}
use Rattle.hub_threads.proofs.windows.run_window_by.Goals as goal
use Rattle.hub_threads.proofs.Prelude.{sym, ◌∙◌}

pub run_named-requires-clause-out : goal.run_named-requires-clause-out
run_named-requires-clause-out g c κs within = c.in-Ok.ensures ∙ none_out c.args.hub c.device_count-2.result c.requires.fresh (c.kept_invariant.ensures.size ∙ sym c.device_count-2.ensures)

pub returns-in-Ok-run_named-clause-worked : goal.returns-in-Ok-run_named-clause-worked
returns-in-Ok-run_named-clause-worked g c =
    let D = g.D.Device in
    worked_so D.shows (g.C.Clock.earliest c.args.clock.now) (g.C.Clock.latest c.args.clock.now) c.args.hub c.in-Ok-run_named.last c.closed.result.0 c.closed.result.1
    c.kept_invariant.ensures c.in-Ok-run_named.ensures.named c.closed.ensures.stands c.closed.ensures.closed c.closed.ensures.none_left
