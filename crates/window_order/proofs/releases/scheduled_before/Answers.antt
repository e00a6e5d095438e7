use Rattle.window_order.proofs.releases.scheduled_before.Goals as goal

pub returns-clause-disciplined : goal.returns-clause-disciplined
returns-clause-disciplined c = c.kept_invariant.ensures c.args.d.0
