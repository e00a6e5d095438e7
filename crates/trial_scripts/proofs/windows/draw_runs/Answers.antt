use Rattle.trial_scripts.proofs.DrawnEach.{none_yet, one_more}
use Rattle.trial_scripts.proofs.windows.draw_runs.Goals as goal
use Rattle.trial_scripts.proofs.Prelude.{draw_run}

pub runs-init : goal.runs-init
runs-init c = none_yet (λ _. draw_run) c.args.draws.now c.new-runs.result.items c.new-runs.ensures.empty

pub runs-preserved : goal.runs-preserved
runs-preserved c =
    one_more (λ _. draw_run) c.runs.counter c.args.draws.now c.runs.draws c.draw_run.new.draws c.runs.runs.items c.push.new.self.items c.draw_run.result
    c.runs.invariant c.draw_run.ensures c.in_ok-push.ensures.ok
