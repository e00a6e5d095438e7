use Rattle.serial_line.proofs.KeptRuns.{run_kept}
use Rattle.serial_line.proofs.kept_runs.KeptRuns.run.Goals as goal
use Rattle.serial_line.proofs.Prelude.{ap, arith, common_steps, kept_run, option_map, run_in_roster, ◌∙◌, ◌≢◌}

pub returns : goal.returns
returns c =
    let some : c.args.run.0 ≢ 0 = grind (arith, common_steps) in
    ap (option_map kept_run) c.get.ensures ∙ run_kept c.self.inside.runs.items c.args.run.0 some ∙ ap (λ rs. run_in_roster rs c.args.run.0) c.self.view_is
