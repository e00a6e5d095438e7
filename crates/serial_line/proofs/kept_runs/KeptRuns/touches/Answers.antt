use Rattle.serial_line.proofs.KeptRuns.{touches_kept}
use Rattle.serial_line.proofs.kept_runs.KeptRuns.touches.Goals as goal
use Rattle.serial_line.proofs.Prelude.{ap, kept_run, option_copied, option_map, sym, ◌∙◌}

pub returns-in-Some : goal.returns-in-Some
returns-in-Some c =
    let told = sym c.run.ensures ∙ ap (λ o. option_map kept_run (option_copied o)) c.in-Some.is in
    c.has.ensures ∙ touches_kept c.args.self.now c.args.run.0 c.args.device.0 c.in-Some.kept.now told
