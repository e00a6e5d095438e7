use Rattle.serial_line.proofs.KeptRuns.{touches_none, touches_some}
use Rattle.serial_line.proofs.kept_runs.KeptRuns.touches_one_of.Goals as goal
use Rattle.serial_line.proofs.Prelude.{ap, kept_run, option_copied, option_map, sym, ◌∙◌}

pub returns-in-Some : goal.returns-in-Some
returns-in-Some c =
    let told = sym c.run.ensures ∙ ap (λ o. option_map kept_run (option_copied o)) c.in-Some.is in
    touches_some c.args.self.now c.args.run.0 c.in-Some.kept.now c.args.devices.now c.meets.result told c.meets.ensures

pub returns-in-None : goal.returns-in-None
returns-in-None c = touches_none c.args.self.now c.args.run.0 c.args.devices.now (sym c.run.ensures ∙ ap (λ o. option_map kept_run (option_copied o)) c.in-None.is)
