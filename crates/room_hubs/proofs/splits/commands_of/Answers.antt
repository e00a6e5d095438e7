use Rattle.room_hubs.proofs.Found.{commands_found, looked_at, looked_past}
use Rattle.room_hubs.proofs.splits.commands_of.Goals as goal
use Rattle.room_hubs.proofs.Prelude.{None, Some, arith, ◌-◌, ◌∙◌}

pub returns-in-Some : goal.returns-in-Some
returns-in-Some c =
    let runs = c.args.runs.now in
    let run = c.in-Some.run'.now in
    c.as_slice.ensures
    ∙ commands_found runs c.args.run.0 (Some run) (omega (arith, c.if-run-eq0.false)) (looked_at runs (c.args.run.0 - 1) run c.in-Some.ensures.lookup.0 c.in-Some.ensures.lookup.1)

pub returns-in-None : goal.returns-in-None
returns-in-None c =
    let runs = c.args.runs.now in
    commands_found runs c.args.run.0 None (omega (arith, c.if-run-eq0.false)) (looked_past runs (c.args.run.0 - 1) c.in-None.ensures.lookup.0)
