use Rattle.timeline_scheduler.proofs.Prelude.{runs_of, sym, ◌∙◌}
use Rattle.timeline_scheduler.proofs.Gathering.{run_meets, run_meets_shared, run_shares}
use Rattle.timeline_scheduler.proofs.gathered.Gathered.meets_run.Goals as goal

pub returns-then-meets : goal.returns-then-meets
returns-then-meets c = λ items g.
    run_meets_shared (runs_of c.args.roster.now) c.args.x.0 items
    (sym c.if-meets.true ∙ run_shares (runs_of c.args.roster.now) c.args.x.0 c.args.self.now.devices c.devices.result.now items c.meets.result g.devices c.devices.ensures c.meets.ensures)

pub returns : goal.returns
returns c = λ items g.
    run_meets (runs_of c.args.roster.now) c.args.x.0 items c.is_tied.result
    (sym c.if-meets.false ∙ run_shares (runs_of c.args.roster.now) c.args.x.0 c.args.self.now.devices c.devices.result.now items c.meets.result g.devices c.devices.ensures c.meets.ensures) (c.is_tied.ensures items g)
