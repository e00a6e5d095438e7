use Rattle.hub_commands.proofs.WorkedWays.{rounds_at, run_as}
use Rattle.hub_commands.proofs.runs.run_opened.Goals as goal

pub run_window-requires-clause-rounds : goal.run_window-requires-clause-rounds
run_window-requires-clause-rounds g c κs within = rounds_at c.args.hub c.args.window.now.probes c.requires.fresh c.requires.rounds

pub returns-in-Ok : goal.returns-in-Ok
returns-in-Ok g c =
    let D = g.D.Device in
    run_as D.shows (g.C.Clock.earliest c.args.clock.now) (g.C.Clock.latest c.args.clock.now) c.args.hub c.args.window.now c.in-Ok.done.0 c.in-Ok.done.1
    c.requires.rounds c.in-Ok.ensures.worked
