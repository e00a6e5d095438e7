use Rattle.hub_commands.proofs.NextWindows.{last_closed, more_windows, one_more}
use Rattle.hub_commands.proofs.runs.run_next.Goals as goal
use Rattle.hub_commands.proofs.Prelude.{IsRunWithin}

pub returns-in-Ok-clause-last : goal.returns-in-Ok-clause-last
returns-in-Ok-clause-last g c =
    let D = g.D.Device in
    last_closed D.shows c.in-Ok.windows.items c.run_opened.result c.close_next.result c.close_next.ensures.closed

pub returns-in-Ok-clause-played : goal.returns-in-Ok-clause-played
returns-in-Ok-clause-played g c =
    let D = g.D.Device in
    one_more (IsRunWithin (g.C.Clock.earliest c.args.clock.now) (g.C.Clock.latest c.args.clock.now)) D.shows c.args.script.now c.args.mode 0 c.args.day c.in-Ok.hub c.in-Ok.window.now c.in-Ok.windows.items c.run_opened.result
    c.in-Ok.ensures.opened c.in-Ok.ensures.records c.run_opened.ensures c.close_next.result c.close_next.ensures.closed

pub returns-in-Ok-clause-more : goal.returns-in-Ok-clause-more
returns-in-Ok-clause-more g c =
    let D = g.D.Device in
    more_windows (IsRunWithin (g.C.Clock.earliest c.args.clock.now) (g.C.Clock.latest c.args.clock.now)) D.shows c.args.script.now c.args.mode 0 c.args.day c.in-Ok.hub c.in-Ok.window.now c.in-Ok.windows.items c.run_opened.result
    c.in-Ok.ensures.opened c.in-Ok.ensures.records c.run_opened.ensures c.close_next.result c.close_next.ensures.closed
