use Rattle.hub_commands.proofs.NextWindows.{last_closed, more_windows, one_more, same_kinds}
use Rattle.hub_commands.proofs.replays.replay_next.Goals as goal
use Rattle.hub_commands.proofs.Prelude.{IsReplayOf}

pub returns-in-Ok-clause-last : goal.returns-in-Ok-clause-last
returns-in-Ok-clause-last g c =
    let D = g.D.Device in
    last_closed D.shows c.in-Ok.windows.items c.replay_opened.result c.close_next.result c.close_next.ensures.closed

pub returns-in-Ok-clause-played : goal.returns-in-Ok-clause-played
returns-in-Ok-clause-played g c =
    let D = g.D.Device in
    one_more IsReplayOf D.shows c.args.script.now c.args.mode c.args.before c.args.day c.in-Ok.hub c.in-Ok.window.now c.in-Ok.windows.items c.replay_opened.result
    c.in-Ok.ensures.opened c.in-Ok.ensures.records c.replay_opened.ensures c.close_next.result c.close_next.ensures.closed

pub returns-in-Ok-clause-more : goal.returns-in-Ok-clause-more
returns-in-Ok-clause-more g c =
    let D = g.D.Device in
    more_windows IsReplayOf D.shows c.args.script.now c.args.mode c.args.before c.args.day c.in-Ok.hub c.in-Ok.window.now c.in-Ok.windows.items c.replay_opened.result
    c.in-Ok.ensures.opened c.in-Ok.ensures.records c.replay_opened.ensures c.close_next.result c.close_next.ensures.closed

pub returns-in-Ok-clause-kinds : goal.returns-in-Ok-clause-kinds
returns-in-Ok-clause-kinds g c =
    let D = g.D.Device in
    same_kinds IsReplayOf D.shows c.args.script.now c.args.mode c.args.before c.args.day c.in-Ok.hub c.in-Ok.window.now c.in-Ok.windows.items c.replay_opened.result
    c.in-Ok.ensures.opened c.in-Ok.ensures.records c.replay_opened.ensures c.close_next.result c.close_next.ensures.closed
