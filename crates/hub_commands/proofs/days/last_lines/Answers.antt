use Rattle.hub_commands.proofs.ToldWindows.{lines_of_last}
use Rattle.hub_commands.proofs.days.last_lines.Goals as goal
use Rattle.std.proofs.Common.{arith, ◌-◌}

pub returns : goal.returns
returns c =
    let some = c.requires.some in
    let len = c.len-number.ensures in
    lines_of_last c.args.script.now c.args.before (c.len-number.result - 1) c.args.closed.now c.args.windows.now.items c.args.options.mode c.args.options.trace c.window_text.result
    c.requires.last (omega (arith, some, len)) c.window_text.ensures
