use Rattle.hub_commands.proofs.ToldWindows.{total_told}
use Rattle.day_report.specs.Days.{abort_count, commit_count}
use Rattle.hub_commands.proofs.days.total_line.Goals as goal
use Rattle.std.proofs.Common.{ap, ◌∙◌}

pub returns : goal.returns
returns c =
    total_told c.args.windows.now.items c.len.result c.ends_told.result.committed c.ends_told.result.aborted c.counts_text.result
    c.len.ensures (c.ends_told.ensures.committed ∙ ap commit_count c.as_slice.ensures) (c.ends_told.ensures.aborted ∙ ap abort_count c.as_slice.ensures) c.counts_text.ensures
