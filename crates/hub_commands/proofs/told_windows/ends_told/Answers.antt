use Rattle.day_report.proofs.Cited.{abort_count-take, commit_count-take, no_aborts, no_commits}
use Rattle.hub_commands.proofs.told_windows.ends_told.Goals as goal
use Rattle.std.proofs.Common.{ap, arith, sym, ◌+◌, ◌∙◌}

pub windows-init : goal.windows-init
windows-init c = record { committed = sym no_commits; aborted = sym no_aborts; few_commits = omega arith; few_aborts = omega arith }

pub windows-preserved : goal.windows-preserved
windows-preserved c =
    let windows = c.args.windows.now in
    let i = c.windows.window-index in
    let window = c.window-item.result in
    record {
      committed = ap (λ n. n + c.committed.result) c.windows.invariant.committed ∙ commit_count-take windows i c.committed.result window c.windows-test.true c.window-item.is c.committed.ensures;
      aborted = ap (λ n. n + c.aborted.result) c.windows.invariant.aborted ∙ abort_count-take windows i c.aborted.result window c.windows-test.true c.window-item.is c.aborted.ensures;
      few_commits = omega arith;
      few_aborts = omega arith;
    }
