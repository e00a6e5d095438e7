use Rattle.day_report.proofs.Counts.{abort_count-take, commit_count-take, no_aborts, no_commits}
use Rattle.day_report.proofs.days.ends_of.Goals as goal
use Rattle.day_report.proofs.Prelude.{ap, arith, count_by, is_abort, is_commit, sym, ◌+◌, ◌∙◌, ◌≡◌}

pub windows-init : goal.windows-init
windows-init c = record { committed = sym no_commits; aborted = sym no_aborts; few_commits = omega arith; few_aborts = omega arith }

pub windows-preserved : goal.windows-preserved
windows-preserved c =
    let windows = c.args.windows.now in
    let i = c.windows.closed-index in
    let closed = c.closed-item.result in
    let commits : c.commits_in.result ≡ count_by (λ kept. is_commit kept.entry) closed.history.items = c.commits_in.ensures ∙ ap (count_by (λ kept. is_commit kept.entry)) c.as_slice-history.ensures in
    let aborts : c.aborts_in.result ≡ count_by (λ kept. is_abort kept.entry) closed.history.items = c.aborts_in.ensures ∙ ap (count_by (λ kept. is_abort kept.entry)) c.as_slice-history.ensures in
    record {
      committed = ap (λ n. n + c.commits_in.result) c.windows.invariant.committed ∙ commit_count-take windows i c.commits_in.result closed c.windows-test.true c.closed-item.is commits;
      aborted = ap (λ n. n + c.aborts_in.result) c.windows.invariant.aborted ∙ abort_count-take windows i c.aborts_in.result closed c.windows-test.true c.closed-item.is aborts;
      few_commits = omega arith;
      few_aborts = omega arith;
    }
