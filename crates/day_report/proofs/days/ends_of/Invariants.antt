use Rattle.day_report.proofs.days.ends_of.Given as goal
use Rattle.day_report.proofs.Prelude.{abort_count, commit_count, take, ◌*◌, ◌^◌, ◌≡◌, ◌≤◌}

-- the counts of the windows so far; a window has fewer than 2^64 entries
abbrev pub invariant-windows : goal.invariant-windows
invariant-windows l =
    record {
      committed : l.ends.committed ≡ commit_count (take l.closed-index l.windows);
      aborted : l.ends.aborted ≡ abort_count (take l.closed-index l.windows);
      few_commits : l.ends.committed ≤ l.closed-index * 2 ^ 64;
      few_aborts : l.ends.aborted ≤ l.closed-index * 2 ^ 64;
    }
