use Rattle.day_report.specs.Days.{abort_count, commit_count}
use Rattle.hub_commands.proofs.told_windows.ends_told.Given as goal
use Rattle.std.proofs.Common.{take, ◌*◌, ◌^◌, ◌≡◌, ◌≤◌}

-- the counts of the windows so far; each is a number of 64 bits
abbrev pub invariant-windows : goal.invariant-windows
invariant-windows l =
    record {
      committed : l.ends.committed ≡ commit_count (take l.window-index l.windows);
      aborted : l.ends.aborted ≡ abort_count (take l.window-index l.windows);
      few_commits : l.ends.committed ≤ l.window-index * 2 ^ 64;
      few_aborts : l.ends.aborted ≤ l.window-index * 2 ^ 64;
    }
