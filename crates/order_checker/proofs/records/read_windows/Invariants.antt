use Rattle.home_types.specs.Limits.{most_runs}
use Rattle.order_checker.proofs.records.read_windows.Given as goal
use Rattle.order_checker.proofs.Prelude.{drop, length, next_window_told, progress_told, walk, ◌*◌, ◌≡◌, ◌≤◌}

-- what was read of the windows so far
abbrev pub invariant-windows : goal.invariant-windows
invariant-windows l =
    record {
      walk : walk (next_window_told l.script) (progress_told l.fn.first) l.windows ≡ walk (next_window_told l.script) (progress_told l.so_far) (drop l.window-index l.windows);
      number : l.so_far.windows ≡ l.window-index;
      home : length l.so_far.home.items ≡ length l.script.devices.items;
      runs : l.so_far.runs ≤ l.so_far.windows * most_runs;
      committed : l.so_far.committed ≤ l.so_far.runs;
    }
