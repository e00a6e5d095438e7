use Rattle.room_hubs.proofs.told_windows.told_history.Given as goal
use Rattle.room_hubs.proofs.Prelude.{joined_history, take, ◌≡◌}

abbrev pub invariant-windows : goal.invariant-windows
invariant-windows l = l.history.items ≡ joined_history (take l.window-index l.windows)
