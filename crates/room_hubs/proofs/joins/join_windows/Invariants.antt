use Rattle.room_hubs.proofs.joins.join_windows.Given as goal
use Rattle.room_hubs.proofs.Prelude.{joined_order, map, room_order, take, ◌++◌, ◌≡◌}

abbrev pub invariant-windows : goal.invariant-windows
invariant-windows l = l.order.items ≡ l.initial.order.items ++ joined_order (map room_order (take l.window-index l.windows))
