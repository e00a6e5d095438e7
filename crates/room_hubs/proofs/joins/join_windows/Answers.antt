use Rattle.room_hubs.proofs.JoinedOrders.{join_next}
use Rattle.room_hubs.proofs.joins.join_windows.Goals as goal
use Rattle.room_hubs.proofs.Prelude.{arith, length, ◌<◌, ◌∙◌}

pub windows-preserved : goal.windows-preserved
windows-preserved c =
    let within : c.windows.window-index < length c.args.windows.now = omega (arith, c.windows-test.true) in
    c.in_ok-push_items.ensures
    ∙ join_next c.args.windows.now c.windows.window-index c.window-item.result c.args.order.now.items c.windows.order.items c.as_slice.result.now within c.window-item.is c.windows.invariant c.as_slice.ensures
