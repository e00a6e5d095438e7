use Rattle.step_table.proofs.Prelude.{item_fits, length, list_all, rules, true, ◌≡◌}
use Rattle.step_table.proofs.FittingOrders.{are_items}
use Rattle.step_table.proofs.serial_orders.redo.Goals as goal

pub run_order-requires-clause-items : goal.run_order-requires-clause-items
run_order-requires-clause-items c =
    let size : c.len-devices.result ≡ length c.in_ok-of.field-0.items = search rules in
    let count : c.len-runs.result ≡ length c.args.roster.now.runs.items = search rules in
    let fit : list_all (item_fits c.len-devices.result c.len-runs.result) c.args.closed.now.order.items ≡ true = search rules in
    are_items c.in_ok-of.field-0.items c.args.roster.now c.len-devices.result c.len-runs.result c.args.closed.now.order.items size count fit
