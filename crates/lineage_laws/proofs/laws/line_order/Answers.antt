use Rattle.lineage_laws.proofs.laws.line_order.Goals as goal
use Rattle.lineage_laws.proofs.LineOrders.{order_drop, order_put, order_without}
use Rattle.lineage_laws.proofs.Prelude.{accesses_at}

pub returns-clause-without : goal.returns-clause-without
returns-clause-without c = λ r. order_without c.args.runs.now.items (accesses_at c.args.table.now c.args.d.0) r c.requires.order

pub returns-clause-left : goal.returns-clause-left
returns-clause-left c = λ k. order_drop c.args.runs.now.items k (accesses_at c.args.table.now c.args.d.0) c.requires.differ c.requires.order

pub returns-clause-put : goal.returns-clause-put
returns-clause-put c = λ place access within n. order_put c.args.runs.now.items (accesses_at c.args.table.now c.args.d.0) place access c.requires.differ c.requires.order n
