use Rattle.window_order.proofs.Scheduling.{found_first, found_none}
use Rattle.window_order.proofs.order_states.first_behind.Goals as goal
use Rattle.window_order.proofs.Prelude.{accesses_at, ap, first_with_access, items_of, option_to_list, sym, ◌∙◌}

pub returns-then-is_some : goal.returns-then-is_some
returns-then-is_some c =
    found_first (accesses_at c.args.table.now c.args.d.0) (items_of c.args.line.now.marks) c.items.k c.run_with_access-found.result
    (c.run_with_access-found.ensures ∙ ap (λ o. first_with_access (accesses_at c.args.table.now c.args.d.0) (option_to_list o))
    (sym c.unwrap-item.ensures ∙ c.get.ensures)) (sym c.if-is_some.ensures)
    ∙ c.items.invariant

pub items-preserved : goal.items-preserved
items-preserved c =
    found_none (accesses_at c.args.table.now c.args.d.0) (items_of c.args.line.now.marks) c.items.k c.run_with_access-found.result
    (c.run_with_access-found.ensures ∙ ap (λ o. first_with_access (accesses_at c.args.table.now c.args.d.0) (option_to_list o))
    (sym c.unwrap-item.ensures ∙ c.get.ensures)) (sym c.if-is_some.ensures)
    ∙ c.items.invariant
