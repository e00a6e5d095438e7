use Rattle.window_order.proofs.order_states.first_behind.Given as goal
use Rattle.window_order.proofs.Prelude.{accesses_at, drop, first_with_access, items_of, ◌≡◌}

-- no run from the place up to here has an access
abbrev pub invariant-items : goal.invariant-items
invariant-items l = first_with_access (accesses_at l.table l.d.0) (drop l.k (items_of l.line.marks)) ≡ first_with_access (accesses_at l.table l.d.0) (drop l.at (items_of l.line.marks))
