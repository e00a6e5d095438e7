use Rattle.window_order.proofs.leavings.line_items.Given as goal
use Rattle.window_order.proofs.Prelude.{items_of, length, take, ◌+◌, ◌≡◌, ◌≤◌}

-- the items up to here, with room for the others
abbrev pub invariant-items : goal.invariant-items
invariant-items l = record {
  items : l.items.items ≡ take l.at (items_of l.line.marks);
  room : length l.line.marks ≤ l.items.spare + l.at;
  end : l.at-end ≡ length l.line.marks;
}
