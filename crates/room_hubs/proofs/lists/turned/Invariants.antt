use Rattle.room_hubs.proofs.lists.turned.Given as goal
use Rattle.room_hubs.proofs.Prelude.{length, reverse, ◌++◌, ◌≡◌, ◌≤◌}

abbrev pub invariant-items : goal.invariant-items
invariant-items g l = (reverse l.fn.list.items ≡ l.room.items ++ reverse l.list.items) × (length l.list.items ≤ l.room.spare)

abbrev pub decreases-items : goal.decreases-items
decreases-items g l = length l.list.items
