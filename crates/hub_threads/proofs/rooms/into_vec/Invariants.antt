use Rattle.hub_threads.proofs.rooms.into_vec.Given as goal
use Rattle.hub_threads.proofs.Prelude.{length, reverse, vec_capacity, vec_len, ◌++◌, ◌+◌, ◌≡◌, ◌≤◌}

abbrev pub invariant-items : goal.invariant-items
invariant-items g l =
    (l.fn.list.items ≡ l.list.items ++ reverse l.items.items) × (vec_len l.items + length l.list.items ≤ vec_capacity l.items)

abbrev pub decreases-items : goal.decreases-items
decreases-items g l = length l.list.items
