use Rattle.serial_line.proofs.order_labels.with_room.Given as goal
use Rattle.serial_line.proofs.Prelude.{length, take, vec_capacity, vec_len, ◌+◌, ◌≡◌}

-- the labels before the place stand there, in order
abbrev pub invariant-labels : goal.invariant-labels
invariant-labels l =
    (l.more.items ≡ take l.at l.labels)
    × (vec_len l.more ≡ l.at)
    × (vec_capacity l.more ≡ length l.labels + l.n)
