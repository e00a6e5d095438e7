use Rattle.serial_line.proofs.Labels.{AreAnewUpTo}
use Rattle.serial_line.proofs.order_labels.give_anew.Given as goal
use Rattle.serial_line.proofs.Prelude.{AreLabels, take, vec_capacity, vec_len, ◌≡◌}

-- the labels before the place are given, and those before the first one stay
abbrev pub invariant-labels : goal.invariant-labels
invariant-labels l =
    AreLabels (take l.at l.labels.items)
    × (take l.from l.labels.items ≡ take l.from l.fn.labels.items)
    × (vec_len l.labels ≡ vec_len l.fn.labels)
    × (vec_capacity l.labels ≡ vec_capacity l.fn.labels)
    × AreAnewUpTo l.from l.at l.labels.items
