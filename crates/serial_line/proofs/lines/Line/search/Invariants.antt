use Rattle.serial_line.proofs.Prelude.{None, drop, is_item, last_place, length, ◌≡◌, ◌≤◌}
use Rattle.serial_line.proofs.lines.Line.search.Given as goal

-- nothing from the place on is what is looked for
abbrev pub invariant-loop-at : goal.invariant-loop-at
invariant-loop-at l = (l.at ≤ length l.self-inside.entries.items) × (last_place (λ m. is_item l.item m.item) (drop l.at l.self-inside.entries.items) ≡ None)

abbrev pub decreases-loop-at : goal.decreases-loop-at
decreases-loop-at l = l.at
