use Rattle.order_checker.proofs.lines.has_ended.Given as goal
use Rattle.order_checker.proofs.Prelude.{length, lines_of, ◌≡◌}

-- the notes so far are no lines
abbrev pub invariant-notes : goal.invariant-notes
invariant-notes l = lines_of l.rest ≡ lines_of l.text

abbrev pub decreases-notes : goal.decreases-notes
decreases-notes l = length l.rest
