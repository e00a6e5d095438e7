use Rattle.serial_line.proofs.lines.front_from.Given as goal
use Rattle.serial_line.proofs.Prelude.{front_of, ◌≤◌}

-- no item so far is a run that has not ended
abbrev pub invariant-items : goal.invariant-items
invariant-items l = l.at ≤ front_of l.entries
