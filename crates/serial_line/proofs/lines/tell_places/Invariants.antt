use Rattle.serial_line.proofs.lines.tell_places.Given as goal
use Rattle.serial_line.proofs.Prelude.{ArePlacesBefore}

-- the runs before the place have theirs
abbrev pub invariant-entries : goal.invariant-entries
invariant-entries l = ArePlacesBefore l.at l.entries l.places
