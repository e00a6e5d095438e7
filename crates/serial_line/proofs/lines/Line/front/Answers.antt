use Rattle.serial_line.proofs.Fronts.{front_within}
use Rattle.serial_line.proofs.lines.Line.front.Goals as goal
use Rattle.serial_line.proofs.Prelude.{ap, arith, length}

pub returns-clause-within : goal.returns-clause-within
returns-clause-within c =
    let seen = ap (λ s. length s.marks) c.self.view_is in
    let front = c.self.invariant.front in
    let within = front_within c.self.inside.entries.items in
    omega (arith, front, within, seen)
