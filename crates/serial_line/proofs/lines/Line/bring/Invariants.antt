use Rattle.serial_line.proofs.Prelude.{Exchanged, brought, drop, meet_marks, take, ◌++◌, ◌-◌, ◌≡◌, ◌≤◌}
use Rattle.serial_line.proofs.lines.Line.bring.Given as goal

-- the item is brought up to the place, and all else is as it was
abbrev pub invariant-past : goal.invariant-past
invariant-past l =
    (l.to ≤ l.at) × (l.at ≤ l.from) × (l.self.marks ≡ take l.at l.fn.self.marks ++ brought (l.from - l.at) (drop l.at l.fn.self.marks)) × (l.self.spare ≡ l.fn.self.spare)
    × (l.self.labels ≡ l.fn.self.labels) × (l.self.sealed ≡ l.fn.self.sealed) × (l.self.runs ≡ l.fn.self.runs)
    × Exchanged (meet_marks l.fn.self.runs) l.fn.self.marks l.self.marks

abbrev pub decreases-past : goal.decreases-past
decreases-past l = l.at
