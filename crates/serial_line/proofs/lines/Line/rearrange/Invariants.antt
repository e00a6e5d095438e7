use Rattle.serial_line.proofs.Prelude.{Exchanged, front_chosen, length, meet_marks, partly, ◌≡◌}
use Rattle.serial_line.proofs.lines.Line.rearrange.Given as goal

-- the items up to the place are rearranged, and all else is as it was
abbrev pub invariant-items : goal.invariant-items
invariant-items l =
    (l.self.marks ≡ partly l.at l.before l.fn.self.marks) × (l.done ≡ length (front_chosen l.at l.before l.fn.self.marks)) × (l.self.spare ≡ l.fn.self.spare) × (length l.self.marks ≡ length l.fn.self.marks)
    × (l.self.labels ≡ l.fn.self.labels) × (l.self.sealed ≡ l.fn.self.sealed) × (l.self.runs ≡ l.fn.self.runs)
    × Exchanged (meet_marks l.fn.self.runs) l.fn.self.marks l.self.marks
