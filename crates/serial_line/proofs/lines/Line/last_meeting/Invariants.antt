use Rattle.serial_line.proofs.lines.Line.last_meeting.Given as goal
use Rattle.serial_line.proofs.Prelude.{None, drop, last_meeting, length, ◌≡◌, ◌≤◌}

-- nothing from the place on is what is looked for
abbrev pub invariant-loop-at : goal.invariant-loop-at
invariant-loop-at l = (l.at ≤ length l.self-inside.entries.items) × (last_meeting l.devices (drop l.at l.self-inside.entries.items) ≡ None)

abbrev pub decreases-loop-at : goal.decreases-loop-at
decreases-loop-at l = l.at
