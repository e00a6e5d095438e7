use Rattle.order_checker.proofs.Notes.{last-none, lines-line, lines-note}
use Rattle.order_checker.proofs.lines.next_line.Goals as goal
use Rattle.order_checker.proofs.Prelude.{ap, line_at, sym, ◌∙◌}

pub returns-then-not-is_note-clause-line : goal.returns-then-not-is_note-clause-line
returns-then-not-is_note-clause-line c =
    sym c.notes.invariant ∙ lines-line c.notes.rest.now c.in-Some.line.now c.in-Some.behind.now c.in-Some.ensures.pieces (sym c.if-not-is_note.ensures)

pub notes-preserved : goal.notes-preserved
notes-preserved c =
    sym (lines-note c.notes.rest.now c.in-Some.line.now c.in-Some.behind.now c.in-Some.ensures.pieces (sym c.if-not-is_note.ensures)) ∙ c.notes.invariant

pub returns-clause-end : goal.returns-clause-end
returns-clause-end c = ap (λ lines. line_at lines 0) (sym c.notes.invariant) ∙ last-none c.notes.rest.now c.in_default.ensures.last
