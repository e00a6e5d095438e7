use Rattle.order_checker.proofs.Notes.{last-ended, lines-line, lines-note}
use Rattle.order_checker.proofs.lines.has_ended.Goals as goal
use Rattle.order_checker.proofs.Prelude.{ap, has_no_line, is_note, sym, ◌||◌, ◌∙◌}

pub returns-then-not-is_note : goal.returns-then-not-is_note
returns-then-not-is_note c =
    sym (ap has_no_line (sym c.notes.invariant ∙ lines-line c.notes.rest.now c.in-Some.line.now c.in-Some.behind.now c.in-Some.ensures.pieces (sym c.if-not-is_note.ensures)))

pub notes-preserved : goal.notes-preserved
notes-preserved c =
    sym (lines-note c.notes.rest.now c.in-Some.line.now c.in-Some.behind.now c.in-Some.ensures.pieces (sym c.if-not-is_note.ensures)) ∙ c.notes.invariant

pub returns-then-is_empty : goal.returns-then-is_empty
returns-then-is_empty c =
    c.if-is_empty.true ∙ ap (λ b. b || is_note c.notes.rest.now) c.if-is_empty.ensures ∙ last-ended c.notes.rest.now c.in_default.ensures.last ∙ ap has_no_line c.notes.invariant

pub returns-else-is_empty : goal.returns-else-is_empty
returns-else-is_empty c =
    c.is_note-else-is_empty.ensures ∙ ap (λ b. b || is_note c.notes.rest.now) c.if-is_empty.ensures ∙ last-ended c.notes.rest.now c.in_default.ensures.last ∙ ap has_no_line c.notes.invariant
