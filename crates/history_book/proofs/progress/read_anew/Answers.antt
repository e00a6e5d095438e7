use Rattle.history_book.proofs.KnownRuns.{answered_low, read_one}
use Rattle.history_book.proofs.progress.read_anew.Goals as goal
use Rattle.history_book.proofs.progress.read_anew.Goals.{else-tells_of, then-tells_of}
use Rattle.history_book.proofs.Prelude.{ap, arith, common_steps, false, length, refl, sym, take, true, ◌∙◌, ◌≤◌}

pub note-requires : goal.note-requires
note-requires c =
    let low = answered_low (take c.entries.at c.args.history.now) c.args.r.0 in
    let long : length (take c.entries.at c.args.history.now) ≤ c.entries.at = grind (arith, common_steps) in
    omega (arith, ap (λ p. p.answered) c.entries.invariant, low, long, c.entries-test.true)

pub entries-init : goal.entries-init
entries-init c = refl

pub entries-preserved : goal.entries-preserved
entries-preserved c = elim c.if-tells_of.branch [
  | then-tells_of w ↦ w.progress-is ∙ w.note.ensures ∙ read_one c.args.history.now c.entries.at c.args.r.0 _ _ true c.entries-test.true c.entries.invariant (sym c.tells_of.ensures ∙ w.if-tells_of.true)
  | else-tells_of w ↦ w.progress-is ∙ read_one c.args.history.now c.entries.at c.args.r.0 _ _ false c.entries-test.true c.entries.invariant (sym c.tells_of.ensures ∙ w.if-tells_of.false)
]
