use Rattle.visibility_models.proofs.Prelude.{drop, first_unended_before, items_of, length, model_bars, ◌≡◌}
use Rattle.visibility_models.proofs.waits.find_unended.Given as goal

-- no item so far is the run, nor one for which it waits
abbrev pub invariant-items : goal.invariant-items
invariant-items l = record {
  size : l.at-end ≡ length l.s.line;
  left : first_unended_before (model_bars l.model l.s.runs l.r.0) l.s.history l.r.0 (items_of l.s.line)
      ≡ first_unended_before (model_bars l.model l.s.runs l.r.0) l.s.history l.r.0 (drop l.at (items_of l.s.line));
}
