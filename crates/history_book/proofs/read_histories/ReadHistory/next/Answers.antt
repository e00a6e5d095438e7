use Rattle.history_book.proofs.HistoryReads.{next_low}
use Rattle.history_book.proofs.read_histories.ReadHistory.next.Goals as goal
use Rattle.history_book.proofs.Prelude.{ap, arith, next_of, read_in}

pub overflow_cast-result : goal.overflow_cast-result
overflow_cast-result c =
    let low = next_low _ _ c.args.r.0 c.self.invariant in
    let few = c.kept_invariant.ensures.few_commands c.args.r.0 in
    let next = ap (λ s. next_of (read_in s) c.args.r.0) c.self.view_is in
    omega (arith, ap (λ p. p.answered) c.progress.ensures, next, low, few)
