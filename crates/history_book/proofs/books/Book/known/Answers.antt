use Rattle.history_book.proofs.KnownRuns.{has_place}
use Rattle.history_book.proofs.books.Book.known.Goals as goal
use Rattle.history_book.proofs.Prelude.{Kept, List, Listed, RunProgress, ap, arith, common_steps, length, nat_lt, subst, sym, true, ◌+◌, ◌<◌, ◌∙◌, ◌≡◌}

pub returns-clause-there : goal.returns-clause-there
returns-clause-there c = λ low some.
    let room : 0 < length c.self.inside.kept.items + c.self.inside.kept.spare = subst (λ (b : Listed Kept). 0 < length b.items + b.spare) (sym c.self.view_is) some in
    let place = has_place c.self.inside.kept c.self.inside.progress.items c.args.r.0 low room c.self.invariant in
    let within : nat_lt c.args.r.0 (length c.deref.result.now) ≡ true = let same = ap (λ (ps : List RunProgress). length ps) c.deref.ensures.value in grind (arith, common_steps, same, place) in
    c.get.ensures.lookup.0 ∙ within
