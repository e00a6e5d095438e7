use Rattle.history_book.proofs.KnownRuns.{same_along}
use Rattle.history_book.proofs.books.Book.reserve.Goals as goal
use Rattle.history_book.proofs.Prelude.{refl, rules, ◌≡◌}

pub invariant_of-self : goal.invariant_of-self
invariant_of-self c =
    let stay : c.resize.new.self.items ≡ c.self.inside.progress.items = search rules in
    same_along _ _ _ _ refl stay c.self.invariant
