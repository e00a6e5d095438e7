-- The item at a place of a line, and at one of a list.
use Rattle.timeline_scheduler.proofs.Prelude.{IsSome, Item, List, Mark, Option, Some, [], arith, items_of, length, rules, slice_get, slice_index_or, subst, suc, sym, zero, ℕ, ◌<◌, ◌∷◌, ◌≡◌}

-- there is one at each place of the line
pub item_there : (marks : List Mark) (k : ℕ) (o : Option Item) → o ≡ slice_get (items_of marks) k → k < length marks → IsSome o
item_there [] k o is within = absurd (omega (arith, within))
item_there (m ∷ ms) zero o is within = subst IsSome (sym is) (search rules)
item_there (m ∷ ms) (suc k) o is within = item_there ms k o is (omega (arith, within))

-- what is there
pub told_at : {A : Type 0} (xs : List A) (k : ℕ) (x : A) → slice_get xs k ≡ Some x → slice_index_or xs k x ≡ x
told_at [] k x there = absurd (cc)
told_at (y ∷ xs) zero x there = cc
told_at (y ∷ xs) (suc k) x there = told_at xs k x there
