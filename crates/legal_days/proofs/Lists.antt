-- Items of lists, and how many there are of a kind.
use Rattle.std.proofs.Common.{arith, cond, inl, inr}
use Rattle.std.proofs.lemmas.List.Sums.{sum_by-cons}
use Rattle.std.proofs.lemmas.Option.{slice_get_cases}
use Rattle.std.specs.Prelude.{Bool, List, Some, count_by, length, slice_get, ℕ, ◌+◌, ◌<◌, ◌∷◌, ◌≡◌}

-- what is within a list is at its place
pub at_place : {X : Type 0} (xs : List X) (i : ℕ) → i < length xs → (x : X) × (slice_get xs i ≡ Some x)
at_place xs i lt = elim (slice_get_cases xs i).1 [
  | inl p ↦ (p.0, p.2)
  | inr p ↦ absurd (let past = p.0 in omega (arith, lt, past))
]

-- one item more is counted where the test holds of it
pub count_cons : {A : Type 0} (p : A → Bool) (x : A) (xs : List A) → count_by p (x ∷ xs) ≡ cond (p x) 1 0 + count_by p xs
count_cons p x xs = sum_by-cons (λ y. cond (p y) 1 0) x xs
