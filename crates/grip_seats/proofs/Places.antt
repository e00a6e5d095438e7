-- Lists that are read and written by place.
use Rattle.std.proofs.Common.{ap, refl, sym}
use Rattle.std.specs.Prelude.{List, Some, [], length, slice_get, slice_set, suc, zero, ℕ, ◌++◌, ◌∷◌, ◌≡◌, ◌≢◌, ◌⊎◌}
use lib.ListN.{get_elem?}
use mathlib.Core.Option.{some, some-injective, some-ne-none}
use Rattle.std.proofs.Common.{inl, inr, ⊎_elim}

module _ {A : Type 0} where
  pub put_here : (xs : List A) (i : ℕ) (y z : A) → slice_get xs i ≡ Some z → slice_get (slice_set xs i y) i ≡ Some y
  put_here [] i y z e = absurd (cc)
  put_here (x ∷ xs) zero y z e = refl
  put_here (x ∷ xs) (suc i) y z e = put_here xs i y z e

  pub put_there : (xs : List A) (i j : ℕ) (y : A) → j ≢ i → slice_get (slice_set xs i y) j ≡ slice_get xs j
  put_there [] i j y apart = refl
  put_there (x ∷ xs) zero zero y apart = absurd (apart refl)
  put_there (x ∷ xs) zero (suc j) y apart = refl
  put_there (x ∷ xs) (suc i) zero y apart = refl
  put_there (x ∷ xs) (suc i) (suc j) y apart = put_there xs i j y (λ e. apart (ap suc e))

  -- what stands in a list with one thing more at its end is of the list, or that one
  pub at_end : (xs : List A) (a b : A) (j : ℕ) → get_elem? (xs ++ a ∷ []) j ≡ some b → (get_elem? xs j ≡ some b) ⊎ ((j ≡ length xs) × (a ≡ b))
  at_end [] a b zero e = inr (refl, some-injective a b e)
  at_end [] a b (suc j) e = absurd (some-ne-none b (sym e))
  at_end (x ∷ xs) a b zero e = inl e
  at_end (x ∷ xs) a b (suc j) e = ⊎_elim (λ was. inl was) (λ t. inr (ap suc t.0, t.1)) (at_end xs a b j e)
