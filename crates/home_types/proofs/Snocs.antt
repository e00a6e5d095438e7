-- The items of a list with one more at its end.
use Rattle.std.proofs.Common.{ap, arith, inl, inr, refl, ◌∙◌, ◌⊎◌}
use Rattle.std.specs.Prelude.{List, Some, [], length, slice_get, suc, take, zero, ℕ, ◌++◌, ◌+◌, ◌∷◌, ◌≡◌}

pub snoc_get : {X : Type 0} (xs : List X) (x y : X) (k : ℕ) → slice_get (xs ++ x ∷ []) k ≡ Some y → (slice_get xs k ≡ Some y) ⊎ ((k ≡ length xs) × (x ≡ y))
snoc_get [] x y zero h = inr (refl, cc)
snoc_get [] x y (suc k) h = absurd (cc)
snoc_get (z ∷ xs) x y zero h = inl h
snoc_get (z ∷ xs) x y (suc k) h = elim (snoc_get xs x y k h) [
  | inl e ↦ inl e
  | inr p ↦ inr (ap (λ n. suc n) p.0, p.1)
]

-- the first items of a list with the next one
pub take_snoc : {X : Type 0} (xs : List X) (k : ℕ) (x : X) → slice_get xs k ≡ Some x → take (k + 1) xs ≡ take k xs ++ x ∷ []
take_snoc [] k x there = absurd (cc)
take_snoc (y ∷ xs) zero x there = let same : y ≡ x = cc in ap (λ z. z ∷ []) same
take_snoc (y ∷ xs) (suc k) x there = let more : suc k + 1 ≡ suc (k + 1) = omega arith in ap (λ n. take n (y ∷ xs)) more ∙ ap (λ zs. y ∷ zs) (take_snoc xs k x there)
