-- A list with another value at one place.
use Rattle.window_devices.proofs.Prelude.{List, Some, [], ap, arith, inl, inr, length, refl, slice_get, slice_set, suc, zero, ℕ, ◌<◌, ◌∷◌, ◌≡◌, ◌≢◌, ◌⊎◌}

-- the place that was written, or another
pub get_set : {A : Type 0} (xs : List A) (i j : ℕ) (y : A) → i < length xs
    → ((j ≡ i) × (slice_get (slice_set xs i y) j ≡ Some y)) ⊎ ((j ≢ i) × (slice_get (slice_set xs i y) j ≡ slice_get xs j))
get_set [] i j y h = absurd (omega arith)
get_set (x ∷ xs) zero zero y h = inl (refl, refl)
get_set (x ∷ xs) zero (suc j) y h = inr ((λ e. absurd (omega arith)), refl)
get_set (x ∷ xs) (suc i) zero y h = inr ((λ e. absurd (omega arith)), refl)
get_set (x ∷ xs) (suc i) (suc j) y h =
    elim (get_set xs i j y (omega arith)) [ inl p ↦ inl (ap (λ n. suc n) p.0, p.1) | inr e ↦ inr ((λ z. e.0 (omega arith)), e.1) ]
