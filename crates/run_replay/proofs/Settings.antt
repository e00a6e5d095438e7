-- Lists with one item put anew, and the first number of a range that passes a test.
use Rattle.run_replay.proofs.Prelude.{Bool, List, None, Option, Some, [], ap, arith, empty_places, false, find, inl, inr, is_some, length, not, range_with_len, refl, slice_get, slice_set, suc, sym, true, zero, ℕ, ◌+◌, ◌<◌, ◌||◌, ◌∙◌, ◌∷◌, ◌≡◌, ◌≢◌, ◌≤◌, ◌⊎◌}

pub put_same_place : {A : Type 0} (xs : List A) (i : ℕ) (y : A) → i < length xs → slice_get (slice_set xs i y) i ≡ Some y
put_same_place [] i y h = absurd (omega (arith, h))
put_same_place (x ∷ xs) zero y h = refl
put_same_place (x ∷ xs) (suc i) y h = put_same_place xs i y (omega (arith, h))

pub put_other_place : {A : Type 0} (xs : List A) (i j : ℕ) (y : A) → j ≢ i → slice_get (slice_set xs i y) j ≡ slice_get xs j
put_other_place [] i j y other = refl
put_other_place (x ∷ xs) zero zero y other = absurd (other refl)
put_other_place (x ∷ xs) zero (suc j) y other = refl
put_other_place (x ∷ xs) (suc i) zero y other = refl
put_other_place (x ∷ xs) (suc i) (suc j) y other = put_other_place xs i j y (λ e. other (ap (λ n. suc n) e))

pub put_length : {A : Type 0} (xs : List A) (i : ℕ) (y : A) → length (slice_set xs i y) ≡ length xs
put_length [] i y = refl
put_length (x ∷ xs) zero y = refl
put_length (x ∷ xs) (suc i) y = ap (λ n. suc n) (put_length xs i y)

-- one place less is empty
pub fill_place : {A : Type 0} (xs : List (Option A)) (i : ℕ) (x : A) → slice_get xs i ≡ Some None → empty_places (slice_set xs i (Some x)) + 1 ≡ empty_places xs
fill_place [] i x at = absurd (cc)
fill_place (None ∷ xs) zero x at = refl
fill_place (Some y ∷ xs) zero x at = absurd (cc)
fill_place (None ∷ xs) (suc i) x at = ap (λ n. n + 1) (fill_place xs i x at)
fill_place (Some y ∷ xs) (suc i) x at = fill_place xs i x at

-- .. or at most one more
pub free_place : {A : Type 0} (xs : List (Option A)) (i : ℕ) → empty_places (slice_set xs i None) ≤ empty_places xs + 1
free_place [] i = omega arith
free_place (None ∷ xs) zero = omega arith
free_place (Some y ∷ xs) zero = omega arith
free_place (None ∷ xs) (suc i) = let h = free_place xs i in omega (arith, h)
free_place (Some y ∷ xs) (suc i) = free_place xs i

find_step : (p : ℕ → Bool) (a n d : ℕ) (b : Bool) → p a ≡ b → ((b ≡ true) → a ≡ d) → ((b ≡ false) → find p (range_with_len (a + 1) n) ≡ Some d) → find p (range_with_len a (suc n)) ≡ Some d
find_step p a n d true e here later = rw e (ap (λ x. Some x) (here refl))
find_step p a n d false e here later = rw e (later refl)

pub at_or_past : (a d : ℕ) → a ≤ d → (d ≡ a) ⊎ (a + 1 ≤ d)
at_or_past zero zero h = inl refl
at_or_past zero (suc d) h = inr (omega arith)
at_or_past (suc a) zero h = absurd (omega (arith, h))
at_or_past (suc a) (suc d) h = elim (at_or_past a d (omega (arith, h))) [ inl e ↦ inl (ap (λ n. suc n) e) | inr more ↦ inr (omega (arith, more)) ]

-- the first number of a range that passes, where one alone does
pub find_only : (p : ℕ → Bool) (a n d : ℕ) → a ≤ d → d < a + n → p d ≡ true → ((e : ℕ) → p e ≡ true → e ≡ d) → find p (range_with_len a n) ≡ Some d
find_only p a zero d low high is only = absurd (omega (arith, low, high))
find_only p a (suc n) d low high is only = find_step p a n d (p a) refl (λ yes'. only a yes') (λ no'. find_only p (a + 1) n d (past no') (omega (arith, high)) is only)
  where
    past : p a ≡ false → a + 1 ≤ d
    past e = elim (at_or_past a d low) [ inl same ↦ absurd (let both : true ≡ false = sym is ∙ ap p same ∙ e in cc) | inr more ↦ more ]

-- within a list there is an item
pub there : {A : Type 0} (xs : List A) (i : ℕ) → i < length xs → is_some (slice_get xs i) ≡ true
there [] i less = absurd (omega (arith, less))
there (x ∷ xs) zero less = refl
there (x ∷ xs) (suc i) less = there xs i (omega (arith, less))

-- .. and beyond it none
pub within : {A : Type 0} (xs : List A) (i : ℕ) → is_some (slice_get xs i) ≡ true → i < length xs
within [] i some = absurd (cc)
within (x ∷ xs) zero some = omega arith
within (x ∷ xs) (suc i) some = let h = within xs i some in omega (arith, h)

-- what is neither excused nor so
pub both_are : (a b : Bool) → (not a || b) ≡ false → (a ≡ true) × (b ≡ false)
both_are true false e = (refl, refl)
both_are true true e = absurd (cc)
both_are false b e = absurd (cc)
