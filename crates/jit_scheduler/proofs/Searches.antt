-- The first number of a range for which something is told.
use Rattle.jit_scheduler.proofs.Prelude.{Bool, List, None, Option, Some, [], ap, ap₂, arith, common_steps, false, filter, first_some, if◌then◌else◌, nat_lt, option_map, option_or, range_with_len, refl, subst, suc, sym, true, zero, ℕ, ◌+◌, ◌<◌, ◌==◌, ◌∙◌, ◌∷◌, ◌≡◌, ◌≢◌, ◌≤◌}

-- it is told of this number, and of none of the range before it
first_from : {A : Type 0} (f : ℕ → Option A) (a n d : ℕ) (x : A) → a ≤ d → d < a + n → f d ≡ Some x → ((e : ℕ) → e < d → f e ≡ None) → first_some f (range_with_len a n) ≡ Some x
first_from f a zero d x from within here before = absurd (omega (arith, from, within))
first_from {A} f a (suc n) d x from within here before = at (a == d) refl (λ further. first_from f (a + 1) n d x (omega (arith, further)) (omega (arith, within)) here before)
  where
    by_first : (o : Option A) → f a ≡ o → first_some f (range_with_len a (suc n)) ≡ option_or o (first_some f (range_with_len (a + 1) n))
    by_first o e = ap (λ p. option_or p (first_some f (range_with_len (a + 1) n))) e

    at : (b : Bool) → (a == d) ≡ b → (a < d → first_some f (range_with_len (a + 1) n) ≡ Some x) → first_some f (range_with_len a (suc n)) ≡ Some x
    at true e rest = let same : a ≡ d = grind (arith, common_steps) in by_first (Some x) (subst (λ k. f k ≡ Some x) (sym same) here)
    at false e rest = let further : a < d = grind (arith, common_steps) in by_first None (before a further) ∙ rest further

pub first_at : {A : Type 0} (f : ℕ → Option A) (n d : ℕ) (x : A) → d < n → f d ≡ Some x → ((e : ℕ) → e < d → f e ≡ None) → first_some f (range_with_len 0 n) ≡ Some x
first_at f n d x within here before = first_from f 0 n d x (omega arith) (omega (arith, within)) here before

-- it is told of none of the range
nowhere_from : {A : Type 0} (f : ℕ → Option A) (a n : ℕ) → ((e : ℕ) → e < a + n → f e ≡ None) → first_some f (range_with_len a n) ≡ None
nowhere_from f a zero none = refl
nowhere_from f a (suc n) none = ap (λ o. option_or o (first_some f (range_with_len (a + 1) n))) (none a (omega arith)) ∙ nowhere_from f (a + 1) n (λ e within. none e (omega (arith, within)))

pub first_nowhere : {A : Type 0} (f : ℕ → Option A) (n : ℕ) → ((e : ℕ) → e < n → f e ≡ None) → first_some f (range_with_len 0 n) ≡ None
first_nowhere f n none = nowhere_from f 0 n (λ e within. none e (omega (arith, within)))

-- one number further: none is told of those that do not pass a test, and between the two none passes it

pub none_before : {A : Type 0} (f : ℕ → Option A) (test : ℕ → Bool) (from d : ℕ) → ((e : ℕ) → test e ≡ false → f e ≡ None) → ((e : ℕ) → e < from → f e ≡ None) → ((e : ℕ) → from ≤ e → e < d → test e ≡ false) → (e : ℕ) → e < d → f e ≡ None
none_before f test from d untold before between e below = at (nat_lt e from) refl
  where
    at : (b : Bool) → nat_lt e from ≡ b → f e ≡ None
    at true h = before e (grind (arith, common_steps))
    at false h = let reached : from ≤ e = grind (arith, common_steps) in untold e (between e reached below)

pub none_through : {A : Type 0} (f : ℕ → Option A) (d : ℕ) → ((e : ℕ) → e < d → f e ≡ None) → f d ≡ None → (e : ℕ) → e < d + 1 → f e ≡ None
none_through f d before here e below = at (e == d) refl
  where
    at : (b : Bool) → (e == d) ≡ b → f e ≡ None
    at true h = let same : e ≡ d = grind (arith, common_steps) in ap f same ∙ here
    at false h = let other : e ≢ d = grind (arith, common_steps) in before e (omega (arith, below, other))

-- among those that pass a test

pub first_filtered : {A : Type 0} (f : ℕ → Option A) (test : ℕ → Bool) (xs : List ℕ) → first_some (λ x. if test x then f x else None) xs ≡ first_some f (filter test xs)
first_filtered f test [] = refl
first_filtered {A} f test (x ∷ xs) = at (test x) (first_filtered f test xs)
  where
    at : (b : Bool) → first_some (λ y. if test y then f y else None) xs ≡ first_some f (filter test xs) → option_or (if b then f x else None) (first_some (λ y. if test y then f y else None) xs) ≡ first_some f (if b then x ∷ filter test xs else filter test xs)
    at true rest = ap (option_or (f x)) rest
    at false rest = rest

-- what is told alike is found alike
pub first_alike : {A B : Type 0} (h : A → B) (f : ℕ → Option A) (g : ℕ → Option B) (a n : ℕ) → ((d : ℕ) → d < a + n → option_map h (f d) ≡ g d) → option_map h (first_some f (range_with_len a n)) ≡ first_some g (range_with_len a n)
first_alike h f g a zero alike = refl
first_alike {A} {B} h f g a (suc n) alike =
    mapped (f a) (first_some f (range_with_len (a + 1) n))
    ∙ ap₂ option_or (alike a (omega arith)) (first_alike h f g (a + 1) n (λ d within. alike d (omega (arith, within))))
  where
    mapped : (o p : Option A) → option_map h (option_or o p) ≡ option_or (option_map h o) (option_map h p)
    mapped None p = refl
    mapped (Some x) p = refl
