-- The first number or element that does.
use Rattle.window_devices.proofs.Prelude.{Bool, List, None, Option, Some, [], ap, arith, cond, false, find, inl, inr, is_none, is_some, refl, same_Some, subst, suc, sym, true, zero, ℕ, ◌+◌, ◌<◌, ◌∙◌, ◌∷◌, ◌≡◌, ◌≤◌, ◌⊎◌}
use Rattle.std.specs.List.{range_with_len}

-- where the same do, it is the same
pub find_same : {A : Type 0} (p q : A → Bool) (xs : List A) → ((x : A) → p x ≡ q x) → find p xs ≡ find q xs
find_same p q [] same = refl
find_same p q (x ∷ xs) same = rw (same x, find_same p q xs same) refl

-- where none does, none is found
pub none_found : {A : Type 0} (p : A → Bool) (xs : List A) → ((x : A) → p x ≡ false) → find p xs ≡ None
none_found p [] none = refl
none_found p (x ∷ xs) none = rw (none x) (none_found p xs none)

-- what is there is not absent
pub not_none : {A : Type 0} (o : Option A) → is_some o ≡ true → is_none o ≡ false
not_none None some = absurd (cc)
not_none (Some x) some = refl

-- .. and what is not there is absent
pub none_there : {A : Type 0} (o : Option A) → is_some o ≡ false → o ≡ None
none_there None none = refl
none_there (Some x) none = absurd (cc)

a_or_more : (a x : ℕ) → a ≤ x → (a ≡ x) ⊎ (a < x)
a_or_more zero zero h = inl refl
a_or_more zero (suc x) h = inr (omega arith)
a_or_more (suc a) zero h = absurd (omega arith)
a_or_more (suc a) (suc x) h = elim (a_or_more a x (omega arith)) [ inl e ↦ inl (ap suc e) | inr e ↦ inr (omega arith) ]

pub find_first : (p : ℕ → Bool) (a n x : ℕ) → a ≤ x → x < a + n → p x ≡ true → ((y : ℕ) → y < x → p y ≡ false) → find p (range_with_len a n) ≡ Some x
find_first p a zero x low high here before = absurd (omega arith)
find_first p a (suc n) x low high here before = by_place (a_or_more a x low) (λ more. find_first p (a + 1) n x (omega (arith, more)) (omega (arith, high)) here before)
  where
    by_place : (a ≡ x) ⊎ (a < x) → (a < x → find p (range_with_len (a + 1) n) ≡ Some x) → find p (a ∷ range_with_len (a + 1) n) ≡ Some x
    by_place (inl same) rest = rw same (rw here refl)
    by_place (inr more) rest = rw (before a more) (rest more)

pub find_none : (p : ℕ → Bool) (a n : ℕ) → ((y : ℕ) → a ≤ y → y < a + n → p y ≡ false) → find p (range_with_len a n) ≡ None
find_none p a zero none = refl
find_none p a (suc n) none = rw (none a (omega arith) (omega arith)) (find_none p (a + 1) n (λ y low high. none y (omega (arith, low)) (omega (arith, high))))

-- .. and then none does
pub none_does : (p : ℕ → Bool) (a n : ℕ) → find p (range_with_len a n) ≡ None → (y : ℕ) → a ≤ y → y < a + n → p y ≡ false
none_does p a zero none y low high = absurd (omega (arith, low, high))
none_does p a (suc n) none y low high = elim (p a) as (λ b. p a ≡ b → cond b (Some a) (find p (range_with_len (a + 1) n)) ≡ None → p y ≡ false) [
  | true ↦ (λ h found. absurd (cc))
  | false ↦ (λ h rest. by_place (a_or_more a y low) h (λ more. none_does p (a + 1) n rest y (omega (arith, more)) (omega (arith, high))))
] refl none
  where
    by_place : (a ≡ y) ⊎ (a < y) → p a ≡ false → (a < y → p y ≡ false) → p y ≡ false
    by_place (inl same) here rest = ap p (sym same) ∙ here
    by_place (inr more) here rest = rest more

-- the number is of the range, it does, and none before it does
pub record IsLeast (p : ℕ → Bool) (a n x : ℕ) : Type 0 where
  pub low : a ≤ x
  pub high : x < a + n
  pub does : p x ≡ true
  pub none_before : (y : ℕ) → a ≤ y → y < x → p y ≡ false

pub find_least : (p : ℕ → Bool) (a n x : ℕ) → find p (range_with_len a n) ≡ Some x → IsLeast p a n x
find_least p a zero x at = absurd (cc)
find_least p a (suc n) x at = elim (p a) as (λ b. p a ≡ b → cond b (Some a) (find p (range_with_len (a + 1) n)) ≡ Some x → IsLeast p a (suc n) x) [
  | true ↦ (λ here found. subst (IsLeast p a (suc n)) (same_Some a x found) (record { low = omega arith; high = omega arith; does = here; none_before = λ y low less. absurd (omega (arith, low, less)) }))
  | false ↦ (λ none rest. more none (find_least p (a + 1) n x rest))
] refl at
  where
    more : p a ≡ false → IsLeast p (a + 1) n x → IsLeast p a (suc n) x
    more none least = record {
      low = omega (arith, least.low);
      high = omega (arith, least.high);
      does = least.does;
      none_before = λ y low less. by_place y (a_or_more a y low) (λ next. least.none_before y (omega (arith, next)) less);
    }
      where
        by_place : (y : ℕ) → (a ≡ y) ⊎ (a < y) → (a < y → p y ≡ false) → p y ≡ false
        by_place y (inl same) rest = ap p (sym same) ∙ none
        by_place y (inr next) rest = rest next
