-- What searches in a list find.
use Rattle.serial_line.proofs.Prelude.{Bool, List, None, Option, Some, [], ap, arith, common_steps, cond, false, get_or, if◌then◌else◌, last_found, last_place, last_unfound, length, list_any, max, nat_lt, not, option_map, option_or, position, prefix_len, refl, subst, suc, true, unwrap_or, zero, ℕ, ◌+◌, ◌<◌, ◌||◌, ◌∷◌, ◌≡◌, ◌≤◌}
use Rattle.std.proofs.lemmas.List.Sums.{prefix_len_stops}

-- what stands at a place is among the list
pub any_at : {A : Type 0} (p : A → Bool) (xs : List A) (k : ℕ) (d : A) → k < length xs → p (get_or xs k d) ≡ true → list_any p xs ≡ true
any_at p [] k d within passes = absurd (omega (arith, within))
any_at p (x ∷ xs) zero d within passes = rw passes refl
any_at p (x ∷ xs) (suc k) d within passes = rw (any_at p xs k d (omega (arith, within)) passes) (grind (arith, common_steps))

-- what the first place is where it is told, and where none is

pub position_told : {A : Type 0} (p : A → Bool) (xs : List A) (k : ℕ) (d : A) → position p xs ≡ Some k → (k < length xs) × (p (get_or xs k d) ≡ true)
position_told {A} p xs k d told = by_cases (nat_lt (prefix_len (λ x. not (p x)) xs) (length xs)) refl told
  where
    by_cases : (b : Bool) → nat_lt (prefix_len (λ x. not (p x)) xs) (length xs) ≡ b → cond b (Some (prefix_len (λ x. not (p x)) xs)) None ≡ Some k → (k < length xs) × (p (get_or xs k d) ≡ true)
    by_cases true within found =
        let here : prefix_len (λ x. not (p x)) xs ≡ k = ap (λ o. unwrap_or o k) found in
        let inside : prefix_len (λ x. not (p x)) xs < length xs = grind (arith, common_steps) in
        let stops : not (p (get_or xs (prefix_len (λ x. not (p x)) xs) d)) ≡ false = prefix_len_stops (λ x. not (p x)) xs d inside in
        subst (λ j. (j < length xs) × (p (get_or xs j d) ≡ true)) here (inside, grind (arith, common_steps))
    by_cases false within found = absurd (cc)

any_none : {A : Type 0} (p : A → Bool) (xs : List A) → length xs ≤ prefix_len (λ x. not (p x)) xs → list_any p xs ≡ false
any_none p [] all = refl
any_none p (x ∷ xs) all = by_cases (p x) refl all (any_none p xs)
  where
    by_cases : (b : Bool) → p x ≡ b → suc (length xs) ≤ cond (not b) (1 + prefix_len (λ y. not (p y)) xs) 0 → (length xs ≤ prefix_len (λ y. not (p y)) xs → list_any p xs ≡ false) → (p x || list_any p xs) ≡ false
    by_cases true e all rest = absurd (omega (arith, all))
    by_cases false e all rest = rw (e, rest (omega (arith, all))) refl

pub position_untold : {A : Type 0} (p : A → Bool) (xs : List A) → position p xs ≡ None → list_any p xs ≡ false
position_untold {A} p xs told = by_cases (nat_lt (prefix_len (λ x. not (p x)) xs) (length xs)) refl told
  where
    by_cases : (b : Bool) → nat_lt (prefix_len (λ x. not (p x)) xs) (length xs) ≡ b → cond b (Some (prefix_len (λ x. not (p x)) xs)) None ≡ None → list_any p xs ≡ false
    by_cases true within none = absurd (cc)
    by_cases false within none = any_none p xs (grind (arith, common_steps))

none_len : {A : Type 0} (p : A → Bool) (xs : List A) → list_any p xs ≡ false → prefix_len (λ x. not (p x)) xs ≡ length xs
none_len p [] absent = refl
none_len p (x ∷ xs) absent =
    let here : p x ≡ false = grind (arith, common_steps) in
    rw (here, none_len p xs (grind (arith, common_steps))) (omega arith)

pub position_none : {A : Type 0} (p : A → Bool) (xs : List A) → list_any p xs ≡ false → position p xs ≡ None
position_none p xs absent = rw (none_len p xs absent) (grind (arith, common_steps))

-- the number of items up to and with the last one of which the test holds
abbrev pub up_to_last : {A : Type 0} → (A → Bool) → List A → ℕ
up_to_last test [] = 0
up_to_last test (x ∷ xs) = if list_any test (x ∷ xs) then up_to_last test xs + 1 else 0

up_to_none : {A : Type 0} (test : A → Bool) (xs : List A) → list_any test xs ≡ false → up_to_last test xs ≡ 0
up_to_none test [] none = refl
up_to_none test (x ∷ xs) none = rw none refl

-- it is one more than the last place, and nought where there is none
pub last_counted : {A : Type 0} (test : A → Bool) (xs : List A) → up_to_last test xs ≡ unwrap_or (option_map (λ k. k + 1) (last_place test xs)) 0
last_counted test [] = refl
last_counted test (x ∷ xs) = by_cases (last_place test xs) refl (last_counted test xs)
  where
    by_cases : (o : Option ℕ) → last_place test xs ≡ o → up_to_last test xs ≡ unwrap_or (option_map (λ k. k + 1) o) 0 → (if test x || list_any test xs then up_to_last test xs + 1 else 0) ≡ unwrap_or (option_map (λ k. k + 1) (option_or (option_map (λ k. k + 1) o) (if test x then Some 0 else None))) 0
    by_cases None e rest = rw (rest, last_unfound test xs e) (head (test x))
      where
        head : (b : Bool) → (if b || false then 0 + 1 else 0) ≡ unwrap_or (option_map (λ k. k + 1) (if b then Some 0 else None)) 0
        head true = refl
        head false = refl
    by_cases (Some k) e rest = rw (rest, last_found test xs k e) (head (test x))
      where
        head : (b : Bool) → (if b || true then (k + 1) + 1 else 0) ≡ (k + 1) + 1
        head true = refl
        head false = refl

-- up to the last one of which one of two tests holds: the greater of both numbers
pub up_to_either : {A : Type 0} (p q : A → Bool) (xs : List A) → up_to_last (λ x. p x || q x) xs ≡ max (up_to_last p xs) (up_to_last q xs)
up_to_either p q [] = refl
up_to_either {A} p q (x ∷ xs) = by_cases (list_any p (x ∷ xs)) (list_any q (x ∷ xs)) refl refl (up_to_either p q xs)
  where
    either : (ys : List A) → list_any (λ y. p y || q y) ys ≡ (list_any p ys || list_any q ys)
    either [] = refl
    either (y ∷ ys) = rw (either ys) (grind (arith, common_steps))

    by_cases : (a b : Bool) → list_any p (x ∷ xs) ≡ a → list_any q (x ∷ xs) ≡ b → up_to_last (λ y. p y || q y) xs ≡ max (up_to_last p xs) (up_to_last q xs) → up_to_last (λ y. p y || q y) (x ∷ xs) ≡ max (if a then up_to_last p xs + 1 else 0) (if b then up_to_last q xs + 1 else 0)
    by_cases true true e f rest = rw (either (x ∷ xs), e, rest) (omega arith)
    by_cases true false e f rest = let none : up_to_last q xs ≡ 0 = up_to_none q xs (grind (arith, common_steps)) in rw (either (x ∷ xs), e, rest, none) (omega arith)
    by_cases false true e f rest = let none : up_to_last p xs ≡ 0 = up_to_none p xs (grind (arith, common_steps)) in rw (either (x ∷ xs), e, f, rest, none) (omega arith)
    by_cases false false e f rest = rw (either (x ∷ xs), e, f) refl

-- the number of items before the first one of which the test holds
abbrev pub up_to_first : {A : Type 0} → (A → Bool) → List A → ℕ
up_to_first test [] = 0
up_to_first test (x ∷ xs) = if test x then 0 else up_to_first test xs + 1
