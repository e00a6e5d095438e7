-- The last place of which a test holds.
use Rattle.command_rules.specs.Searches.{last_place}
use Rattle.command_rules.proofs.Prelude.{Bool, IfNone, IfSome, List, None, Option, Some, [], ap, arith, common_steps, drop, false, get_or, if◌then◌else◌, length, list_any, option_map, option_or, refl, slice_index_or, subst, suc, sym, true, unwrap_or, zero, ℕ, ◌+◌, ◌-◌, ◌<◌, ◌||◌, ◌∙◌, ◌∷◌, ◌≡◌, ◌≤◌}

-- where nothing passes there is none
pub last_none : {A : Type 0} (test : A → Bool) (xs : List A) → list_any test xs ≡ false → last_place test xs ≡ None
last_none test [] none = refl
last_none test (x ∷ xs) none = let here : test x ≡ false = grind (arith, common_steps) in rw (last_none test xs (grind (arith, common_steps)), here) refl

-- .. and nothing passes where there is none
pub last_unfound : {A : Type 0} (test : A → Bool) (xs : List A) → last_place test xs ≡ None → list_any test xs ≡ false
last_unfound test [] none = refl
last_unfound test (x ∷ xs) none =
    let behind : last_place test xs ≡ None = tail_none (last_place test xs) (if test x then Some 0 else None) none in
    rw (last_unfound test xs behind) (head_none (last_place test xs) (test x) none)
  where
    tail_none : (o h : Option ℕ) → option_or (option_map (λ k. k + 1) o) h ≡ None → o ≡ None
    tail_none None h e = refl
    tail_none (Some k) h e = absurd (cc)

    head_none : (o : Option ℕ) (b : Bool) → option_or (option_map (λ k. k + 1) o) (if b then Some 0 else None) ≡ None → (b || false) ≡ false
    head_none o false e = refl
    head_none None true e = absurd (cc)
    head_none (Some k) true e = absurd (cc)

-- one passes where there is one
pub last_found : {A : Type 0} (test : A → Bool) (xs : List A) (k : ℕ) → last_place test xs ≡ Some k → list_any test xs ≡ true
last_found {A} test xs k found = by_cases (list_any test xs) refl
  where
    by_cases : (b : Bool) → list_any test xs ≡ b → b ≡ true
    by_cases true e = refl
    by_cases false e = absurd (cc (sym found ∙ last_none test xs e))

-- the last place is one of the list
pub last_within : {A : Type 0} (test : A → Bool) (xs : List A) (k : ℕ) → last_place test xs ≡ Some k → k < length xs
last_within test [] k found = absurd (cc)
last_within {A} test (x ∷ xs) k found = at (last_place test xs) refl found (λ j e. last_within test xs j e)
  where
    here : (b : Bool) → (if b then Some 0 else None) ≡ Some k → k ≡ 0
    here true e = sym (ap (λ o. unwrap_or o 0) e)
    here false e = absurd (cc)

    at : (o : Option ℕ) → last_place test xs ≡ o → option_or (option_map (λ j. j + 1) o) (if test x then Some 0 else None) ≡ Some k → ((j : ℕ) → last_place test xs ≡ Some j → j < length xs) → k < suc (length xs)
    at (Some j) e told before = let less : j < length xs = before j e in let next : j + 1 ≡ k = ap (λ o. unwrap_or o 0) told in omega (arith, less, next)
    at None e told before = let none : k ≡ 0 = here (test x) told in omega (arith, none)

-- .. and what stands there passes
pub last_told : {A : Type 0} (test : A → Bool) (xs : List A) (k : ℕ) (d : A) → last_place test xs ≡ Some k → test (get_or xs k d) ≡ true
last_told test [] k d found = absurd (cc)
last_told {A} test (x ∷ xs) k d found = at (last_place test xs) refl found (λ j e. last_told test xs j d e)
  where
    here : (b : Bool) → test x ≡ b → (if b then Some 0 else None) ≡ Some k → test (get_or (x ∷ xs) k d) ≡ true
    here true e first = let none : k ≡ 0 = sym (ap (λ o. unwrap_or o 0) first) in ap (λ j. test (get_or (x ∷ xs) j d)) none ∙ e
    here false e first = absurd (cc)

    at : (o : Option ℕ) → last_place test xs ≡ o → option_or (option_map (λ j. j + 1) o) (if test x then Some 0 else None) ≡ Some k → ((j : ℕ) → last_place test xs ≡ Some j → test (get_or xs j d) ≡ true) → test (get_or (x ∷ xs) k d) ≡ true
    at (Some j) e told before = let next : k ≡ suc j = sym (ap (λ o. unwrap_or o 0) told) ∙ add_one j in ap (λ i. test (get_or (x ∷ xs) i d)) next ∙ before j e
      where
        add_one : (j : ℕ) → j + 1 ≡ suc j
        add_one j = omega arith
    at None e told before = here (test x) refl told

-- where a place passes and nothing behind it, it is the last place
pub last_is : {A : Type 0} (test : A → Bool) (xs : List A) (k : ℕ) (x : A) → k < length xs → test (get_or xs k x) ≡ true → last_place test (drop (suc k) xs) ≡ None → last_place test xs ≡ Some k
last_is test [] k x within passes none = absurd (omega (arith, within))
last_is test (y ∷ ys) zero x within passes none = rw (none, passes) refl
last_is test (y ∷ ys) (suc k) x within passes none = let e : suc k ≡ k + 1 = omega arith in rw (last_is test ys k x (omega (arith, within)) passes none, e) refl

-- .. for the place just before another
pub last_before : {A : Type 0} (test : A → Bool) (xs : List A) (k : ℕ) (x : A) → 0 < k → k ≤ length xs → test (get_or xs (k - 1) x) ≡ true → last_place test (drop k xs) ≡ None → last_place test xs ≡ Some (k - 1)
last_before test xs zero x some within passes none = absurd (omega (arith, some))
last_before test xs (suc k) x some within passes none = let e : suc k - 1 ≡ k = omega arith in last_is test xs k x (omega (arith, within)) (subst (λ j. test (get_or xs j x) ≡ true) e passes) none ∙ ap Some (sym e)

-- By what holds at each place

-- no item from the place i on passes
abbrev pub NonePasses : {A : Type 0} → (A → Bool) → List A → ℕ → Type 0
NonePasses {A} test xs i = (k : ℕ) (d : A) → i ≤ k → k < length xs → test (slice_index_or xs k d) ≡ false

none_passes : {A : Type 0} (test : A → Bool) (xs : List A) → NonePasses test xs 0 → list_any test xs ≡ false
none_passes test [] none = refl
none_passes test (x ∷ xs) none =
    let here : test x ≡ false = none 0 x (omega arith) (omega arith) in
    rw here (none_passes test xs (λ k d low high. none (suc k) d (omega arith) (omega (arith, high))))

none_from : {A : Type 0} (test : A → Bool) (xs : List A) (i : ℕ) → NonePasses test xs i → last_place test (drop i xs) ≡ None
none_from test [] zero none = refl
none_from test [] (suc i) none = refl
none_from test (x ∷ xs) zero none = last_none test (x ∷ xs) (none_passes test (x ∷ xs) none)
none_from test (x ∷ xs) (suc i) none = none_from test xs i (λ k d low high. none (suc k) d (omega (arith, low)) (omega (arith, high)))

pub last_place-places : {A : Type 0} (test : A → Bool) (xs : List A) (r : Option ℕ) → IfNone r (NonePasses test xs 0) → IfSome r (λ i. (i < length xs) × ((d : A) → test (slice_index_or xs i d) ≡ true) × NonePasses test xs (i + 1)) → r ≡ last_place test xs
last_place-places test xs None nothing last = sym (last_none test xs (none_passes test xs nothing))
last_place-places test [] (Some i) nothing last = absurd (omega (arith, last.0))
last_place-places test (x ∷ xs) (Some i) nothing last = sym (last_is test (x ∷ xs) i x last.0 (last.1 x) (none_from test (x ∷ xs) (suc i) (λ k d low high. last.2 k d (omega (arith, low)) high)))
