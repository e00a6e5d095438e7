-- Items one after another, each of which suits those before it.
use Rattle.routine_reader.proofs.Prelude.{AreDifferent, List, None, Option, Some, [], ap, arith, false, inl, inr, is_among, length, map, none-some, option_map, refl, slice_get, slice_get-map, slice_get_within, subst, suc, sym, take, take-append-le, take-map, zero, ℕ, ◌++◌, ◌∙◌, ◌∷◌, ◌≡◌, ◌≤◌, ◌⊎◌}

-- P of each item and those before it
abbrev pub EachAfter : {T : Type 0} → (List T → T → Type 0) → List T → Type 0
EachAfter {T} P items = (k : ℕ) (item : T) → slice_get items k ≡ Some item → P (take k items) item

get-last : {X : Type 0} (xs : List X) (x y : X) (k : ℕ) → slice_get (xs ++ x ∷ []) k ≡ Some y
    → (slice_get xs k ≡ Some y) ⊎ ((k ≡ length xs) × (x ≡ y))
get-last [] x y zero h = inr (refl, cc)
get-last [] x y (suc k) h = absurd (cc)
get-last (z ∷ xs) x y zero h = inl h
get-last (z ∷ xs) x y (suc k) h = elim (get-last xs x y k h) [ inl e ↦ inl e | inr p ↦ inr (ap (λ n. suc n) p.0, p.1) ]

take-front : {X : Type 0} (xs ys : List X) → take (length xs) (xs ++ ys) ≡ xs
take-front [] ys = refl
take-front (x ∷ xs) ys = ap (λ l. x ∷ l) (take-front xs ys)

-- one more item that suits all
pub each-more : {T : Type 0} (P : List T → T → Type 0) (items : List T) (item : T) → EachAfter P items → P items item
    → EachAfter P (items ++ item ∷ [])
each-more {T} P items item each last k other at =
    elim (get-last items item other k at) [
      | inl old ↦ (let below = slice_get_within items k other old in let le : k ≤ length items = omega arith in
          subst (λ l. P l other) (sym (take-append-le k items (item ∷ []) le)) (each k other old))
      | inr p ↦ (let Q : List T × T → Type 0 = λ q. P q.0 q.1 in
          let front : take k (items ++ item ∷ []) ≡ items = ap (λ n. take n (items ++ item ∷ [])) p.0 ∙ take-front items (item ∷ []) in
          subst Q (λ i. (sym front i, p.1 i)) last)
    ]

pub each-none : {T : Type 0} (P : List T → T → Type 0) → EachAfter P []
each-none P zero item at = absurd (none-some item at)
each-none P (suc k) item at = absurd (none-some item at)

-- as many items come before the one at k
pub length-before : {T : Type 0} (items : List T) (k : ℕ) (item : T) → slice_get items k ≡ Some item → length (take k items) ≡ k
length-before [] k item at = absurd (none-some item at)
length-before (x ∷ xs) zero item at = refl
length-before (x ∷ xs) (suc k) item at = ap (λ n. suc n) (length-before xs k item at)

some-of-map : {T U : Type 0} (f : T → U) (o : Option T) (u : U) → option_map f o ≡ Some u → (t : T) × (o ≡ Some t) × (f t ≡ u)
some-of-map f None u h = absurd (none-some u h)
some-of-map f (Some t) u h = (t, refl, cc)

-- the names of items are different where each is none of those before it
pub different-names : {T : Type 0} (name : T → List ℕ) (items : List T)
    → EachAfter (λ earlier item. is_among (map name earlier) (name item) ≡ false) items → AreDifferent (map name items)
different-names name items each k text at =
    let found = some-of-map name (slice_get items k) text (sym (slice_get-map name items k) ∙ at) in
    subst (λ l. is_among l text ≡ false) (sym (take-map name k items))
    (subst (λ t. is_among (map name (take k items)) t ≡ false) found.2 (each k found.0 found.1))
