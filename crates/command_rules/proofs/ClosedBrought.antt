-- How an item is brought forward, exchange by exchange.
use Rattle.command_rules.proofs.Prelude.{Bool, List, None, Option, Some, [], ap, are_apart, arith, brought, common_steps, drop, exchanged, false, length, list_any, may_pass, not, option_and_then, option_map, refl, slice_get, subst, suc, sym, take, take-append-drop, true, unwrap_or, zero, ℕ, ◌++◌, ◌+◌, ◌-◌, ◌<◌, ◌||◌, ◌∙◌, ◌∷◌, ◌≡◌, ◌≤◌}

further : (at : ℕ) → at + 1 ≡ suc at
further at = omega arith

within : {A : Type 0} (ys : List A) (k : ℕ) (i : A) → slice_get ys k ≡ Some i → k < length ys
within [] zero i h = absurd cc
within [] (suc k) i h = absurd cc
within (y ∷ ys) zero i h = omega arith
within (y ∷ ys) (suc k) i h = let rest = within ys k i h in omega (arith, rest)

-- neighbours are there
pub apart_there : {A : Type 0} (meets : A → A → Bool) (at : ℕ) (xs : List A) → are_apart meets at xs ≡ true → at + 1 < length xs
apart_there {A = A} meets at xs apart = by_first (slice_get xs at) apart
  where
    by_second : (i : A) (o : Option A) → slice_get xs (at + 1) ≡ o → unwrap_or (option_map (λ j. not (meets i j)) o) false ≡ true → at + 1 < length xs
    by_second i None e h = absurd cc
    by_second i (Some j) e h = within xs (at + 1) j e

    by_first : (o : Option A) → unwrap_or (option_and_then (λ i. option_map (λ j. not (meets i j)) (slice_get xs (at + 1))) o) false ≡ true → at + 1 < length xs
    by_first None h = absurd cc
    by_first (Some i) h = by_second i (slice_get xs (at + 1)) refl h

-- one exchange more
pub one_more : {A : Type 0} (xs : List A) (at k : ℕ) → at < length xs → exchanged at (take (suc at) xs ++ brought k (drop (suc at) xs)) ≡ take at xs ++ brought (suc k) (drop at xs)
unfolding exchanged brought
one_more [] at k less = absurd (omega (arith, less))
one_more (x ∷ xs) zero k less = refl
one_more (x ∷ xs) (suc at) k less = ap (λ l. x ∷ l) (one_more xs at k (omega (arith, less)))

-- the item that is brought stands first
first_is : {A : Type 0} (xs : List A) (k : ℕ) → k < length xs → slice_get (brought k xs) 0 ≡ slice_get xs k
unfolding exchanged brought
first_is [] k less = absurd (omega (arith, less))
first_is (x ∷ xs) zero less = refl
first_is {A = A} (x ∷ xs) (suc k) less = by_rest (brought k xs) refl (first_is xs k (omega (arith, less)))
  where
    some : (ys : List A) (j : ℕ) → j < length ys → None ≡ slice_get ys j → ⊥
    some [] j h e = omega (arith, h)
    some (y ∷ ys) zero h e = cc
    some (y ∷ ys) (suc j) h e = some ys j (omega (arith, h)) e

    by_rest : (l : List A) → brought k xs ≡ l → slice_get (brought k xs) 0 ≡ slice_get xs k → slice_get (exchanged 0 (x ∷ brought k xs)) 0 ≡ slice_get xs k
    by_rest [] e h = absurd (some xs k (omega (arith, less)) (sym (ap (λ l. slice_get l 0) e) ∙ h))
    by_rest (y ∷ l) e h = ap (λ m. slice_get (exchanged 0 (x ∷ m)) 0) e ∙ sym (ap (λ m. slice_get m 0) e) ∙ h

get_behind : {A : Type 0} (xs ys : List A) (at : ℕ) → at < length xs → slice_get (take (suc at) xs ++ ys) (suc at) ≡ slice_get ys 0
get_behind [] ys at less = absurd (omega (arith, less))
get_behind (x ∷ xs) ys zero less = refl
get_behind (x ∷ xs) ys (suc at) less = get_behind xs ys at (omega (arith, less))

get_before : {A : Type 0} (xs ys : List A) (at : ℕ) → at < length xs → slice_get (take (suc at) xs ++ ys) at ≡ slice_get xs at
get_before [] ys at less = absurd (omega (arith, less))
get_before (x ∷ xs) ys zero less = refl
get_before (x ∷ xs) ys (suc at) less = get_before xs ys at (omega (arith, less))

get_drop : {A : Type 0} (xs : List A) (a k i : ℕ) → a + k ≡ i → slice_get (drop a xs) k ≡ slice_get xs i
get_drop xs zero k i sum = ap (slice_get xs) (let e = sum in omega (arith, e))
get_drop {A = A} [] (suc a) k i sum = nothing k ∙ sym (nothing i)
  where
    nothing : (k : ℕ) → slice_get {X = A} [] k ≡ None
    nothing zero = refl
    nothing (suc k) = refl
get_drop (x ∷ xs) (suc a) k zero sum = absurd (omega (arith, sum))
get_drop (x ∷ xs) (suc a) k (suc i) sum = get_drop xs a k i (omega (arith, sum))

-- an item of those that are passed does not meet the one that passes
passed_one : {A : Type 0} (meets : A → A → Bool) (i : A) (xs : List A) (to at from : ℕ) (j : A) → to ≤ at → at < from → slice_get xs at ≡ Some j → list_any (λ k. meets k i) (drop to (take from xs)) ≡ false → meets j i ≡ false
passed_one meets i [] to at from j low high is none = absurd (nothing at is)
  where
    nothing : (k : ℕ) → slice_get [] k ≡ Some j → ⊥
    nothing zero h = cc
    nothing (suc k) h = cc
passed_one meets i (x ∷ xs) to at zero j low high is none = absurd (omega (arith, high))
passed_one meets i (x ∷ xs) zero zero (suc from) j low high is none = subst (λ y. meets y i ≡ false) (ap (λ o. unwrap_or o x) is) (first (meets x i) (list_any (λ k. meets k i) (take from xs)) none)
  where
    first : (a b : Bool) → (a || b) ≡ false → a ≡ false
    first a b h = grind (arith, common_steps)
passed_one meets i (x ∷ xs) zero (suc at) (suc from) j low high is none = passed_one meets i xs zero at from j (omega arith) (omega (arith, high)) is (last (meets x i) (list_any (λ k. meets k i) (take from xs)) none)
  where
    last : (a b : Bool) → (a || b) ≡ false → b ≡ false
    last a b h = grind (arith, common_steps)
passed_one meets i (x ∷ xs) (suc to) zero (suc from) j low high is none = absurd (omega (arith, low))
passed_one meets i (x ∷ xs) (suc to) (suc at) (suc from) j low high is none = passed_one meets i xs to at from j (omega (arith, low)) (omega (arith, high)) is none

-- so the next exchange is one of neighbours that are apart
pub next_apart : {A : Type 0} (meets : A → A → Bool) (xs : List A) (to at from : ℕ) → to ≤ at → at < from → may_pass meets to from xs ≡ true → are_apart meets at (take (suc at) xs ++ brought (from - suc at) (drop (suc at) xs)) ≡ true
next_apart {A = A} meets xs to at from low high pass = by_item (slice_get xs from) refl pass
  where
    line : List A
    line = take (suc at) xs ++ brought (from - suc at) (drop (suc at) xs)

    there : (ys : List A) (k : ℕ) → k < length ys → (j : A) × (slice_get ys k ≡ Some j)
    there [] k h = absurd (omega (arith, h))
    there (y ∷ ys) zero h = (y, refl)
    there (y ∷ ys) (suc k) h = there ys k (omega (arith, h))

    left : (a : ℕ) → a + (from - suc at) < length xs → from - suc at < length (drop a xs)
    left a h = grind (arith, common_steps)

    negated : (b : Bool) → not b ≡ true → b ≡ false
    negated b h = grind (arith, common_steps)

    by_item : (o : Option A) → slice_get xs from ≡ o → unwrap_or (option_map (λ i. not (list_any (λ j. meets j i) (drop to (take from xs)))) o) false ≡ true → are_apart meets at line ≡ true
    by_item None e h = absurd cc
    by_item (Some i) e h =
        let inside : from < length xs = within xs from i e in
        let low' : at < length xs = omega (arith, inside, high) in
        let here = there xs at low' in
        let none : meets here.0 i ≡ false = passed_one meets i xs to at from here.0 low high here.1 (negated (list_any (λ j. meets j i) (drop to (take from xs))) h) in
        let one : slice_get line at ≡ Some here.0 = get_before xs (brought (from - suc at) (drop (suc at) xs)) at low' ∙ here.1 in
        let two : slice_get line (at + 1) ≡ Some i =
        ap (slice_get line) (further at) ∙ get_behind xs (brought (from - suc at) (drop (suc at) xs)) at low' ∙ first_is (drop (suc at) xs) (from - suc at) (left (suc at) (omega (arith, high, inside))) ∙ get_drop xs (suc at) (from - suc at) from (omega (arith, high)) ∙ e in
        ap (λ o. unwrap_or (option_and_then (λ k. option_map (λ j. not (meets k j)) (slice_get line (at + 1))) o) false) one
        ∙ ap (λ o. unwrap_or (option_map (λ j. not (meets here.0 j)) o) false) two
        ∙ ap not none

-- The steps of the loop

pub pass_there : {A : Type 0} (meets : A → A → Bool) (to from : ℕ) (xs : List A) → may_pass meets to from xs ≡ true → from < length xs
pass_there {A = A} meets to from xs pass = by_item (slice_get xs from) refl pass
  where
    by_item : (o : Option A) → slice_get xs from ≡ o → unwrap_or (option_map (λ i. not (list_any (λ j. meets j i) (drop to (take from xs)))) o) false ≡ true → from < length xs
    by_item None e h = absurd cc
    by_item (Some i) e h = within xs from i e

pub may_exchange : {A : Type 0} (meets : A → A → Bool) (xs items : List A) (to at from : ℕ) → to < at → at ≤ from → may_pass meets to from xs ≡ true → items ≡ take at xs ++ brought (from - at) (drop at xs) → are_apart meets (at - 1) items ≡ true
may_exchange meets xs items to zero from low high pass is = absurd (omega (arith, low))
may_exchange meets xs items to (suc k) from low high pass is =
    let one : suc k - 1 ≡ k = omega arith in
    ap (λ l. are_apart meets (suc k - 1) l) is ∙ ap (λ j. are_apart meets j (take (suc k) xs ++ brought (from - suc k) (drop (suc k) xs))) one ∙ next_apart meets xs to k from (omega (arith, low)) (omega (arith, high)) pass

pub moved : {A : Type 0} (xs items : List A) (at from : ℕ) → 0 < at → at ≤ from → from < length xs → items ≡ take at xs ++ brought (from - at) (drop at xs) → exchanged (at - 1) items ≡ take (at - 1) xs ++ brought (from - (at - 1)) (drop (at - 1) xs)
moved xs items zero from some high inside is = absurd (omega (arith, some))
moved xs items (suc k) from some high inside is =
    let one : suc k - 1 ≡ k = omega arith in
    let less : k < length xs = omega (arith, high, inside) in
    let more : suc (from - suc k) ≡ from - k = omega (arith, high) in
    ap (exchanged (suc k - 1)) is ∙ ap (λ j. exchanged j (take (suc k) xs ++ brought (from - suc k) (drop (suc k) xs))) one
    ∙ one_more xs k (from - suc k) less ∙ ap (λ m. take k xs ++ brought m (drop k xs)) more
    ∙ sym (ap (λ j. take j xs ++ brought (from - j) (drop j xs)) one)

pub starts : {A : Type 0} (xs : List A) (from : ℕ) → xs ≡ take from xs ++ brought (from - from) (drop from xs)
unfolding brought
starts xs from = sym (take-append-drop from xs) ∙ ap (λ l. take from xs ++ l) (sym (whole (drop from xs))) ∙ ap (λ m. take from xs ++ brought m (drop from xs)) (let e : 0 ≡ from - from = omega arith in e)
  where
    whole : {A : Type 0} (l : List A) → brought 0 l ≡ l
    whole [] = refl
    whole (x ∷ l) = refl

-- as many items stand there

length_exchanged : {A : Type 0} (at : ℕ) (xs : List A) → length (exchanged at xs) ≡ length xs
unfolding exchanged
length_exchanged at [] = refl
length_exchanged zero (x ∷ []) = refl
length_exchanged zero (x ∷ y ∷ xs) = refl
length_exchanged (suc at) (x ∷ xs) = ap suc (length_exchanged at xs)

length_brought : {A : Type 0} (k : ℕ) (xs : List A) → length (brought k xs) ≡ length xs
unfolding brought
length_brought k [] = refl
length_brought zero (x ∷ xs) = refl
length_brought (suc k) (x ∷ xs) = length_exchanged 0 (x ∷ brought k xs) ∙ ap suc (length_brought k xs)

pub length_moved : {A : Type 0} (at k : ℕ) (xs : List A) → length (take at xs ++ brought k (drop at xs)) ≡ length xs
length_moved zero k xs = length_brought k xs
length_moved (suc at) k [] = length_brought k []
length_moved (suc at) k (x ∷ xs) = ap suc (length_moved at k xs)
