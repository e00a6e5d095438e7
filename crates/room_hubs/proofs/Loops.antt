-- Lists that are made number by number, and places of numbers.
use Rattle.room_hubs.proofs.Prelude.{Bool, List, None, Some, [], ap, arith, common_steps, cond, false, filter, filter_more, fold, get_or, get_or-range_with_len, if◌then◌else◌, length, length-range_with_len, list_any, map, map-append, nat_lt, not, position, position_or_len, range_with_len, refl, suc, sym, take, take_all, take_more, true, ℕ, ◌++◌, ◌+◌, ◌<◌, ◌||◌, ◌∙◌, ◌∷◌, ◌≡◌, ◌≤◌}
use Rattle.std.proofs.lemmas.List.Sums.{fold-append, prefix_len-le-length}

-- the next number passes the test or does not
pub next_number : (p : ℕ → Bool) (a n i m : ℕ) (b : Bool) → i < n → a + i ≡ m → p m ≡ b
    → filter p (take (i + 1) (range_with_len a n)) ≡ filter p (take i (range_with_len a n)) ++ (if b then m ∷ [] else [])
next_number p a n i m b within same is =
    filter_more p (range_with_len a n) i 0 (omega (arith, within, length-range_with_len a n))
    ∙ ap (λ z. filter p (take i (range_with_len a n)) ++ (if p z then z ∷ [] else [])) (get_or-range_with_len a n i 0 within ∙ same)
    ∙ ap (λ c. filter p (take i (range_with_len a n)) ++ (if c then m ∷ [] else [])) is

pub all_numbers : (p : ℕ → Bool) (a n : ℕ) → filter p (take n (range_with_len a n)) ≡ filter p (range_with_len a n)
all_numbers p a n = ap (filter p) (take_all n (range_with_len a n) (omega (arith, length-range_with_len a n)))

pub next_mapped : {X Y : Type 0} (f : X → Y) (xs : List X) (i : ℕ) (d : X) → i < length xs → map f (take (i + 1) xs) ≡ map f (take i xs) ++ f (get_or xs i d) ∷ []
next_mapped f xs i d within = ap (map f) (take_more xs i d within) ∙ map-append f (take i xs) (get_or xs i d ∷ [])

pub all_mapped : {X Y : Type 0} (f : X → Y) (xs : List X) (i : ℕ) → length xs ≤ i → map f (take i xs) ≡ map f xs
all_mapped f xs i all = ap (map f) (take_all i xs all)

pub next_folded : {X Y Z : Type 0} (g : Z → Y → Z) (z : Z) (f : X → Y) (xs : List X) (i : ℕ) (d : X) → i < length xs
    → fold g z (map f (take (i + 1) xs)) ≡ g (fold g z (map f (take i xs))) (f (get_or xs i d))
next_folded g z f xs i d within = ap (fold g z) (next_mapped f xs i d within) ∙ fold-append g z (map f (take i xs)) (f (get_or xs i d) ∷ [])

position_or_len-map : {X Y : Type 0} (f : X → Y) (p : Y → Bool) (xs : List X)
    → position_or_len p (map f xs) ≡ position_or_len (λ x. p (f x)) xs
position_or_len-map f p [] = refl
position_or_len-map f p (x ∷ xs) = ap (λ n. cond (not (p (f x))) (1 + n) 0) (position_or_len-map f p xs)

-- there is one where its place is within the list
pub any_is : {X : Type 0} (p : X → Bool) (xs : List X) → list_any p xs ≡ nat_lt (position_or_len p xs) (length xs)
any_is p [] = refl
any_is p (x ∷ xs) = by (p x) (any_is p xs)
  where
    first : (n : ℕ) → true ≡ nat_lt 0 (suc n)
    first n = grind (arith, common_steps)

    further : (m n : ℕ) → nat_lt m n ≡ nat_lt (1 + m) (suc n)
    further m n = grind (arith, common_steps)

    by : (b : Bool) → list_any p xs ≡ nat_lt (position_or_len p xs) (length xs) → (b || list_any p xs) ≡ nat_lt (cond (not b) (1 + position_or_len p xs) 0) (suc (length xs))
    by true _ = first (length xs)
    by false so = so ∙ further (position_or_len p xs) (length xs)

module _ {X : Type 0} (p : X → Bool) (xs : List X) where
  tested : (b : Bool) → nat_lt (position_or_len p xs) (length xs) ≡ b → cond b (Some (position_or_len p xs)) None ≡ position p xs
  tested b e = ap (λ z. cond z (Some (position_or_len p xs)) None) (sym e)

  -- there is one at this place
  pub place_some : (i : ℕ) → Some i ≡ position p xs → (position_or_len p xs ≡ i) × (list_any p xs ≡ true)
  place_some i at = by (nat_lt (position_or_len p xs) (length xs)) refl
    where
      by : (b : Bool) → nat_lt (position_or_len p xs) (length xs) ≡ b → (position_or_len p xs ≡ i) × (list_any p xs ≡ true)
      by true e = let found : Some (position_or_len p xs) ≡ Some i = tested true e ∙ sym at in (cc, any_is p xs ∙ e)
      by false e = let none : None ≡ Some i = tested false e ∙ sym at in absurd (cc)

  -- there is none
  pub place_none : None ≡ position p xs → (position_or_len p xs ≡ length xs) × (list_any p xs ≡ false)
  place_none at = by (nat_lt (position_or_len p xs) (length xs)) refl
    where
      past : nat_lt (position_or_len p xs) (length xs) ≡ false → position_or_len p xs ≤ length xs → position_or_len p xs ≡ length xs
      past z w = grind (arith, common_steps)

      by : (b : Bool) → nat_lt (position_or_len p xs) (length xs) ≡ b → (position_or_len p xs ≡ length xs) × (list_any p xs ≡ false)
      by true e = let found : Some (position_or_len p xs) ≡ None = tested true e ∙ sym at in absurd (cc)
      by false e = (past e (prefix_len-le-length (λ x. not (p x)) xs), any_is p xs ∙ e)

-- the place among what is seen through f
pub seen_some : {X Y : Type 0} (f : X → Y) (p : Y → Bool) (xs : List X) (i : ℕ) → Some i ≡ position (λ x. p (f x)) xs → position_or_len p (map f xs) ≡ i
seen_some f p xs i at = position_or_len-map f p xs ∙ (place_some (λ x. p (f x)) xs i at).0

pub seen_none : {X Y : Type 0} (f : X → Y) (p : Y → Bool) (xs : List X) → None ≡ position (λ x. p (f x)) xs → position_or_len p (map f xs) ≡ length xs
seen_none f p xs at = position_or_len-map f p xs ∙ (place_none (λ x. p (f x)) xs at).0

pub map_map : {X Y Z : Type 0} (g : Y → Z) (f : X → Y) (xs : List X) → map g (map f xs) ≡ map (λ x. g (f x)) xs
map_map g f [] = refl
map_map g f (x ∷ xs) = ap (λ l. g (f x) ∷ l) (map_map g f xs)
