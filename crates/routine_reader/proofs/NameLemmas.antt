-- Places in a list that is made from another.
use Rattle.routine_reader.proofs.Prelude.{Bool, List, None, Option, Some, [], ap, cond, length, length-map, list_any, map, nat_lt, not, position, position_or_len, refl, ℕ, ◌+◌, ◌||◌, ◌∙◌, ◌∷◌, ◌≡◌}

position_or_len-map : {X Y : Type 0} (f : X → Y) (p : Y → Bool) (xs : List X)
    → position_or_len p (map f xs) ≡ position_or_len (λ x. p (f x)) xs
position_or_len-map f p [] = refl
position_or_len-map f p (x ∷ xs) = ap (λ n. cond (not (p (f x))) (1 + n) 0) (position_or_len-map f p xs)

abbrev place_within : ℕ → ℕ → Option ℕ
place_within length place = cond (nat_lt place length) (Some place) None

-- a place is the same where each element is seen through f
pub position-map : {X Y : Type 0} (f : X → Y) (p : Y → Bool) (xs : List X)
    → position p (map f xs) ≡ position (λ x. p (f x)) xs
position-map f p xs =
    ap (place_within (length (map f xs))) (position_or_len-map f p xs)
    ∙ ap (λ n. place_within n (position_or_len (λ x. p (f x)) xs)) (length-map xs f)

-- and so is whether there is one
pub any-map : {X Y : Type 0} (f : X → Y) (p : Y → Bool) (xs : List X) → list_any p (map f xs) ≡ list_any (λ x. p (f x)) xs
any-map f p [] = refl
any-map f p (x ∷ xs) = ap (λ b. p (f x) || b) (any-map f p xs)
