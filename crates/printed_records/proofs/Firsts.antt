-- First places in a list, and where a text is cut at a byte.
use Rattle.printed_records.proofs.Prelude.{All-head, All-tail, Bool, List, None, Parts, Some, [], ap, arith, bytes_eq, bytes_eq-Decides, common_steps, cond, cut_at, drop, false, length, length-append, list_any, lt-ltb, nat_lt, not, option_map, position, position_or_len, refl, slice_get, slice_get_within, suc, take, true, zero, ℕ, ◌++◌, ◌+◌, ◌<◌, ◌==◌, ◌∙◌, ◌∷◌, ◌≡◌}
use Rattle.printed_records.proofs.Plain.{Lacks}
use Rattle.std.proofs.Math.Seq.{take-append_seam}

-- a text is itself
pub bytes_eq-self : (text : List ℕ) → bytes_eq text text ≡ true
bytes_eq-self text = (bytes_eq-Decides text text).1 refl

-- the first element that passes, where none before it does
pub first-place : {X : Type 0} (p : X → Bool) (xs : List X) (k : ℕ) (x : X) → slice_get xs k ≡ Some x → p x ≡ true → list_any p (take k xs) ≡ false → position_or_len p xs ≡ k
first-place p [] k x at passes none = absurd (grind (arith, common_steps))
first-place p (y ∷ xs) zero x at passes none =
    let same : y ≡ x = cc in
    ap (λ b. cond (not b) (1 + position_or_len p xs) 0) (ap p same ∙ passes)
first-place p (y ∷ xs) (suc k) x at passes none =
    let fails : p y ≡ false = grind (arith, common_steps) in
    let later : list_any p (take k xs) ≡ false = grind (arith, common_steps) in
    let rest = first-place p xs k x at passes later in
    ap (λ b. cond (not b) (1 + position_or_len p xs) 0) fails ∙ omega (arith, rest)

pub position-at : {X : Type 0} (p : X → Bool) (xs : List X) (k : ℕ) (x : X) → slice_get xs k ≡ Some x → p x ≡ true → list_any p (take k xs) ≡ false → position p xs ≡ Some k
position-at p xs k x at passes none =
    let place = first-place p xs k x at passes none in
    let within : k < length xs = slice_get_within xs k x at in
    ap (λ n. cond (nat_lt n (length xs)) (Some n) None) place ∙ ap (λ b. cond b (Some k) None) (lt-ltb k (length xs) within)

lacks-before : (b : ℕ) (front back : List ℕ) → Lacks b front → position_or_len (λ x. x == b) (front ++ b ∷ back) ≡ length front
lacks-before b [] back lacks = ap (λ t. cond (not t) (1 + position_or_len (λ x. x == b) back) 0) same
  where
    same : (b == b) ≡ true
    same = grind (arith, common_steps)
lacks-before b (x ∷ front) back lacks =
    let other : (x == b) ≡ false = All-head (λ y. (y == b) ≡ false) x front lacks in
    let rest = lacks-before b front back (All-tail (λ y. (y == b) ≡ false) x front lacks) in
    ap (λ t. cond (not t) (1 + position_or_len (λ y. y == b) (front ++ b ∷ back)) 0) other ∙ omega (arith, rest)

drop-front : {X : Type 0} (front : List X) (x : X) (back : List X) → drop (length front + 1) (front ++ x ∷ back) ≡ back
drop-front [] x back = refl
drop-front (y ∷ front) x back =
    let more : suc (length front) + 1 ≡ suc (length front + 1) = omega arith in
    ap (λ k. drop k (y ∷ (front ++ x ∷ back))) more ∙ drop-front front x back

abbrev parts_at : ℕ → List ℕ → Parts
parts_at i text = record { front = take i text; back = drop (i + 1) text }

-- a text is cut at the first such byte
pub cut-at : (b : ℕ) (front back : List ℕ) → Lacks b front → cut_at b (front ++ b ∷ back) ≡ Some (record { front = front; back = back })
cut-at b front back lacks =
    let text = front ++ b ∷ back in
    let place = lacks-before b front back lacks in
    let within : length front < length text = omega (arith, length-append front (b ∷ back)) in
    let found : position (λ x. x == b) text ≡ Some (length front) =
    ap (λ n. cond (nat_lt n (length text)) (Some n) None) place
    ∙ ap (λ t. cond t (Some (length front)) None) (lt-ltb (length front) (length text) within) in
    ap (option_map (λ i. parts_at i text)) found
    ∙ ap (λ f. Some (record { front = f; back = drop (length front + 1) text })) (take-append_seam front (b ∷ back))
    ∙ ap (λ r. Some (record { front = front; back = r })) (drop-front front b back)

lacks-all : (b : ℕ) (text : List ℕ) → Lacks b text → position_or_len (λ x. x == b) text ≡ length text
lacks-all b [] lacks = refl
lacks-all b (x ∷ text) lacks =
    let other : (x == b) ≡ false = All-head (λ y. (y == b) ≡ false) x text lacks in
    let rest = lacks-all b text (All-tail (λ y. (y == b) ≡ false) x text lacks) in
    ap (λ t. cond (not t) (1 + position_or_len (λ y. y == b) text) 0) other ∙ omega (arith, rest)

-- a text without such a byte is not cut
pub cut-none : (b : ℕ) (text : List ℕ) → Lacks b text → cut_at b text ≡ None
cut-none b text lacks =
    let none : position (λ x. x == b) text ≡ None =
    ap (λ n. cond (nat_lt n (length text)) (Some n) None) (lacks-all b text lacks) ∙ ap (λ t. cond t (Some (length text)) None) (past (length text)) in
    ap (option_map (λ i. parts_at i text)) none
  where
    past : (n : ℕ) → nat_lt n n ≡ false
    past n = grind (arith, common_steps)
