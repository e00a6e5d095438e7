-- What the words of sets of devices say together, and from a device on.
use Rattle.home_types.proofs.DeviceBits.{contains_bits}
use Rattle.home_types.specs.DeviceSets.{HasBit, IsFirstFrom, Meet, devices_of_bits, has_bit}
use Rattle.std.proofs.Common.{ap, ap₂, arith, refl, sym, ◌∙◌}
use Rattle.std.proofs.lemmas.Grind.{common_steps}
use Rattle.std.proofs.lemmas.Nat.Bits.{bit_at-lt, bit_at-trailing_zeros, bit_at-zero, bit_at_above, bit_at_and, bit_at_or}
use Rattle.std.proofs.lemmas.Nat.{shr-shr, shr_le}
use Rattle.std.specs.FinSet as set
use Rattle.std.specs.Int.{bit_at, trailing_zeros, w64}
use Rattle.std.specs.Prelude.{Bool, IsTrue, List, Some, [], bit_and, bit_or, false, max, min, nat_lt, not, slice_index, suc, true, zero, ℕ, ◌%◌, ◌&&◌, ◌*◌, ◌+◌, ◌-◌, ◌/◌, ◌<◌, ◌==◌, ◌^◌, ◌||◌, ◌∷◌, ◌≡◌, ◌≢◌, ◌≤◌}

-- a device by its word and its bit there
contains_at : (words : List ℕ) (d k t : ℕ) → k < 4 → d / 64 ≡ k → d % 64 ≡ t → set.contains (devices_of_bits words) d ≡ (bit_at (slice_index words k) t == 1)
contains_at words d k t low word bit =
    let small : nat_lt d 256 ≡ true = grind (arith, common_steps) in
    contains_bits words d ∙ rw (small, word, bit) refl

max_one : (x y : ℕ) → max x y ≡ 1 → x ≢ 1 → y ≡ 1
max_one zero y e other = grind (arith, common_steps)
max_one (suc zero) y e other = absurd (other refl)
max_one (suc (suc x)) y e other = absurd (grind (arith, common_steps))

min_one : (x y : ℕ) → min x y ≡ 1 → x < 2 → y < 2 → (x ≡ 1) × (y ≡ 1)
min_one x y e small little = (grind (arith, common_steps), grind (arith, common_steps))

or_one : {C : Type 0} (m n t : ℕ) → bit_at (bit_or m n) t ≡ 1 → (bit_at m t ≡ 1 → C) → (bit_at n t ≡ 1 → C) → C
or_one {C} m n t e left right = elim (bit_at m t == 1) as (λ b. (bit_at m t == 1) ≡ b → C) [
  | true ↦ (λ h. left (grind (arith, common_steps)))
  | false ↦ (λ h. let other : bit_at m t ≢ 1 = grind (arith, common_steps) in right (max_one (bit_at m t) (bit_at n t) (sym (bit_at_or m n t) ∙ e) other))
] refl

and_one : (m n t : ℕ) → bit_at (bit_and m n) t ≡ 1 → (bit_at m t ≡ 1) × (bit_at n t ≡ 1)
and_one m n t e = min_one (bit_at m t) (bit_at n t) (sym (bit_at_and m n t) ∙ e) (bit_at-lt m t) (bit_at-lt n t)

or_left : (m n t : ℕ) → bit_at m t ≡ 1 → bit_at (bit_or m n) t ≡ 1
or_left m n t e = let small = bit_at-lt n t in bit_at_or m n t ∙ rw e (at (bit_at n t) small)
  where
    at : (y : ℕ) → y < 2 → max 1 y ≡ 1
    at y small = grind (arith, common_steps)

or_right : (m n t : ℕ) → bit_at n t ≡ 1 → bit_at (bit_or m n) t ≡ 1
or_right m n t e = let small = bit_at-lt m t in bit_at_or m n t ∙ rw e (at (bit_at m t) small)
  where
    at : (y : ℕ) → y < 2 → max y 1 ≡ 1
    at y small = grind (arith, common_steps)

module _ (a b : List ℕ) where
  -- the bits of the word k that are in both
  abbrev pub word_of_both : ℕ → ℕ
  word_of_both k = bit_and (slice_index a k) (slice_index b k)

  abbrev pub words_of_both : ℕ
  words_of_both = bit_or (bit_or (bit_or (word_of_both 0) (word_of_both 1)) (word_of_both 2)) (word_of_both 3)

  in_both : (k t : ℕ) → k < 4 → t < 64 → bit_at (word_of_both k) t ≡ 1 → Meet (devices_of_bits a) (devices_of_bits b)
  in_both k t low inside e =
      let bits = and_one (slice_index a k) (slice_index b k) t e in
      let word : (k * 64 + t) / 64 ≡ k = omega (arith, inside) in
      let bit : (k * 64 + t) % 64 ≡ t = omega (arith, inside) in
      (k * 64 + t, contains_at a (k * 64 + t) k t low word bit ∙ ap (λ x. x == 1) bits.0, contains_at b (k * 64 + t) k t low word bit ∙ ap (λ x. x == 1) bits.1)

  found : HasBit words_of_both → Meet (devices_of_bits a) (devices_of_bits b)
  found (t, inside, e) =
      or_one (bit_or (bit_or (word_of_both 0) (word_of_both 1)) (word_of_both 2)) (word_of_both 3) t e
      (λ f. or_one (bit_or (word_of_both 0) (word_of_both 1)) (word_of_both 2) t f
      (λ g. or_one (word_of_both 0) (word_of_both 1) t g (in_both 0 t (omega arith) inside) (in_both 1 t (omega arith) inside))
      (in_both 2 t (omega arith) inside))
      (in_both 3 t (omega arith) inside)

  shown : (k t : ℕ) → k < 4 → bit_at (word_of_both k) t ≡ 1 → bit_at words_of_both t ≡ 1
  shown zero t low e = or_left (bit_or (bit_or (word_of_both 0) (word_of_both 1)) (word_of_both 2)) (word_of_both 3) t (or_left (bit_or (word_of_both 0) (word_of_both 1)) (word_of_both 2) t (or_left (word_of_both 0) (word_of_both 1) t e))
  shown (suc zero) t low e = or_left (bit_or (bit_or (word_of_both 0) (word_of_both 1)) (word_of_both 2)) (word_of_both 3) t (or_left (bit_or (word_of_both 0) (word_of_both 1)) (word_of_both 2) t (or_right (word_of_both 0) (word_of_both 1) t e))
  shown (suc (suc zero)) t low e = or_left (bit_or (bit_or (word_of_both 0) (word_of_both 1)) (word_of_both 2)) (word_of_both 3) t (or_right (bit_or (word_of_both 0) (word_of_both 1)) (word_of_both 2) t e)
  shown (suc (suc (suc zero))) t low e = or_right (bit_or (bit_or (word_of_both 0) (word_of_both 1)) (word_of_both 2)) (word_of_both 3) t e
  shown (suc (suc (suc (suc k)))) t low e = absurd (omega (arith, low))

  bit_of : (words : List ℕ) (d : ℕ) → set.contains (devices_of_bits words) d ≡ true → (d < 256) × (bit_at (slice_index words (d / 64)) (d % 64) ≡ 1)
  bit_of words d among =
      let both : (nat_lt d 256 && (bit_at (slice_index words (d / 64)) (d % 64) == 1)) ≡ true = sym (contains_bits words d) ∙ among in
      (grind (arith, common_steps), grind (arith, common_steps))

  kept : Meet (devices_of_bits a) (devices_of_bits b) → HasBit words_of_both
  kept (d, here, there) =
      let one = bit_of a d here in
      let other = bit_of b d there in
      let low : d / 64 < 4 = omega (arith, one.0) in
      let word : bit_at (word_of_both (d / 64)) (d % 64) ≡ 1 = bit_at_and (slice_index a (d / 64)) (slice_index b (d / 64)) (d % 64) ∙ rw (one.1, other.1) refl in
      (d % 64, omega arith, shown (d / 64) (d % 64) low word)

  -- some device is in both sets where some bit is in both words
  pub words_meet : (result : Bool) → (IsTrue result → HasBit words_of_both) × (HasBit words_of_both → IsTrue result) → (IsTrue result → Meet (devices_of_bits a) (devices_of_bits b)) × (Meet (devices_of_bits a) (devices_of_bits b) → IsTrue result)
  words_meet result told = ((λ b. found (told.0 b)), (λ meet. told.1 (kept meet)))

-- a bit of a word is a bit of both words exactly where it is one of each
and_bit : (m n t : ℕ) → (bit_at (bit_and m n) t == 1) ≡ ((bit_at m t == 1) && (bit_at n t == 1))
and_bit m n t =
    let small = bit_at-lt m t in
    let little = bit_at-lt n t in
    ap (λ b. b == 1) (bit_at_and m n t) ∙ at (bit_at m t) (bit_at n t) small little
  where
    at : (x y : ℕ) → x < 2 → y < 2 → (min x y == 1) ≡ ((x == 1) && (y == 1))
    at x y small little = grind (arith, common_steps)

-- the words of both lists, word by word
abbrev pub both_words : List ℕ → List ℕ → List ℕ
both_words a b = word_of_both a b 0 ∷ word_of_both a b 1 ∷ word_of_both a b 2 ∷ word_of_both a b 3 ∷ []

-- they stand for the devices of both
pub words_both : (a b : List ℕ) (d : ℕ) → set.contains (devices_of_bits (both_words a b)) d ≡ (set.contains (devices_of_bits a) d && set.contains (devices_of_bits b) d)
words_both a b d = contains_bits (both_words a b) d ∙ at (nat_lt d 256) refl ∙ sym (ap₂ (λ x y. x && y) (contains_bits a d) (contains_bits b d))
  where
    word : (k : ℕ) → k < 4 → slice_index (both_words a b) k ≡ word_of_both a b k
    word zero low = refl
    word (suc zero) low = refl
    word (suc (suc zero)) low = refl
    word (suc (suc (suc zero))) low = refl
    word (suc (suc (suc (suc k)))) low = absurd (omega (arith, low))

    at : (i : Bool) → nat_lt d 256 ≡ i → (i && has_bit (both_words a b) d) ≡ ((i && has_bit a d) && (i && has_bit b d))
    at false e = refl
    at true e =
        let small : d < 256 = grind (arith, common_steps) in
        ap (λ w. bit_at w (d % 64) == 1) (word (d / 64) (omega (arith, small))) ∙ and_bit (slice_index a (d / 64)) (slice_index b (d / 64)) (d % 64)

-- a bit of a word is a bit of either word exactly where it is one of one of them
either_bit : (m n t : ℕ) → (bit_at (bit_or m n) t == 1) ≡ ((bit_at m t == 1) || (bit_at n t == 1))
either_bit m n t =
    let small = bit_at-lt m t in
    let little = bit_at-lt n t in
    ap (λ b. b == 1) (bit_at_or m n t) ∙ at (bit_at m t) (bit_at n t) small little
  where
    at : (x y : ℕ) → x < 2 → y < 2 → (max x y == 1) ≡ ((x == 1) || (y == 1))
    at zero zero small little = refl
    at zero (suc zero) small little = refl
    at (suc zero) zero small little = refl
    at (suc zero) (suc zero) small little = refl
    at (suc (suc x)) y small little = absurd (omega (arith, small))
    at zero (suc (suc y)) small little = absurd (omega (arith, little))
    at (suc zero) (suc (suc y)) small little = absurd (omega (arith, little))

-- the words of either list, word by word
abbrev pub word_of_either : List ℕ → List ℕ → ℕ → ℕ
word_of_either a b k = bit_or (slice_index a k) (slice_index b k)

abbrev pub either_words : List ℕ → List ℕ → List ℕ
either_words a b = word_of_either a b 0 ∷ word_of_either a b 1 ∷ word_of_either a b 2 ∷ word_of_either a b 3 ∷ []

-- they stand for the devices of one of them
pub words_either : (a b : List ℕ) (d : ℕ) → set.contains (devices_of_bits (either_words a b)) d ≡ (set.contains (devices_of_bits a) d || set.contains (devices_of_bits b) d)
words_either a b d = contains_bits (either_words a b) d ∙ at (nat_lt d 256) refl ∙ sym (ap₂ (λ x y. x || y) (contains_bits a d) (contains_bits b d))
  where
    word : (k : ℕ) → k < 4 → slice_index (either_words a b) k ≡ word_of_either a b k
    word zero low = refl
    word (suc zero) low = refl
    word (suc (suc zero)) low = refl
    word (suc (suc (suc zero))) low = refl
    word (suc (suc (suc (suc k)))) low = absurd (omega (arith, low))

    at : (i : Bool) → nat_lt d 256 ≡ i → (i && has_bit (either_words a b) d) ≡ ((i && has_bit a d) || (i && has_bit b d))
    at false e = refl
    at true e =
        let small : d < 256 = grind (arith, common_steps) in
        ap (λ w. bit_at w (d % 64) == 1) (word (d / 64) (omega (arith, small))) ∙ either_bit (slice_index a (d / 64)) (slice_index b (d / 64)) (d % 64)

-- a word has a bit exactly where it is not 0
pub has_some_bit : (word : ℕ) → word < 2 ^ 64 → (IsTrue (not (word == 0)) → HasBit word) × (HasBit word → IsTrue (not (word == 0)))
has_some_bit word small = (found, kept)
  where
    found : IsTrue (not (word == 0)) → HasBit word
    found some =
        let positive : 0 < word = grind (arith, common_steps) in
        let lowest = bit_at-trailing_zeros w64 word positive small in
        (trailing_zeros w64 word, lowest.0, lowest.1)

    not_zero : (n t : ℕ) → bit_at n t ≡ 1 → IsTrue (not (n == 0))
    not_zero zero t e = let none : bit_at 0 t ≡ 0 = bit_at-zero t in absurd (omega (arith, e, none))
    not_zero (suc n) t e = grind (arith, common_steps)

    kept : HasBit word → IsTrue (not (word == 0))
    kept (t, inside, e) = not_zero word t e

shifted : (word j i : ℕ) → bit_at (word / 2 ^ j) i ≡ bit_at word (j + i)
shifted word j i = ap (λ n. n % 2) (shr-shr word j i)

module _ (words : List ℕ) (start at word : ℕ) (there : word ≡ slice_index words (at / 64)) (low : at / 64 < 4) (reached : start ≤ at) (none : (q : ℕ) → start ≤ q → q < at → set.contains (devices_of_bits words) q ≡ false) where
  -- the bit of a device of the word at which the search stands
  rest_bit : (i : ℕ) → at % 64 + i < 64 → set.contains (devices_of_bits words) (at + i) ≡ (bit_at (word / 2 ^ (at % 64)) i == 1)
  rest_bit i inside =
      let place : (at + i) / 64 ≡ at / 64 = omega (arith, inside) in
      let bit : (at + i) % 64 ≡ at % 64 + i = omega (arith, inside) in
      contains_at words (at + i) (at / 64) (at % 64 + i) low place bit ∙ ap (λ x. x == 1) (ap (λ w. bit_at w (at % 64 + i)) (sym there) ∙ sym (shifted word (at % 64) i))

  -- the lowest bit of the rest of the word is the next device
  pub next_found : word < 2 ^ 64 → word / 2 ^ (at % 64) ≢ 0 → IsFirstFrom (λ d. set.contains (devices_of_bits words) d) start (Some (at + trailing_zeros w64 (word / 2 ^ (at % 64))))
  next_found small some =
      let below : word / 2 ^ (at % 64) < 2 ^ 64 = shr_small in
      let positive : 0 < word / 2 ^ (at % 64) = omega (arith, some) in
      let lowest = bit_at-trailing_zeros w64 (word / 2 ^ (at % 64)) positive below in
      found (trailing_zeros w64 (word / 2 ^ (at % 64))) lowest.1 lowest.2
    where
      shr_small : word / 2 ^ (at % 64) < 2 ^ 64
      shr_small = let le : word / 2 ^ (at % 64) ≤ word = shr_le word (at % 64) in omega (arith, small, le)

      found : (t : ℕ) → bit_at (word / 2 ^ (at % 64)) t ≡ 1 → ((i : ℕ) → i < t → bit_at (word / 2 ^ (at % 64)) i ≡ 0) → IsFirstFrom (λ d. set.contains (devices_of_bits words) d) start (Some (at + t))
      found t one zeros = (omega (arith, reached), rest_bit t inside ∙ ap (λ x. x == 1) one, before)
        where
          inside : at % 64 + t < 64
          inside = elim (nat_lt (at % 64 + t) 64) as (λ b. nat_lt (at % 64 + t) 64 ≡ b → at % 64 + t < 64) [
            | true ↦ (λ h. grind (arith, common_steps))
            | false ↦ (λ h. let past : 64 ≤ at % 64 + t = grind (arith, common_steps) in let gone : bit_at word (at % 64 + t) ≡ 0 = bit_at_above word 64 (at % 64 + t) small past in let here = sym (shifted word (at % 64) t) ∙ one in absurd (omega (arith, gone, here)))
          ] refl

          before : (q : ℕ) → start ≤ q → q < at + t → set.contains (devices_of_bits words) q ≡ false
          before q from_start short = elim (nat_lt q at) as (λ b. nat_lt q at ≡ b → set.contains (devices_of_bits words) q ≡ false) [
            | true ↦ (λ h. none q from_start (grind (arith, common_steps)))
            | false ↦ (λ h. let past : at ≤ q = grind (arith, common_steps) in
                let place : q ≡ at + (q - at) = omega (arith, past) in
                let early : q - at < t = omega (arith, past, short) in
                ap (set.contains (devices_of_bits words)) place ∙ rest_bit (q - at) (omega (arith, early, inside)) ∙ ap (λ x. x == 1) (zeros (q - at) early))
          ] refl

  -- none of the devices of the word is left
  pub next_passed : word / 2 ^ (at % 64) ≡ 0 → (start ≤ (at / 64 + 1) * 64) × ((q : ℕ) → start ≤ q → q < (at / 64 + 1) * 64 → set.contains (devices_of_bits words) q ≡ false)
  next_passed gone = (omega (arith, reached), before)
    where
      before : (q : ℕ) → start ≤ q → q < (at / 64 + 1) * 64 → set.contains (devices_of_bits words) q ≡ false
      before q from_start short = elim (nat_lt q at) as (λ b. nat_lt q at ≡ b → set.contains (devices_of_bits words) q ≡ false) [
        | true ↦ (λ h. none q from_start (grind (arith, common_steps)))
        | false ↦ (λ h. let past : at ≤ q = grind (arith, common_steps) in
            let place : q ≡ at + (q - at) = omega (arith, past) in
            let within : at % 64 + (q - at) < 64 = omega (arith, past, short) in
            ap (set.contains (devices_of_bits words)) place ∙ rest_bit (q - at) within ∙ rw (gone, bit_at-zero (q - at)) refl)
      ] refl

-- no device stands behind the four words
pub next_none : (words : List ℕ) (start at : ℕ) → 4 ≤ at / 64 → ((q : ℕ) → start ≤ q → q < at → set.contains (devices_of_bits words) q ≡ false) → (q : ℕ) → start ≤ q → set.contains (devices_of_bits words) q ≡ false
next_none words start at high none q from_start = elim (nat_lt q at) as (λ b. nat_lt q at ≡ b → set.contains (devices_of_bits words) q ≡ false) [
  | true ↦ (λ h. none q from_start (grind (arith, common_steps)))
  | false ↦ (λ h. let past : at ≤ q = grind (arith, common_steps) in let large : nat_lt q 256 ≡ false = grind (arith, common_steps) in contains_bits words q ∙ rw large refl)
] refl
