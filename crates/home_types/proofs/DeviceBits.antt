-- What the bits of a set of devices say.
use Rattle.home_types.specs.DeviceSets.{Devices, devices_of_bits, has_bit}
use Rattle.std.proofs.Common.{ap, arith, cond, nat_eq, refl, sym, ◌∙◌}
use Rattle.std.proofs.lemmas.Cmp.{nat_cmp_total}
use Rattle.std.proofs.lemmas.Grind.{common_steps}
use Rattle.std.proofs.lemmas.List.{get_or-set_other, get_or-set_same}
use Rattle.std.proofs.lemmas.Nat.Bits.{bit_at-pow_other, bit_at-pow_same, bit_at-zero, bit_at_clear_other, bit_at_clear_same, bit_at_or, shr_and_one}
use Rattle.std.specs.FinSet as set
use Rattle.std.specs.Int.{bit_at, bit_not, w64}
use Rattle.std.specs.List.{list_any, range_with_len}
use Rattle.std.specs.Ordering.{eq_by_cmp, is_eq, nat_cmp}
use Rattle.std.specs.declared.cmp.Ordering.TheVariants.{Equal, Greater, Less}
use Rattle.std.specs.Prelude.{Bool, List, [], bit_and, bit_or, false, filter, get_or, length, nat_le, nat_lt, not, replicate, slice_index, slice_set, suc, true, zero, ℕ, ◌%◌, ◌&&◌, ◌*◌, ◌+◌, ◌/◌, ◌<◌, ◌==◌, ◌^◌, ◌||◌, ◌∷◌, ◌≡◌, ◌≢◌}

-- the order of numbers ties only a number with itself
tied : (x y : ℕ) → eq_by_cmp nat_cmp x y ≡ (x == y)
tied x y = by_cases (nat_lt x y) (x == y) refl refl
  where
    by_cases : (a b : Bool) → nat_lt x y ≡ a → (x == y) ≡ b → is_eq (cond a Less (cond b Equal Greater)) ≡ b
    by_cases true true p q = absurd (grind (arith, common_steps))
    by_cases true false p q = refl
    by_cases false true p q = refl
    by_cases false false p q = refl

pub contains_insert : (s : Devices) (d q : ℕ) → set.contains (set.insert s d) q ≡ ((q == d) || set.contains s q)
contains_insert s d q = set.contains-insert nat_cmp_total s d q ∙ ap (λ b. b || set.contains s q) (tied q d)

-- a number is among those of a range that pass a test
among_range : (p : ℕ → Bool) (q a n : ℕ) → list_any (λ k. nat_eq k q) (filter p (range_with_len a n)) ≡ ((nat_le a q && nat_lt q (a + n)) && p q)
among_range p q a zero = grind (arith, common_steps)
among_range p q a (suc n) = elim (p a) as (λ b. p a ≡ b → list_any (λ k. nat_eq k q) (cond b (a ∷ filter p (range_with_len (a + 1) n)) (filter p (range_with_len (a + 1) n))) ≡ ((nat_le a q && nat_lt q (a + suc n)) && p q)) [
  | true ↦ (λ e. rw (among_range p q (a + 1) n) (grind (arith, common_steps)))
  | false ↦ (λ e. rw (among_range p q (a + 1) n) (grind (arith, common_steps)))
] refl

below : (p : ℕ → Bool) (q n : ℕ) → set.contains (set.from_list {R = nat_cmp} (filter p (range_with_len 0 n))) q ≡ (nat_lt q n && p q)
below p q n = set.contains-from_list_nat (filter p (range_with_len 0 n)) q ∙ among_range p q 0 n ∙ grind (arith, common_steps)

-- the set that the words stand for has the devices below 256 whose bit is set
pub contains_bits : (words : List ℕ) (d : ℕ) → set.contains (devices_of_bits words) d ≡ (nat_lt d 256 && has_bit words d)
unfolding devices_of_bits
contains_bits words d = below (has_bit words) d 256

-- words of zeros stand for no devices
no_bit : (n d : ℕ) → has_bit (replicate n 0) d ≡ false
no_bit n d = rw (zeros n (d / 64)) (rw (bit_at-zero (d % 64)) refl)
  where
    zeros : (n i : ℕ) → slice_index (replicate n 0) i ≡ 0
    zeros zero i = refl
    zeros (suc n) zero = refl
    zeros (suc n) (suc i) = zeros n i

pub no_devices : (n : ℕ) → devices_of_bits (replicate n 0) ≡ set.empty
no_devices n = set.same_set nat_cmp_total set.nat_cmp-IsAntisymmetric _ _ (λ q. contains_bits (replicate n 0) q ∙ rw (no_bit n q) (grind (arith, common_steps)) ∙ sym (set.contains-empty nat_cmp q))

-- a bit more is a device more

pub or_bit : (w k i : ℕ) → (bit_at (bit_or w (2 ^ k)) i == 1) ≡ ((i == k) || (bit_at w i == 1))
or_bit w k i = elim (i == k) as (λ b. (i == k) ≡ b → (bit_at (bit_or w (2 ^ k)) i == 1) ≡ (b || (bit_at w i == 1))) [
  | true ↦ (λ e. let same : i ≡ k = grind (arith, common_steps) in rw (same, bit_at_or w (2 ^ k) k, bit_at-pow_same k) (grind (arith, common_steps)))
  | false ↦ (λ e. let other : i ≢ k = grind (arith, common_steps) in rw (bit_at_or w (2 ^ k) i, bit_at-pow_other k i other) (grind (arith, common_steps)))
] refl

same_word : (q d : ℕ) → q / 64 ≡ d / 64 → ((q % 64) == (d % 64)) ≡ (q == d)
same_word q d e = grind (arith, common_steps)

with_bit : (words : List ℕ) (d q : ℕ) → d / 64 < length words → has_bit (slice_set words (d / 64) (bit_or (slice_index words (d / 64)) (2 ^ (d % 64)))) q ≡ ((q == d) || has_bit words q)
with_bit words d q within = elim ((q / 64) == (d / 64)) as (λ b. ((q / 64) == (d / 64)) ≡ b → has_bit (slice_set words (d / 64) (bit_or (slice_index words (d / 64)) (2 ^ (d % 64)))) q ≡ ((q == d) || has_bit words q)) [
  | true ↦ (λ e. let same : q / 64 ≡ d / 64 = grind (arith, common_steps) in rw (same, get_or-set_same words (d / 64) (bit_or (slice_index words (d / 64)) (2 ^ (d % 64))) 0 within, or_bit (slice_index words (d / 64)) (d % 64) (q % 64), same_word q d same) refl)
  | false ↦ (λ e. let other : q / 64 ≢ d / 64 = grind (arith, common_steps) in let apart : (q == d) ≡ false = grind (arith, common_steps) in rw (get_or-set_other words (d / 64) (q / 64) (bit_or (slice_index words (d / 64)) (2 ^ (d % 64))) 0 other, apart) refl)
] refl

pub with_device : (words : List ℕ) (d : ℕ) → d < 256 → length words ≡ 4 → devices_of_bits (slice_set words (d / 64) (bit_or (slice_index words (d / 64)) (2 ^ (d % 64)))) ≡ set.insert (devices_of_bits words) d
with_device words d small four =
    let within : d / 64 < length words = rw four (omega (arith, small)) in
    set.same_set nat_cmp_total set.nat_cmp-IsAntisymmetric _ _ (λ q.
    contains_bits _ q ∙ rw (with_bit words d q within, contains_insert (devices_of_bits words) d q, contains_bits words q) (grind (arith, common_steps)))

-- a bit less is a device less

pub contains_remove : (s : Devices) (d q : ℕ) → set.contains (set.remove s d) q ≡ (not (q == d) && set.contains s q)
contains_remove s d q = set.contains-remove nat_cmp_total s d q ∙ ap (λ b. not b && set.contains s q) (tied q d)

-- the word without its bit k
abbrev pub cleared : ℕ → ℕ → ℕ
cleared w k = bit_and w (bit_not w64 (1 * 2 ^ k % 2 ^ 64))

clear_bit : (w k i : ℕ) → k < 64 → i < 64 → (bit_at (cleared w k) i == 1) ≡ (not (i == k) && (bit_at w i == 1))
clear_bit w k i low within = elim (i == k) as (λ b. (i == k) ≡ b → (bit_at (cleared w k) i == 1) ≡ (not b && (bit_at w i == 1))) [
  | true ↦ (λ e. let same : i ≡ k = grind (arith, common_steps) in rw (same, bit_at_clear_same w64 w k low) refl)
  | false ↦ (λ e. let other : i ≢ k = grind (arith, common_steps) in rw (bit_at_clear_other w64 w k low i within other) refl)
] refl

without_bit : (words : List ℕ) (d q : ℕ) → d / 64 < length words → has_bit (slice_set words (d / 64) (cleared (slice_index words (d / 64)) (d % 64))) q ≡ (not (q == d) && has_bit words q)
without_bit words d q within = elim ((q / 64) == (d / 64)) as (λ b. ((q / 64) == (d / 64)) ≡ b → has_bit (slice_set words (d / 64) (cleared (slice_index words (d / 64)) (d % 64))) q ≡ (not (q == d) && has_bit words q)) [
  | true ↦ (λ e. let same : q / 64 ≡ d / 64 = grind (arith, common_steps) in rw (same, get_or-set_same words (d / 64) (cleared (slice_index words (d / 64)) (d % 64)) 0 within, clear_bit (slice_index words (d / 64)) (d % 64) (q % 64) (omega arith) (omega arith), same_word q d same) refl)
  | false ↦ (λ e. let other : q / 64 ≢ d / 64 = grind (arith, common_steps) in let apart : (q == d) ≡ false = grind (arith, common_steps) in rw (get_or-set_other words (d / 64) (q / 64) (cleared (slice_index words (d / 64)) (d % 64)) 0 other, apart) refl)
] refl

pub without_device : (words : List ℕ) (d : ℕ) → d < 256 → length words ≡ 4 → devices_of_bits (slice_set words (d / 64) (cleared (slice_index words (d / 64)) (d % 64))) ≡ set.remove (devices_of_bits words) d
without_device words d small four =
    let within : d / 64 < length words = rw four (omega (arith, small)) in
    set.same_set nat_cmp_total set.nat_cmp-IsAntisymmetric _ _ (λ q.
    contains_bits _ q ∙ rw (without_bit words d q within, contains_remove (devices_of_bits words) d q, contains_bits words q) (grind (arith, common_steps)))

-- the test of a bit
pub test_bit : (word k : ℕ) → (bit_and (word / 2 ^ k) 1 == 1) ≡ (bit_at word k == 1)
test_bit word k = ap (λ b. b == 1) (shr_and_one word k)

-- the set of one device
pub contains_one : (d q : ℕ) → (d == q) ≡ set.contains (set.insert (set.empty {R = nat_cmp}) d) q
contains_one d q = sym (contains_insert set.empty d q ∙ rw (set.contains-empty nat_cmp q) (grind (arith, common_steps)))

-- a device is below 256 exactly where its word is one of the four
pub in_words : (d n : ℕ) → n ≡ 4 → nat_lt d 256 ≡ nat_lt (d / 64) n
in_words d n four = rw four (grind (arith, common_steps))

-- a word that is there, read with any default
pub word_at : (words : List ℕ) (k w : ℕ) → true ≡ nat_lt k (length words) → get_or words k w ≡ slice_index words k
word_at [] k w within = absurd (grind (arith, common_steps))
word_at (x ∷ xs) zero w within = refl
word_at (x ∷ xs) (suc k) w within = word_at xs k w (grind (arith, common_steps))
