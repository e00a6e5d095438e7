-- Numbers as they are printed, read again.
use Rattle.printed_records.proofs.Prelude.{List, Some, [], ap, arith, common_steps, decimal, decimal_digit, decimal_nonempty, digits_decimal, digits_value, digits_value-decimal, false, first_decimal, is_ascii_digit, is_number, is_numeral, length, list_all, nat_lt, not, number_of, option_map_or, own, refl, slice_index, suc, true, zero, ℕ, ◌<◌, ◌==◌, ◌^◌, ◌||◌, ◌∙◌, ◌∷◌, ◌≡◌}
use Rattle.printed_records.proofs.Plain.{IsPlain, IsWord, word-plain}

pub decimal-digits : (n : ℕ) → n < 2 ^ 64 → list_all is_ascii_digit (decimal n) ≡ true
decimal-digits n small = digits_decimal own n small

-- the number 0 is written by the one digit 0
decimal-first : (n : ℕ) → n < 2 ^ 64 → (length (decimal n) == 1 || not (slice_index (decimal n) 0 == 48)) ≡ true
decimal-first zero small = ap (λ ds. length ds == 1 || not (slice_index ds 0 == 48)) (decimal_digit 0 (omega arith))
decimal-first (suc n) small = let above : 48 < slice_index (decimal (suc n)) 0 = first_decimal (suc n) (omega arith) small in grind (arith, common_steps)

decimal-numeral : (n : ℕ) → n < 2 ^ 64 → is_numeral (decimal n) ≡ true
decimal-numeral n small =
    let digits = decimal-digits n small in
    let first = decimal-first n small in
    let some = decimal_nonempty n small in
    grind (arith, common_steps)

-- a printed number is read as itself
pub number-decimal : (n : ℕ) → n < 2 ^ 64 → number_of (decimal n) ≡ Some n
unfolding number_of
number-decimal n small =
    let value : digits_value 10 (decimal n) ≡ n = digits_value-decimal own n small in
    let within : nat_lt (digits_value 10 (decimal n)) (2 ^ 64) ≡ true = grind (arith, common_steps) in
    rw (decimal-numeral n small) (rw within (ap Some value))

pub is_number-decimal : (n : ℕ) → n < 2 ^ 64 → is_number n (decimal n) ≡ true
is_number-decimal n small = ap (λ read. option_map_or (λ m. m == n) read false) (number-decimal n small) ∙ same
  where
    same : (n == n) ≡ true
    same = grind (arith, common_steps)

digits-plain : (text : List ℕ) → list_all is_ascii_digit text ≡ true → IsPlain text
digits-plain [] digits = refl
digits-plain (b ∷ text) digits = let rest = digits-plain text (grind (arith, common_steps)) in grind (arith, common_steps)

pub decimal-plain : (n : ℕ) → n < 2 ^ 64 → IsPlain (decimal n)
decimal-plain n small = digits-plain (decimal n) (decimal-digits n small)

pub decimal-word : (n : ℕ) → n < 2 ^ 64 → IsWord (decimal n)
decimal-word n small = word-plain (decimal n) (decimal-plain n small)
