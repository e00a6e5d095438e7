-- What `parse` answers at the number of a trial.
use Rattle.command_words.proofs.Prelude.{Err, List, None, Ok, Result, Some, [], all_ascii_digits, ap, arith, false, if◌then◌else◌, is_decimal_digit, is_short_numeral, is_window_count, length, list_all, nat_le, not, refl, starts_with_no_zero, subst, suc, sym, trial_number, true, ℕ, ◌*◌, ◌+◌, ◌<◌, ◌==◌, ◌^◌, ◌∙◌, ◌∷◌, ◌≡◌, ◌≢◌, ◌≤◌}
use Rattle.std.proofs.lemmas.Bool.{and_from, and_parts, le-leb, leb-true}
use Rattle.std.proofs.lemmas.Str.Parse.{IsNumeralModel, digits_value_short, numerals_by_value, parse_gives, tells_all_ascii_digits}
use Rattle.std.proofs.lemmas.Str.{digit_value_digit}
use Rattle.std.specs.Char.{digit_value}
use Rattle.std.specs.Str.Parse.{ParsesUnsigned, digits_value, digits_value_after}

same_digits : (word : List ℕ) → list_all is_decimal_digit word ≡ all_ascii_digits word
same_digits [] = refl
same_digits (b ∷ bs) = rw (same_digits bs) refl

-- the digits of a text of decimal digits
abbrev Digits : List ℕ → Type 0
Digits word = all_ascii_digits word ≡ true

digits : IsNumeralModel Digits (digits_value 10)
digits = numerals_by_value Digits tells_all_ascii_digits

value_grows : (n : ℕ) (bs : List ℕ) → n ≤ digits_value_after 10 n bs
value_grows n [] = omega arith
value_grows n (b ∷ bs) = omega (arith, value_grows (n * 10 + digit_value b) bs)

no_zero : (b : ℕ) → not (b == 48) ≡ true → b ≢ 48
no_zero b is same = let bad : false ≡ true = subst (λ x. not (x == 48) ≡ true) same is in absurd (grind (arith, bad))

-- what a numeral is
record Numeral (word : List ℕ) : Type 0 where
  all : Digits word
  some : 0 < length word
  short : length word ≤ 3
  positive : 1 ≤ digits_value 10 word

numeral : (word : List ℕ) → is_short_numeral word ≡ true → Numeral word
numeral [] is = absurd (grind (arith, is))
numeral (b ∷ bs) is =
    let first = and_parts (starts_with_no_zero (b ∷ bs)) _ is in
    let rest = and_parts (nat_le (length (b ∷ bs)) 3) (list_all is_decimal_digit (b ∷ bs)) first.1 in
    let head = and_parts (is_decimal_digit b) (list_all is_decimal_digit bs) rest.1 in
    let range = and_parts (nat_le 48 b) (nat_le b 57) head.0 in
    let low : 48 ≤ b = leb-true 48 b range.0 in
    let high : b ≤ 57 = leb-true b 57 range.1 in
    let value : digit_value b + 48 ≡ b = digit_value_digit b (low, high) in
    record {
      all = sym (same_digits (b ∷ bs)) ∙ rest.1;
      some = omega arith;
      short = leb-true (length (b ∷ bs)) 3 rest.0;
      positive = omega (arith, value_grows (0 * 10 + digit_value b) bs, no_zero b first.0);
    }

module _ {E : Type 0} where
  abbrev value_or : ℕ → Result ℕ E → ℕ
  value_or d (Ok n) = n
  value_or d (Err e) = d

  ok_same : (m n : ℕ) (r : Result ℕ E) → r ≡ Ok m → r ≡ Ok n → m ≡ n
  ok_same m n r one two = sym (ap (value_or m) one) ∙ ap (value_or m) two

  ok_is_no_error : (n : ℕ) (e : E) (r : Result ℕ E) → r ≡ Ok n → r ≡ Err e → ⊥
  ok_is_no_error n e r ok err = let same : n ≡ suc n = sym (ap (value_or (suc n)) ok) ∙ ap (value_or (suc n)) err in omega (arith, same)

counted : (word : List ℕ) → is_short_numeral word ≡ true → digits_value 10 word ≤ 288 → trial_number word ≡ Some (digits_value 10 word)
counted word is most =
    let n = digits_value 10 word in
    let within : is_window_count n ≡ true = and_from (nat_le 1 n) (nat_le n 288) (le-leb 1 n (numeral word is).positive) (le-leb n 288 most) in
    ap (λ t. if t then Some n else None) (and_from (is_short_numeral word) (is_window_count n) is within)

module _ {E : Type 0} (word : List ℕ) (r : Result ℕ E) (is : is_short_numeral word ≡ true) (parsed : ParsesUnsigned 32 10 word r) where
  parsed_value : r ≡ Ok (digits_value 10 word)
  parsed_value =
      let shape = numeral word is in
      let small : digits_value 10 word < 10 ^ 3 = digits_value_short digits word 3 shape.all shape.short in
      parse_gives digits 32 word r parsed shape.all shape.some (omega (arith, small))

  -- a numeral of at most 288 is the number of a trial
  pub number_taken : (n : ℕ) → r ≡ Ok n → n ≤ 288 → Some n ≡ trial_number word
  number_taken n ok most =
      let same : n ≡ digits_value 10 word = ok_same n (digits_value 10 word) r ok parsed_value in
      ap Some same ∙ sym (counted word is (omega (arith, same, most)))

  -- a numeral is always read
  pub number_refused : (e : E) → r ≡ Err e → None ≡ trial_number word
  number_refused e err = absurd (ok_is_no_error (digits_value 10 word) e r parsed_value err)
