-- What `parse` reads in a word of digits.
use Rattle.order_checker.proofs.Prelude.{Err, List, None, Ok, Some, [], ap, arith, common_steps, false, is_numeral, length, list_all, nat_lt, number_of, refl, rules, sym, true, ℕ, ◌<◌, ◌^◌, ◌∷◌, ◌≡◌}
use Rattle.std.proofs.lemmas.Str.Ascii.{IsAscii-cons, IsAscii-nil}
use Rattle.std.proofs.lemmas.Str.Parse.{IsDigitsTest, IsNumeralModel, numerals_by_value, parse_digits}
use Rattle.std.proofs.lemmas.Str.{IsUtf8-from_ascii}
use Rattle.std.specs.Char.{is_ascii_digit}
use Rattle.std.specs.Str.Parse.{ParsesUnsigned, digits_value}
use Rattle.std.specs.Str.{IsAscii, IsUtf8}

tells : IsDigitsTest (λ ds. list_all is_ascii_digit ds ≡ true)
tells = search rules

pub own : IsNumeralModel (λ ds. list_all is_ascii_digit ds ≡ true) (digits_value 10)
own = numerals_by_value _ tells

digits-ascii : (ds : List ℕ) → list_all is_ascii_digit ds ≡ true → IsAscii ds
digits-ascii [] all = IsAscii-nil
digits-ascii (d ∷ ds) all = IsAscii-cons d ds (grind (arith, common_steps)) (digits-ascii ds (grind (arith, common_steps)))

pub numeral-utf8 : (word : List ℕ) → is_numeral word ≡ true → IsUtf8 word
numeral-utf8 word numeral = IsUtf8-from_ascii word (digits-ascii word (grind (arith, common_steps)))

-- a number that is read; what the error is has no part in it
pub number-read : (word : List ℕ) (n : ℕ) → is_numeral word ≡ true → ParsesUnsigned {E = ℕ} 64 10 word (Ok n) → number_of word ≡ Some n
unfolding number_of
number-read word n numeral parsed =
    let read = parse_digits own {E = ℕ} 64 word (Ok n) parsed (grind (arith, common_steps)) in
    let small : nat_lt (digits_value 10 word) (2 ^ 64) ≡ true = grind (arith, common_steps, read) in
    rw numeral (rw small (ap Some (sym read.1)))

pub number-refused : (word : List ℕ) → is_numeral word ≡ true → ParsesUnsigned {E = ℕ} 64 10 word (Err 0) → number_of word ≡ None
unfolding number_of
number-refused word numeral parsed =
    let read = parse_digits own {E = ℕ} 64 word (Err 0) parsed (grind (arith, common_steps)) in
    let some : 0 < length word = grind (arith, common_steps) in
    let great : nat_lt (digits_value 10 word) (2 ^ 64) ≡ false = grind (arith, common_steps, read) in
    rw numeral (rw great refl)
