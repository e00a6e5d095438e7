-- Times as they are printed, and the first line of a window.
use Rattle.day_clock.specs.Times.{IsCivilTime}
use Rattle.day_clock.specs.declared.times.When.{When}
use Rattle.day_report.specs.Lines as printed
use Rattle.printed_records.proofs.Prelude.{Bool, List, Some, [], ap, append_assoc, ap₂, are_window_words, arith, bytes_eq, codes, common_steps, decimal, decimal_digit, decimal_step, digit, false, if◌then◌else◌, inl, inr, is_window_line, le-ltb, lines_of, nat_lt, refl, subst, sym, true, window_line, zero_below, ℕ, ◌%◌, ◌&&◌, ◌++◌, ◌+◌, ◌/◌, ◌<◌, ◌^◌, ◌∙◌, ◌∷◌, ◌≡◌, ◌≤◌, ◌⊎◌}
use Rattle.order_checker.specs.Heads as checked
use Rattle.printed_records.proofs.Firsts.{bytes_eq-self}
use Rattle.printed_records.proofs.LineTexts.{line_with, lines-words, spaced, words-line}
use Rattle.printed_records.proofs.Numerals.{decimal-word, is_number-decimal}
use Rattle.printed_records.proofs.Plain.{AreWords, IsPlain, IsWord, is_plain, plain-append, word-plain, word-seen}
use Rattle.std.proofs.lemmas.Bool.{lt-ltb}

no-zero : (power n : ℕ) → power ≤ n → zero_below power n ≡ []
no-zero power n above = ap (λ b. if b then codes "0" else []) (le-ltb n power above)

one-zero : (power n : ℕ) → n < power → zero_below power n ≡ 48 ∷ []
one-zero power n below = ap (λ b. if b then codes "0" else []) (lt-ltb n power below)

-- a number from 10 to 99 has these two digits
two-decimal : (n : ℕ) → 10 ≤ n → n < 100 → decimal n ≡ digit (n / 10) ∷ digit (n % 10) ∷ []
two-decimal n above below =
    decimal_step n (omega arith) (omega arith) ∙ ap (λ ds. ds ++ digit (n % 10) ∷ []) (decimal_digit (n / 10) (omega arith))

split : (n m : ℕ) → (n < m) ⊎ (m ≤ n)
split n m = which (nat_lt n m) refl
  where
    which : (b : Bool) → nat_lt n m ≡ b → (n < m) ⊎ (m ≤ n)
    which true is = inl (grind (arith, common_steps))
    which false is = inr (grind (arith, common_steps))

-- two digits are printed as they are checked
two-same : (n : ℕ) → n < 100 → printed.two_digits n ≡ checked.digit_pair n
unfolding printed.two_digits
two-same n below = by (split n 10)
  where
    by : (n < 10) ⊎ (10 ≤ n) → printed.two_digits n ≡ checked.digit_pair n
    by (inl one) =
        let tens : n / 10 ≡ 0 = omega arith in
        let ones : n % 10 ≡ n = omega arith in
        ap₂ (λ a b. a ++ b) (one-zero 10 n one) (decimal_digit n one) ∙ ap₂ (λ a b. digit a ∷ digit b ∷ []) (sym tens) (sym ones)
    by (inr two) = ap₂ (λ a b. a ++ b) (no-zero 10 n two) (two-decimal n two below)

abbrev four : ℕ → List ℕ
four n = checked.digit_pair (n / 100) ++ checked.digit_pair (n % 100)

-- and so are four
four-same : (n : ℕ) → n < 10000 → printed.four_digits n ≡ four n
unfolding printed.four_digits printed.two_digits
four-same n below = by (split n 100)
  where
    last : (100 ≤ n) → decimal n ≡ decimal (n / 100) ++ checked.digit_pair (n % 100)
    last above =
        let tens : n / 10 / 10 ≡ n / 100 = omega arith in
        let a : n / 10 % 10 ≡ n % 100 / 10 = omega arith in
        let b : n % 10 ≡ n % 100 % 10 = omega arith in
        decimal_step n (omega arith) (omega arith)
        ∙ ap (λ ds. ds ++ digit (n % 10) ∷ []) (decimal_step (n / 10) (omega arith) (omega arith))
        ∙ append_assoc (decimal (n / 10 / 10)) (digit (n / 10 % 10) ∷ []) (digit (n % 10) ∷ [])
        ∙ ap (λ k. decimal k ++ digit (n / 10 % 10) ∷ digit (n % 10) ∷ []) tens
        ∙ ap₂ (λ x y. decimal (n / 100) ++ digit x ∷ digit y ∷ []) a b

    two : (n < 100) → printed.four_digits n ≡ four n
    two small =
        let hundreds : n / 100 ≡ 0 = omega arith in
        let rest : n % 100 ≡ n = omega arith in
        ap₂ (λ a b. a ++ b ++ printed.two_digits n) (one-zero 1000 n (omega arith)) (one-zero 100 n small)
        ∙ ap (λ ds. 48 ∷ 48 ∷ ds) (two-same n small)
        ∙ ap₂ (λ a b. checked.digit_pair a ++ checked.digit_pair b) (sym hundreds) (sym rest)

    three : (100 ≤ n) → (n < 1000) → printed.four_digits n ≡ four n
    three above small =
        let tens : n / 100 / 10 ≡ 0 = omega arith in
        let ones : n / 100 % 10 ≡ n / 100 = omega arith in
        ap₂ (λ a b. a ++ b ++ printed.two_digits n) (one-zero 1000 n small) (no-zero 100 n above)
        ∙ ap₂ (λ a b. 48 ∷ (a ++ b)) (no-zero 10 n (omega arith)) (last above ∙ ap (λ ds. ds ++ checked.digit_pair (n % 100)) (decimal_digit (n / 100) (omega arith)))
        ∙ ap₂ (λ a b. digit a ∷ digit b ∷ checked.digit_pair (n % 100)) (sym tens) (sym ones)

    more : (1000 ≤ n) → printed.four_digits n ≡ four n
    more above =
        ap₂ (λ a b. a ++ b ++ printed.two_digits n) (no-zero 1000 n above) (no-zero 100 n (omega arith))
        ∙ ap₂ (λ a b. a ++ b) (no-zero 10 n (omega arith)) (last (omega arith) ∙ ap (λ ds. ds ++ checked.digit_pair (n % 100)) (two-decimal (n / 100) (omega arith) (omega arith)))

    by_hundreds : (100 ≤ n) → (n < 1000) ⊎ (1000 ≤ n) → printed.four_digits n ≡ four n
    by_hundreds above (inl small) = three above small
    by_hundreds above (inr great) = more great

    by : (n < 100) ⊎ (100 ≤ n) → printed.four_digits n ≡ four n
    by (inl small) = two small
    by (inr above) = by_hundreds above (split n 1000)

-- a time is printed as it is checked
pub time-same : (at : When) → IsCivilTime at → printed.time_text at ≡ checked.written_time at
unfolding printed.time_text
time-same at civil =
    ap₂ (λ a b. a ++ codes ":" ++ b)
    (ap₂ (λ a b. a ++ codes ":" ++ b)
    (ap₂ (λ a b. a ++ codes "T" ++ b)
    (ap₂ (λ a b. a ++ codes "-" ++ b)
    (ap₂ (λ a b. a ++ codes "-" ++ b) (four-same at.year (omega (arith, civil.year))) (two-same at.month (omega (arith, civil.month.1))))
    (two-same at.day (omega (arith, civil.day.1))))
    (two-same at.hour (omega (arith, civil.hour))))
    (two-same at.minute (omega (arith, civil.minute))))
    (two-same at.second (omega (arith, civil.second)))

digit-plain : (d : ℕ) → d < 10 → is_plain (digit d) ≡ true
digit-plain d small = grind (arith, common_steps)

two-plain : (n : ℕ) → n < 100 → IsPlain (checked.digit_pair n)
two-plain n small =
    ap₂ (λ a b. a && (b && true)) (digit-plain (n / 10) (omega arith)) (digit-plain (n % 10) (omega arith))

pub time-plain : (at : When) → IsCivilTime at → IsPlain (checked.written_time at)
time-plain at civil =
    let year : IsPlain (four at.year) =
    plain-append (checked.digit_pair (at.year / 100)) (checked.digit_pair (at.year % 100)) (two-plain (at.year / 100) (omega (arith, civil.year))) (two-plain (at.year % 100) (omega arith)) in
    let month = plain-append (four at.year ++ codes "-") (checked.digit_pair at.month) (plain-append (four at.year) (codes "-") year refl) (two-plain at.month (omega (arith, civil.month.1))) in
    let day = plain-append (four at.year ++ codes "-" ++ checked.digit_pair at.month ++ codes "-") (checked.digit_pair at.day) (plain-append (four at.year ++ codes "-" ++ checked.digit_pair at.month) (codes "-") month refl) (two-plain at.day (omega (arith, civil.day.1))) in
    let date = four at.year ++ codes "-" ++ checked.digit_pair at.month ++ codes "-" ++ checked.digit_pair at.day in
    let hour = plain-append (date ++ codes "T") (checked.digit_pair at.hour) (plain-append date (codes "T") day refl) (two-plain at.hour (omega (arith, civil.hour))) in
    let minute = plain-append (date ++ codes "T" ++ checked.digit_pair at.hour ++ codes ":") (checked.digit_pair at.minute) (plain-append (date ++ codes "T" ++ checked.digit_pair at.hour) (codes ":") hour refl) (two-plain at.minute (omega (arith, civil.minute))) in
    plain-append (date ++ codes "T" ++ checked.digit_pair at.hour ++ codes ":" ++ checked.digit_pair at.minute ++ codes ":") (checked.digit_pair at.second)
    (plain-append (date ++ codes "T" ++ checked.digit_pair at.hour ++ codes ":" ++ checked.digit_pair at.minute) (codes ":") minute refl) (two-plain at.second (omega (arith, civil.second)))

-- the first line of a window, in front of the others, is one of the window of this number and time
pub record IsWindowLine (k : ℕ) (at : When) (line : List ℕ) : Type 0 where
  pub lines : (rest : List ℕ) → lines_of (window_line k at ++ rest) ≡ Some line ∷ lines_of rest
  pub is : is_window_line (k + 1) at (Some line) ≡ true

window-spaced : (k : ℕ) (at : When) → window_line k at ≡ codes "window" ++ spaced (decimal (k + 1) ∷ printed.time_text at ∷ []) (10 ∷ [])
unfolding window_line
window-spaced k at = simp append_assoc

pub window-line : (k : ℕ) (at : When) → IsCivilTime at → k + 1 < 2 ^ 64 → (line : List ℕ) × IsWindowLine k at line
window-line k at civil small =
    let words = decimal (k + 1) ∷ printed.time_text at ∷ [] in
    let first : IsWord (codes "window") = word-seen (codes "window") refl refl in
    let time : IsWord (printed.time_text at) = subst IsWord (sym (time-same at civil)) (word-plain (checked.written_time at) (time-plain at civil)) in
    let are : AreWords words = (decimal-word (k + 1) small, (time, tt)) in
    let same : bytes_eq (printed.time_text at) (checked.written_time at) ≡ true =
    ap (λ t. bytes_eq t (checked.written_time at)) (time-same at civil) ∙ bytes_eq-self (checked.written_time at) in (
      line_with (codes "window") words,
      record {
        lines = λ rest. ap (λ t. lines_of (t ++ rest)) (window-spaced k at) ∙ lines-words (codes "window") words rest first are refl;
        is = ap (are_window_words (k + 1) at) (words-line (codes "window") words first are)
            ∙ ap₂ (λ a b. a && b) (is_number-decimal (k + 1) small) same;
      },
    )
