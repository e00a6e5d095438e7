-- Names with numbers: they are names, and all different.
use Rattle.trial_scripts.proofs.Prelude.{AreDifferent, Bool, EachAfter, List, ap, arith, common_steps, each-more, each-none, false, map, map-range_with_len_more, range_with_len, refl, subst, suc, sym, true, two_digit_text, zero, ℕ, ◌%◌, ◌+◌, ◌/◌, ◌<◌, ◌||◌, ◌∙◌, ◌∷◌, ◌≡◌, ◌≤◌}
use Rattle.routine_reader.specs.Names.{is_among, is_letter, is_name, is_name_byte}
use Rattle.std.proofs.lemmas.Slice.Eq.{bytes_eq-Decides}
use Rattle.std.specs.Str.{bytes_eq}

digit_is : (d : ℕ) → d < 10 → is_name_byte (48 + d) ≡ true
digit_is d below = grind (arith, common_steps)

tens_below : (n : ℕ) → n < 100 → n / 10 < 10
tens_below n below = omega (arith, below)

ones_below : (n : ℕ) → n % 10 < 10
ones_below n = omega arith

-- a letter and two digits are a name
pub name_is : (letter n : ℕ) → is_letter letter ≡ true → n < 100 → is_name (letter ∷ two_digit_text n) ≡ true
name_is letter n is below =
    let tens = digit_is (n / 10) (tens_below n below) in
    let ones = digit_is (n % 10) (ones_below n) in
    grind (arith, common_steps, is, tens, ones)

same_number : (letter m n : ℕ) → letter ∷ two_digit_text m ≡ letter ∷ two_digit_text n → m ≡ n
same_number letter m n same =
    let tens : 48 + m / 10 ≡ 48 + n / 10 = cc in
    let ones : 48 + m % 10 ≡ 48 + n % 10 = cc in
    omega (arith, tens, ones)

names_differ : (letter m n : ℕ) → n < m → bytes_eq (letter ∷ two_digit_text m) (letter ∷ two_digit_text n) ≡ false
names_differ letter m n below = by_test (bytes_eq (letter ∷ two_digit_text m) (letter ∷ two_digit_text n)) refl
  where
    by_test : (b : Bool) → bytes_eq (letter ∷ two_digit_text m) (letter ∷ two_digit_text n) ≡ b → b ≡ false
    by_test false is = refl
    by_test true is =
        let same = same_number letter m n ((bytes_eq-Decides (letter ∷ two_digit_text m) (letter ∷ two_digit_text n)).0 is) in
        absurd (omega (arith, same, below))

-- none of the names from a number on is that of a later one
none_of_them : (letter m n count : ℕ) → n + count ≤ m → is_among (map (λ k. letter ∷ two_digit_text k) (range_with_len n count)) (letter ∷ two_digit_text m) ≡ false
none_of_them letter m n zero below = refl
none_of_them letter m n (suc count) below =
    let first = names_differ letter m n (omega (arith, below)) in
    let rest = none_of_them letter m (n + 1) count (omega (arith, below)) in
    ap (λ b. b || is_among (map (λ k. letter ∷ two_digit_text k) (range_with_len (n + 1) count)) (letter ∷ two_digit_text m)) first ∙ rest

-- numbered names are different
pub are_different : (letter count : ℕ) → AreDifferent (map (λ k. letter ∷ two_digit_text k) (range_with_len 0 count))
are_different letter zero = each-none (λ earlier name. is_among earlier name ≡ false)
are_different letter (suc count) =
    let P : List (List ℕ) → List ℕ → Type 0 = λ earlier name. is_among earlier name ≡ false in
    let f : ℕ → List ℕ = λ k. letter ∷ two_digit_text k in
    let one : count + 1 ≡ suc count = omega arith in
    let more = map-range_with_len_more f 0 count count (omega arith) in
    subst (λ m. EachAfter P (map f (range_with_len 0 m))) one (subst (EachAfter P) (sym more) (each-more P (map f (range_with_len 0 count)) (f count) (are_different letter count) (none_of_them letter count 0 count (omega arith))))
