-- The digits of a number.
use Rattle.std.proofs.Common.{List, [], ap, arith, sym, ℕ, ◌+◌, ◌++◌, ◌<◌, ◌^◌, ◌∙◌, ◌∷◌, ◌≡◌, ◌≤◌, ◌/◌, ◌%◌}
use Rattle.std.proofs.lemmas.Fmt.{decimal_digit, decimal_step}
use Rattle.std.proofs.lemmas.List.{append_assoc}
use Rattle.std.specs.Fmt.{decimal}

-- a digit alone
pub one_digit : (start end : List ℕ) (n : ℕ) → n < 10 → end ≡ start ++ (48 + n) ∷ [] → end ≡ start ++ decimal n
one_digit start end n small is = is ∙ ap (λ ds. start ++ ds) (sym (decimal_digit n small))

-- the last digit behind the others
pub one_digit_more : (start front end : List ℕ) (n : ℕ) → 10 ≤ n → n < 2 ^ 64 → front ≡ start ++ decimal (n / 10) → end ≡ front ++ (48 + n % 10) ∷ [] → end ≡ start ++ decimal n
one_digit_more start front end n large small is more =
    more ∙ ap (λ ds. ds ++ (48 + n % 10) ∷ []) is ∙ append_assoc start (decimal (n / 10)) ((48 + n % 10) ∷ []) ∙ ap (λ ds. start ++ ds) (sym (decimal_step n large small))
