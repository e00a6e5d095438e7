-- What is drawn by a generator, and names with numbers.
use Rattle.std.specs.Prelude.{List, [], suc, zero, ℕ, ◌%◌, ◌+◌, ◌++◌, ◌/◌, ◌∷◌}

-- what was made, and the state of the generator then
pub record Drawing (A : Type 0) : Type 0 where
  pub made : A
  pub state : ℕ

-- so many, one after the other, each from its number, counted from 0, and from the state that those
-- before it left
unfoldable pub draw_each : {A : Type 0} → (ℕ → ℕ → Drawing A) → ℕ → ℕ → Drawing (List A)
draw_each draw zero state = record { made = []; state = state }
draw_each draw (suc n) state =
    let before = draw_each draw n state in
    let last = draw n before.state in
    record { made = before.made ++ last.made ∷ []; state = last.state }

-- a number below 100 in two digits
abbrev pub two_digit_text : ℕ → List ℕ
two_digit_text n = (48 + n / 10) ∷ (48 + n % 10) ∷ []
