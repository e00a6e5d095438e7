-- The end that is told of a run, by its place.
use Rattle.printed_records.proofs.Prelude.{Answer, List, None, Option, ap, arith, common_steps, false, if◌then◌else◌, option_and_then, slice_get, suc, told_of, ℕ, ◌-◌, ◌==◌, ◌∙◌, ◌≡◌}

-- runs count from 1, places from 0
pub told_at : (ends : List (Option (List Answer))) (i : ℕ) → told_of ends (suc i) ≡ option_and_then (λ told. told) (slice_get ends i)
told_at ends i =
    let not_zero : (suc i == 0) ≡ false = grind (arith, common_steps) in
    let less : suc i - 1 ≡ i = omega arith in
    ap (λ b. if b then None else option_and_then (λ (told : Option (List Answer)). told) (slice_get ends (suc i - 1))) not_zero
    ∙ ap (λ k. option_and_then (λ (told : Option (List Answer)). told) (slice_get ends k)) less
