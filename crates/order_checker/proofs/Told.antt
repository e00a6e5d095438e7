-- The answers of a run, by its number.
use Rattle.order_checker.proofs.Prelude.{List, None, Option, RunEnd, Some, ap, if◌then◌else◌, option_and_then, option_map, plain_end, plain_ends, refl, slice_get, slice_get-map, told_of, ℕ, ◌-◌, ◌==◌, ◌∙◌, ◌≡◌}

end-of : (end : Option RunEnd) → option_and_then (λ told. told) (option_map plain_end end) ≡ option_and_then plain_end end
end-of None = refl
end-of (Some end) = refl

pub told_at : (ends : List RunEnd) (r : ℕ) → told_of (plain_ends ends) r ≡ (if r == 0 then None else option_and_then plain_end (slice_get ends (r - 1)))
told_at ends r =
    ap (λ told. if r == 0 then None else told) (ap (option_and_then (λ told. told)) (slice_get-map plain_end ends (r - 1)) ∙ end-of (slice_get ends (r - 1)))
