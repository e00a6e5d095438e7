-- Places in a list.
use Rattle.std.specs.Option.{option_or}
use Rattle.std.specs.Prelude.{Bool, List, None, Option, Some, [], if◌then◌else◌, option_map, ℕ, ◌+◌, ◌∷◌}

-- the place of the last item of which the test holds
abbrev pub last_place : {A : Type 0} → (A → Bool) → List A → Option ℕ
last_place test [] = None
last_place test (x ∷ xs) =
    option_or (option_map (λ k. k + 1) (last_place test xs)) (if test x then Some 0 else None)
