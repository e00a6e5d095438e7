-- Which call the first word asks for.
use Rattle.std.specs.Prelude.{Bool, List, [], false, ℕ, ◌∷◌}
use Rattle.std.specs.Str.{bytes_eq}

-- the first word is this command
abbrev pub asks_for : List ℕ → List (List ℕ) → Bool
asks_for command [] = false
asks_for command (word ∷ words) = bytes_eq word command
