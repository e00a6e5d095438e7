-- The devices of the first so many commands.
use Rattle.history_book.proofs.Prelude.{Bool, Command, List, [], ap, arith, common_steps, false, get_or, is_on, length, list_any, list_any-append, take, take_more, ℕ, ◌+◌, ◌<◌, ◌==◌, ◌||◌, ◌∙◌, ◌∷◌, ◌≡◌, ◌≢◌}

-- one of the first so many commands is on the device
abbrev pub is_among : ℕ → ℕ → List Command → Bool
is_among d k commands = list_any (is_on d) (take k commands)

pub differ : (a b : ℕ) → (a == b) ≡ false → b ≢ a
differ a b h e = grind (arith, common_steps)

-- one command more
pub among_more : (d k : ℕ) (commands : List Command) (e : Command) → k < length commands → is_among d (k + 1) commands ≡ (is_among d k commands || ((get_or commands k e).device.0 == d))
among_more d k commands e within =
    ap (list_any (is_on d)) (take_more commands k e within)
    ∙ list_any-append (is_on d) (take k commands) (get_or commands k e ∷ [])
    ∙ last (is_among d k commands) ((get_or commands k e).device.0 == d)
  where
    last : (x y : Bool) → (x || (y || false)) ≡ (x || y)
    last x y = grind (arith, common_steps)
