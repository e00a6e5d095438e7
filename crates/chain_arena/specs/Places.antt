-- The places of the block.
use Rattle.std.specs.Prelude.{◌≡◌, ℕ, slice_get, List, Some}

module _ {X : Type 0} where
  -- there is a place of this number
  abbrev pub IsPlace : List X → ℕ → Type 0
  IsPlace xs i = (x : X) × (slice_get xs i ≡ Some x)
