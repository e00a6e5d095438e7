-- The ranges of a disk that were written, the newest first.
use Rattle.std.specs.Prelude.{List, None, Option, Some, [], ℕ, ◌∷◌}
use Rattle.std.specs.declared.snapshot.Snapshot.{Snapshot}

-- len bytes from at on
pub record Range : Type 0 where
  pub at : ℕ
  pub len : ℕ

abbrev pub with_newest : ℕ → ℕ → Option (Snapshot (List Range)) → List Range
with_newest at len None = []
with_newest at len (Some before) = (record { at = at; len = len }) ∷ before.value
