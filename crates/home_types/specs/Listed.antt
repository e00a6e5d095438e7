-- A list as callers see it.
use Rattle.std.specs.Prelude.{List, ℕ}

-- the items of a list, and how many more it takes with no memory
pub record Listed (T : Type 0) : Type 0 where
  pub items : List T
  pub spare : ℕ
