-- How often something has failed.
use Rattle.std.specs.Prelude.{None, Option, Some, ℕ, ◌+◌}
use Rattle.std.specs.declared.snapshot.Snapshot.{Snapshot}

-- one more than the count before the last fault, or 0 where there was none
abbrev pub one_more : Option (Snapshot ℕ) → ℕ
one_more None = 0
one_more (Some before) = before.value + 1
