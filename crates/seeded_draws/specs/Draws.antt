-- The generator.
use Rattle.std.specs.Prelude.{ℕ, ◌%◌, ◌*◌, ◌+◌, ◌/◌}

-- the state after a draw
abbrev pub drawn : ℕ → ℕ
drawn state = (state * 6364136223846793005 + 1442695040888963407) % 18446744073709551616

-- what the draw answers that led to this state: a number below k
abbrev pub below : ℕ → ℕ → ℕ
below state k = state / 8589934592 % k
