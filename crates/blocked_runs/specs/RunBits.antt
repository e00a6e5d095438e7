-- The words of the bits of runs.
use Rattle.home_types.specs.Numbers.{RunId}
use Rattle.std.specs.Int.{bit_at}
use Rattle.std.specs.Prelude.{Bool, nat_lt, ℕ, ◌&&◌, ◌-◌, ◌==◌}

-- the run's bit is set: that of the run r has the number r - 1
abbrev pub has_run : ℕ → RunId → Bool
has_run word r = nat_lt 0 r && nat_lt (r - 1) 64 && (bit_at word (r - 1) == 1)
