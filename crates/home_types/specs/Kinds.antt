-- Which values a device has.
use Rattle.home_types.specs.Numbers.{DeviceId}
use Rattle.home_types.specs.declared.kinds.Kind.TheVariants.{Range, States}
use Rattle.home_types.specs.declared.kinds.Kind.{Kind}
use Rattle.std.specs.Prelude.{Bool, List, max, min, nat_le, nat_lt, slice_index_or, ℕ, ◌&&◌, ◌-◌}

-- a device of the kind has the value
abbrev pub has_value : Kind → ℕ → Bool
has_value (States n) v = nat_lt v n
has_value (Range low high) v = nat_le low v && nat_le v high

-- the value of the kind that is nearest: the smaller of it and the last state, or brought into the
-- range
abbrev pub nearest : Kind → ℕ → ℕ
nearest (States n) v = min v (n - 1)
nearest (Range low high) v = max (min v high) low

-- the kind of the device with this number
abbrev pub kind_at : List Kind → DeviceId → Kind
kind_at kinds d = slice_index_or kinds d (States 0)
