-- The number of a trial.
use Rattle.home_types.specs.Limits.{most_windows}
use Rattle.std.specs.List.{list_all}
use Rattle.std.specs.Option.{option_map_or}
use Rattle.std.specs.Prelude.{Bool, List, None, Option, Some, false, if◌then◌else◌, length, nat_le, not, slice_get, ℕ, ◌&&◌, ◌==◌}
use Rattle.std.specs.Str.Parse.{digits_value}

-- 0 to 9
abbrev pub is_decimal_digit : ℕ → Bool
is_decimal_digit b = nat_le 48 b && nat_le b 57

-- the first byte is there, and is no zero
abbrev pub starts_with_no_zero : List ℕ → Bool
starts_with_no_zero word = option_map_or (λ b. not (b == 48)) (slice_get word 0) false

-- 1 to 3 decimal digits without a leading zero
abbrev pub is_short_numeral : List ℕ → Bool
is_short_numeral word =
    starts_with_no_zero word && (nat_le (length word) 3 && list_all is_decimal_digit word)

-- from 1 to as many windows as a script may have
abbrev pub is_window_count : ℕ → Bool
is_window_count n = nat_le 1 n && nat_le n most_windows

-- the number that a word writes with 1 to 3 decimal digits without a leading zero, from 1 to 288
abbrev pub trial_number : List ℕ → Option ℕ
trial_number word =
    if is_short_numeral word && is_window_count (digits_value 10 word)
    then Some (digits_value 10 word) else None
