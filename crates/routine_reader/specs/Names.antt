-- Names of devices, states and routines.
use Rattle.routine_reader.specs.Limits.{most_characters}
use Rattle.routine_reader.specs.declared.faults.ReadFault.TheVariants.{BadName, DoubleName}
use Rattle.routine_reader.specs.declared.faults.ReadFault.{ReadFault}
use Rattle.routine_reader.specs.declared.faults.Spot.{Spot}
use Rattle.std.specs.List.{list_all, list_any, position}
use Rattle.std.specs.Option.{option_map_or}
use Rattle.std.specs.Prelude.{Bool, Err, List, Ok, Option, Result, false, if◌then◌else◌, length, nat_le, slice_get, ℕ, ◌&&◌, ◌==◌, ◌||◌}
use Rattle.std.specs.Str.{bytes_eq}

-- a to z
abbrev pub is_letter : ℕ → Bool
is_letter b = nat_le 97 b && nat_le b 122

-- 0 to 9
abbrev pub is_digit : ℕ → Bool
is_digit b = nat_le 48 b && nat_le b 57

-- a letter, a digit, `_` or `-`
abbrev pub is_name_byte : ℕ → Bool
is_name_byte b = is_letter b || is_digit b || b == 95 || b == 45

abbrev pub starts_with_letter : List ℕ → Bool
starts_with_letter name = option_map_or is_letter (slice_get name 0) false

-- a name has 1 to 32 of these characters, and starts with a letter
abbrev pub is_name : List ℕ → Bool
is_name name =
    starts_with_letter name && nat_le (length name) most_characters && list_all is_name_byte name

-- the place of a name among names
abbrev pub place_of : List (List ℕ) → List ℕ → Option ℕ
place_of names name = position (bytes_eq name) names

abbrev pub is_among : List (List ℕ) → List ℕ → Bool
is_among names name = list_any (bytes_eq name) names

-- the text, where it is a name and none of the names
abbrev pub new_name : Spot → List (List ℕ) → List ℕ → Result (List ℕ) ReadFault
new_name spot names name =
    if is_name name then (if is_among names name then Err (DoubleName spot) else Ok name)
    else Err (BadName spot)
