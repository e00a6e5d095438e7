-- The home line against the home behind the order.
use Rattle.command_rules.specs.Rosters.{device_no}
use Rattle.home_types.specs.declared.worlds.Stand.{Stand}
use Rattle.order_checker.specs.Steps.{required, walk, ◌>>=◌}
use Rattle.order_checker.specs.Values.{value_of}
use Rattle.order_checker.specs.Words.{Parts, cut_at, is_none_word, words_of}
use Rattle.order_checker.specs.declared.verdicts.Place.TheVariants.{Device, Home}
use Rattle.order_checker.specs.declared.verdicts.Place.{Place}
use Rattle.routine_reader.specs.declared.scripts.DeviceText.{DeviceText}
use Rattle.std.specs.Prelude.{Bool, Err, List, None, Ok, Option, Result, Some, [], codes, false, if◌then◌else◌, length, not, ok_or, option_and_then, option_map, slice_get, slice_index_or, true, ℕ, ◌&&◌, ◌+◌, ◌++◌, ◌==◌, ◌∷◌}
use Rattle.std.specs.Option.{option_map_or}
use Rattle.std.specs.Str.{bytes_eq}

-- where a device stands, by what stands behind the `=`: its value, with `!` behind it where it is
-- down
abbrev pub stand_written : DeviceText → List ℕ → Option Parts → Option Stand
stand_written device text None =
    option_map (λ v. record { value = v; up = true }) (value_of device text)
stand_written device text (Some parts) =
    if length parts.back == 0
    then option_map (λ v. record { value = v; up = false }) (value_of device parts.front) else None

-- where a device stands, by a word `NAME=VALUE` or `NAME=VALUE!` with its name and one of its
-- values
unfoldable pub stand_by_word : DeviceText → List ℕ → Option Stand
stand_by_word device word =
    option_and_then
    (λ parts. if bytes_eq parts.front device.name
    then stand_written device parts.back (cut_at 33 parts.back) else None)
    (cut_at 61 word)

abbrev pub next_stand : List (List ℕ) → List Stand → DeviceText → Result (List Stand) Place
next_stand words earlier device = do
  stand ← ok_or (stand_by_word device (slice_index_or words (length earlier) [])) Home
  Ok (earlier ++ stand ∷ [])

-- where each device stands, by the words behind the first; a home without devices has the word for
-- nothing
unfoldable pub stands_told : List DeviceText → List (List ℕ) → Result (List Stand) Place
stands_told devices words =
    if length devices == 0 then
    (do
      nothing ← required (is_none_word words) Home
      Ok [])
    else
    (do
      as_many ← required (length words == length devices) Home
      walk (next_stand words) [] devices)

abbrev pub home_words_told : List DeviceText → List (List ℕ) → Result (List Stand) Place
home_words_told devices [] = Err Home
home_words_told devices (first ∷ words) =
    if bytes_eq first (codes "home") then stands_told devices words else Err Home

-- where each device stands, by the home line
abbrev pub home_told : List DeviceText → Option (List ℕ) → Result (List Stand) Place
home_told devices None = Err Home
home_told devices (Some line) = home_words_told devices (words_of line)

abbrev pub stands_so : Stand → Stand → Bool
stands_so a b = a.value == b.value && (if a.up then b.up else not b.up)

-- the next device stands as it is told
abbrev pub next_device_told : List Stand → ℕ → Stand → Result ℕ Place
next_device_told told d stand = do
  so ← required (option_map_or (λ t. stands_so t stand) (slice_get told d) false)
      (Device (device_no d))
  Ok (d + 1)

-- each device stands as the home line tells
unfoldable pub home_agrees : List DeviceText → List Stand → Option (List ℕ) → Result ℕ Place
home_agrees devices home line = do
  told ← home_told devices line
  walk (next_device_told told) 0 home
