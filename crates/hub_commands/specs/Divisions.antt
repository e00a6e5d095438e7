-- How the input of a check is divided into a script and a record.
use Rattle.std.specs.List.{flat_map}
use Rattle.std.specs.Prelude.{Bool, List, [], codes, if◌then◌else◌, ℕ, ◌++◌, ◌==◌, ◌||◌, ◌∷◌}
use Rattle.std.specs.Str.{bytes_eq}

-- a byte in front of the first line
abbrev pub byte_in_front : ℕ → List (List ℕ) → List (List ℕ)
byte_in_front b [] = (b ∷ []) ∷ []
byte_in_front b (line ∷ lines) = (b ∷ line) ∷ lines

-- a byte in front of lines: a line feed ends a line of its own
abbrev pub led : ℕ → List (List ℕ) → List (List ℕ)
led b lines = if b == 10 then (b ∷ []) ∷ lines else byte_in_front b lines

-- the lines of a text, each with its line feed; the last one may have none
unfoldable pub lines_with_feeds : List ℕ → List (List ℕ)
lines_with_feeds [] = []
lines_with_feeds (b ∷ bytes) = led b (lines_with_feeds bytes)

-- the line is `%%`
abbrev pub is_divider : List ℕ → Bool
is_divider line = bytes_eq line (codes "%%\n") || bytes_eq line (codes "%%")

pub record Division : Type 0 where
  pub script : List ℕ
  pub record_text : List ℕ

-- a line more in front of the script
abbrev pub with_script_line : List ℕ → Division → Division
with_script_line line division =
    record { script = line ++ division.script; record_text = division.record_text }

-- the script is what stands before the first line that is `%%`, the record what stands behind it
unfoldable pub divided : List (List ℕ) → Division
divided [] = record { script = []; record_text = [] }
divided (line ∷ lines) =
    if is_divider line then record { script = []; record_text = flat_map (λ l. l) lines }
    else with_script_line line (divided lines)

-- the script and the record of an input; where no line is `%%` the record is empty
abbrev pub division_of : List ℕ → Division
division_of bytes = divided (lines_with_feeds bytes)
