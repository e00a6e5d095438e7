-- The lines that the script fixes: the two above the windows, and the first one of each window.
use Rattle.day_clock.specs.declared.times.When.{When}
use Rattle.order_checker.specs.Words.{is_number, words_of}
use Rattle.std.specs.List.{list_any}
use Rattle.std.specs.Option.{option_map_or}
use Rattle.std.specs.Prelude.{Bool, List, Option, [], codes, false, ℕ, ◌%◌, ◌&&◌, ◌+◌, ◌++◌, ◌/◌, ◌∷◌}
use Rattle.std.specs.Str.{bytes_eq}

-- the modes of which a record may be: a model that promises an order, served as they come unless
-- the model is `ev`
abbrev pub mode_lines : List (List ℕ)
mode_lines =
    codes "model gsv fcfs" ∷ codes "model psv fcfs" ∷ codes "model ev fcfs" ∷ codes "model ev jit"
    ∷ codes "model ev timeline" ∷ []

-- the two lines above the windows
abbrev pub is_head : Option (List ℕ) → Option (List ℕ) → Bool
is_head first second =
    option_map_or (λ line. bytes_eq line (codes "safehome day")) first false
    && option_map_or (λ line. list_any (bytes_eq line) mode_lines) second false

-- the digit for a number below ten
abbrev pub digit : ℕ → ℕ
digit n = 48 + n

-- a number in two digits
abbrev pub digit_pair : ℕ → List ℕ
digit_pair n = digit (n / 10) ∷ digit (n % 10) ∷ []

-- a time as YYYY-MM-DDThh:mm:ss
abbrev pub written_time : When → List ℕ
written_time at =
    digit_pair (at.year / 100) ++ digit_pair (at.year % 100) ++ codes "-" ++ digit_pair at.month
    ++ codes "-" ++ digit_pair at.day
    ++ codes "T" ++ digit_pair at.hour ++ codes ":" ++ digit_pair at.minute ++ codes ":"
    ++ digit_pair at.second

-- the words of the first line of the window with this number, from 1, at this time
abbrev pub are_window_words : ℕ → When → List (List ℕ) → Bool
are_window_words k at (word ∷ number ∷ time ∷ []) =
    bytes_eq word (codes "window") && is_number k number && bytes_eq time (written_time at)
are_window_words k at words = false

-- the first line of a window
abbrev pub is_window_line : ℕ → When → Option (List ℕ) → Bool
is_window_line k at line = option_map_or (λ text. are_window_words k at (words_of text)) line false
