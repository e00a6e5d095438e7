-- The words of a line, and numbers among them.
use Rattle.std.specs.Char.{is_ascii_digit}
use Rattle.std.specs.List.{list_all, position, slice_split}
use Rattle.std.specs.Option.{option_map_or}
use Rattle.std.specs.Prelude.{Bool, List, None, Option, Some, [], codes, drop, false, if◌then◌else◌, length, map, nat_lt, not, option_map, slice_index, take, ℕ, ◌&&◌, ◌+◌, ◌==◌, ◌^◌, ◌||◌, ◌∷◌}
use Rattle.std.specs.Str.Parse.{digits_value}
use Rattle.std.specs.Str.{bytes_eq}
use denote.Ref.{Bor}

-- the texts of words that stand in a line
abbrev pub texts : List (Bor (List ℕ)) → List (List ℕ)
texts words = map (λ word. word.now) words

-- the words of a line: what stands between its spaces, be it empty
abbrev pub words_of : List ℕ → List (List ℕ)
words_of line = slice_split (λ b. b == 32) line

-- the one word for nothing
abbrev pub is_none_word : List (List ℕ) → Bool
is_none_word (word ∷ []) = bytes_eq word (codes "none")
is_none_word words = false

-- a text in two, at a byte that stands in neither
pub record Parts : Type 0 where
  pub front : List ℕ
  pub back : List ℕ

-- what stands before the first such byte, and behind it; none where there is no such byte
abbrev pub cut_at : ℕ → List ℕ → Option Parts
cut_at byte text =
    option_map (λ i. record { front = take i text; back = drop (i + 1) text })
    (position (λ b. b == byte) text)

-- decimal digits, at least one, and none that could be left out in front
abbrev pub is_numeral : List ℕ → Bool
is_numeral word =
    list_all is_ascii_digit word && nat_lt 0 (length word)
    && (length word == 1 || not (slice_index word 0 == 48))

-- the number that the word writes, at most 2^64 - 1
unfoldable pub number_of : List ℕ → Option ℕ
number_of word =
    if is_numeral word && nat_lt (digits_value 10 word) (2 ^ 64) then Some (digits_value 10 word)
    else None

-- the word writes this number
abbrev pub is_number : ℕ → List ℕ → Bool
is_number n word = option_map_or (λ m. m == n) (number_of word) false
