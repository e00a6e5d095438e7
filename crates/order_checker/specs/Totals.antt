-- The last line of a record.
use Rattle.order_checker.specs.Lines.{has_no_line}
use Rattle.order_checker.specs.Words.{is_number, words_of}
use Rattle.std.specs.Prelude.{Bool, List, None, Option, Some, [], codes, false, ℕ, ◌&&◌, ◌-◌, ◌∷◌}
use Rattle.std.specs.Str.{bytes_eq}

-- how many windows a record has, and how many runs, and committed ones
pub record RecordCounts : Type 0 where
  pub windows : ℕ
  pub runs : ℕ
  pub committed : ℕ

-- the two words are this one and this number
abbrev pub are_count_words : List ℕ → ℕ → List ℕ → List ℕ → Bool
are_count_words text n word number = bytes_eq word text && is_number n number

-- the words for how many runs are committed, and how many were aborted
abbrev pub are_end_words : RecordCounts → List ℕ → List ℕ → List ℕ → List ℕ → Bool
are_end_words n committed c aborted a =
    are_count_words (codes "committed") n.committed committed c
    && are_count_words (codes "aborted") (n.runs - n.committed) aborted a

-- the words behind the number of windows
abbrev pub are_run_words : RecordCounts → List (List ℕ) → Bool
are_run_words n (runs ∷ r ∷ committed ∷ c ∷ aborted ∷ a ∷ []) =
    are_count_words (codes "runs") n.runs runs r && are_end_words n committed c aborted a
are_run_words n words = false

-- the words of the total line; each run that is not committed was aborted
abbrev pub are_total_words : RecordCounts → List (List ℕ) → Bool
are_total_words n (total ∷ windows ∷ w ∷ words) =
    bytes_eq total (codes "total") && are_count_words (codes "windows") n.windows windows w
    && are_run_words n words
are_total_words n words = false

-- the lines are the total line, and nothing after it
abbrev pub is_total : RecordCounts → List (Option (List ℕ)) → Bool
is_total n [] = false
is_total n (None ∷ lines) = false
is_total n (Some line ∷ lines) = has_no_line lines && are_total_words n (words_of line)
