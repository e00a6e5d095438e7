-- The lines of a record.
use Rattle.std.specs.List.{slice_split, starts_with}
use Rattle.std.specs.Prelude.{Bool, List, None, Option, Some, [], codes, false, if◌then◌else◌, length, nat_eq, option_and_then, slice_get, true, ℕ, ◌++◌, ◌==◌, ◌||◌, ◌∷◌}

-- the line begins with `# `: it is of a trace, and the check passes over it
abbrev pub is_note : List ℕ → Bool
is_note line = starts_with nat_eq line (codes "# ")

-- the lines out of what stands between the line feeds, but for notes; what stands behind the last
-- line feed is no whole line, and stands as none
unfoldable pub lines_of_pieces : List (List ℕ) → List (Option (List ℕ))
lines_of_pieces [] = []
lines_of_pieces (rest ∷ []) = if length rest == 0 || is_note rest then [] else None ∷ []
lines_of_pieces (line ∷ next ∷ pieces) =
    (if is_note line then [] else Some line ∷ []) ++ lines_of_pieces (next ∷ pieces)

-- what stands between the line feeds of a text
abbrev pub pieces_of : List ℕ → List (List ℕ)
pieces_of text = slice_split (λ b. b == 10) text

-- the lines of a text
abbrev pub lines_of : List ℕ → List (Option (List ℕ))
lines_of text = lines_of_pieces (pieces_of text)

-- no line is left
abbrev pub has_no_line : List (Option (List ℕ)) → Bool
has_no_line [] = true
has_no_line (line ∷ lines) = false

-- the line of this number, from 0; none where the lines end before, or where it is no whole line
abbrev pub line_at : List (Option (List ℕ)) → ℕ → Option (List ℕ)
line_at lines i = option_and_then (λ line. line) (slice_get lines i)
