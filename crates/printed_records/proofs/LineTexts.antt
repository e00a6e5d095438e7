-- Lines of words, each with a space before it but the first, behind each other.
use Rattle.printed_records.proofs.Prelude.{All-append, All-cons, List, Some, [], ap, append-nil, append_assoc, arith, false, if◌then◌else◌, is_note, lines-cons, lines_of, lines_of_pieces, pieces_of, refl, sym, true, words_of, ℕ, ◌++◌, ◌==◌, ◌∙◌, ◌∷◌, ◌≡◌}
use Rattle.printed_records.proofs.Plain.{AreWords, IsWord, Lacks}
use Rattle.std.proofs.lemmas.List.Splits.{length-slice_split, slice_split_at, slice_split_none}

-- words with a space before each, in front of a text
abbrev pub spaced : List (List ℕ) → List ℕ → List ℕ
spaced [] tail = tail
spaced (word ∷ words) tail = 32 ∷ (word ++ spaced words tail)

pub spaced-append : (words : List (List ℕ)) (tail rest : List ℕ) → spaced words tail ++ rest ≡ spaced words (tail ++ rest)
spaced-append [] tail rest = refl
spaced-append (word ∷ words) tail rest =
    ap (λ t. 32 ∷ t) (append_assoc word (spaced words tail) rest ∙ ap (λ t. word ++ t) (spaced-append words tail rest))

-- the line of a word and those behind it
abbrev pub line_with : List ℕ → List (List ℕ) → List ℕ
line_with first words = first ++ spaced words []

-- the words of a line are those that it was made of
pub words-line : (first : List ℕ) (words : List (List ℕ)) → IsWord first → AreWords words → words_of (line_with first words) ≡ first ∷ words
words-line first [] word others = ap words_of (append-nil first) ∙ slice_split_none (λ b. b == 32) first word.no_space
words-line first (next ∷ words) word others =
    slice_split_at (λ b. b == 32) first 32 (line_with next words) word.no_space refl
    ∙ ap (λ ws. first ∷ ws) (words-line next words others.0 others.1)

lacks-spaced : (words : List (List ℕ)) → AreWords words → Lacks 10 (spaced words [])
lacks-spaced [] are = λ k d within. absurd (omega arith)
lacks-spaced (word ∷ words) are =
    All-cons (λ x. (x == 10) ≡ false) 32 (word ++ spaced words []) refl (All-append (λ x. (x == 10) ≡ false) word (spaced words []) are.0.no_feed (lacks-spaced words are.1))

-- a text that ends with a line feed, in front of another
lines-text : (line rest : List ℕ) → Lacks 10 line
    → lines_of (line ++ 10 ∷ rest) ≡ (if is_note line then [] else Some line ∷ []) ++ lines_of rest
lines-text line rest lacks =
    ap lines_of_pieces (slice_split_at (λ b. b == 10) line 10 rest lacks refl)
    ∙ lines-cons line (pieces_of rest) (omega (arith, length-slice_split (λ b. b == 10) rest))

pub lines-line : (line rest : List ℕ) → Lacks 10 line → is_note line ≡ false → lines_of (line ++ 10 ∷ rest) ≡ Some line ∷ lines_of rest
lines-line line rest lacks plain = lines-text line rest lacks ∙ ap (λ b. (if b then [] else Some line ∷ []) ++ lines_of rest) plain

pub lines-note : (line rest : List ℕ) → Lacks 10 line → is_note line ≡ true → lines_of (line ++ 10 ∷ rest) ≡ lines_of rest
lines-note line rest lacks note = lines-text line rest lacks ∙ ap (λ b. (if b then [] else Some line ∷ []) ++ lines_of rest) note

-- a text without anything has no lines
pub lines-nothing : lines_of [] ≡ []
unfolding lines_of_pieces
lines-nothing = refl

-- a line of words in front of a text
pub lines-words : (first : List ℕ) (words : List (List ℕ)) (rest : List ℕ) → IsWord first → AreWords words → is_note (line_with first words) ≡ false
    → lines_of ((first ++ spaced words (10 ∷ [])) ++ rest) ≡ Some (line_with first words) ∷ lines_of rest
lines-words first words rest word are plain =
    let one : (first ++ spaced words (10 ∷ [])) ++ rest ≡ first ++ spaced words (10 ∷ rest) =
    append_assoc first (spaced words (10 ∷ [])) rest ∙ ap (λ t. first ++ t) (spaced-append words (10 ∷ []) rest) in
    let other : line_with first words ++ 10 ∷ rest ≡ first ++ spaced words (10 ∷ rest) =
    append_assoc first (spaced words []) (10 ∷ rest) ∙ ap (λ t. first ++ t) (spaced-append words [] (10 ∷ rest)) in
    ap lines_of (one ∙ sym other)
    ∙ lines-line (line_with first words) rest (All-append (λ x. (x == 10) ≡ false) first (spaced words []) word.no_feed (lacks-spaced words are)) plain
