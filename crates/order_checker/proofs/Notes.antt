-- Lines behind each other.
use Rattle.order_checker.proofs.Prelude.{Bool, List, None, Some, [], ap, arith, common_steps, drop, fails_before_first, false, has_no_line, if◌then◌else◌, is_note, length, length-drop, line_at, lines_of, lines_of_pieces, nat_lt, pieces_of, position, position_or_len, refl, slice_split, sym, take, take_all, true, ℕ, ◌++◌, ◌+◌, ◌-◌, ◌<◌, ◌==◌, ◌||◌, ◌∙◌, ◌∷◌, ◌≡◌, ◌≤◌}
use Rattle.std.proofs.lemmas.List.Splits.{length-slice_split, slice_split_first, slice_split_none}

-- the first place at which a test passes
position-first : (p : ℕ → Bool) (xs : List ℕ) (i : ℕ) → position p xs ≡ Some i → (position_or_len p xs < length xs) × (position_or_len p xs ≡ i)
position-first p xs i found = which (nat_lt (position_or_len p xs) (length xs)) refl found
  where
    which : (b : Bool) → nat_lt (position_or_len p xs) (length xs) ≡ b → (if b then Some (position_or_len p xs) else None) ≡ Some i → (position_or_len p xs < length xs) × (position_or_len p xs ≡ i)
    which true within found = (grind (arith, common_steps), cc)
    which false within found = absurd (grind (arith, common_steps))

no-position : (p : ℕ → Bool) (xs : List ℕ) → position p xs ≡ None → length xs ≤ position_or_len p xs
no-position p xs none = which (nat_lt (position_or_len p xs) (length xs)) refl none
  where
    which : (b : Bool) → nat_lt (position_or_len p xs) (length xs) ≡ b → (if b then Some (position_or_len p xs) else None) ≡ None → length xs ≤ position_or_len p xs
    which true within none = absurd (grind (arith, common_steps))
    which false within none = grind (arith, common_steps)

-- a text that is split at each such byte: it has one, or none
pub split-first : (byte : ℕ) (text : List ℕ) (i : ℕ) → position (λ b. b == byte) text ≡ Some i
    → slice_split (λ b. b == byte) text ≡ take i text ∷ slice_split (λ b. b == byte) (take (length text - (i + 1)) (drop (i + 1) text))
split-first byte text i at =
    let first = position-first (λ b. b == byte) text i at in
    slice_split_first (λ b. b == byte) text 0 first.0
    ∙ ap (λ k. take k text ∷ slice_split (λ b. b == byte) (drop (k + 1) text)) first.1
    ∙ ap (λ behind. take i text ∷ slice_split (λ b. b == byte) behind) (sym (take_all (length text - (i + 1)) (drop (i + 1) text) (omega (arith, length-drop (i + 1) text))))

pub split-whole : (byte : ℕ) (text : List ℕ) → position (λ b. b == byte) text ≡ None → slice_split (λ b. b == byte) text ≡ text ∷ []
split-whole byte text none =
    let far = no-position (λ b. b == byte) text none in
    slice_split_none (λ b. b == byte) text (λ k e m. fails_before_first (λ b. b == byte) text k e (omega (arith, far)))

-- a piece that another one follows is a line, unless it is a note
pub lines-cons : (line : List ℕ) (pieces : List (List ℕ)) → 0 < length pieces → lines_of_pieces (line ∷ pieces) ≡ (if is_note line then [] else Some line ∷ []) ++ lines_of_pieces pieces
unfolding lines_of_pieces
lines-cons line [] some = absurd (omega arith)
lines-cons line (next ∷ pieces) some = refl

some-pieces : (text : List ℕ) → 0 < length (pieces_of text)
some-pieces text = omega (arith, length-slice_split (λ b. b == 10) text)

-- a line in front of a text
pub lines-line : (text line behind : List ℕ) → pieces_of text ≡ line ∷ pieces_of behind → is_note line ≡ false → lines_of text ≡ Some line ∷ lines_of behind
lines-line text line behind cut plain = ap lines_of_pieces cut ∙ lines-cons line (pieces_of behind) (some-pieces behind) ∙ rw plain refl

-- a note in front of a text
pub lines-note : (text line behind : List ℕ) → pieces_of text ≡ line ∷ pieces_of behind → is_note line ≡ true → lines_of text ≡ lines_of behind
lines-note text line behind cut note = ap lines_of_pieces cut ∙ lines-cons line (pieces_of behind) (some-pieces behind) ∙ rw note refl

-- a text without a line feed
pub lines-last : (text : List ℕ) → pieces_of text ≡ text ∷ [] → lines_of text ≡ (if length text == 0 || is_note text then [] else None ∷ [])
unfolding lines_of_pieces
lines-last text cut = ap lines_of_pieces cut

pub last-none : (text : List ℕ) → pieces_of text ≡ text ∷ [] → line_at (lines_of text) 0 ≡ None
last-none text cut = rw (lines-last text cut) (cases (length text == 0 || is_note text))
  where
    cases : (b : Bool) → line_at (if b then [] else None ∷ []) 0 ≡ None
    cases true = refl
    cases false = refl

pub last-ended : (text : List ℕ) → pieces_of text ≡ text ∷ [] → (length text == 0 || is_note text) ≡ has_no_line (lines_of text)
last-ended text cut = rw (lines-last text cut) (cases (length text == 0 || is_note text))
  where
    cases : (b : Bool) → b ≡ has_no_line (if b then [] else None ∷ [])
    cases true = refl
    cases false = refl
