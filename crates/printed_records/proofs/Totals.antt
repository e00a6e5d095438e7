-- The last line.
use Rattle.printed_records.proofs.Prelude.{List, RecordCounts, Some, [], ap, append-nil, append_assoc, are_total_words, arith, codes, counts_line, decimal, is_number, is_total, lines_of, refl, sym, true, ℕ, ◌&&◌, ◌++◌, ◌+◌, ◌-◌, ◌<◌, ◌^◌, ◌∙◌, ◌∷◌, ◌≡◌}
use Rattle.printed_records.proofs.LineTexts.{line_with, lines-nothing, spaced, lines-words, words-line}
use Rattle.printed_records.proofs.Numerals.{decimal-word, is_number-decimal}
use Rattle.printed_records.proofs.Plain.{AreWords, IsWord, word-seen}

abbrev total_words : ℕ → ℕ → ℕ → List (List ℕ)
total_words windows committed aborted =
    codes "windows" ∷ decimal windows ∷ codes "runs" ∷ decimal (committed + aborted) ∷ codes "committed" ∷ decimal committed ∷ codes "aborted" ∷ decimal aborted ∷ []

counts-spaced : (windows committed aborted : ℕ) → counts_line windows committed aborted ≡ codes "total" ++ spaced (total_words windows committed aborted) (10 ∷ [])
counts-spaced windows committed aborted = simp append_assoc

-- the printed total is the total of so many windows and runs
pub total-printed : (n : RecordCounts) (aborted : ℕ) → n.runs ≡ n.committed + aborted → n.windows < 2 ^ 64 → n.runs < 2 ^ 64
    → is_total n (lines_of (counts_line n.windows n.committed aborted)) ≡ true
total-printed n aborted runs few_windows few_runs =
    let words = total_words n.windows n.committed aborted in
    let few : n.committed + aborted < 2 ^ 64 = omega (arith, runs) in
    let few_committed : n.committed < 2 ^ 64 = omega arith in
    let few_aborted : aborted < 2 ^ 64 = omega arith in
    let are : AreWords words = (
      word-seen (codes "windows") refl refl,
      (
        decimal-word n.windows few_windows,
        (
          word-seen (codes "runs") refl refl,
          (
            decimal-word (n.committed + aborted) few,
            (word-seen (codes "committed") refl refl, (decimal-word n.committed few_committed, (word-seen (codes "aborted") refl refl, (decimal-word aborted few_aborted, tt)))),
          ),
        ),
      ),
    ) in
    let total : IsWord (codes "total") = word-seen (codes "total") refl refl in
    let line : lines_of (counts_line n.windows n.committed aborted) ≡ Some (line_with (codes "total") words) ∷ [] =
    ap lines_of (counts-spaced n.windows n.committed aborted ∙ sym (append-nil (codes "total" ++ spaced words (10 ∷ [])))) ∙ lines-words (codes "total") words [] total are refl
    ∙ ap (λ lines. Some (line_with (codes "total") words) ∷ lines) lines-nothing in
    let is_runs : is_number n.runs (decimal (n.committed + aborted)) ≡ true =
    ap (λ r. is_number r (decimal (n.committed + aborted))) runs ∙ is_number-decimal (n.committed + aborted) few in
    let left : n.runs - n.committed ≡ aborted = omega (arith, runs) in
    let is_aborted : is_number (n.runs - n.committed) (decimal aborted) ≡ true =
    ap (λ a. is_number a (decimal aborted)) left ∙ is_number-decimal aborted few_aborted in
    ap (is_total n) line ∙ ap (are_total_words n) (words-line (codes "total") words total are)
    ∙ (λ i. is_number-decimal n.windows few_windows i && (is_runs i && (is_number-decimal n.committed few_committed i && is_aborted i)))
