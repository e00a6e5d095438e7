-- The steps of the walk over the lines of the runs.
use Rattle.order_checker.proofs.Walking.{walk-passed, walk-refused}
use Rattle.order_checker.proofs.Prelude.{Err, List, Ok, Option, Place, RunEnd, Script, [], ap, drop, get_or, get_or_default, length, length-map, map-append, next_run_told, plain_end, plain_ends, run_text_told, sym, walk, ℕ, ◌++◌, ◌+◌, ◌<◌, ◌>>=◌, ◌∙◌, ◌∷◌, ◌≡◌}
use Rattle.routine_reader.specs.declared.scripts.RunText.{RunText}

counted : (ends : List RunEnd) (i : ℕ) → length ends ≡ i → length (plain_ends ends) ≡ i
counted ends i count = length-map ends plain_end ∙ count

pub run-refused : (script : Script) (n : ℕ) (ends : List RunEnd) (lines : List (Option (List ℕ))) (runs : List RunText) (i : ℕ) (d : RunText)
    → i < length runs → length ends ≡ i → (place : Place) → run_text_told script n (i + 1) (get_or runs i d) lines ≡ Err place
    → walk (next_run_told script n) (record { ends = plain_ends ends; lines = lines }) (drop i runs) ≡ Err place
run-refused script n ends lines runs i d within count place refused =
    walk-refused (next_run_told script n) (record { ends = plain_ends ends; lines = lines }) runs i (get_or runs i d) within (get_or_default runs i d (get_or runs i d) within) place
    (ap (λ told. told >>= (λ told. Ok (record { ends = plain_ends ends ++ told ∷ []; lines = drop 1 lines })))
    (ap (λ k. run_text_told script n (k + 1) (get_or runs i d) lines) (counted ends i count) ∙ refused))

pub run-passed : (script : Script) (n : ℕ) (ends more : List RunEnd) (lines left : List (Option (List ℕ))) (runs : List RunText) (i : ℕ) (d : RunText) (end : RunEnd)
    → i < length runs → length ends ≡ i → run_text_told script n (i + 1) (get_or runs i d) lines ≡ Ok (plain_end end) → more ≡ ends ++ end ∷ [] → left ≡ drop 1 lines
    → walk (next_run_told script n) (record { ends = plain_ends ends; lines = lines }) (drop i runs)
    ≡ walk (next_run_told script n) (record { ends = plain_ends more; lines = left }) (drop (i + 1) runs)
run-passed script n ends more lines left runs i d end within count passed pushed rest =
    walk-passed (next_run_told script n) (record { ends = plain_ends ends; lines = lines }) runs i (get_or runs i d) within (get_or_default runs i d (get_or runs i d) within)
    (record { ends = plain_ends ends ++ plain_end end ∷ []; lines = drop 1 lines })
    (ap (λ told. told >>= (λ told. Ok (record { ends = plain_ends ends ++ told ∷ []; lines = drop 1 lines })))
    (ap (λ k. run_text_told script n (k + 1) (get_or runs i d) lines) (counted ends i count) ∙ passed))
    ∙ ap (λ es. walk (next_run_told script n) (record { ends = es; lines = drop 1 lines }) (drop (i + 1) runs)) (sym (ap plain_ends pushed ∙ map-append plain_end ends (end ∷ [])))
    ∙ ap (λ ls. walk (next_run_told script n) (record { ends = plain_ends more; lines = ls }) (drop (i + 1) runs)) (sym rest)
