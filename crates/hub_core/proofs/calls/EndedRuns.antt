-- In a legal window every run has ended.
use Rattle.hub_core.proofs.Prelude.{AllPass-from_list_all, Bool, IsLegalWindow, IsSeriallyLegal, IsWeaklyLegal, Setting, all_ended, arith, false, get_or, history_of, is_run, is_some, is_weak, length, reading, run_numbers, subst, true, ℕ, ◌+◌, ◌-◌, ◌<◌, ◌∙◌, ◌≡◌, ◌≤◌}
use Rattle.history_book.specs.declared.records.WindowRecord.{WindowRecord}
use Rattle.hub_core.proofs.kept.Sizes.{run_within}
use Rattle.std.proofs.lemmas.List.Elements.{All-get_or}
use Rattle.std.proofs.lemmas.List.FromFn.{get_or-range_with_len, length-range_with_len}

all_have : (w : Setting) (closed : WindowRecord) → IsLegalWindow w closed → all_ended w (history_of closed) ≡ true
all_have w closed legal = by_model (is_weak w.mode) legal
  where
    under_weak : Bool → Type 0
    under_weak true = IsWeaklyLegal w closed
    under_weak false = IsSeriallyLegal w closed

    by_model : (weak : Bool) → under_weak weak → all_ended w (history_of closed) ≡ true
    by_model true is = is.ended
    by_model false is = is.ended

pub each_has_ended : (w : Setting) (closed : WindowRecord) → IsLegalWindow w closed → (r : ℕ) → is_run w.runs r ≡ true → is_some ((reading w (history_of closed)).run r).ended ≡ true
each_has_ended w closed legal r run =
    let within : (0 < r) × (r ≤ length w.runs) = run_within w.runs r run in
    let there : get_or (run_numbers w) (r - 1) 0 ≡ 1 + (r - 1) = get_or-range_with_len 1 (length w.runs) (r - 1) 0 (omega (arith, within.0, within.1)) in
    let same : 1 + (r - 1) ≡ r = omega (arith, within.0) in
    let count = length-range_with_len 1 (length w.runs) in
    subst (λ q. is_some ((reading w (history_of closed)).run q).ended ≡ true) (there ∙ same)
    (All-get_or (λ q. is_some ((reading w (history_of closed)).run q).ended ≡ true) (run_numbers w) (r - 1) 0 (omega (arith, count, within.0, within.1)) (AllPass-from_list_all (λ q. is_some ((reading w (history_of closed)).run q).ended) (run_numbers w) (all_have w closed legal)))
