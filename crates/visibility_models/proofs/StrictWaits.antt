-- The run for which a model lets a run wait is the one that the line, the ends and the roster tell.
use Rattle.visibility_models.proofs.Prelude.{Back, Bool, Configuration, Eventual, Failed, Global, IsStandingOf, Item, Kept, List, None, Partitioned, Ran, Reading, Visibility, Weak, WindowParts, [], ap, arith, common_steps, end_of, false, find, first_unended_before, if◌then◌else◌, is_live, is_none, is_ran, items_of, list_any, live_runs, model_bars, not, option_map, option_or, read_of, refl, run_no, strict_wait, sym, true, under, unended_run, ℕ, ◌==◌, ◌∙◌, ◌∷◌, ◌≡◌}
use Rattle.history_book.specs.Lines.{before}
use Rattle.std.proofs.lemmas.List.Sums.{take_while-cons}
use Rattle.visibility_models.proofs.LineRuns.{live_in_line}

-- the first live run before r of which the test holds, where live is what the ends tell of the runs of the line
found_before : (test : ℕ → Bool) (n : Reading) (history : List Kept) (r : ℕ) (items : List Item) → ((x : ℕ) → list_any (is_ran x) items ≡ true → is_live n x ≡ is_none (end_of history x))
    → first_unended_before test history r items ≡ option_map run_no (find test (live_runs n (before r items)))
found_before test n history r [] live = refl
found_before test n history r (Failed d k ∷ items) live = found_before test n history r items live ∙ ap (λ l. option_map run_no (find test (live_runs n l))) (sym (take_while-cons (λ i. not (is_ran r i)) (Failed d k) items))
found_before test n history r (Back d k ∷ items) live = found_before test n history r items live ∙ ap (λ l. option_map run_no (find test (live_runs n l))) (sym (take_while-cons (λ i. not (is_ran r i)) (Back d k) items))
found_before test n history r (Ran x ∷ items) live =
    let rest = found_before test n history r items (λ y among. live y (rw among (grind (arith, common_steps)))) in
    let here : is_live n x.0 ≡ is_none (end_of history x.0) = live x.0 (grind (arith, common_steps)) in
    at (x.0 == r) rest here ∙ ap (λ l. option_map run_no (find test (live_runs n l))) (sym (take_while-cons (λ i. not (is_ran r i)) (Ran x) items))
  where
    at : (b : Bool) → first_unended_before test history r items ≡ option_map run_no (find test (live_runs n (before r items))) → is_live n x.0 ≡ is_none (end_of history x.0)
        → (if b then None else option_or (unended_run test history (Ran x)) (first_unended_before test history r items)) ≡ option_map run_no (find test (live_runs n (if not b then Ran x ∷ before r items else [])))
    at true rest here = refl
    at false rest here = grind (arith, common_steps)

pub wait_is : (model : Visibility) (s : Configuration) (r : ℕ) (parts : WindowParts) → IsStandingOf s parts
    → first_unended_before (model_bars model parts.runs r) parts.history r (items_of parts.line) ≡ option_map run_no (strict_wait (under model s.setting) (read_of s) r)
wait_is model s r parts is =
    ap (first_unended_before (model_bars model parts.runs r) parts.history r) is.its_line.items
    ∙ found_before (model_bars model parts.runs r) (read_of s) parts.history r (read_of s).line (λ x among. live_in_line s x parts is among)
    ∙ ap (λ rs. option_map run_no (find (model_bars model rs r) (live_runs (read_of s) (before r (read_of s).line)))) (sym is.its_roster)
    ∙ by_model model
  where
    none_of : (xs : List ℕ) → find (λ x. false) xs ≡ None
    none_of [] = refl
    none_of (x ∷ xs) = none_of xs

    by_model : (m : Visibility) → option_map run_no (find (model_bars m s.setting.runs r) (live_runs (read_of s) (before r (read_of s).line))) ≡ option_map run_no (strict_wait (under m s.setting) (read_of s) r)
    by_model Weak = ap (option_map run_no) (none_of (live_runs (read_of s) (before r (read_of s).line)))
    by_model Global = refl
    by_model Partitioned = refl
    by_model Eventual = ap (option_map run_no) (none_of (live_runs (read_of s) (before r (read_of s).line)))
