-- No run is waited for that stands before the first one which has not ended.
use Rattle.visibility_models.proofs.Prelude.{Back, Bool, End, Failed, InOrder, Item, Kept, List, Mark, MayAskOfModel, None, OfRun, Option, Ran, Reading, RunNo, Some, Visibility, Weakly, WindowParts, [], ap, arith, common_steps, drop, end_is, end_of, eqb-true, false, first_unended_before, front_of, has_ended, if◌then◌else◌, is_none, is_open_run, is_some, is_strict_model, items_of, not, of_run, option_or, read_of, refl, suc, sym, true, unended_run, ℕ, ◌&&◌, ◌+◌, ◌==◌, ◌∙◌, ◌∷◌, ◌≡◌}
use Rattle.serial_line.specs.Ties.{Each, EndsAs}

-- an item that is no run which has not ended is not r, which has not, and is not waited for
passed : (test : ℕ → Bool) (n : Reading) (history : List Kept) (r : ℕ) (m : Mark) (items : List Item) → ((x : ℕ) → end_of history x ≡ (n.run x).ended) → has_ended n r ≡ false → EndsAs (has_ended n) m → is_open_run m ≡ false
    → first_unended_before test history r (m.item ∷ items) ≡ first_unended_before test history r items
passed test n history r m items told lives as_told closed = by_item m.item m.ended as_told closed
  where
    ended : (x : RunNo) (b : Bool) → b ≡ has_ended n x.0 → not b ≡ false → has_ended n x.0 ≡ true
    ended x b e h = grind (arith, common_steps)

    past : (o : Option End) → is_some o ≡ true → is_none o ≡ false
    past o e = grind (arith, common_steps)

    by_run : (x : RunNo) (b : Bool) → (x.0 == r) ≡ b → has_ended n x.0 ≡ true → (if b then None else option_or (unended_run test history (Ran x)) (first_unended_before test history r items)) ≡ first_unended_before test history r items
    by_run x true own over = absurd (cc (sym over ∙ ap (has_ended n) (eqb-true x.0 r own) ∙ lives))
    by_run x false other over = (λ i. option_or (if past (end_of history x.0) (ap is_some (told x.0) ∙ over) i && test x.0 then Some x else None) (first_unended_before test history r items))

    by_item : (i : Item) (b : Bool) → b ≡ of_run (has_ended n) i → of_run (λ q. not b) i ≡ false → first_unended_before test history r (i ∷ items) ≡ first_unended_before test history r items
    by_item (Ran x) b e h = by_run x (x.0 == r) refl (ended x b e h)
    by_item (Failed d k) b e h = refl
    by_item (Back d k) b e h = refl

from_front : (test : ℕ → Bool) (n : Reading) (history : List Kept) (r : ℕ) (marks : List Mark) → ((x : ℕ) → end_of history x ≡ (n.run x).ended) → has_ended n r ≡ false → Each (EndsAs (has_ended n)) marks
    → first_unended_before test history r (items_of marks) ≡ first_unended_before test history r (drop (front_of marks) (items_of marks))
from_front test n history r [] told lives all = refl
from_front test n history r (m ∷ marks) told lives all = by_cases (is_open_run m) (passed test n history r m (items_of marks) told lives all.0) (from_front test n history r marks told lives all.1) refl
  where
    by_cases : (b : Bool)
        → (is_open_run m ≡ false → first_unended_before test history r (m.item ∷ items_of marks) ≡ first_unended_before test history r (items_of marks))
        → first_unended_before test history r (items_of marks) ≡ first_unended_before test history r (drop (front_of marks) (items_of marks))
        → is_open_run m ≡ b
        → first_unended_before test history r (m.item ∷ items_of marks) ≡ first_unended_before test history r (drop (if b then 0 else front_of marks + 1) (m.item ∷ items_of marks))
    by_cases true pass rest e = refl
    by_cases false pass rest e =
        let next : front_of marks + 1 ≡ suc (front_of marks) = omega arith in
        pass e ∙ rest ∙ ap (λ k. first_unended_before test history r (drop k (m.item ∷ items_of marks))) (sym next)

-- where a strict model may be asked about the run, the search for the one that it waits for may begin there
pub waits_from_front : (test : ℕ → Bool) (model : Visibility) (parts : WindowParts) (r : ℕ) → MayAskOfModel model parts r → is_strict_model model ≡ true
    → first_unended_before test parts.history r (items_of parts.line) ≡ first_unended_before test parts.history r (drop (front_of parts.line) (items_of parts.line))
waits_from_front test model parts r (InOrder s is turn) strict =
    from_front test (read_of s) parts.history r parts.line (λ x. ap (λ h. end_of h x) (sym is.its_history) ∙ end_is s.setting s.history x is.well_formed) (unended ((read_of s).run r) turn.live) is.its_line.ends
  where
    unended : (o : OfRun) → (is_some o.placed && is_none o.ended) ≡ true → is_some o.ended ≡ false
    unended o live = grind (arith, common_steps)
waits_from_front test model parts r (Weakly s is turn weak) strict = absurd (cc (sym strict ∙ ap is_strict_model weak))
