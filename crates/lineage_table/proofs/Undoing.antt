-- An undo, and what was written: its value no longer counts, as if the run had no access.
use Rattle.lineage_table.proofs.Prelude.{Access, AreOfTwoRuns, Bool, IsDisciplined, List, None, Option, RunNo, Some, [], accesses_without, ap, effective_writer, false, fold, if◌then◌else◌, is_of, is_some, not, refl, sym, true, with_change, ℕ, ◌∙◌, ◌∷◌, ◌≡◌}
use Rattle.lineage_table.proofs.Keeping.{none_behind}
use Rattle.lineage_table.proofs.Pairs.{Pairs, pairs_from_all}
use Rattle.lineage_table.proofs.Splits.{without_none}

-- what goes by written values alone goes by the undone list as by the list without the run
pub passes_undone : {B : Type 0} (g : B → Access → B) → ((b : B) (x : Access) → x.wrote ≡ None → g b x ≡ b) → (r : ℕ) (b : B) (xs : List Access) → Pairs AreOfTwoRuns xs
    → fold g b (with_change r (λ x. record x { wrote = None }) xs) ≡ fold g b (accesses_without r xs)
unfolding Pairs
passes_undone g quiet r b [] k = refl
passes_undone g quiet r b (x ∷ xs) k = at (is_of r x) refl (passes_undone g quiet r (g b x) xs k.1)
  where
    undo : Access → Access
    undo y = record y { wrote = None }

    at : (t : Bool) → is_of r x ≡ t → fold g (g b x) (with_change r undo xs) ≡ fold g (g b x) (accesses_without r xs)
        → fold g b (if t then (undo x ∷ xs) else (x ∷ with_change r undo xs)) ≡ fold g b (if not t then (x ∷ accesses_without r xs) else accesses_without r xs)
    at true own h = ap (λ u. fold g u xs) (quiet b (undo x) refl) ∙ ap (fold g b) (sym (without_none r xs (none_behind r x xs own k.0)))
    at false own h = h

-- .. and so is the effective writer
pub undone_writer : (r : ℕ) (xs : List Access) → IsDisciplined xs → effective_writer (with_change r (λ x. record x { wrote = None }) xs) ≡ effective_writer (accesses_without r xs)
undone_writer r xs k = passes_undone (λ writer x. if is_some x.wrote then Some x.run else writer) quiet r None xs (pairs_from_all AreOfTwoRuns xs k.one_each)
  where
    quiet : (writer : Option RunNo) (x : Access) → x.wrote ≡ None → (if is_some x.wrote then Some x.run else writer) ≡ writer
    quiet writer x e = ap (λ o. if is_some o then Some x.run else writer) e
