-- A table stays one when the lineage of a device changes.
use Rattle.lineage_table.proofs.Prelude.{Bool, IsDisciplined, IsTable, LineageState, List, accesses_at, eqb-false, eqb-true, false, get_or, get_or-set_other, get_or-set_same, length, length-set, most_devices, no_lineage, refl, set, subst, sym, true, ℕ, ◌<◌, ◌==◌, ◌∙◌, ◌≡◌, ◌≤◌}

-- the lineage that is there afterwards keeps its accesses in turn, as each lineage does
pub table_set : (table now : List LineageState) (d : ℕ) (s x : LineageState) → IsTable table → table ≡ now → d < length now → x ≡ get_or (set table d s) d x → IsDisciplined x.accesses → IsTable (set table d s)
table_set table now d s x is same below there turns = record {
  few = subst (λ k. k ≤ most_devices) (sym (length-set table d s)) is.few;
  turns = λ e. at_ e (e == d) refl;
}
  where
    inside : d < length table
    inside = subst (λ (l : List LineageState). d < length l) (sym same) below

    own : x ≡ s
    own = there ∙ get_or-set_same table d s x inside

    here : IsDisciplined (accesses_at (set table d s) d)
    here = subst (λ (y : LineageState). IsDisciplined y.accesses) (own ∙ sym (get_or-set_same table d s no_lineage inside)) turns

    at_ : (e : ℕ) (b : Bool) → (e == d) ≡ b → IsDisciplined (accesses_at (set table d s) e)
    at_ e true h = subst (λ k. IsDisciplined (accesses_at (set table d s) k)) (sym (eqb-true e d h)) here
    at_ e false h = subst (λ (y : LineageState). IsDisciplined y.accesses) (sym (get_or-set_other table d e s no_lineage (eqb-false e d h))) (is.turns e)
