-- How a run of calls of a disk goes on.
use Rattle.slot_disks.proofs.Prelude.{LeavesOnly, List, arith, inl, inr, ℕ, ⊎_elim}

module _ {D : Type 0} (moment : D → ℕ) (since : D → ℕ → List ℕ → Type 0) where
  -- two runs, one after the other
  pub then_on : (old mid new : D) (P : List ℕ → Type 0) → LeavesOnly moment since old mid P → LeavesOnly moment since mid new P → LeavesOnly moment since old new P
  then_on old mid new P first second = record {
    later = omega (arith, first.later, second.later);
    each = λ c left. ⊎_elim (first.each c) (λ p. p) (second.before (moment old) c first.later left);
    before = λ t c le left. ⊎_elim (first.before t c le) (λ p. inr p) (second.before t c (omega (arith, le, first.later)) left);
  }

  -- what has P has R
  pub weaker : (old new : D) (P R : List ℕ → Type 0) → ((c : List ℕ) → P c → R c) → LeavesOnly moment since old new P → LeavesOnly moment since old new R
  weaker old new P R to run = record { later = run.later; each = λ c left. to c (run.each c left); before = λ t c le left. ⊎_elim (λ was. inl was) (λ p. inr (to c p)) (run.before t c le left) }
