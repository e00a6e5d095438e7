-- The smallest device on which a run has the effective write, found one after another.
use Rattle.abort_rollback.proofs.Prelude.{Bool, Drive, Drop, Finished, IsDisciplined, LineageState, List, None, Option, Some, accesses_at, ap, arith, cond, device_no, effective_writer, false, first_effective, has_access, has_effective_write, length, lineage_at, next_undo, refl, subst, suc, sym, true, undo_on, writes_nothing, zero, ℕ, ◌+◌, ◌<◌, ◌∙◌, ◌≡◌, ◌≤◌}
use Rattle.home_types.specs.declared.numbers.RunNo.{RunNo}
use Rattle.std.proofs.lemmas.Bool.{both_ways, eq-eqb}
use Rattle.std.proofs.lemmas.Grind.{common_steps}
use Rattle.std.specs.List.{range_with_len}
use Rattle.std.specs.Prelude.{find, if◌then◌else◌, option_map, nat_lt, unwrap_or, ◌==◌, ◌≢◌}

-- the number passes, and none of the range before it
first_from : (p : ℕ → Bool) (a n d : ℕ) → a ≤ d → d < a + n → p d ≡ true → ((e : ℕ) → e < d → p e ≡ false) → find p (range_with_len a n) ≡ Some d
first_from p a zero d from within here before = absurd (omega (arith, from, within))
first_from p a (suc n) d from within here before = at (a == d) refl (λ further. first_from p (a + 1) n d (omega (arith, further)) (omega (arith, within)) here before)
  where
    by_first : {b : Bool} → p a ≡ b → find p (range_with_len a (suc n)) ≡ cond b (Some a) (find p (range_with_len (a + 1) n))
    by_first e = ap (λ b. cond b (Some a) (find p (range_with_len (a + 1) n))) e

    at : (b : Bool) → (a == d) ≡ b → (a < d → find p (range_with_len (a + 1) n) ≡ Some d) → find p (range_with_len a (suc n)) ≡ Some d
    at true e rest = let same : a ≡ d = grind (arith, common_steps) in by_first (subst (λ k. p k ≡ true) (sym same) here) ∙ ap (λ k. Some k) same
    at false e rest = let further : a < d = grind (arith, common_steps) in by_first (before a further) ∙ rest further

first_at : (p : ℕ → Bool) (n d : ℕ) → d < n → p d ≡ true → ((e : ℕ) → e < d → p e ≡ false) → find p (range_with_len 0 n) ≡ Some d
first_at p n d within here before = first_from p 0 n d (omega arith) (omega (arith, within)) here before

-- none of the range passes
nowhere_from : (p : ℕ → Bool) (a n : ℕ) → ((e : ℕ) → e < a + n → p e ≡ false) → find p (range_with_len a n) ≡ None
nowhere_from p a zero before = refl
nowhere_from p a (suc n) before = ap (λ b. cond b (Some a) (find p (range_with_len (a + 1) n))) (before a (omega arith)) ∙ nowhere_from p (a + 1) n (λ e within. before e (omega (arith, within)))

first_nowhere : (p : ℕ → Bool) (n : ℕ) → ((e : ℕ) → e < n → p e ≡ false) → find p (range_with_len 0 n) ≡ None
first_nowhere p n before = nowhere_from p 0 n (λ e within. before e (omega (arith, within)))

-- where none of the range passes, no number in it does
none_from : (p : ℕ → Bool) (a n : ℕ) → find p (range_with_len a n) ≡ None → (d : ℕ) → a ≤ d → d < a + n → p d ≡ false
none_from p a zero none d from within = absurd (omega (arith, from, within))
none_from p a (suc n) none d from within = at (p a) refl none (λ rest further. none_from p (a + 1) n rest d (omega (arith, further)) (omega (arith, within)))
  where
    at : (b : Bool) → p a ≡ b → cond b (Some a) (find p (range_with_len (a + 1) n)) ≡ None → (find p (range_with_len (a + 1) n) ≡ None → a < d → p d ≡ false) → p d ≡ false
    at true e h rest = absurd (cc)
    at false e h rest = here (a == d) refl
      where
        here : (b : Bool) → (a == d) ≡ b → p d ≡ false
        here true s = let same : a ≡ d = grind (arith, common_steps) in subst (λ k. p k ≡ false) same e
        here false s = rest h (grind (arith, common_steps))

-- the undo is that on the device, where the run has the effective write there and on none before it
pub undo_here : (table : List LineageState) (r d : ℕ) → d < length table → has_effective_write table r d ≡ true → ((e : ℕ) → e < d → has_effective_write table r e ≡ false) → next_undo table r ≡ undo_on table r d
undo_here table r d within here before = ap (λ o. unwrap_or (option_map (undo_on table r) o) Finished) (first_at (has_effective_write table r) (length table) d within here before)

-- .. and there is none where it has the effective write on no device
pub undo_nowhere : (table : List LineageState) (r : ℕ) → ((e : ℕ) → e < length table → has_effective_write table r e ≡ false) → next_undo table r ≡ Finished
undo_nowhere table r before = ap (λ o. unwrap_or (option_map (undo_on table r) o) Finished) (first_nowhere (has_effective_write table r) (length table) before)

-- a device to which the run has no access is no device on which it has the effective write: none up to the next one
pub not_before : (table : List LineageState) (r from d : ℕ) → ((e : ℕ) → IsDisciplined (accesses_at table e)) → ((e : ℕ) → e < from → has_effective_write table r e ≡ false)
    → ((e : ℕ) → from ≤ e → e < d → has_access r (accesses_at table e) ≡ false) → (e : ℕ) → e < d → has_effective_write table r e ≡ false
not_before table r from d disciplined before none e below = at (nat_lt e from) refl
  where
    at : (b : Bool) → nat_lt e from ≡ b → has_effective_write table r e ≡ false
    at true h = before e (grind (arith, common_steps))
    at false h = let reached : from ≤ e = grind (arith, common_steps) in writes_nothing r (accesses_at table e) (disciplined e) (none e reached below)

-- .. and not on that one either
pub not_through : (table : List LineageState) (r d : ℕ) → ((e : ℕ) → e < d → has_effective_write table r e ≡ false) → has_effective_write table r d ≡ false → (e : ℕ) → e < d + 1 → has_effective_write table r e ≡ false
not_through table r d before here e below = at (e == d) refl
  where
    at : (b : Bool) → (e == d) ≡ b → has_effective_write table r e ≡ false
    at true h = let same : e ≡ d = grind (arith, common_steps) in ap (has_effective_write table r) same ∙ here
    at false h = let other : e ≢ d = grind (arith, common_steps) in before e (omega (arith, below, other))

-- a run with nothing left to undo has the effective write on no device
pub nothing_effective : (table : List LineageState) (r : RunNo) → next_undo table r.0 ≡ Finished → (d : ℕ) → d < length table → effective_writer (accesses_at table d) ≢ Some r
nothing_effective table r finished d within writes = at (first_effective table r.0) refl
  where
    own : has_effective_write table r.0 d ≡ true
    own = ap (λ o. unwrap_or (option_map (λ q. q.0 == r.0) o) false) writes ∙ (eq-eqb r.0 r.0 refl)

    undoes : (b : Bool) (k v : ℕ) → (if b then Drive (device_no k) v else Drop (device_no k)) ≡ Finished → ⊥
    undoes true k v e = cc
    undoes false k v e = cc

    at : (o : Option ℕ) → first_effective table r.0 ≡ o → ⊥
    at None e = both_ways (has_effective_write table r.0 d) (none_from (has_effective_write table r.0) 0 (length table) e d (omega arith) (omega (arith, within))) own
    at (Some k) e = undoes (lineage_at table k).up k _ (ap (λ o. unwrap_or (option_map (undo_on table r.0) o) Finished) (sym e) ∙ finished)
