-- Live runs, and runs with an effective write.
use Rattle.lock_leasing.proofs.Prelude.{Back, Each, Failed, Grips, Item, List, None, Option, Ran, Reading, Some, Write, [], arith, common_steps, cons_option, effective_write, false, fold, has_effect, has_written, if◌then◌else◌, is_live, is_undone, live_runs, map_some, option_map, option_or, refl, subst, true, unwrap_or, write_of, ℕ, ◌==◌, ◌∷◌, ◌≡◌}

-- the live runs of a list are live
pub live_runs_live : (n : Reading) (items : List Item) → Each (λ x. is_live n x ≡ true) (live_runs n items)
live_runs_live n [] = tt
live_runs_live n (Ran r ∷ items) = elim (is_live n r.0) as (λ b. is_live n r.0 ≡ b → Each (λ x. is_live n x ≡ true) (cons_option (if b then Some r.0 else None) (live_runs n items))) [
  | true ↦ (λ e. (e, live_runs_live n items))
  | false ↦ (λ e. live_runs_live n items)
] refl
live_runs_live n (Failed d k ∷ items) = live_runs_live n items
live_runs_live n (Back d k ∷ items) = live_runs_live n items

-- what holds of each value that an item gives holds of the last one
pub last_some_of : {A B : Type 0} (P : B → Type 0) (f : A → Option B) → ((x : A) (y : B) → f x ≡ Some y → P y) → (xs : List A) (best : Option B) → ((y : B) → best ≡ Some y → P y) → (y : B) → fold (λ o x. option_or (f x) o) best xs ≡ Some y → P y
last_some_of {B = B} P f each [] best from y e = from y e
last_some_of {B = B} P f each (x ∷ xs) best from y e = last_some_of P f each xs (option_or (f x) best) (λ z at. either (f x) (each x) from z at) y e
  where
    either : (o : Option B) → ((z : B) → o ≡ Some z → P z) → ((z : B) → best ≡ Some z → P z) → (z : B) → option_or o best ≡ Some z → P z
    either None here else' z at = else' z at
    either (Some u) here else' z at = here z at

abbrev HasWrite : Reading → Grips → ℕ → Write → Type 0
HasWrite n g d e = (has_written n e.run d ≡ true) × (is_undone n g e.run d ≡ false)

write_is : (n : Reading) (g : Grips) (d : ℕ) (i : Item) (e : Write) → write_of n g d i ≡ Some e → HasWrite n g d e
write_is n g d (Failed k j) e at = absurd (cc)
write_is n g d (Back k j) e at = absurd (cc)
write_is n g d (Ran r) e at = elim (is_undone n g r.0 d) as (λ b. is_undone n g r.0 d ≡ b → (if b then None else option_map (λ v. record { run = r.0; value = v }) ((n.run r.0).on d).wrote) ≡ Some e → HasWrite n g d e) [
  | true ↦ (λ u f. absurd (cc))
  | false ↦ (λ u f. let found = map_some (λ v. record { run = r.0; value = v }) ((n.run r.0).on d).wrote e f in subst (HasWrite n g d) found.2 (rw found.1 refl, u))
] refl at

-- a run with the effective write has written the device, and is not undone there
pub effect_is : (n : Reading) (g : Grips) (r d : ℕ) → has_effect n g r d ≡ true → (has_written n r d ≡ true) × (is_undone n g r d ≡ false)
effect_is n g r d has = from_write (effective_write n g d) (λ e at. last_some_of (HasWrite n g d) (write_of n g d) (write_is n g d) n.line None (λ y none. absurd (cc)) e at) has
  where
    from_write : (o : Option Write) → ((e : Write) → o ≡ Some e → HasWrite n g d e) → unwrap_or (option_map (λ x. x == r) (option_map (λ e. e.run) o)) false ≡ true → (has_written n r d ≡ true) × (is_undone n g r d ≡ false)
    from_write None each is = absurd (cc)
    from_write (Some e) each is = let same : e.run ≡ r = grind (arith, common_steps) in subst (λ x. (has_written n x d ≡ true) × (is_undone n g x d ≡ false)) same (each e refl)
