-- A change of each device to which a run has an access, made on one after another: where it has none the change is nothing.
use Rattle.lineage_table.proofs.Keeping.{found_by_value, has_place, nothing_removed}
use Rattle.lineage_table.proofs.RunAccesses.{found_has}
use Rattle.lineage_table.proofs.Standing.{effective_stands}
use Rattle.lineage_table.proofs.Prelude.{Access, Bool, IsDisciplined, IsSome, LineageState, List, None, Option, RunNo, Some, access_of, accesses_at, ap, arith, committed_lineage, common_steps, effective_writer, false, get_or-set_other, get_or-set_same, has_access, is_of, is_some, length, length-set, lineage_at, nat_lt, no_lineage, option_map, position, refl, removed, subst, sym, true, unwrap_or, with_lineage, ℕ, ◌+◌, ◌<◌, ◌==◌, ◌∙◌, ◌≡◌, ◌≢◌, ◌≤◌}

-- the devices below this number are changed, and no other
pub record ChangedUpTo (change : ℕ → LineageState → LineageState) (first now : List LineageState) (from : ℕ) : Type 0 where
  pub devices : length now ≡ length first
  pub exact : (d : ℕ) → d < from → lineage_at now d ≡ change d (lineage_at first d)
  pub others : (d : ℕ) → from ≤ d → lineage_at now d ≡ lineage_at first d

pub changed_none : (change : ℕ → LineageState → LineageState) (table : List LineageState) → ChangedUpTo change table table 0
changed_none change table = record { devices = refl; exact = λ d within. absurd (omega (arith, within)); others = λ d above. refl }

module _ (r : ℕ) (change : ℕ → LineageState → LineageState) (stays : (d : ℕ) (s : LineageState) → has_access r s.accesses ≡ false → change d s ≡ s) (first now : List LineageState) (from : ℕ) (is : ChangedUpTo change first now from) where
  -- a device to which the run has no access counts as changed
  passed : (d : ℕ) → from ≤ d → has_access r (accesses_at now d) ≡ false → lineage_at now d ≡ change d (lineage_at first d)
  passed d above none = sym (stays d (lineage_at now d) none) ∙ ap (change d) (is.others d above)

  -- one device further
  pub changed_more : (d : ℕ) (new : List LineageState) → from ≤ d → d < length now → ((e : ℕ) → from ≤ e → e < d → has_access r (accesses_at now e) ≡ false) → new ≡ with_lineage now d (change d) → ChangedUpTo change first new (d + 1)
  changed_more d new above within none made = record {
    devices = ap (λ (l : List LineageState). length l) made ∙ length-set now d (change d (lineage_at now d)) ∙ is.devices;
    exact = λ e below. exact_at e below (e == d) refl;
    others = λ e behind. elsewhere e (omega (arith, behind)) ∙ is.others e (omega (arith, above, behind));
  }
    where
      elsewhere : (e : ℕ) → e ≢ d → lineage_at new e ≡ lineage_at now e
      elsewhere e other = ap (λ (l : List LineageState). lineage_at l e) made ∙ get_or-set_other now d e (change d (lineage_at now d)) no_lineage other

      here : lineage_at new d ≡ change d (lineage_at now d)
      here = ap (λ (l : List LineageState). lineage_at l d) made ∙ get_or-set_same now d (change d (lineage_at now d)) no_lineage within

      before : (e : ℕ) → e < d → (b : Bool) → nat_lt e from ≡ b → lineage_at now e ≡ change e (lineage_at first e)
      before e below true h = is.exact e (grind (arith, common_steps))
      before e below false h = let reached : from ≤ e = grind (arith, common_steps) in passed e reached (none e reached below)

      exact_at : (e : ℕ) → e < d + 1 → (b : Bool) → (e == d) ≡ b → lineage_at new e ≡ change e (lineage_at first e)
      exact_at e below true h =
          let same : d ≡ e = grind (arith, common_steps) in
          subst (λ k. lineage_at new k ≡ change k (lineage_at first k)) same (here ∙ ap (change d) (is.others d above))
      exact_at e below false h =
          let other : e ≢ d = grind (arith, common_steps) in
          elsewhere e other ∙ before e (omega (arith, below, other)) (nat_lt e from) refl

  -- where it has no access to those that are left each device is changed
  pub changed_all : ((e : ℕ) → from ≤ e → has_access r (accesses_at now e) ≡ false) → (d : ℕ) → lineage_at now d ≡ change d (lineage_at first d)
  changed_all none d = at_ (nat_lt d from) refl
    where
      at_ : (b : Bool) → nat_lt d from ≡ b → lineage_at now d ≡ change d (lineage_at first d)
      at_ true h = is.exact d (grind (arith, common_steps))
      at_ false h = let reached : from ≤ d = grind (arith, common_steps) in passed d reached (none d reached)

-- What is nothing where the run has no access

none_there : {A : Type 0} (o : Option A) → is_some o ≡ false → o ≡ None
none_there None none = refl
none_there (Some x) none = absurd (cc)

pub no_access : (r : ℕ) (xs : List Access) → has_access r xs ≡ false → access_of r xs ≡ None
no_access r xs none = none_there (access_of r xs) (sym (found_has r xs) ∙ none)

pub commits_nothing : (r : ℕ) (s : LineageState) → has_access r s.accesses ≡ false → committed_lineage r s ≡ s
commits_nothing r s none = let absent = no_access r s.accesses none in grind (arith, common_steps, absent)

pub removes_nothing : (r : ℕ) (s : LineageState) → has_access r s.accesses ≡ false → removed r s ≡ s
removes_nothing r s none = sym (nothing_removed s r (none_there (position (is_of r) s.accesses) (sym (has_place r s.accesses) ∙ none)))

-- .. and it has the effective write there neither
pub writes_nothing : (r : ℕ) (xs : List Access) → IsDisciplined xs → has_access r xs ≡ false → unwrap_or (option_map (λ q. q.0 == r) (effective_writer xs)) false ≡ false
writes_nothing r xs disciplined none = at_ (effective_writer xs) refl
  where
    found : (q : RunNo) → effective_writer xs ≡ Some q → has_access q.0 xs ≡ true
    found q writes = found_by_value q.0 xs (subst IsSome (sym (effective_stands 0 q xs disciplined writes)) refl)

    own : (q : RunNo) (b : Bool) → (q.0 == r) ≡ b → effective_writer xs ≡ Some q → b ≡ false
    own q true h writes = let same : q.0 ≡ r = grind (arith, common_steps) in absurd (cc (ap (λ k. has_access k xs) same, found q writes, none))
    own q false h writes = refl

    at_ : (o : Option RunNo) → effective_writer xs ≡ o → unwrap_or (option_map (λ q. q.0 == r) o) false ≡ false
    at_ None writes = refl
    at_ (Some q) writes = own q (q.0 == r) refl writes
