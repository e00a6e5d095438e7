-- The first denial, found by a walk from one device of a run to its next one.
use Rattle.jit_scheduler.proofs.Prelude.{Bool, None, RunNo, Some, WindowParts, accesses_at, ap, arith, denial_on, denier, device_no, false, first_denial, if◌then◌else◌, length, option_map, refl, sym, touches, true, ℕ, ◌+◌, ◌<◌, ◌∙◌, ◌≡◌, ◌≤◌}
use Rattle.home_types.specs.declared.numbers.DeviceNo.{DeviceNo}
use Rattle.jit_scheduler.proofs.Searches.{first_at, first_nowhere, none_before, none_through}
use Rattle.jit_scheduler.specs.declared.denials.Denial.{Denial}

abbrev by_run : DeviceNo → RunNo → Denial
by_run d x = record { device = d; run = x }

module _ (parts : WindowParts) (r place : ℕ) where
  abbrev Passed : ℕ → Type 0
  Passed from = (e : ℕ) → e < from → denial_on parts r place e ≡ None

  untouched : (e : ℕ) → touches parts.runs r e ≡ false → denial_on parts r place e ≡ None
  untouched e off = ap (λ b. if b then option_map (λ x. by_run (device_no e) x) (denier parts.line parts.history parts.runs r place e (accesses_at parts.table e)) else None) off

  denied : (d : DeviceNo) (x : RunNo) → touches parts.runs r d.0 ≡ true → Some x ≡ denier parts.line parts.history parts.runs r place d.0 (accesses_at parts.table d.0) → denial_on parts r place d.0 ≡ Some (by_run d x)
  denied d x on by =
      ap (λ b. if b then option_map (λ y. by_run (device_no d.0) y) (denier parts.line parts.history parts.runs r place d.0 (accesses_at parts.table d.0)) else None) on
      ∙ ap (option_map (λ y. by_run (device_no d.0) y)) (sym by)

  free : (d : ℕ) → None ≡ denier parts.line parts.history parts.runs r place d (accesses_at parts.table d) → denial_on parts r place d ≡ None
  free d none = ap (λ o. if touches parts.runs r d then option_map (λ y. by_run (device_no d) y) o else None) (sym none) ∙ at (touches parts.runs r d)
    where
      at : (b : Bool) → (if b then option_map (λ y. by_run (device_no d) y) None else None) ≡ None
      at true = refl
      at false = refl

  -- a device that is denied, and none before it
  pub first_one : (from : ℕ) (d : DeviceNo) (x : RunNo) → d.0 < length parts.table → touches parts.runs r d.0 ≡ true → Some x ≡ denier parts.line parts.history parts.runs r place d.0 (accesses_at parts.table d.0) → Passed from
      → ((e : ℕ) → from ≤ e → e < d.0 → touches parts.runs r e ≡ false) → Some (record { device = d; run = x }) ≡ first_denial parts r place
  first_one from d x within on by passed between =
      sym (first_at (denial_on parts r place) (length parts.table) d.0 (by_run d x) within (denied d x on by) (none_before (denial_on parts r place) (touches parts.runs r) from d.0 untouched passed between))

  -- one that is not denied either
  pub passed_one : (from : ℕ) (d : DeviceNo) → None ≡ denier parts.line parts.history parts.runs r place d.0 (accesses_at parts.table d.0) → Passed from → ((e : ℕ) → from ≤ e → e < d.0 → touches parts.runs r e ≡ false) → Passed (d.0 + 1)
  passed_one from d none passed between =
      none_through (denial_on parts r place) d.0 (none_before (denial_on parts r place) (touches parts.runs r) from d.0 untouched passed between) (free d.0 none)

  -- no device is left
  pub none_left : (from : ℕ) → Passed from → ((e : ℕ) → from ≤ e → touches parts.runs r e ≡ false) → None ≡ first_denial parts r place
  none_left from passed left =
      sym (first_nowhere (denial_on parts r place) (length parts.table) (λ e within. none_before (denial_on parts r place) (touches parts.runs r) from (e + 1) untouched passed (λ k reached below. left k reached) e (omega arith)))
