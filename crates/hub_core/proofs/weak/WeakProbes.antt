-- What is kept of a configuration of the weak model stays so with each probe that goes out.
use Rattle.hub_core.proofs.Prelude.{Bool, Configuration, HoldsNone, None, Probes, Some, after_take_probe, ap, arith, effective_write, eq-eqb, false, fits_with, if◌then◌else◌, may_probe, option_map, point_of, probe_grip, put, read_of, refl, restored, stand_at, standing_value, suc, true, unwrap_or, ℕ, ◌-◌, ◌≡◌}
use Rattle.hub_core.proofs.kept.Kept.{out_with}
use Rattle.hub_core.proofs.kept.ProbesKept.{probe_may, probes_asked}
use Rattle.hub_core.proofs.weak.WeakChanges.{weak_same}
use Rattle.hub_core.specs.WeakKept.{WeakIsKept, goes_weakly}

-- where a device stands is what was written last
pub weak_standing : (s : Configuration) (rounds opened : ℕ) (held : ℕ → ℕ) (d : ℕ) → WeakIsKept s rounds opened held → standing_value (point_of s) d ≡ (read_of s).last d
weak_standing s rounds opened held d kept = ap (λ b. if b then (read_of s).last d else unwrap_or (option_map (λ e. e.value) (effective_write (read_of s) s.grips d)) (stand_at s.setting.first d).value) kept.weak

pub weak_take_probe : (s : Configuration) (rounds opened : ℕ) (held : ℕ → ℕ) (d : ℕ) → WeakIsKept s rounds opened held → WeakIsKept (after_take_probe s d) rounds opened held
weak_take_probe s rounds opened held d kept = elim (may_probe s d) as (λ b. may_probe s d ≡ b → WeakIsKept (if b then record s { probes = put s.probes d (s.probes d - 1); grips = put s.grips d (Some (probe_grip s d)) } else s) rounds opened held) [
  | true ↦ (λ may. weak_same s rounds opened s.moment held (put s.probes d (s.probes d - 1)) (put s.grips d (Some (probe_grip s d))) kept.moment (λ e. omega (arith, probes_asked s d may e, kept.probes e))
      (fits_with s.setting (read_of s) s.grips d 0 (Probes (restored s d)) (probe_may s d may).0 refl no_run kept.grips) (out_with s.grips (goes_weakly (read_of s)) d (probe_grip s d) (by_up ((read_of s).up d) refl) kept.out) kept)
  | false ↦ (λ none. kept)
] refl
  where
    no_run : (q : ℕ) → ◌≡◌ {A = ℕ} 0 (suc q) → HoldsNone s.grips 0
    no_run q e = absurd (cc)

    by_up : (b : Bool) → (read_of s).up d ≡ b → goes_weakly (read_of s) d (record { maker = 0; purpose = Probes (if b then None else Some (standing_value (point_of s) d)) }) ≡ true
    by_up true up = up
    by_up false down = rw (down, eq-eqb (standing_value (point_of s) d) ((read_of s).last d) (weak_standing s rounds opened held d kept)) refl
