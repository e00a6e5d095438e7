-- What is kept of a configuration in each model, from what is kept by its own.
use Rattle.hub_core.proofs.Prelude.{Bool, Configuration, ConfigurationIsKept, Grip, IsKeptByModel, IsRead, IsTrue, MayOpen, None, Option, Probes, Setting, Some, Told, Undoes, after_give, after_take, after_take_probe, arith, asked_up, at_moment, common_steps, entries_of, false, has_died, has_value, is_device, is_none, is_weak, kind_at, length, ltb-true, max, not, opened, point_of, put, read_facts, read_of, refl, restored_down, stand_at, standing_value, stands_home, subst, sym, true, ℕ, ◌&&◌, ◌<◌, ◌==◌, ◌∙◌, ◌≡◌, ◌≤◌}
use Rattle.hub_core.proofs.kept.Kept.{kept_at, starts, take_kept}
use Rattle.hub_core.proofs.kept.ProbesKept.{take_probe_kept}
use Rattle.hub_core.proofs.kept.ReturnsKept.{Brings, give_kept}
use Rattle.hub_core.proofs.weak.WeakChanges.{weak_same}
use Rattle.hub_core.proofs.weak.WeakClosings.{weak_justified}
use Rattle.hub_core.proofs.weak.WeakTakes.{weak_opened, weak_take}
use Rattle.hub_core.proofs.weak.WeakGives.{weak_give}
use Rattle.hub_core.proofs.weak.WeakProbes.{weak_standing, weak_take_probe}
use Rattle.hub_core.specs.WeakKept.{WeakIsKept}

-- From the one and the other

pub in_order : (s : Configuration) (rounds opened : ℕ) (held : ℕ → ℕ) → ConfigurationIsKept s rounds opened held → IsKeptByModel s rounds opened held
in_order s rounds opened held kept = record {
  opens = kept.opens;
  kinds = kept.kinds;
  probes = kept.probes;
  values = kept.values;
  history = record { well_formed = kept.history.well_formed; moment = kept.history.moment; justified = kept.history.justified };
  grips = kept.order.grips;
  ordered = λ strong. kept;
  weakly = λ weak. absurd (let both : true ≡ false = sym weak ∙ kept.strong in cc);
}

pub in_no_order : (s : Configuration) (rounds opened : ℕ) (held : ℕ → ℕ) → WeakIsKept s rounds opened held → IsKeptByModel s rounds opened held
in_no_order s rounds opened held kept = record {
  opens = kept.opens;
  kinds = kept.kinds;
  probes = kept.probes;
  values = kept.values;
  history = record { well_formed = kept.well_formed; moment = kept.moment; justified = weak_justified s rounds opened held kept };
  grips = kept.grips;
  ordered = λ strong. absurd (let both : true ≡ false = sym kept.weak ∙ strong in cc);
  weakly = λ weak. kept;
}

-- what follows from either
pub by_model : (P : Type 0) (s : Configuration) (rounds opened : ℕ) (held : ℕ → ℕ) → IsKeptByModel s rounds opened held → (ConfigurationIsKept s rounds opened held → P) → (WeakIsKept s rounds opened held → P) → P
by_model P s rounds opened held kept strongly weakly' = elim (is_weak s.setting.mode) as (λ b. is_weak s.setting.mode ≡ b → P) [
  | true ↦ (λ weak. weakly' (kept.weakly weak))
  | false ↦ (λ strong. strongly (kept.ordered strong))
] refl

-- what is read
pub read_kept : (s : Configuration) (rounds opened : ℕ) (held : ℕ → ℕ) → IsKeptByModel s rounds opened held → IsRead s.setting (read_of s)
read_kept s rounds opened held kept = read_facts s.setting (entries_of s.history) kept.history.well_formed

-- The steps

pub starts_kept : (w : Setting) (rounds opened' : ℕ) → MayOpen w rounds opened' → length w.kinds ≡ length w.first → ((d : ℕ) → d < length w.first → IsTrue (has_value (kind_at w.kinds d) (stand_at w.first d).value))
    → IsKeptByModel (opened w rounds) rounds opened' (λ d. (stand_at w.first d).value)
starts_kept w rounds opened' opens kinds values = elim (is_weak w.mode) as (λ b. is_weak w.mode ≡ b → IsKeptByModel (opened w rounds) rounds opened' (λ d. (stand_at w.first d).value)) [
  | true ↦ (λ weak. in_no_order (opened w rounds) rounds opened' _ (weak_opened w rounds opened' opens weak kinds values))
  | false ↦ (λ strong. in_order (opened w rounds) rounds opened' _ (starts w rounds opened' opens strong kinds values))
] refl

-- the moment alone
pub later_kept : (s : Configuration) (rounds opened m : ℕ) (held : ℕ → ℕ) → IsKeptByModel s rounds opened held → IsKeptByModel (at_moment s m) rounds opened held
later_kept s rounds opened m held kept = by_model (IsKeptByModel (at_moment s m) rounds opened held) s rounds opened held kept
    (λ c. in_order (at_moment s m) rounds opened held (kept_at s rounds opened m held c))
    (λ c. in_no_order (at_moment s m) rounds opened held (weak_same s rounds opened (max s.moment m) held s.probes s.grips (let most : (read_of s).moment ≤ s.moment = c.moment in omega (arith, most)) c.probes c.grips c.out c))

pub taken_kept : (s : Configuration) (rounds opened : ℕ) (held : ℕ → ℕ) (r m : ℕ) → IsKeptByModel s rounds opened held → IsKeptByModel (after_take s r m) rounds opened held
taken_kept s rounds opened held r m kept = by_model (IsKeptByModel (after_take s r m) rounds opened held) s rounds opened held kept
    (λ c. in_order (after_take s r m) rounds opened held (take_kept s rounds opened held r m c))
    (λ c. in_no_order (after_take s r m) rounds opened held (weak_take s rounds opened held r m c))

-- a device comes home, from a run or from the detector, at this moment
pub given_kept : (s : Configuration) (rounds opened : ℕ) (held : ℕ → ℕ) (d t v : ℕ) (grip : Grip) (told : Told) → s.grips d ≡ Some grip → Brings s held d v grip told → (has_died told ≡ true → v ≡ held d) → IsTrue (has_value (kind_at s.setting.kinds d) v) → s.moment ≤ t
    → IsKeptByModel s rounds opened held → IsKeptByModel (after_give (record s { moment = t }) d grip told) rounds opened (put held d v)
given_kept s rounds opened held d t v grip told out brings died value later kept = by_model (IsKeptByModel (after_give (record s { moment = t }) d grip told) rounds opened (put held d v)) s rounds opened held kept
    (λ c. in_order (after_give (record s { moment = t }) d grip told) rounds opened (put held d v) (give_kept s rounds opened held d t v grip told out brings value read_before c))
    (λ c. in_no_order (after_give (record s { moment = t }) d grip told) rounds opened (put held d v) (weak_give s rounds opened held d t v grip told out brings died value read_before c))
  where
    read_before : (read_of s).moment ≤ t
    read_before = let before' : (read_of s).moment ≤ s.moment = kept.history.moment in omega (arith, before', later)

pub probe_taken_kept : (s : Configuration) (rounds opened : ℕ) (held : ℕ → ℕ) (d : ℕ) → IsKeptByModel s rounds opened held → IsKeptByModel (after_take_probe s d) rounds opened held
probe_taken_kept s rounds opened held d kept = by_model (IsKeptByModel (after_take_probe s d) rounds opened held) s rounds opened held kept
    (λ c. in_order (after_take_probe s d) rounds opened held (take_probe_kept s rounds opened held d c))
    (λ c. in_no_order (after_take_probe s d) rounds opened held (weak_take_probe s rounds opened held d c))

-- Where devices stand

-- a device that is home, and counted up, is known to stand at its standing value
pub stands_at_home : (s : Configuration) (rounds opened : ℕ) (held : ℕ → ℕ) (d : ℕ) → IsKeptByModel s rounds opened held → is_device s.setting d ≡ true → s.grips d ≡ None → (read_of s).up d ≡ true → held d ≡ standing_value (point_of s) d
stands_at_home s rounds opened held d kept device home up = by_model (held d ≡ standing_value (point_of s) d) s rounds opened held kept
    (λ c. stands_home s.setting (read_of s) s.grips held d (read_kept s rounds opened held kept) c.order c.strong device home up)
    (λ c. c.held_is d (ltb-true d (length s.setting.first) device) ∙ sym (weak_standing s rounds opened held d c))

-- What is out

-- no undo under the weak model
pub undo_ordered : (s : Configuration) (rounds opened : ℕ) (held : ℕ → ℕ) (d r v : ℕ) → s.grips d ≡ Some (record { maker = r; purpose = Undoes v }) → IsKeptByModel s rounds opened held → is_weak s.setting.mode ≡ false
undo_ordered s rounds opened held d r v out kept = by_model (is_weak s.setting.mode ≡ false) s rounds opened held kept (λ c. c.strong) (λ c. absurd (let none : false ≡ true = c.out d (record { maker = r; purpose = Undoes v }) out in cc))

-- a probe says how its device is counted ..
pub probe_counted : (s : Configuration) (rounds opened : ℕ) (held : ℕ → ℕ) (d m : ℕ) (v : Option ℕ) → s.grips d ≡ Some (record { maker = m; purpose = Probes v }) → IsKeptByModel s rounds opened held → (read_of s).up d ≡ is_none v
probe_counted s rounds opened held d m None out kept = by_model ((read_of s).up d ≡ true) s rounds opened held kept
    (λ c. asked_up s.setting (read_of s) s.grips held d m out c.order)
    (λ c. c.out d (record { maker = m; purpose = Probes None }) out)
probe_counted s rounds opened held d m (Some u) out kept = by_model ((read_of s).up d ≡ false) s rounds opened held kept
    (λ c. restored_down s.setting (read_of s) s.grips held d m u out c.order)
    (λ c. first ((read_of s).up d) (u == (read_of s).last d) (c.out d (record { maker = m; purpose = Probes (Some u) }) out))
  where
    first : (a b : Bool) → (not a && b) ≡ true → a ≡ false
    first a b h = grind (arith, common_steps)

-- .. and restores a value of its kind
pub restored_fits : (s : Configuration) (rounds opened : ℕ) (held : ℕ → ℕ) (d m u : ℕ) → s.grips d ≡ Some (record { maker = m; purpose = Probes (Some u) })
    → d < length s.setting.first → IsTrue (has_value (kind_at s.setting.kinds d) (held d)) → IsKeptByModel s rounds opened held
    → IsTrue (has_value (kind_at s.setting.kinds d) u)
restored_fits s rounds opened held d m u out below fits kept = by_model (IsTrue (has_value (kind_at s.setting.kinds d) u)) s rounds opened held kept
    (λ c. c.undos d (record { maker = m; purpose = Probes (Some u) }) out)
    (λ c. subst (λ x. IsTrue (has_value (kind_at s.setting.kinds d) x)) (c.held_is d below ∙ sym (second ((read_of s).up d) u ((read_of s).last d) (c.out d (record { maker = m; purpose = Probes (Some u) }) out))) fits)
  where
    second : (a : Bool) (x y : ℕ) → (not a && (x == y)) ≡ true → x ≡ y
    second a x y h = grind (arith, common_steps)
