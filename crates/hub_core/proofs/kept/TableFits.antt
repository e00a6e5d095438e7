-- A table stays that of its window, by the model, with what each step makes of it.
use Rattle.hub_core.proofs.Prelude.{Bool, ChangesEach, DeviceNo, Grips, IsRead, LineageIsBare, LineageState, List, Option, Point, Reading, Setting, TableFits, TableIsKept, [], accesses_at, ap, committed_lineage, doomed_lineage, doomed_unless, false, has_access, if◌then◌else◌, is_named_device, is_weak, length, lineage_at, point, refl, removed, subst, sym, true, undone, undone_change, ℕ, ◌<◌, ◌==◌, ◌∙◌, ◌≡◌}
use Rattle.hub_core.proofs.kept.EventsTold.{none_of_detector}

-- Bare lineages

-- the change puts no access into a lineage that has none, and counts the device as before
pub record KeepsBare (change : LineageState → LineageState) : Type 0 where
  pub none : (s : LineageState) → (change (record s { accesses = [] })).accesses ≡ []
  pub up : (s : LineageState) → (change (record s { accesses = [] })).up ≡ s.up

pub stays_bare : (n m : Reading) (d : ℕ) (change : LineageState → LineageState) (s t : LineageState) → KeepsBare change → t ≡ change s → m.up d ≡ n.up d → LineageIsBare n d s → LineageIsBare m d t
stays_bare n m d change s t keeps is counted bare = record {
  accesses = subst (λ x. x.accesses ≡ []) (sym is) (subst (λ xs. (change (record s { accesses = xs })).accesses ≡ []) (sym bare.accesses) (keeps.none s));
  up = subst (λ x. x.up ≡ m.up d) (sym is) (subst (λ xs. (change (record s { accesses = xs })).up ≡ m.up d) (sym bare.accesses) (keeps.up s ∙ bare.up ∙ sym counted));
}

pub committed_bare : (r : ℕ) → KeepsBare (committed_lineage r)
committed_bare r = record { none = λ s. refl; up = λ s. refl }

pub removed_bare : (r : ℕ) → KeepsBare (removed r)
removed_bare r = record { none = λ s. refl; up = λ s. refl }

pub undone_bare : (r : ℕ) → KeepsBare (undone r)
undone_bare r = record { none = λ s. refl; up = λ s. refl }

pub doomed_bare : (r : ℕ) → KeepsBare (doomed_lineage r)
doomed_bare r = record { none = λ s. refl; up = λ s. refl }

pub unless_bare : (out : Option DeviceNo) (r d : ℕ) → KeepsBare (doomed_unless out r d)
unless_bare out r d = by_test (is_named_device out d)
  where
    by_test : (b : Bool) → KeepsBare (λ s. if b then s else doomed_lineage r s)
    by_test true = record { none = λ s. refl; up = λ s. refl }
    by_test false = doomed_bare r

pub undone_change_bare : (r d e : ℕ) → KeepsBare (undone_change r d e)
undone_change_bare r d e = by_test (e == d)
  where
    by_test : (b : Bool) → KeepsBare (λ s. if b then undone r s else s)
    by_test true = undone_bare r
    by_test false = record { none = λ s. refl; up = λ s. refl }

-- The table by its model

-- what follows under the weak model, and under each other one
pub either_model : (P : Type 0) (w : Setting) → (is_weak w.mode ≡ true → P) → (is_weak w.mode ≡ false → P) → P
either_model P w weakly strongly = elim (is_weak w.mode) as (λ b. is_weak w.mode ≡ b → P) [
  | true ↦ weakly
  | false ↦ strongly
] refl

-- a table that stays, under the weak model
pub fits_weakly : (w : Setting) (n m : Reading) (g f : Grips) (table : List LineageState) → is_weak w.mode ≡ true → ((d : ℕ) → m.up d ≡ n.up d) → TableFits (point w n g) table → TableFits (point w m f) table
fits_weakly w n m g f table weak counted fits = record {
  devices = fits.devices;
  ordered = λ strong. absurd (let both : true ≡ false = sym weak ∙ strong in cc);
  weakly = λ e d below. let bare = fits.weakly e d below in record { accesses = bare.accesses; up = bare.up ∙ sym (counted d) };
}

-- where the model has an order
pub fits_ordered : (p : Point) (table : List LineageState) → is_weak p.setting.mode ≡ false → TableIsKept p table → TableFits p table
fits_ordered p table strong kept = record {
  devices = kept.devices;
  ordered = λ e. kept;
  weakly = λ weak. absurd (let both : true ≡ false = sym weak ∙ strong in cc);
}

-- a table that stays
pub fits_still : (w : Setting) (n m : Reading) (g f : Grips) (table : List LineageState) → ((d : ℕ) → m.up d ≡ n.up d) → (TableIsKept (point w n g) table → TableIsKept (point w m f) table) → TableFits (point w n g) table → TableFits (point w m f) table
fits_still w n m g f table counted kept fits = record {
  devices = fits.devices;
  ordered = λ strong. kept (fits.ordered strong);
  weakly = λ weak d below. let bare = fits.weakly weak d below in record { accesses = bare.accesses; up = bare.up ∙ sym (counted d) };
}

-- .. and one that is changed
pub fits_changed : (w : Setting) (n m : Reading) (g f : Grips) (change : ℕ → LineageState → LineageState) (old new : List LineageState)
    → ((d : ℕ) → m.up d ≡ n.up d) → ((d : ℕ) → KeepsBare (change d)) → ChangesEach change old new → (TableIsKept (point w n g) old → TableIsKept (point w m f) new)
    → TableFits (point w n g) old → TableFits (point w m f) new
fits_changed w n m g f change old new counted keeps changes kept fits = record {
  devices = changes.devices ∙ fits.devices;
  ordered = λ strong. kept (fits.ordered strong);
  weakly = λ weak d below. stays_bare n m d (change d) (lineage_at old d) (lineage_at new d) (keeps d) (changes.each d (subst (λ x. d < x) (sym fits.devices) below)) (counted d) (fits.weakly weak d below);
}

-- .. in how its devices are counted
pub fits_turned : (w : Setting) (n m : Reading) (g f : Grips) (change : ℕ → LineageState → LineageState) (old new : List LineageState)
    → ((d : ℕ) (s : LineageState) → LineageIsBare n d s → LineageIsBare m d (change d s)) → ChangesEach change old new
    → (TableIsKept (point w n g) old → TableIsKept (point w m f) new) → TableFits (point w n g) old → TableFits (point w m f) new
fits_turned w n m g f change old new turns changes kept fits = record {
  devices = changes.devices ∙ fits.devices;
  ordered = λ strong. kept (fits.ordered strong);
  weakly = λ weak d below. subst (LineageIsBare m d) (sym (changes.each d (subst (λ x. d < x) (sym fits.devices) below))) (turns d (lineage_at old d) (fits.weakly weak d below));
}

-- What the table tells in each model

-- no access is the detector's
pub no_detector : (p : Point) (table : List LineageState) (d : ℕ) → IsRead p.setting p.reading → d < length p.setting.first → TableFits p table → has_access 0 (accesses_at table d) ≡ false
no_detector p table d read below fits = elim (is_weak p.setting.mode) as (λ b. is_weak p.setting.mode ≡ b → has_access 0 (accesses_at table d) ≡ false) [
  | true ↦ (λ weak. ap (has_access 0) (fits.weakly weak d below).accesses)
  | false ↦ (λ strong. none_of_detector p d (lineage_at table d) read ((fits.ordered strong).each d below))
] refl

-- how a device is counted
pub counted_told : (p : Point) (table : List LineageState) (d : ℕ) → d < length p.setting.first → TableFits p table → (lineage_at table d).up ≡ p.reading.up d
counted_told p table d below fits = elim (is_weak p.setting.mode) as (λ b. is_weak p.setting.mode ≡ b → (lineage_at table d).up ≡ p.reading.up d) [
  | true ↦ (λ weak. (fits.weakly weak d below).up)
  | false ↦ (λ strong. ((fits.ordered strong).each d below).up)
] refl
