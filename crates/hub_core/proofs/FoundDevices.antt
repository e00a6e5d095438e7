-- A home that is told where a device was found, or that it is lost, is kept.
use Rattle.hub_core.proofs.Prelude.{CountsAreLow, HomeIsKept, HomeState, IsTrue, List, Shown, Some, Stand, [], ap, arith, false, get_set, has_value, inl, inr, kind_at, length, length-set, refl, same_Some, slice_get, slice_set, stand_at, subst, suc, sym, true, zero, ℕ, ◌<◌, ◌∙◌, ◌∷◌, ◌≡◌, ◌≢◌, ◌⊎◌}
use Rattle.hub_core.specs.Restandings.{lost, restood}

-- how a device stands after one was written
stand_set : (world : List Stand) (d e : ℕ) (s : Stand) → d < length world
    → ((e ≡ d) × (stand_at (slice_set world d s) e ≡ s)) ⊎ ((e ≢ d) × (stand_at (slice_set world d s) e ≡ stand_at world e))
stand_set [] d e s h = absurd (omega arith)
stand_set (x ∷ world) zero zero s h = inl (refl, refl)
stand_set (x ∷ world) zero (suc e) s h = inr ((λ z. absurd (omega arith)), refl)
stand_set (x ∷ world) (suc d) zero s h = inr ((λ z. absurd (omega arith)), refl)
stand_set (x ∷ world) (suc d) (suc e) s h =
    elim (stand_set world d e s (omega arith)) [ inl p ↦ inl (ap (λ n. suc n) p.0, p.1) | inr q ↦ inr ((λ z. q.0 (omega arith)), q.1) ]

-- what holds of the device that was written, and of each other one
each_set : {D : Type 0} (P : ℕ → D → Type 0) (devices : List D) (d : ℕ) (device : D) → d < length devices → P d device
    → ((e : ℕ) (x : D) → slice_get devices e ≡ Some x → P e x) → (e : ℕ) (x : D) → slice_get (slice_set devices d device) e ≡ Some x → P e x
each_set {D} P devices d device there own each e x at =
    elim (get_set devices d e device there) [
      | inl p ↦ subst (λ (q : ℕ × D). P q.0 q.1) (λ i. (sym p.0 i, same_Some device x (sym p.1 ∙ at) i)) own
      | inr q ↦ each e x (sym q.1 ∙ at)
    ]

pub restand_keeps : {D : Type 0} (shows : D → Shown) (s : HomeState D) (d : ℕ) (device : D) (value : ℕ) → HomeIsKept shows s
    → d < length s.devices → IsTrue (has_value (kind_at s.kinds d) value) → (shows device).stands ≡ value → (shows device).tag ≡ d → CountsAreLow s.opened (shows device).turns (shows device).probes (shows device).faults
    → HomeIsKept shows (restood s d device value)
restand_keeps shows s d device value kept there has at own low =
    let now : Stand = record { value = value; up = true } in
    let size = length-set s.world d now in
    let many = length-set s.devices d device in
    let inside : d < length s.world = omega (arith, there, kept.size) in
    record {
      numbered = each_set (λ e x. (shows x).tag ≡ e) s.devices d device there own kept.numbered;
      kinds = omega (arith, kept.kinds, size);
      size = omega (arith, kept.size, size, many);
      few = omega (arith, kept.few, size);
      opened = kept.opened;
      values = λ e low. (elim (stand_set s.world d e now inside) [
        | inl p ↦ subst (λ (q : ℕ × Stand). IsTrue (has_value (kind_at s.kinds q.0) q.1.value)) (λ i. (sym p.0 i, sym p.1 i)) has
        | inr q ↦ subst (λ (x : Stand). IsTrue (has_value (kind_at s.kinds e) x.value)) (sym q.1) (kept.values e (omega (arith, low, size)))
      ]);
      stand = λ e x is up. (elim (get_set s.devices d e device there) [
        | inl p ↦ (elim (stand_set s.world d e now inside) [
          | inl q ↦ ap (λ y. (shows y).stands) (sym (same_Some device x (sym p.1 ∙ is))) ∙ at ∙ ap (λ (y : Stand). y.value) (sym q.1)
          | inr q ↦ absurd (q.0 p.0)
        ])
        | inr p ↦ (elim (stand_set s.world d e now inside) [
          | inl q ↦ absurd (p.0 q.0)
          | inr q ↦ kept.stand e x (sym p.1 ∙ is) (ap (λ (y : Stand). y.up) (sym q.1) ∙ up) ∙ ap (λ (y : Stand). y.value) (sym q.1)
        ])
      ]);
      counts = each_set (λ e x. CountsAreLow s.opened (shows x).turns (shows x).probes (shows x).faults) s.devices d device there low kept.counts;
    }

-- one that is told that a device is lost: it is not up, so nothing is asked of where it stands
pub lose_keeps : {D : Type 0} (shows : D → Shown) (s : HomeState D) (d : ℕ) → HomeIsKept shows s → d < length s.devices → HomeIsKept shows (lost s d)
lose_keeps shows s d kept there =
    let now : Stand = record { value = (stand_at s.world d).value; up = false } in
    let size = length-set s.world d now in
    let inside : d < length s.world = omega (arith, there, kept.size) in
    record {
      numbered = kept.numbered;
      kinds = omega (arith, kept.kinds, size);
      size = omega (arith, kept.size, size);
      few = omega (arith, kept.few, size);
      opened = kept.opened;
      values = λ e low. (elim (stand_set s.world d e now inside) [
        | inl p ↦ subst (λ (q : ℕ × Stand). IsTrue (has_value (kind_at s.kinds q.0) q.1.value)) (λ i. (sym p.0 i, sym p.1 i)) (kept.values d inside)
        | inr q ↦ subst (λ (x : Stand). IsTrue (has_value (kind_at s.kinds e) x.value)) (sym q.1) (kept.values e (omega (arith, low, size)))
      ]);
      stand = λ e x is up. (elim (stand_set s.world d e now inside) [
        | inl p ↦ (let down : true ≡ false = sym up ∙ ap (λ (y : Stand). y.up) p.1 in absurd (cc))
        | inr q ↦ kept.stand e x is (ap (λ (y : Stand). y.up) (sym q.1) ∙ up) ∙ ap (λ (y : Stand). y.value) (sym q.1)
      ]);
      counts = kept.counts;
    }
