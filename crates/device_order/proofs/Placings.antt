-- A run is placed on a device.
use Rattle.device_order.proofs.Lists.{walk_front, walk_back, walk_join, end_join}
use Rattle.device_order.proofs.Suffix.{Idle, Calm, calm}
use Rattle.device_order.proofs.Prelude.{Bool, DeviceFits, DeviceInvariant, DeviceRecord, List, None, OrderEntry, Probe, Some, UsageFits, Used, WalkHolds, WalkState, after_usage, arith, common_steps, false, is_calm, new_usage, subst, sym, true, walk_end, walk_start, ℕ, ◌++◌, ◌∷◌, ◌≡◌}

-- a run is placed

new_fits : (s : WalkState) → UsageFits s new_usage
new_fits s = record {
  read_up = λ h. absurd (clash h);
  wrote_up = λ h. absurd (clash h);
  why_up = λ h. absurd (clash h);
  undid = λ h. absurd (clash h);
  after_open = λ h. absurd (clash h);
  after_command = λ h. absurd (clash h);
  view = λ n h. absurd (clash h);
  read = λ n x e. absurd (none x e);
  covered = λ h. absurd (clash h);
  alone = λ h. absurd (clash' h);
  grip = tt;
}
  where
    clash : false ≡ true → ⊥
    clash h = grind (arith, common_steps)

    clash' : true ≡ false → ⊥
    clash' h = grind (arith, common_steps)

    none : (x : ℕ) → None ≡ Some x → ⊥
    none x e = grind (arith, common_steps)

place_ends : (s e e' : WalkState) (up : Bool) (held : ℕ) (p : Probe) → Idle s e → e.up ≡ s.up → Idle (after_usage s new_usage) e' → e'.up ≡ s.up → DeviceFits e up held p → DeviceFits e' up held p
place_ends s e e' up held p i u j w x = grind (arith, common_steps)

pub place : (d : DeviceRecord) (a b : List OrderEntry) → d.order ≡ a ++ b → is_calm b ≡ true → DeviceInvariant d → DeviceInvariant (record d { order = a ++ Used new_usage ∷ b })
unfolding WalkHolds walk_end
place d a b at n i =
    let z : WalkState = walk_start d.first_up d.first in
    let s : WalkState = walk_end z a in
    let k : WalkHolds z (a ++ b) = subst (λ x. WalkHolds z x) at i.walk in
    let old : Calm s b = calm s s b n (walk_back z a b k) in
    let new : Calm (after_usage s new_usage) b = calm s (after_usage s new_usage) b n (walk_back z a b k) in
    record {
      walk = walk_join z a (Used new_usage ∷ b) (walk_front z a b k) (new_fits s, new.walk);
      ends = subst (λ x. DeviceFits x d.up d.held d.probe) (sym (end_join z a (Used new_usage ∷ b)))
          (place_ends s (walk_end s b) (walk_end (after_usage s new_usage) b) d.up d.held d.probe old.idle old.up new.idle new.up
          (subst (λ x. DeviceFits x d.up d.held d.probe) (end_join z a b) (subst (λ x. DeviceFits (walk_end z x) d.up d.held d.probe) at i.ends)));
    }
