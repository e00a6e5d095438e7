-- An aborted run leaves the order of a device.
use Rattle.device_order.proofs.Below.{Below, Under, under}
use Rattle.device_order.proofs.Effects.{Alike, alike, overwritten}
use Rattle.device_order.proofs.Lists.{walk_join, end_join}
use Rattle.device_order.proofs.Monotone.{ends_below}
use Rattle.device_order.proofs.Parts.{Cut, cut}
use Rattle.device_order.proofs.Prelude.{Bool, DeviceFits, DeviceInvariant, DeviceRecord, List, OrderEntry, Usage, Used, WalkHolds, WalkState, after_usage, arith, common_steps, false, has, holds_grip, is_in_effect, not, refl, stage_is_doomed, subst, sym, true, walk_end, walk_start, ◌&&◌, ◌++◌, ◌∷◌, ◌≡◌}

-- an aborted run is gone

gone_below : (s : WalkState) (c : Usage) → stage_is_doomed c.stage ≡ true → holds_grip c ≡ false → Below (after_usage s c) s
gone_below s c n h = grind (arith, common_steps)

gone_alike : (s : WalkState) (c : Usage) → holds_grip c ≡ false → is_in_effect c ≡ false → Alike (after_usage s c) s
gone_alike s c h n = grind (arith, common_steps)

pub abort : (d : DeviceRecord) (a b : List OrderEntry) (c : Usage) → d.order ≡ a ++ Used c ∷ b → stage_is_doomed c.stage ≡ true → holds_grip c ≡ false → (is_in_effect c && not (has is_in_effect b)) ≡ false → DeviceInvariant d
    → DeviceInvariant (record d { order = a ++ b })
abort d a b c at n h q i =
    let z : WalkState = walk_start d.first_up d.first in
    let s : WalkState = walk_end z a in
    let k : Cut z a c b = cut z a c b (subst (λ x. WalkHolds z x) at i.walk) in
    let u : Under (after_usage s c) s b = under (after_usage s c) s b (gone_below s c n h) k.rest in
    record {
      walk = walk_join z a b k.front u.walk;
      ends = subst (λ x. DeviceFits x d.up d.held d.probe) (sym (end_join z a b))
          (ends_below (walk_end (after_usage s c) b) (walk_end s b) d.up d.held d.probe u.ends (like s (has is_in_effect b) refl)
          (subst (λ x. DeviceFits x d.up d.held d.probe) k.ends (subst (λ x. DeviceFits (walk_end z x) d.up d.held d.probe) at i.ends)));
    }
  where
    left : (x y : Bool) → (x && not y) ≡ false → y ≡ false → x ≡ false
    left x y q e = grind (arith, common_steps)

    like : (s : WalkState) (x : Bool) → has is_in_effect b ≡ x → Alike (walk_end (after_usage s c) b) (walk_end s b)
    like s true e = overwritten (after_usage s c) s b e
    like s false e = alike (after_usage s c) s b (gone_alike s c h (left (is_in_effect c) (has is_in_effect b) q e))
