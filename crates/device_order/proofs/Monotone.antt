-- A use of which less is seen stands in the place of another one.
use Rattle.device_order.proofs.Below.{Below}
use Rattle.device_order.proofs.Effects.{Alike}
use Rattle.device_order.proofs.Parts.{Cut, cut, Lower, lower, likewise}
use Rattle.device_order.proofs.Prelude.{Bool, Committed, DeviceFits, DeviceInvariant, DeviceRecord, Done, List, OrderEntry, Pending, Probe, Usage, UsageFits, Used, WalkHolds, WalkState, after_usage, arith, common_steps, doomed_stage, false, holds_command, subst, walk_end, walk_start, ℕ, ◌++◌, ◌∷◌, ◌≡◌}

pub ends_below : (s t : WalkState) (up : Bool) (held : ℕ) (p : Probe) → Below s t → Alike s t → DeviceFits s up held p → DeviceFits t up held p
ends_below s t up held p r q e = grind (arith, common_steps)

doom_fits : (s : WalkState) (c : Usage) → UsageFits s c → UsageFits s (record c { stage = doomed_stage c.stage })
doom_fits s c f = grind (arith, common_steps)

doom_below : (s : WalkState) (c : Usage) → UsageFits s c → Below (after_usage s c) (after_usage s (record c { stage = doomed_stage c.stage }))
doom_below s c f = grind (arith, common_steps)

doom_alike : (s : WalkState) (c : Usage) → Alike (after_usage s c) (after_usage s (record c { stage = doomed_stage c.stage }))
doom_alike s c = grind (arith, common_steps)

skip_fits : (s : WalkState) (c : Usage) → c.stage ≡ Pending → holds_command c.grip ≡ false → UsageFits s c → UsageFits s (record c { stage = Done })
skip_fits s c e n f = grind (arith, common_steps)

skip_below : (s : WalkState) (c : Usage) → c.stage ≡ Pending → UsageFits s c → Below (after_usage s c) (after_usage s (record c { stage = Done }))
skip_below s c e f = grind (arith, common_steps)

skip_alike : (s : WalkState) (c : Usage) → c.stage ≡ Pending → Alike (after_usage s c) (after_usage s (record c { stage = Done }))
skip_alike s c e = grind (arith, common_steps)

commit_fits : (s : WalkState) (c : Usage) → c.stage ≡ Done → UsageFits s c → UsageFits s (record c { stage = Committed })
commit_fits s c e f = grind (arith, common_steps)

commit_below : (s : WalkState) (c : Usage) → c.stage ≡ Done → UsageFits s c → Below (after_usage s c) (after_usage s (record c { stage = Committed }))
commit_below s c e f = grind (arith, common_steps)

commit_alike : (s : WalkState) (c : Usage) → c.stage ≡ Done → Alike (after_usage s c) (after_usage s (record c { stage = Committed }))
commit_alike s c e = grind (arith, common_steps)

-- one use becomes another of which less is seen, and the device stays
pub lowered : (d : DeviceRecord) (a b : List OrderEntry) (c e : Usage) → d.order ≡ a ++ Used c ∷ b → DeviceInvariant d
    → ((s : WalkState) → UsageFits s c → UsageFits s e) → ((s : WalkState) → UsageFits s c → Below (after_usage s c) (after_usage s e)) → ((s : WalkState) → UsageFits s c → Alike (after_usage s c) (after_usage s e))
    → DeviceInvariant (record d { order = a ++ Used e ∷ b })
lowered d a b c e at i fits below like =
    let z : WalkState = walk_start d.first_up d.first in
    let k : Cut z a c b = cut z a c b (subst (λ x. WalkHolds z x) at i.walk) in
    let l : Lower z a c e b = lower z a c e b k (fits (walk_end z a) k.fits) (below (walk_end z a) k.fits) in
    record {
      walk = l.walk;
      ends = ends_below (walk_end z (a ++ Used c ∷ b)) (walk_end z (a ++ Used e ∷ b)) d.up d.held d.probe l.below (likewise z a c e b (like (walk_end z a) k.fits)) (subst (λ x. DeviceFits (walk_end z x) d.up d.held d.probe) at i.ends);
    }

pub doom : (d : DeviceRecord) (a b : List OrderEntry) (c : Usage) → d.order ≡ a ++ Used c ∷ b → DeviceInvariant d → DeviceInvariant (record d { order = a ++ Used (record c { stage = doomed_stage c.stage }) ∷ b })
doom d a b c at i = lowered d a b c (record c { stage = doomed_stage c.stage }) at i (λ s. doom_fits s c) (λ s. doom_below s c) (λ s f. doom_alike s c)

pub skip : (d : DeviceRecord) (a b : List OrderEntry) (c : Usage) → d.order ≡ a ++ Used c ∷ b → c.stage ≡ Pending → holds_command c.grip ≡ false → DeviceInvariant d → DeviceInvariant (record d { order = a ++ Used (record c { stage = Done }) ∷ b })
skip d a b c at p n i = lowered d a b c (record c { stage = Done }) at i (λ s. skip_fits s c p n) (λ s. skip_below s c p) (λ s f. skip_alike s c p)

pub commit : (d : DeviceRecord) (a b : List OrderEntry) (c : Usage) → d.order ≡ a ++ Used c ∷ b → c.stage ≡ Done → DeviceInvariant d → DeviceInvariant (record d { order = a ++ Used (record c { stage = Committed }) ∷ b })
commit d a b c at p i = lowered d a b c (record c { stage = Committed }) at i (λ s. commit_fits s c p) (λ s. commit_below s c p) (λ s f. commit_alike s c p)
