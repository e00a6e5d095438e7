-- A command goes out.
use Rattle.device_order.proofs.Effects.{out_free}
use Rattle.device_order.proofs.Lists.{has_front, has_back, has_head, opened_end}
use Rattle.device_order.proofs.Parts.{Cut, cut, Put, put}
use Rattle.device_order.proofs.Suffix.{Idle, blocks}
use Rattle.device_order.proofs.Prelude.{DeviceFits, DeviceInvariant, DeviceRecord, HeldGrip, Home, List, NothingIsOut, OrderEntry, Pending, Unprobed, Usage, UsageFits, Used, WalkHolds, WalkState, after_usage, arith, common_steps, false, has, has_pending, holds_command, holds_grip, is_read, is_seen_down, is_some, not, subst, sym, true, walk_after, walk_end, walk_start, ℕ, ◌&&◌, ◌++◌, ◌∷◌, ◌≡◌}

go_fits : (s : WalkState) (c : Usage) (g : HeldGrip) → holds_command g ≡ true → c.stage ≡ Pending → is_seen_down c.view ≡ false → s.opened ≡ false → s.out ≡ Home → UsageFits s c → UsageFits s (record c { grip = g })
go_fits s c g w p v o h f = grind (arith, common_steps)

go_ends : (s e e' : WalkState) (c : Usage) (g : HeldGrip) (held : ℕ) → holds_command g ≡ true → c.stage ≡ Pending → holds_grip c ≡ false → s.out ≡ Home
    → ((is_read g && not (is_some c.wrote)) ≡ true → s.settled ≡ true)
    → Idle (after_usage s c) e → Idle (after_usage s (record c { grip = g })) e' → e'.up ≡ e.up → DeviceFits e true held Unprobed → DeviceFits e' true held Unprobed
go_ends s e e' c g held w p n h q i j u x = grind (arith, common_steps)

pub open_blocks : (s : WalkState) (c : Usage) → c.stage ≡ Pending → blocks (after_usage s c) ≡ true
open_blocks s c h = grind (arith, common_steps)

-- no grip is out in the front of an order where none is out at all
pub home_front : (d : DeviceRecord) (a x : List OrderEntry) → d.order ≡ a ++ x → NothingIsOut d → (walk_after d a).out ≡ Home
home_front d a x at h = out_free (walk_start d.first_up d.first) a (has_front holds_grip a x (subst (λ y. has holds_grip y ≡ false) at h.free))

pub shut_front : (d : DeviceRecord) (a : List OrderEntry) → has has_pending a ≡ false → (walk_after d a).opened ≡ false
shut_front d a h = opened_end (walk_start d.first_up d.first) a h

pub go : (d : DeviceRecord) (a b : List OrderEntry) (c : Usage) (g : HeldGrip) → d.order ≡ a ++ Used c ∷ b → c.stage ≡ Pending → NothingIsOut d → d.up ≡ true
    → is_seen_down c.view ≡ false → has has_pending a ≡ false → holds_command g ≡ true → ((is_read g && not (is_some c.wrote)) ≡ true → (walk_after d a).settled ≡ true)
    → DeviceInvariant d → DeviceInvariant (record d { order = a ++ Used (record c { grip = g }) ∷ b })
go d a b c g at p home up v o w q i =
    let z : WalkState = walk_start d.first_up d.first in
    let c' : Usage = record c { grip = g } in
    let k : Cut z a c b = cut z a c b (subst (λ x. WalkHolds z x) at i.walk) in
    let out : (walk_end z a).out ≡ Home = home_front d a (Used c ∷ b) at home in
    let m : Put z a c c' b = put z a c c' b k (open_blocks (walk_end z a) c p) (go_fits (walk_end z a) c g w p v (shut_front d a o) out k.fits) (λ h. h) in
    let free : holds_grip c ≡ false = has_head holds_grip c b (has_back holds_grip a (Used c ∷ b) (subst (λ y. has holds_grip y ≡ false) at home.free)) in
    let e : DeviceFits (walk_end z (a ++ Used c ∷ b)) true d.held Unprobed = subst (λ x. DeviceFits (walk_end z (a ++ Used c ∷ b)) x d.held Unprobed) up (subst
    (λ x. DeviceFits (walk_end z (a ++ Used c ∷ b)) d.up d.held x) home.unprobed (subst (λ x. DeviceFits (walk_end z x) d.up d.held d.probe) at i.ends)) in
    record {
      walk = m.walk;
      ends = subst (λ x. DeviceFits (walk_end z (a ++ Used c' ∷ b)) x d.held d.probe) (sym up) (subst (λ x. DeviceFits (walk_end z (a ++ Used c' ∷ b)) true d.held x) (sym home.unprobed)
          (go_ends (walk_end z a) (walk_end z (a ++ Used c ∷ b)) (walk_end z (a ++ Used c' ∷ b)) c g d.held w p free out q m.idle m.idle' m.up e));
    }
