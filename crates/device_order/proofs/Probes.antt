-- A probe goes out, and comes home with whatever it found.
use Rattle.device_order.proofs.Answers.{tidy_front, Fell, fell}
use Rattle.device_order.proofs.Effects.{Tidy, out_free, spanned_end}
use Rattle.device_order.proofs.Parts.{Cut, cut, Put, put}
use Rattle.device_order.proofs.Suffix.{Idle, blocks, came, Came}
use Rattle.device_order.proofs.Prelude.{Asks, Bool, DeviceFits, DeviceInvariant, DeviceRecord, Failure, List, NothingIsOut, Option, OrderEntry, Restart, Restores, RunStage, Unprobed, Usage, UsageFits, Used, View, WalkState, after_usage, ap, arith, common_steps, doomed_stage, false, has, is_home, is_some, not, probe_for, refl, spans_up, stage_is_open, subst, true, walk_after, walk_end, walk_start, with_event, ℕ, ◌&&◌, ◌++◌, ◌∷◌, ◌≡◌}

go_ends : (e : WalkState) (up : Bool) (held : ℕ) → is_home e.out ≡ true → DeviceFits e up held Unprobed → DeviceFits e up held (probe_for up e.stand)
go_ends e up held o x = grind (arith, common_steps)

pub probe_go : (d : DeviceRecord) → NothingIsOut d → DeviceInvariant d → DeviceInvariant (record d { probe = probe_for d.up (walk_after d d.order).stand })
probe_go d h i =
    let e : WalkState = walk_end (walk_start d.first_up d.first) d.order in
    record { walk = i.walk; ends = go_ends e d.up d.held (ap is_home (out_free (walk_start d.first_up d.first) d.order h.free)) (subst (λ q. DeviceFits e d.up d.held q) h.unprobed i.ends) }

asks_ends : (e : WalkState) (up : Bool) (held : ℕ) → DeviceFits e up held Asks → DeviceFits e up held Unprobed
asks_ends e up held x = grind (arith, common_steps)

pub asks_none : (d : DeviceRecord) → d.probe ≡ Asks → DeviceInvariant d → DeviceInvariant (record d { probe = Unprobed })
asks_none d h i =
    let e : WalkState = walk_end (walk_start d.first_up d.first) d.order in
    record { walk = i.walk; ends = asks_ends e d.up d.held (subst (λ q. DeviceFits e d.up d.held q) h i.ends) }

restores_ends : (e : WalkState) (up : Bool) (held v h : ℕ) → DeviceFits e up held (Restores v) → DeviceFits e up h Unprobed
restores_ends e up held v h x = grind (arith, common_steps)

pub restores_none : (d : DeviceRecord) (v h : ℕ) → d.probe ≡ Restores v → DeviceInvariant d → DeviceInvariant (record d { probe = Unprobed; held = h })
restores_none d v h at i =
    let e : WalkState = walk_end (walk_start d.first_up d.first) d.order in
    record { walk = i.walk; ends = restores_ends e d.up d.held v h (subst (λ q. DeviceFits e d.up d.held q) at i.ends) }

asks_up : (e : WalkState) (up : Bool) (held : ℕ) → DeviceFits e up held Asks → up ≡ true
asks_up e up held x = grind (arith, common_steps)

asks_dead : (e e1 : WalkState) (up : Bool) (held h : ℕ) → e1 ≡ record e { up = false } → e.spanned ≡ false → DeviceFits e up held Asks → DeviceFits e1 false h Unprobed
asks_dead e e1 up held h q n x = grind (arith, common_steps)

pub probe_dead : (d : DeviceRecord) (h : ℕ) → d.probe ≡ Asks → has spans_up d.order ≡ false → DeviceInvariant d → DeviceInvariant (record d { order = with_event Failure d.order; up = false; held = h; probe = Unprobed })
probe_dead d h p n i =
    let z : WalkState = walk_start d.first_up d.first in
    let x : DeviceFits (walk_end z d.order) d.up d.held Asks = subst (λ q. DeviceFits (walk_end z d.order) d.up d.held q) p i.ends in
    let f : Fell d (with_event Failure d.order) = fell d (with_event Failure d.order) refl (asks_up (walk_end z d.order) d.up d.held x) i in
    record {
      walk = f.walk;
      ends = asks_dead (walk_end z d.order) (walk_end z (with_event Failure d.order)) d.up d.held h f.ends (spanned_end z d.order n) x;
    }

span_blocks : (s : WalkState) (c : Usage) → spans_up c ≡ true → blocks (after_usage s c) ≡ true
span_blocks s c h = grind (arith, common_steps)

lost_fits : (s : WalkState) (c : Usage) → UsageFits s c → UsageFits s (record c { stage = doomed_stage c.stage })
lost_fits s c f = grind (arith, common_steps)

lost_ends : (s e e1 e' : WalkState) (c : Usage) (up : Bool) (held h : ℕ) → spans_up c ≡ true → Tidy s → UsageFits s c → e1 ≡ record e { up = false } → Idle (after_usage s c) e1 → Idle (after_usage s (record c { stage = doomed_stage c.stage })) e' → e'.up ≡ e1.up
    → DeviceFits e up held Asks → DeviceFits e' false h Unprobed
lost_ends s e e1 e' c up held h n t f q i j u x = grind (arith, common_steps)

pub probe_lost : (d : DeviceRecord) (a b : List OrderEntry) (c : Usage) (h : ℕ) → d.probe ≡ Asks → with_event Failure d.order ≡ a ++ Used c ∷ b → spans_up c ≡ true → DeviceInvariant d
    → DeviceInvariant (record d { order = a ++ Used (record c { stage = doomed_stage c.stage }) ∷ b; up = false; held = h; probe = Unprobed })
probe_lost d a b c h p at n i =
    let z : WalkState = walk_start d.first_up d.first in
    let c' : Usage = record c { stage = doomed_stage c.stage } in
    let x : DeviceFits (walk_end z d.order) d.up d.held Asks = subst (λ q. DeviceFits (walk_end z d.order) d.up d.held q) p i.ends in
    let f : Fell d (a ++ Used c ∷ b) = fell d (a ++ Used c ∷ b) at (asks_up (walk_end z d.order) d.up d.held x) i in
    let k : Cut z a c b = cut z a c b f.walk in
    let m : Put z a c c' b = put z a c c' b k (span_blocks (walk_end z a) c n) (lost_fits (walk_end z a) c k.fits) (λ w. absurd (never c.stage c.view w)) in
    record {
      walk = m.walk;
      ends = lost_ends (walk_end z a) (walk_end z d.order) (walk_end z (a ++ Used c ∷ b)) (walk_end z (a ++ Used c' ∷ b)) c d.up d.held h n (tidy_front d.first_up d.first a k.front) k.fits f.ends m.idle m.idle' m.up x;
    }
  where
    never : (st : RunStage) (v : Option View) → (stage_is_open (doomed_stage st) && not (is_some v)) ≡ true → ⊥
    never st v h = grind (arith, common_steps)

rose_ends : (e e1 : WalkState) (up : Bool) (held v : ℕ) → e1 ≡ record e { up = true } → DeviceFits e up held (Restores v) → DeviceFits e1 true v Unprobed
rose_ends e e1 up held v q x = grind (arith, common_steps)

rose_down : (e : WalkState) (up : Bool) (held v : ℕ) → DeviceFits e up held (Restores v) → e.up ≡ false
rose_down e up held v x = grind (arith, common_steps)

pub rose : (d : DeviceRecord) (v : ℕ) → d.probe ≡ Restores v → DeviceInvariant d → DeviceInvariant (record d { order = with_event Restart d.order; up = true; held = v; probe = Unprobed })
rose d v p i =
    let z : WalkState = walk_start d.first_up d.first in
    let x : DeviceFits (walk_end z d.order) d.up d.held (Restores v) = subst (λ q. DeviceFits (walk_end z d.order) d.up d.held q) p i.ends in
    let k : Came z Restart d.order = came z Restart d.order refl (rose_down (walk_end z d.order) d.up d.held v x) i.walk in
    record { walk = k.walk; ends = rose_ends (walk_end z d.order) (walk_end z (with_event Restart d.order)) d.up d.held v k.ends x }
