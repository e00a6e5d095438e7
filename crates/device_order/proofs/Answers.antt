use Rattle.device_order.proofs.Effects.{Tidy, tidy, home_free}
use Rattle.device_order.proofs.Lists.{has_event, has_at}
use Rattle.device_order.proofs.Parts.{Cut, cut, Put, put}
use Rattle.device_order.proofs.Suffix.{Idle, blocks, blind, came, Came}
use Rattle.device_order.proofs.Prelude.{Bool, DeviceFits, DeviceInvariant, DeviceRecord, Failure, Free, IsAnswered, List, None, Option, OrderEntry, Probe, Reads, RunStage, Some, Up, Usage, UsageFits, Used, View, WalkHolds, WalkState, after_usage, ap, arith, awaits_first, common_steps, false, first_read, has, holds_command, holds_grip, is_home, is_some, is_up, not, refl, spans_up, stage_is_doomed, stage_is_open, subst, sym, true, walk_after, walk_end, walk_start, with_event, ℕ, ◌&&◌, ◌++◌, ◌∙◌, ◌∷◌, ◌≡◌}
use Rattle.home_types.specs.declared.commands.View.TheVariants.{Down}

pub tidy_front : (up : Bool) (v : ℕ) (a : List OrderEntry) → WalkHolds (walk_start up v) a → Tidy (walk_end (walk_start up v) a)
tidy_front up v a k = tidy (walk_start up v) a (record { settled = λ h. refl; spanned = λ h. absurd (no h); waiting = λ h. absurd (no h); exposed = λ h g. refl }) k
  where
    no : false ≡ true → ⊥
    no h = grind (arith, common_steps)

pub call_blocks : (s : WalkState) (c : Usage) → holds_command c.grip ≡ true → blocks (after_usage s c) ≡ true
call_blocks s c h = grind (arith, common_steps)

-- a device with a grip out, and no probe, is up
out_up : (e : WalkState) (up : Bool) (held : ℕ) (p : Probe) → is_home e.out ≡ false → DeviceFits e up held p → up ≡ true
out_up e up held p h x = grind (arith, common_steps)

called : (s e : WalkState) (c : Usage) → holds_command c.grip ≡ true → Idle (after_usage s c) e → is_home e.out ≡ false
called s e c h i = grind (arith, common_steps)

-- where an open run that has not answered stands, the device was as it is now
pub waits_up : (z : WalkState) (a : List OrderEntry) (c : Usage) (b : List OrderEntry) → Cut z a c b → awaits_first c ≡ true → (walk_end z (a ++ Used c ∷ b)).up ≡ (walk_end z a).up
waits_up z a c b k w = ap (λ (x : WalkState). x.up) k.ends ∙ (blind (after_usage (walk_end z a) c) false b (opening (walk_end z a) c w) (waiting (walk_end z a) c w) k.rest).up
  where
    opening : (s : WalkState) (c : Usage) → awaits_first c ≡ true → (after_usage s c).opened ≡ true
    opening s c h = grind (arith, common_steps)

    waiting : (s : WalkState) (c : Usage) → awaits_first c ≡ true → (after_usage s c).waiting ≡ true
    waiting s c h = grind (arith, common_steps)

stood : (z : WalkState) (a : List OrderEntry) (c : Usage) (b : List OrderEntry) → Cut z a c b → holds_command c.grip ≡ true → (walk_end z (a ++ Used c ∷ b)).up ≡ true → stage_is_doomed c.stage ≡ false → (walk_end z a).up ≡ true
stood z a c b k g u n = at (awaits_first c) refl
  where
    seen_up : (s : WalkState) (c : Usage) → UsageFits s c → holds_command c.grip ≡ true → stage_is_doomed c.stage ≡ false → awaits_first c ≡ false → s.up ≡ true
    seen_up s c f g n w = grind (arith, common_steps)

    at : (x : Bool) → awaits_first c ≡ x → (walk_end z a).up ≡ true
    at true w = sym (waits_up z a c b k w) ∙ u
    at false w = seen_up (walk_end z a) c k.fits g n w

write_fits : (s : WalkState) (c : Usage) (v : ℕ) (st : RunStage) → holds_command c.grip ≡ true → IsAnswered c.stage st → (stage_is_doomed c.stage ≡ false → s.up ≡ true) → UsageFits s c
    → UsageFits s (record c { stage = st; view = Some Up; wrote = Some v; grip = Free })
write_fits s c v st g l u f = grind (arith, common_steps)

write_ends : (s e e' : WalkState) (c : Usage) (v : ℕ) (st : RunStage) (up : Bool) (held : ℕ) (p : Probe) → holds_command c.grip ≡ true → UsageFits s c
    → Idle (after_usage s c) e → Idle (after_usage s (record c { stage = st; view = Some Up; wrote = Some v; grip = Free })) e' → e'.up ≡ e.up → DeviceFits e up held p → DeviceFits e' up v p
write_ends s e e' c v st up held p g f i j u x = grind (arith, common_steps)

none : (st : RunStage) → (stage_is_open st && false) ≡ true → ⊥
none st h = grind (arith, common_steps)

called_at : (z : WalkState) (a : List OrderEntry) (c : Usage) (b : List OrderEntry) → Cut z a c b → holds_command c.grip ≡ true → is_home (walk_end z (a ++ Used c ∷ b)).out ≡ false
called_at z a c b k g = called (walk_end z a) (walk_end z (a ++ Used c ∷ b)) c g (put z a c c b k (call_blocks (walk_end z a) c g) k.fits (λ h. h)).idle

pub write_ok : (d : DeviceRecord) (a b : List OrderEntry) (c : Usage) (v : ℕ) (st : RunStage) → d.order ≡ a ++ Used c ∷ b → holds_command c.grip ≡ true → IsAnswered c.stage st → DeviceInvariant d
    → DeviceInvariant (record d { order = a ++ Used (record c { stage = st; view = Some Up; wrote = Some v; grip = Free }) ∷ b; held = v })
write_ok d a b c v st at g l i =
    let z : WalkState = walk_start d.first_up d.first in
    let c' : Usage = record c { stage = st; view = Some Up; wrote = Some v; grip = Free } in
    let k : Cut z a c b = cut z a c b (subst (λ x. WalkHolds z x) at i.walk) in
    let x : DeviceFits (walk_end z (a ++ Used c ∷ b)) d.up d.held d.probe = subst (λ x. DeviceFits (walk_end z x) d.up d.held d.probe) at i.ends in
    let up : stage_is_doomed c.stage ≡ false → (walk_end z a).up ≡ true = λ n. stood z a c b k g (x.same ∙ out_up (walk_end z (a ++ Used c ∷ b)) d.up d.held d.probe (called_at z a c b k g) x) n in
    let m : Put z a c c' b = put z a c c' b k (call_blocks (walk_end z a) c g) (write_fits (walk_end z a) c v st g l up k.fits) (λ h. absurd (none st h)) in
    record {
      walk = m.walk;
      ends = write_ends (walk_end z a) (walk_end z (a ++ Used c ∷ b)) (walk_end z (a ++ Used c' ∷ b)) c v st d.up d.held d.probe g k.fits m.idle m.idle' m.up x;
    }

-- what a read finds: the last own write, else the committed value where the run stands, and no live run's write is in effect before it
pub record ReadFinds (s : WalkState) (c : Usage) (x : ℕ) : Type 0 where
  pub own : (v : ℕ) → c.wrote ≡ Some v → x ≡ v
  pub committed : c.wrote ≡ None → x ≡ s.value
  pub settled : c.wrote ≡ None → s.settled ≡ true
  pub covered : c.wrote ≡ None → s.exposed ≡ false

found : (s e : WalkState) (c : Usage) (up : Bool) (held : ℕ) (p : Probe) → c.grip ≡ Reads → Tidy s → UsageFits s c → Idle (after_usage s c) e → DeviceFits e up held p → ReadFinds s c held
found s e c up held p g t f i x = grind (arith, common_steps)

read_fits : (s : WalkState) (c : Usage) (held : ℕ) (st : RunStage) → c.grip ≡ Reads → IsAnswered c.stage st → (stage_is_doomed c.stage ≡ false → s.up ≡ true) → ReadFinds s c held → UsageFits s c
    → UsageFits s (record c { stage = st; view = Some Up; read = first_read c held; grip = Free })
read_fits s c held st g l u x f = grind (arith, common_steps)

read_ends : (s e e' : WalkState) (c : Usage) (st : RunStage) (up : Bool) (held : ℕ) (p : Probe) → c.grip ≡ Reads → IsAnswered c.stage st → UsageFits s c
    → Idle (after_usage s c) e → Idle (after_usage s (record c { stage = st; view = Some Up; read = first_read c held; grip = Free })) e' → e'.up ≡ e.up → DeviceFits e up held p → DeviceFits e' up held p
read_ends s e e' c st up held p g l f i j u x = grind (arith, common_steps)

call_of : (c : Usage) → c.grip ≡ Reads → holds_command c.grip ≡ true
call_of c g = grind (arith, common_steps)

pub read_finds : (d : DeviceRecord) (a b : List OrderEntry) (c : Usage) → d.order ≡ a ++ Used c ∷ b → c.grip ≡ Reads → DeviceInvariant d → ReadFinds (walk_after d a) c d.held
read_finds d a b c at g i =
    let z : WalkState = walk_start d.first_up d.first in
    let k : Cut z a c b = cut z a c b (subst (λ x. WalkHolds z x) at i.walk) in
    let x : DeviceFits (walk_end z (a ++ Used c ∷ b)) d.up d.held d.probe = subst (λ x. DeviceFits (walk_end z x) d.up d.held d.probe) at i.ends in
    found (walk_end z a) (walk_end z (a ++ Used c ∷ b)) c d.up d.held d.probe g (tidy_front d.first_up d.first a k.front) k.fits
    (put z a c c b k (call_blocks (walk_end z a) c (call_of c g)) k.fits (λ h. h)).idle x

pub read_ok : (d : DeviceRecord) (a b : List OrderEntry) (c : Usage) (st : RunStage) → d.order ≡ a ++ Used c ∷ b → c.grip ≡ Reads → IsAnswered c.stage st → DeviceInvariant d
    → DeviceInvariant (record d { order = a ++ Used (record c { stage = st; view = Some Up; read = first_read c d.held; grip = Free }) ∷ b })
read_ok d a b c st at g l i =
    let z : WalkState = walk_start d.first_up d.first in
    let c' : Usage = record c { stage = st; view = Some Up; read = first_read c d.held; grip = Free } in
    let k : Cut z a c b = cut z a c b (subst (λ x. WalkHolds z x) at i.walk) in
    let x : DeviceFits (walk_end z (a ++ Used c ∷ b)) d.up d.held d.probe = subst (λ x. DeviceFits (walk_end z x) d.up d.held d.probe) at i.ends in
    let up : stage_is_doomed c.stage ≡ false → (walk_end z a).up ≡ true = λ n. stood z a c b k (call_of c g) (x.same ∙ out_up (walk_end z (a ++ Used c ∷ b)) d.up d.held d.probe (called_at z a c b k (call_of c g)) x) n in
    let m : Put z a c c' b = put z a c c' b k (call_blocks (walk_end z a) c (call_of c g)) (read_fits (walk_end z a) c d.held st g l up (read_finds d a b c at g i) k.fits) (λ h. absurd (none st h)) in
    record {
      walk = m.walk;
      ends = read_ends (walk_end z a) (walk_end z (a ++ Used c ∷ b)) (walk_end z (a ++ Used c' ∷ b)) c st d.up d.held d.probe g l k.fits m.idle m.idle' m.up x;
    }

-- the device falls: its event goes in
pub record Fell (d : DeviceRecord) (l : List OrderEntry) : Type 0 where
  pub walk : WalkHolds (walk_start d.first_up d.first) l
  pub ends : walk_end (walk_start d.first_up d.first) l ≡ record (walk_end (walk_start d.first_up d.first) d.order) { up = false }

pub fell : (d : DeviceRecord) (l : List OrderEntry) → with_event Failure d.order ≡ l → d.up ≡ true → DeviceInvariant d → Fell d l
fell d l at u i =
    let z : WalkState = walk_start d.first_up d.first in
    let k : Came z Failure d.order = came z Failure d.order refl (i.ends.same ∙ u) i.walk in
    record { walk = subst (λ x. WalkHolds z x) at k.walk; ends = ap (λ x. walk_end z x) (sym at) ∙ k.ends }

pub held_up : (d : DeviceRecord) (a b : List OrderEntry) (c : Usage) → with_event Failure d.order ≡ a ++ Used c ∷ b → holds_grip c ≡ true → DeviceInvariant d → d.up ≡ true
held_up d a b c at h i =
    let z : WalkState = walk_start d.first_up d.first in
    let x : has holds_grip d.order ≡ true = sym (has_event holds_grip Failure d.order) ∙ ap (has holds_grip) at ∙ has_at holds_grip a c b h in
    out_up (walk_end z d.order) d.up d.held d.probe (out (is_home (walk_end z d.order).out) (has holds_grip d.order) x (home_free z d.order)) i.ends
  where
    out : (x y : Bool) → y ≡ true → (x ≡ true → y ≡ false) → x ≡ false
    out x y h f = grind (arith, common_steps)

call_holds : (c : Usage) → holds_command c.grip ≡ true → holds_grip c ≡ true
call_holds c h = grind (arith, common_steps)

first_fits : (s : WalkState) (c : Usage) (st : RunStage) → holds_command c.grip ≡ true → c.view ≡ None → IsAnswered c.stage st → (stage_is_doomed c.stage ≡ false → s.up ≡ false) → UsageFits s c
    → UsageFits s (record c { stage = st; view = Some Down; grip = Free })
first_fits s c st g v l u f = grind (arith, common_steps)

-- the end of the walk after a command died: its run does not span any more
dead_ends : (s e e1 e2 : WalkState) (c c' : Usage) (up : Bool) (held h : ℕ) (p : Probe) → holds_command c.grip ≡ true → c'.grip ≡ Free → spans_up c' ≡ false → Tidy s → UsageFits s c
    → e1 ≡ record e { up = false } → Idle (after_usage s c) e1 → Idle (after_usage s c') e2 → e2.up ≡ e1.up → DeviceFits e up held p → DeviceFits e2 false h p
dead_ends s e e1 e2 c c' up held h p g n o t f q i j u x = grind (arith, common_steps)

first_down : (z : WalkState) (a : List OrderEntry) (c : Usage) (b : List OrderEntry) → Cut z a c b → holds_command c.grip ≡ true → c.view ≡ None → (walk_end z (a ++ Used c ∷ b)).up ≡ false → stage_is_doomed c.stage ≡ false → (walk_end z a).up ≡ false
first_down z a c b k g v u n = sym (waits_up z a c b k (waiting (walk_end z a) c k.fits g v n)) ∙ u
  where
    waiting : (s : WalkState) (c : Usage) → UsageFits s c → holds_command c.grip ≡ true → c.view ≡ None → stage_is_doomed c.stage ≡ false → awaits_first c ≡ true
    waiting s c f g v n = grind (arith, common_steps)

pub dead_first : (d : DeviceRecord) (a b : List OrderEntry) (c : Usage) (st : RunStage) (h : ℕ) → with_event Failure d.order ≡ a ++ Used c ∷ b → holds_command c.grip ≡ true → c.view ≡ None → IsAnswered c.stage st → DeviceInvariant d
    → DeviceInvariant (record d { order = a ++ Used (record c { stage = st; view = Some Down; grip = Free }) ∷ b; up = false; held = h })
dead_first d a b c st h at g v l i =
    let z : WalkState = walk_start d.first_up d.first in
    let c' : Usage = record c { stage = st; view = Some Down; grip = Free } in
    let n : Fell d (a ++ Used c ∷ b) = fell d (a ++ Used c ∷ b) at (held_up d a b c at (call_holds c g) i) i in
    let k : Cut z a c b = cut z a c b n.walk in
    let m : Put z a c c' b = put z a c c' b k (call_blocks (walk_end z a) c g) (first_fits (walk_end z a) c st g v l (first_down z a c b k g v (ap (λ (x : WalkState). x.up) n.ends)) k.fits) (λ h. absurd (none st h)) in
    record {
      walk = m.walk;
      ends = dead_ends (walk_end z a) (walk_end z d.order) (walk_end z (a ++ Used c ∷ b)) (walk_end z (a ++ Used c' ∷ b)) c c' d.up d.held h d.probe g refl (spans_no st) (tidy_front d.first_up d.first a k.front) k.fits n.ends m.idle m.idle' m.up i.ends;
    }
  where
    spans_no : (st : RunStage) → (stage_is_open st && false) ≡ false
    spans_no st = grind (arith, common_steps)

later_fits : (s : WalkState) (c : Usage) (st : RunStage) → holds_command c.grip ≡ true → stage_is_doomed st ≡ true → UsageFits s c → UsageFits s (record c { stage = st; grip = Free })
later_fits s c st g n f = grind (arith, common_steps)

pub dead_later : (d : DeviceRecord) (a b : List OrderEntry) (c : Usage) (st : RunStage) (h : ℕ) → with_event Failure d.order ≡ a ++ Used c ∷ b → holds_command c.grip ≡ true → stage_is_doomed st ≡ true → DeviceInvariant d
    → DeviceInvariant (record d { order = a ++ Used (record c { stage = st; grip = Free }) ∷ b; up = false; held = h })
dead_later d a b c st h at g l i =
    let z : WalkState = walk_start d.first_up d.first in
    let c' : Usage = record c { stage = st; grip = Free } in
    let n : Fell d (a ++ Used c ∷ b) = fell d (a ++ Used c ∷ b) at (held_up d a b c at (call_holds c g) i) i in
    let k : Cut z a c b = cut z a c b n.walk in
    let m : Put z a c c' b = put z a c c' b k (call_blocks (walk_end z a) c g) (later_fits (walk_end z a) c st g l k.fits) (λ h. absurd (never st c.view l h)) in
    record {
      walk = m.walk;
      ends = dead_ends (walk_end z a) (walk_end z d.order) (walk_end z (a ++ Used c ∷ b)) (walk_end z (a ++ Used c' ∷ b)) c c' d.up d.held h d.probe g refl (spans_no st c.view l) (tidy_front d.first_up d.first a k.front) k.fits n.ends m.idle m.idle' m.up i.ends;
    }
  where
    spans_no : (st : RunStage) (v : Option View) → stage_is_doomed st ≡ true → (stage_is_open st && is_up v) ≡ false
    spans_no st v h = grind (arith, common_steps)

    never : (st : RunStage) (v : Option View) → stage_is_doomed st ≡ true → (stage_is_open st && not (is_some v)) ≡ true → ⊥
    never st v h g = grind (arith, common_steps)
