-- What the invariant of a device says of two uses, one behind the other.
use Rattle.device_order.proofs.Answers.{read_finds}
use Rattle.device_order.proofs.Parts.{Cut, cut}
use Rattle.device_order.proofs.Prelude.{Bool, DeviceInvariant, DeviceRecord, List, None, Occurred, Option, OrderEntry, ReadFinds, Reads, Some, Usage, UsageFits, Used, WalkHolds, WalkState, [], after_usage, ap, arith, awaits_first, common_steps, effective, false, has, has_committed_write, has_pending, has_uncommitted_write, has_used_device, holds_command, if◌then◌else◌, is_calm, is_command_out, is_in_effect, is_restart, is_some, is_write_settled, new_device, not, or_from, refl, spans_up, stage_is_open, subst, sym, true, walk_after, walk_end, walk_start, written_or_first, ℕ, ◌&&◌, ◌++◌, ◌||◌, ◌∙◌, ◌∷◌, ◌≡◌}

pub opened_stays : (s : WalkState) (m : List OrderEntry) → s.opened ≡ true → (walk_end s m).opened ≡ true
unfolding walk_end
opened_stays s [] h = h
opened_stays s (Occurred e ∷ m) h = opened_stays (record s { up = is_restart e }) m h
opened_stays s (Used c ∷ m) h = opened_stays (after_usage s c) m (ap (λ x. x || stage_is_open c.stage) h)

spanned_stays : (s : WalkState) (m : List OrderEntry) → s.spanned ≡ true → (walk_end s m).spanned ≡ true
unfolding walk_end
spanned_stays s [] h = h
spanned_stays s (Occurred e ∷ m) h = spanned_stays (record s { up = is_restart e }) m h
spanned_stays s (Used c ∷ m) h = spanned_stays (after_usage s c) m (ap (λ x. x || spans_up c) h)

exposed_stays : (s : WalkState) (m : List OrderEntry) → s.exposed ≡ true → has has_committed_write m ≡ false → (walk_end s m).exposed ≡ true
unfolding walk_end has
exposed_stays s [] h n = h
exposed_stays s (Occurred e ∷ m) h n = exposed_stays (record s { up = is_restart e }) m h n
exposed_stays s (Used c ∷ m) h n = let p = parts s c (has has_committed_write m) h n in exposed_stays (after_usage s c) m p.0 p.1
  where
    parts : (s : WalkState) (c : Usage) (x : Bool) → s.exposed ≡ true → (has_committed_write c || x) ≡ false → ((after_usage s c).exposed ≡ true) × (x ≡ false)
    parts s c x h n = grind (arith, common_steps)

-- behind a use: what the walk has seen when it comes to a later one
behind : (d : DeviceRecord) (a m b : List OrderEntry) (x w : Usage) → DeviceInvariant d → d.order ≡ a ++ Used x ∷ (m ++ Used w ∷ b) → UsageFits (walk_end (after_usage (walk_after d a) x) m) w
unfolding WalkHolds walk_end
behind d a m b x w i at =
    let z : WalkState = walk_start d.first_up d.first in
    let k : Cut z a x (m ++ Used w ∷ b) = cut z a x (m ++ Used w ∷ b) (subst (λ l. WalkHolds z l) at i.walk) in
    (cut (after_usage (walk_end z a) x) m w b k.rest).fits

-- behind an open run nothing touched the device
pub pending : (d : DeviceRecord) (a m b : List OrderEntry) (x w : Usage) → DeviceInvariant d → d.order ≡ a ++ Used x ∷ (m ++ Used w ∷ b) → has_pending x ≡ true → has_used_device w ≡ false
pending d a m b x w i at o = quiet (walk_end (after_usage (walk_after d a) x) m) w (opened_stays (after_usage (walk_after d a) x) m (now (walk_after d a) x o)) (behind d a m b x w i at)
  where
    now : (s : WalkState) (x : Usage) → has_pending x ≡ true → (after_usage s x).opened ≡ true
    now s x o = grind (arith, common_steps)

    quiet : (s : WalkState) (w : Usage) → s.opened ≡ true → UsageFits s w → has_used_device w ≡ false
    quiet s w h f = grind (arith, common_steps)

-- a read behind a live write that no entry undid stands behind a committed write between them
pub covered : (d : DeviceRecord) (a m b : List OrderEntry) (x w : Usage) → DeviceInvariant d → d.order ≡ a ++ Used x ∷ (m ++ Used w ∷ b) → has_uncommitted_write x ≡ true → is_some w.read ≡ true → has has_committed_write m ≡ true
covered d a m b x w i at o r = at_ (has has_committed_write m) refl
  where
    now : (s : WalkState) (x : Usage) → has_uncommitted_write x ≡ true → (after_usage s x).exposed ≡ true
    now s x o = grind (arith, common_steps)

    clash : (s : WalkState) (w : Usage) → s.exposed ≡ true → is_some w.read ≡ true → UsageFits s w → ⊥
    clash s w h r f = grind (arith, common_steps)

    at_ : (y : Bool) → has has_committed_write m ≡ y → has has_committed_write m ≡ true
    at_ true e = e
    at_ false e = absurd (clash (walk_end (after_usage (walk_after d a) x) m) w (exposed_stays (after_usage (walk_after d a) x) m (now (walk_after d a) x o) e) r (behind d a m b x w i at))

-- where an open run sees the device up, the device is up
pub up_spanned : (d : DeviceRecord) (a b : List OrderEntry) (x : Usage) → DeviceInvariant d → d.order ≡ a ++ Used x ∷ b → spans_up x ≡ true → d.up ≡ true
up_spanned d a b x i at o =
    let z : WalkState = walk_start d.first_up d.first in
    let k : Cut z a x b = cut z a x b (subst (λ l. WalkHolds z l) at i.walk) in
    i.ends.span (ap (λ l. (walk_end z l).spanned) at ∙ ap (λ (q : WalkState). q.spanned) k.ends ∙ spanned_stays (after_usage (walk_end z a) x) b (now (walk_end z a) x o))
  where
    now : (s : WalkState) (x : Usage) → spans_up x ≡ true → (after_usage s x).spanned ≡ true
    now s x o = grind (arith, common_steps)

-- the stand of the walk is the value of the last write in effect, and it is settled where that is a committed run's
pub record Effective (s : WalkState) (first : ℕ) (o : Option Usage) : Type 0 where
  pub stand : s.stand ≡ written_or_first o first
  pub settled : s.settled ≡ is_write_settled o

pub effect : (s : WalkState) (first : ℕ) (o : Option Usage) (l : List OrderEntry) → Effective s first o → Effective (walk_end s l) first (effective o l)
unfolding walk_end effective
effect s first o [] h = h
effect s first o (Occurred e ∷ l) h = effect (record s { up = is_restart e }) first o l (record { stand = h.stand; settled = h.settled })
effect s first o (Used c ∷ l) h = effect (after_usage s c) first (if is_in_effect c then Some c else o) l (one s first o c h)
  where
    one : (s : WalkState) (first : ℕ) (o : Option Usage) (c : Usage) → Effective s first o → Effective (after_usage s c) first (if is_in_effect c then Some c else o)
    one s first o c h = grind (arith, common_steps)

-- behind a command that is out nothing is touched
pub untouched_behind : (s : WalkState) (b : List OrderEntry) → (s.opened || is_command_out s.out) ≡ true → WalkHolds s b → has has_used_device b ≡ false
unfolding WalkHolds has
untouched_behind s [] h k = refl
untouched_behind s (Occurred e ∷ b) h k = untouched_behind (record s { up = is_restart e }) b h k.1
untouched_behind s (Used c ∷ b) h k = or_from (has_used_device c) (has has_used_device b) (now s c h k.0) (untouched_behind (after_usage s c) b (still s c h k.0) k.1)
  where
    now : (s : WalkState) (c : Usage) → (s.opened || is_command_out s.out) ≡ true → UsageFits s c → has_used_device c ≡ false
    now s c h f = grind (arith, common_steps)

    still : (s : WalkState) (c : Usage) → (s.opened || is_command_out s.out) ≡ true → UsageFits s c → ((after_usage s c).opened || is_command_out (after_usage s c).out) ≡ true
    still s c h f = grind (arith, common_steps)

calm_behind : (s : WalkState) (b : List OrderEntry) → s.opened ≡ true → s.waiting ≡ true → WalkHolds s b → is_calm b ≡ true
unfolding WalkHolds is_calm
calm_behind s [] o w k = refl
calm_behind s (Occurred e ∷ b) o w k = absurd (clash s w k.0.none_waits)
  where
    clash : (s : WalkState) → s.waiting ≡ true → s.waiting ≡ false → ⊥
    clash s w h = grind (arith, common_steps)
calm_behind s (Used c ∷ b) o w k = both (has_used_device c) (is_calm b) (now s c o k.0) (calm_behind (after_usage s c) b (ap (λ x. x || stage_is_open c.stage) o) (ap (λ x. x || awaits_first c) w) k.1)
  where
    both : (x y : Bool) → x ≡ false → y ≡ true → (not x && y) ≡ true
    both x y f g = grind (arith, common_steps)

    now : (s : WalkState) (c : Usage) → s.opened ≡ true → UsageFits s c → has_used_device c ≡ false
    now s c h f = grind (arith, common_steps)

-- while a command is out no run behind its own touched the device, and no event stands there where its run awaits its first answer
pub alone_behind : (d : DeviceRecord) (a b : List OrderEntry) (c : Usage) → DeviceInvariant d → d.order ≡ a ++ Used c ∷ b → holds_command c.grip ≡ true → has has_used_device b ≡ false
alone_behind d a b c i at g =
    let z : WalkState = walk_start d.first_up d.first in
    let k : Cut z a c b = cut z a c b (subst (λ l. WalkHolds z l) at i.walk) in
    untouched_behind (after_usage (walk_end z a) c) b (now (walk_end z a) c g) k.rest
  where
    now : (s : WalkState) (c : Usage) → holds_command c.grip ≡ true → ((after_usage s c).opened || is_command_out (after_usage s c).out) ≡ true
    now s c g = grind (arith, common_steps)

pub waits_calm : (d : DeviceRecord) (a b : List OrderEntry) (c : Usage) → DeviceInvariant d → d.order ≡ a ++ Used c ∷ b → awaits_first c ≡ true → is_calm b ≡ true
waits_calm d a b c i at w =
    let z : WalkState = walk_start d.first_up d.first in
    let k : Cut z a c b = cut z a c b (subst (λ l. WalkHolds z l) at i.walk) in
    calm_behind (after_usage (walk_end z a) c) b (opening (walk_end z a) c w) (waiting (walk_end z a) c w) k.rest
  where
    opening : (s : WalkState) (c : Usage) → awaits_first c ≡ true → (after_usage s c).opened ≡ true
    opening s c h = grind (arith, common_steps)

    waiting : (s : WalkState) (c : Usage) → awaits_first c ≡ true → (after_usage s c).waiting ≡ true
    waiting s c h = grind (arith, common_steps)

-- a new device keeps the invariant
pub begins : (up : Bool) (v : ℕ) → DeviceInvariant (new_device up v)
unfolding WalkHolds walk_end
begins up v = record { walk = tt; ends = record { same = refl; span = λ h. absurd (no h); out = λ h. refl } }
  where
    no : false ≡ true → ⊥
    no h = grind (arith, common_steps)

pub settled_front : (d : DeviceRecord) (a : List OrderEntry) → (walk_after d a).settled ≡ is_write_settled (effective None a)
settled_front d a = (effect (walk_start d.first_up d.first) d.first None a (record { stand = refl; settled = refl })).settled

pub reads : (d : DeviceRecord) (a b : List OrderEntry) (c : Usage) → DeviceInvariant d → d.order ≡ a ++ Used c ∷ b → c.grip ≡ Reads → ReadFinds d a c d.held
reads d a b c i at g =
    let f = read_finds d a b c at g i in
    let z : WalkState = walk_start d.first_up d.first in
    let k : Cut z a c b = cut z a c b (subst (λ l. WalkHolds z l) at i.walk) in
    record { own = f.own; committed = f.committed; again = λ n w y r. f.committed w ∙ sym (k.fits.read n y r); settled = λ n. sym (settled_front d a) ∙ f.settled n }
