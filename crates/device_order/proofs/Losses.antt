-- How many runs a failure or a restart loses.
use Rattle.device_order.proofs.Answers.{tidy_front}
use Rattle.device_order.proofs.Claims.{opened_stays, untouched_behind, up_spanned}
use Rattle.device_order.proofs.Effects.{Tidy, none_lost, undo_last}
use Rattle.device_order.proofs.Parts.{Cut, cut}
use Rattle.device_order.proofs.Undos.{Undone, undone}
use Rattle.device_order.proofs.Prelude.{Bool, DeviceFits, DeviceInvariant, DeviceRecord, List, Occurred, OrderEntry, Probe, Restores, Undo, Undoes, Usage, UsageFits, Used, WalkHolds, WalkState, [], after_usage, ap, arith, both_ways, common_steps, false, has, has_used_device, holds_command, is_command_out, is_restart, is_up, or_from, or_parts, refl, spans_up, stage_is_open, subst, sym, true, walk_end, walk_start, ℕ, ◌++◌, ◌||◌, ◌∙◌, ◌∷◌, ◌≡◌}

-- the walk has seen a run that spans where there is one
pub spanned_has : (s : WalkState) (l : List OrderEntry) → (walk_end s l).spanned ≡ (s.spanned || has spans_up l)
unfolding walk_end has
spanned_has s [] = right s.spanned
  where
    right : (x : Bool) → x ≡ (x || false)
    right x = grind (arith, common_steps)
spanned_has s (Occurred e ∷ l) = spanned_has (record s { up = is_restart e }) l
spanned_has s (Used u ∷ l) = spanned_has (after_usage s u) l ∙ join s.spanned (spans_up u) (has spans_up l)
  where
    join : (x y z : Bool) → ((x || y) || z) ≡ (x || (y || z))
    join x y z = grind (arith, common_steps)

-- behind no open run there was none that spans
none_opened : (s : WalkState) (l : List OrderEntry) → (walk_end s l).opened ≡ false → has spans_up l ≡ false
unfolding walk_end has
none_opened s [] h = refl
none_opened s (Occurred e ∷ l) h = none_opened (record s { up = is_restart e }) l h
none_opened s (Used u ∷ l) h = or_from (spans_up u) (has spans_up l) (at (stage_is_open u.stage) refl) (none_opened (after_usage s u) l h)
  where
    now : (s : WalkState) (u : Usage) → stage_is_open u.stage ≡ true → (after_usage s u).opened ≡ true
    now s u o = grind (arith, common_steps)

    shut : (u : Usage) → stage_is_open u.stage ≡ false → spans_up u ≡ false
    shut u o = grind (arith, common_steps)

    at : (x : Bool) → stage_is_open u.stage ≡ x → spans_up u ≡ false
    at true o = absurd (both_ways ((walk_end (after_usage s u) l).opened) h (opened_stays (after_usage s u) l (now s u o)))
    at false o = shut u o

-- nor is there one among runs that did not touch the device
none_touched : (l : List OrderEntry) → has has_used_device l ≡ false → has spans_up l ≡ false
unfolding has
none_touched [] h = refl
none_touched (Occurred e ∷ l) h = none_touched l h
none_touched (Used u ∷ l) h = let p = or_parts (has_used_device u) (has has_used_device l) h in or_from (spans_up u) (has spans_up l) (bare u p.0) (none_touched l p.1)
  where
    bare : (u : Usage) → has_used_device u ≡ false → spans_up u ≡ false
    bare u h = grind (arith, common_steps)

-- where a run spans, or its command is out, no other run spans
pub one_spans : (d : DeviceRecord) (a b : List OrderEntry) (u : Usage) → DeviceInvariant d → d.order ≡ a ++ Used u ∷ b → (spans_up u || holds_command u.grip) ≡ true
    → (has spans_up a ≡ false) × (has spans_up b ≡ false)
one_spans d a b u i at o =
    let z : WalkState = walk_start d.first_up d.first in
    let k : Cut z a u b = cut z a u b (subst (λ l. WalkHolds z l) at i.walk) in
    (none_opened z a (k.fits.after_open (touches u o)), none_touched b (untouched_behind (after_usage (walk_end z a) u) b (blocks (walk_end z a) u o) k.rest))
  where
    touches : (u : Usage) → (spans_up u || holds_command u.grip) ≡ true → has_used_device u ≡ true
    touches u o = grind (arith, common_steps)

    blocks : (s : WalkState) (u : Usage) → (spans_up u || holds_command u.grip) ≡ true → ((after_usage s u).opened || is_command_out (after_usage s u).out) ≡ true
    blocks s u o = grind (arith, common_steps)

none_spans : (s : WalkState) (l : List OrderEntry) → (walk_end s l).spanned ≡ false → has spans_up l ≡ false
none_spans s l h = (or_parts s.spanned (has spans_up l) (sym (spanned_has s l) ∙ h)).1

-- while a restoring probe is out no run spans
pub restart_loses_none : (d : DeviceRecord) (v : ℕ) → DeviceInvariant d → d.probe ≡ Restores v → has spans_up d.order ≡ false
restart_loses_none d v i p =
    let z : WalkState = walk_start d.first_up d.first in
    none_spans z d.order (shut (walk_end z d.order) d.up d.held v (subst (λ q. DeviceFits (walk_end z d.order) d.up d.held q) p i.ends))
  where
    shut : (e : WalkState) (up : Bool) (held v : ℕ) → DeviceFits e up held (Restores v) → e.spanned ≡ false
    shut e up held v x = grind (arith, common_steps)

-- nor while an undo is out
pub undo_loses_none : (d : DeviceRecord) (a b : List OrderEntry) (u : Usage) (v : ℕ) → DeviceInvariant d → d.order ≡ a ++ Used u ∷ b → u.grip ≡ Undoes v → has spans_up d.order ≡ false
undo_loses_none d a b u v i at g =
    let z : WalkState = walk_start d.first_up d.first in
    let s : WalkState = walk_end z a in
    let k : Cut z a u b = cut z a u b (subst (λ l. WalkHolds z l) at i.walk) in
    let y : Undone z a u b = undone z a u b v k g in
    let x : DeviceFits (walk_end z (a ++ Used u ∷ b)) d.up d.held d.probe = subst (λ l. DeviceFits (walk_end z l) d.up d.held d.probe) at i.ends in
    let undoing : (walk_end (after_usage s u) b).undoing ≡ true = ap (λ (q : WalkState). q.undoing) (sym k.ends) ∙ undoing_of (walk_end z (a ++ Used u ∷ b)) v d.up d.held d.probe (y.out v g) x in
    none_spans z d.order
    (ap (λ l. (walk_end z l).spanned) at ∙ ap (λ (q : WalkState). q.spanned) k.ends ∙ none_lost (after_usage s u) b (exposes s u v g k.fits) (undo_last (after_usage s u) b y.free undoing) k.rest
    ∙ shut s u v g (tidy_front d.first_up d.first a k.front) k.fits)
  where
    undoing_of : (e : WalkState) (v : ℕ) (up : Bool) (held : ℕ) (p : Probe) → e.out ≡ Undo v → DeviceFits e up held p → e.undoing ≡ true
    undoing_of e v up held p o x = grind (arith, common_steps)

    exposes : (s : WalkState) (u : Usage) (v : ℕ) → u.grip ≡ Undoes v → UsageFits s u → (after_usage s u).exposed ≡ true
    exposes s u v g f = grind (arith, common_steps)

    shut : (s : WalkState) (u : Usage) (v : ℕ) → u.grip ≡ Undoes v → Tidy s → UsageFits s u → (after_usage s u).spanned ≡ false
    shut s u v g t f = grind (arith, common_steps)

-- a run that has more to do sees no device up that is counted down
pub down_unseen : (d : DeviceRecord) (a b : List OrderEntry) (u : Usage) → DeviceInvariant d → d.order ≡ a ++ Used u ∷ b → stage_is_open u.stage ≡ true → d.up ≡ false → is_up u.view ≡ false
down_unseen d a b u i at o down = by (is_up u.view) refl
  where
    spans : (u : Usage) → stage_is_open u.stage ≡ true → is_up u.view ≡ true → spans_up u ≡ true
    spans u o v = grind (arith, common_steps)

    by : (x : Bool) → is_up u.view ≡ x → is_up u.view ≡ false
    by true v = absurd (both_ways d.up down (up_spanned d a b u i at (spans u o v)))
    by false v = v
