-- The writes of an order: which one is in effect, and what undos and grips leave of it.
use Rattle.device_order.proofs.Prelude.{Bool, Commands, GripOut, Home, List, Occurred, OrderEntry, Undo, Usage, UsageFits, Used, WalkHolds, WalkState, [], after_usage, ap, arith, both_ways, common_steps, false, has, has_write, holds_grip, if_written, is_command_out, is_home, is_in_effect, is_restart, or_from, or_parts, refl, spans_up, subst, sym, true, walk_end, ◌||◌, ◌∙◌, ◌∷◌, ◌≡◌}

-- what of the last writes two walks share
pub record Alike (s t : WalkState) : Type 0 where
  pub stand : t.stand ≡ s.stand
  pub settled : s.settled ≡ true → t.settled ≡ true
  pub undoing : s.undoing ≡ true → t.undoing ≡ true

alike_next : (s t : WalkState) (c : Usage) → Alike s t → Alike (after_usage s c) (after_usage t c)
alike_next s t c r = grind (arith, common_steps)

pub alike : (s t : WalkState) (b : List OrderEntry) → Alike s t → Alike (walk_end s b) (walk_end t b)
unfolding walk_end
alike s t [] r = r
alike s t (Occurred e ∷ b) r = alike (record s { up = is_restart e }) (record t { up = is_restart e }) b (record { stand = r.stand; settled = r.settled; undoing = r.undoing })
alike s t (Used c ∷ b) r = alike (after_usage s c) (after_usage t c) b (alike_next s t c r)

-- where no write is in effect, the stand stays
pub unmoved : (s : WalkState) (b : List OrderEntry) → has is_in_effect b ≡ false → (walk_end s b).stand ≡ s.stand
unfolding walk_end has
unmoved s [] h = refl
unmoved s (Occurred e ∷ b) h = unmoved (record s { up = is_restart e }) b h
unmoved s (Used c ∷ b) h = let p = or_parts (is_in_effect c) (has is_in_effect b) h in unmoved (after_usage s c) b p.1 ∙ one s c p.0
  where
    one : (s : WalkState) (c : Usage) → is_in_effect c ≡ false → (after_usage s c).stand ≡ s.stand
    one s c h = grind (arith, common_steps)

pub undone_stays : (s : WalkState) (b : List OrderEntry) → has has_write b ≡ false → (walk_end s b).undoing ≡ s.undoing
unfolding walk_end has
undone_stays s [] h = refl
undone_stays s (Occurred e ∷ b) h = undone_stays (record s { up = is_restart e }) b h
undone_stays s (Used c ∷ b) h = let p = or_parts (has_write c) (has has_write b) h in undone_stays (after_usage s c) b p.1 ∙ one s c p.0
  where
    one : (s : WalkState) (c : Usage) → has_write c ≡ false → (after_usage s c).undoing ≡ s.undoing
    one s c h = grind (arith, common_steps)

-- where one is, what stood before it does not matter
pub overwritten : (s t : WalkState) (b : List OrderEntry) → has is_in_effect b ≡ true → Alike (walk_end s b) (walk_end t b)
unfolding walk_end has
overwritten s t [] h = grind (arith, common_steps)
overwritten s t (Occurred e ∷ b) h = overwritten (record s { up = is_restart e }) (record t { up = is_restart e }) b h
overwritten s t (Used c ∷ b) h = at (λ g. overwritten (after_usage s c) (after_usage t c) b g) (has is_in_effect b) refl
  where
    now : (s t : WalkState) (c : Usage) (x : Bool) → x ≡ false → (is_in_effect c || x) ≡ true → Alike (after_usage s c) (after_usage t c)
    now s t c x e h = grind (arith, common_steps)

    at : (has is_in_effect b ≡ true → Alike (walk_end (after_usage s c) b) (walk_end (after_usage t c) b)) → (x : Bool) → has is_in_effect b ≡ x → Alike (walk_end (after_usage s c) b) (walk_end (after_usage t c) b)
    at ih true e = ih e
    at ih false e = alike (after_usage s c) (after_usage t c) b (now s t c (has is_in_effect b) e h)

-- where no grip is out, one is put in, or another in its place
pub out_free : (s : WalkState) (b : List OrderEntry) → has holds_grip b ≡ false → (walk_end s b).out ≡ s.out
unfolding walk_end has
out_free s [] h = refl
out_free s (Occurred e ∷ b) h = out_free (record s { up = is_restart e }) b h
out_free s (Used c ∷ b) h = let p = or_parts (holds_grip c) (has holds_grip b) h in out_free (after_usage s c) b p.1 ∙ one s c p.0
  where
    one : (s : WalkState) (c : Usage) → holds_grip c ≡ false → (after_usage s c).out ≡ s.out
    one s c h = grind (arith, common_steps)

held_next : (s : WalkState) (c : Usage) → is_home s.out ≡ false → is_home (after_usage s c).out ≡ false
held_next s c h = grind (arith, common_steps)

pub held_end : (s : WalkState) (b : List OrderEntry) → is_home s.out ≡ false → is_home (walk_end s b).out ≡ false
unfolding walk_end
held_end s [] h = h
held_end s (Occurred e ∷ b) h = held_end (record s { up = is_restart e }) b h
held_end s (Used c ∷ b) h = held_end (after_usage s c) b (held_next s c h)

pub free_behind : (s : WalkState) (b : List OrderEntry) → is_home s.out ≡ false → WalkHolds s b → has holds_grip b ≡ false
unfolding WalkHolds has
free_behind s [] h k = refl
free_behind s (Occurred e ∷ b) h k = free_behind (record s { up = is_restart e }) b h k.1
free_behind s (Used c ∷ b) h k = or_from (holds_grip c) (has holds_grip b) (one s c k.0 h) (free_behind (after_usage s c) b (held_next s c h) k.1)
  where
    one : (s : WalkState) (c : Usage) → UsageFits s c → is_home s.out ≡ false → holds_grip c ≡ false
    one s c f h = grind (arith, common_steps)

pub home_free : (s : WalkState) (b : List OrderEntry) → is_home (walk_end s b).out ≡ true → has holds_grip b ≡ false
unfolding walk_end has
home_free s [] h = refl
home_free s (Occurred e ∷ b) h = home_free (record s { up = is_restart e }) b h
home_free s (Used c ∷ b) h = or_from (holds_grip c) (has holds_grip b) (one s c (at (is_home (after_usage s c).out) refl)) (home_free (after_usage s c) b h)
  where
    at : (x : Bool) → is_home (after_usage s c).out ≡ x → is_home (after_usage s c).out ≡ true
    at true e = e
    at false e = absurd (both_ways (is_home (walk_end (after_usage s c) b).out) (held_end (after_usage s c) b e) h)

    one : (s : WalkState) (c : Usage) → is_home (after_usage s c).out ≡ true → holds_grip c ≡ false
    one s c h = grind (arith, common_steps)

-- behind an entry with no grip behind it, the grip that is out may be another, if no command's
pub record Outs (s : WalkState) (o : GripOut) (b : List OrderEntry) : Type 0 where
  pub walk : WalkHolds (record s { out = o }) b
  pub ends : walk_end (record s { out = o }) b ≡ record (walk_end s b) { out = o }

pub another_out : (s : WalkState) (o : GripOut) (b : List OrderEntry) → has holds_grip b ≡ false → is_command_out o ≡ false → WalkHolds s b → Outs s o b
unfolding WalkHolds walk_end has
another_out s o [] h n k = record { walk = tt; ends = refl }
another_out s o (Occurred e ∷ b) h n k = let i = another_out (record s { up = is_restart e }) o b h n k.1 in record { walk = (record { turns = k.0.turns; none_waits = k.0.none_waits }, i.walk); ends = i.ends }
another_out s o (Used c ∷ b) h n k =
    let p = or_parts (holds_grip c) (has holds_grip b) h in
    let i = another_out (after_usage s c) o b p.1 n k.1 in
    let e : after_usage (record s { out = o }) c ≡ record (after_usage s c) { out = o } = one s o c p.0 in
    record {
      walk = (fits s o c p.0 n k.0, subst (λ x. WalkHolds x b) (sym e) i.walk);
      ends = ap (λ x. walk_end x b) e ∙ i.ends;
    }
  where
    one : (s : WalkState) (o : GripOut) (c : Usage) → holds_grip c ≡ false → after_usage (record s { out = o }) c ≡ record (after_usage s c) { out = o }
    one s o c h = grind (arith, common_steps)

    fits : (s : WalkState) (o : GripOut) (c : Usage) → holds_grip c ≡ false → is_command_out o ≡ false → UsageFits s c → UsageFits (record s { out = o }) c
    fits s o c h n f = grind (arith, common_steps)

pub acts_stays : (b : List OrderEntry) → has holds_grip b ≡ false → has has_write b ≡ has is_in_effect b
unfolding has
acts_stays [] h = refl
acts_stays (Occurred e ∷ b) h = acts_stays b h
acts_stays (Used c ∷ b) h = let p = or_parts (holds_grip c) (has holds_grip b) h in one c (has has_write b) (has is_in_effect b) p.0 (acts_stays b p.1)
  where
    one : (c : Usage) (x y : Bool) → holds_grip c ≡ false → x ≡ y → (has_write c || x) ≡ (is_in_effect c || y)
    one c x y h e = grind (arith, common_steps)

abbrev pub is_undo_out : GripOut → Bool
is_undo_out Home = false
is_undo_out (Commands b) = false
is_undo_out (Undo v) = true

-- what every walk keeps of itself
pub record Tidy (s : WalkState) : Type 0 where
  pub settled : s.settled ≡ true → s.stand ≡ s.value
  pub spanned : s.spanned ≡ true → s.opened ≡ true
  pub waiting : s.waiting ≡ true → s.opened ≡ true
  pub exposed : s.settled ≡ true → is_undo_out s.out ≡ false → s.exposed ≡ false

tidy_next : (s : WalkState) (c : Usage) → Tidy s → UsageFits s c → Tidy (after_usage s c)
tidy_next s c t f = grind (arith, common_steps)

pub tidy : (s : WalkState) (b : List OrderEntry) → Tidy s → WalkHolds s b → Tidy (walk_end s b)
unfolding WalkHolds walk_end
tidy s [] t k = t
tidy s (Occurred e ∷ b) t k = tidy (record s { up = is_restart e }) b (record { settled = t.settled; spanned = t.spanned; waiting = t.waiting; exposed = t.exposed }) k.1
tidy s (Used c ∷ b) t k = tidy (after_usage s c) b (tidy_next s c t k.0) k.1

pub same_stand : (s t : WalkState) (b : List OrderEntry) → t.stand ≡ s.stand → (walk_end t b).stand ≡ (walk_end s b).stand
unfolding walk_end
same_stand s t [] h = h
same_stand s t (Occurred e ∷ b) h = same_stand (record s { up = is_restart e }) (record t { up = is_restart e }) b h
same_stand s t (Used c ∷ b) h = same_stand (after_usage s c) (after_usage t c) b (ap (if_written (is_in_effect c) c.wrote) h)

pub spanned_end : (s : WalkState) (b : List OrderEntry) → has spans_up b ≡ false → (walk_end s b).spanned ≡ s.spanned
unfolding walk_end has
spanned_end s [] h = refl
spanned_end s (Occurred e ∷ b) h = spanned_end (record s { up = is_restart e }) b h
spanned_end s (Used c ∷ b) h = let p = or_parts (spans_up c) (has spans_up b) h in spanned_end (after_usage s c) b p.1 ∙ one s c p.0
  where
    one : (s : WalkState) (c : Usage) → spans_up c ≡ false → (after_usage s c).spanned ≡ s.spanned
    one s c h = grind (arith, common_steps)

-- behind the run whose undo is out no write of another stays
pub undo_last : (s : WalkState) (b : List OrderEntry) → has holds_grip b ≡ false → (walk_end s b).undoing ≡ true → has has_write b ≡ false
unfolding walk_end has
undo_last s [] n h = refl
undo_last s (Occurred e ∷ b) n h = undo_last (record s { up = is_restart e }) b n h
undo_last s (Used c ∷ b) n h =
    let p = or_parts (holds_grip c) (has holds_grip b) n in
    let r : has has_write b ≡ false = undo_last (after_usage s c) b p.1 h in
    one s c (has has_write b) p.0 (sym (undone_stays (after_usage s c) b r) ∙ h) r
  where
    one : (s : WalkState) (c : Usage) (x : Bool) → holds_grip c ≡ false → (after_usage s c).undoing ≡ true → x ≡ false → (has_write c || x) ≡ false
    one s c x n h e = grind (arith, common_steps)

-- and no open run there sees the device up: it would have written, or read where a write is exposed
pub none_lost : (s : WalkState) (b : List OrderEntry) → s.exposed ≡ true → has has_write b ≡ false → WalkHolds s b → (walk_end s b).spanned ≡ s.spanned
unfolding WalkHolds walk_end has
none_lost s [] x n k = refl
none_lost s (Occurred e ∷ b) x n k = none_lost (record s { up = is_restart e }) b x n k.1
none_lost s (Used c ∷ b) x n k =
    let p = or_parts (has_write c) (has has_write b) n in
    none_lost (after_usage s c) b (open_still s c k.0 x p.0) p.1 k.1 ∙ one s c k.0 x p.0
  where
    open_still : (s : WalkState) (c : Usage) → UsageFits s c → s.exposed ≡ true → has_write c ≡ false → (after_usage s c).exposed ≡ true
    open_still s c f x n = grind (arith, common_steps)

    one : (s : WalkState) (c : Usage) → UsageFits s c → s.exposed ≡ true → has_write c ≡ false → (after_usage s c).spanned ≡ s.spanned
    one s c f x n = grind (arith, common_steps)
