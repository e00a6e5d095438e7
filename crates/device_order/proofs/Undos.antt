-- An undo goes out, is dropped, and comes back.
use Rattle.device_order.proofs.Answers.{tidy_front, Fell, fell, held_up}
use Rattle.device_order.proofs.Below.{Below, Under, under}
use Rattle.device_order.proofs.Commands.{home_front}
use Rattle.device_order.proofs.Effects.{Tidy, out_free, unmoved, undone_stays, free_behind, another_out, Outs, acts_stays, same_stand, undo_last, none_lost}
use Rattle.device_order.proofs.Lists.{has_back, has_head, has_tail, end_join}
use Rattle.device_order.proofs.Parts.{Cut, cut, mend, Lower, lower}
use Rattle.device_order.proofs.Prelude.{Bool, DeviceFits, DeviceInvariant, DeviceRecord, Failure, Free, Home, List, NothingIsOut, OrderEntry, Probe, Undo, Undoes, Unprobed, Usage, UsageFits, Used, WalkHolds, WalkState, after_usage, ap, arith, common_steps, false, has, holds_grip, is_command_out, is_home, is_in_effect, refl, stage_is_doomed, subst, sym, true, walk_after, walk_end, walk_start, with_event, ℕ, ◌++◌, ◌∙◌, ◌∷◌, ◌≡◌}

-- the undo goes out

go_fits : (s : WalkState) (c : Usage) (v : ℕ) → stage_is_doomed c.stage ≡ true → is_in_effect c ≡ true → s.out ≡ Home → UsageFits s c → UsageFits s (record c { grip = Undoes v })
go_fits s c v n x o f = grind (arith, common_steps)

go_below : (s : WalkState) (c : Usage) (v : ℕ) → stage_is_doomed c.stage ≡ true → Below (after_usage s c) (record (after_usage s (record c { grip = Undoes v })) { out = (after_usage s c).out })
go_below s c v n = grind (arith, common_steps)

go_ends : (s e t e' : WalkState) (c : Usage) (v held : ℕ) → stage_is_doomed c.stage ≡ true → is_in_effect c ≡ true → holds_grip c ≡ false
    → Below e t → e' ≡ record t { out = Undo v } → e'.stand ≡ v → e'.undoing ≡ true → DeviceFits e true held Unprobed → DeviceFits e' true held Unprobed
go_ends s e t e' c v held n x h r q st un y = grind (arith, common_steps)

pub undo_go : (d : DeviceRecord) (a b : List OrderEntry) (c : Usage) → d.order ≡ a ++ Used c ∷ b → stage_is_doomed c.stage ≡ true → is_in_effect c ≡ true → has is_in_effect b ≡ false → NothingIsOut d → d.up ≡ true → DeviceInvariant d
    → DeviceInvariant (record d { order = a ++ Used (record c { grip = Undoes (walk_after d (a ++ b)).stand }) ∷ b })
undo_go d a b c at n x y home up i =
    let z : WalkState = walk_start d.first_up d.first in
    let s : WalkState = walk_end z a in
    let v : ℕ = (walk_end z (a ++ b)).stand in
    let c' : Usage = record c { grip = Undoes v } in
    let k : Cut z a c b = cut z a c b (subst (λ l. WalkHolds z l) at i.walk) in
    let free : has holds_grip b ≡ false = has_tail holds_grip c b (has_back holds_grip a (Used c ∷ b) (subst (λ l. has holds_grip l ≡ false) at home.free)) in
    let mine : holds_grip c ≡ false = has_head holds_grip c b (has_back holds_grip a (Used c ∷ b) (subst (λ l. has holds_grip l ≡ false) at home.free)) in
    let t : WalkState = record (after_usage s c') { out = (after_usage s c).out } in
    let u : Under (after_usage s c) t b = under (after_usage s c) t b (go_below s c v n) k.rest in
    let w : Outs t (Undo v) b = another_out t (Undo v) b free refl u.walk in
    let f : UsageFits s c' = go_fits s c v n x (home_front d a (Used c ∷ b) at home) k.fits in
    let e' : walk_end z (a ++ Used c' ∷ b) ≡ walk_end (after_usage s c') b = (cut z a c' b (mend z a c' b k.front f w.walk)).ends in
    let stand : (walk_end (after_usage s c') b).stand ≡ v = unmoved (after_usage s c') b y ∙ undone s c v ∙ sym (unmoved s b y) ∙ ap (λ (q : WalkState). q.stand) (sym (end_join z a b)) in
    let undoing : (walk_end (after_usage s c') b).undoing ≡ true = undone_stays (after_usage s c') b (acts_stays b free ∙ y) ∙ taken s c v x in
    let e : DeviceFits (walk_end (after_usage s c) b) true d.held Unprobed = subst (λ q. DeviceFits q true d.held Unprobed) k.ends
    (subst (λ q. DeviceFits (walk_end z (a ++ Used c ∷ b)) q d.held Unprobed) up (subst (λ q. DeviceFits (walk_end z (a ++ Used c ∷ b)) d.up d.held q)
    home.unprobed (subst (λ q. DeviceFits (walk_end z q) d.up d.held d.probe) at i.ends))) in
    record {
      walk = mend z a c' b k.front f w.walk;
      ends = subst (λ q. DeviceFits q d.up d.held d.probe) (sym e') (subst (λ q. DeviceFits (walk_end (after_usage s c') b) q d.held d.probe) (sym up) (subst (λ q. DeviceFits (walk_end (after_usage s c') b) true d.held q) (sym home.unprobed)
          (go_ends s (walk_end (after_usage s c) b) (walk_end t b) (walk_end (after_usage s c') b) c v d.held n x mine u.ends w.ends stand undoing e)));
    }
  where
    undone : (s : WalkState) (c : Usage) (v : ℕ) → (after_usage s (record c { grip = Undoes v })).stand ≡ s.stand
    undone s c v = grind (arith, common_steps)

    taken : (s : WalkState) (c : Usage) (v : ℕ) → is_in_effect c ≡ true → (after_usage s (record c { grip = Undoes v })).undoing ≡ true
    taken s c v x = grind (arith, common_steps)

-- the undo is dropped, as the device is down

drop_fits : (s : WalkState) (c : Usage) → stage_is_doomed c.stage ≡ true → is_in_effect c ≡ true → holds_grip c ≡ false → UsageFits s c → UsageFits s (record c { undid = true })
drop_fits s c n x h f = grind (arith, common_steps)

drop_below : (s : WalkState) (c : Usage) → stage_is_doomed c.stage ≡ true → Below (after_usage s c) (after_usage s (record c { undid = true }))
drop_below s c n = grind (arith, common_steps)

drop_ends : (e e' : WalkState) (held : ℕ) → Below e e' → is_home e.out ≡ true → DeviceFits e false held Unprobed → DeviceFits e' false held Unprobed
drop_ends e e' held r o x = grind (arith, common_steps)

pub drop_undo : (d : DeviceRecord) (a b : List OrderEntry) (c : Usage) → d.order ≡ a ++ Used c ∷ b → stage_is_doomed c.stage ≡ true → is_in_effect c ≡ true → NothingIsOut d → d.up ≡ false → DeviceInvariant d
    → DeviceInvariant (record d { order = a ++ Used (record c { undid = true }) ∷ b })
drop_undo d a b c at n x home down i =
    let z : WalkState = walk_start d.first_up d.first in
    let s : WalkState = walk_end z a in
    let c' : Usage = record c { undid = true } in
    let k : Cut z a c b = cut z a c b (subst (λ l. WalkHolds z l) at i.walk) in
    let mine : holds_grip c ≡ false = has_head holds_grip c b (has_back holds_grip a (Used c ∷ b) (subst (λ l. has holds_grip l ≡ false) at home.free)) in
    let l : Lower z a c c' b = lower z a c c' b k (drop_fits s c n x mine k.fits) (drop_below s c n) in
    let e : DeviceFits (walk_end z (a ++ Used c ∷ b)) false d.held Unprobed = subst (λ q. DeviceFits (walk_end z (a ++ Used c ∷ b)) q d.held Unprobed) down
    (subst (λ q. DeviceFits (walk_end z (a ++ Used c ∷ b)) d.up d.held q) home.unprobed
    (subst (λ q. DeviceFits (walk_end z q) d.up d.held d.probe) at i.ends)) in
    let o : is_home (walk_end z (a ++ Used c ∷ b)).out ≡ true = ap is_home (ap (λ q. (walk_end z q).out) (sym at) ∙ out_free z d.order home.free) in
    record {
      walk = l.walk;
      ends = subst (λ q. DeviceFits (walk_end z (a ++ Used c' ∷ b)) q d.held d.probe) (sym down) (subst (λ q. DeviceFits (walk_end z (a ++ Used c' ∷ b)) false d.held q) (sym home.unprobed)
          (drop_ends (walk_end z (a ++ Used c ∷ b)) (walk_end z (a ++ Used c' ∷ b)) d.held l.below o e));
    }

-- the undo is given back

done_fits : (s : WalkState) (c : Usage) (v : ℕ) → c.grip ≡ Undoes v → UsageFits s c → UsageFits s (record c { undid = true; grip = Free })
done_fits s c v g f = grind (arith, common_steps)

done_below : (s : WalkState) (c : Usage) (v : ℕ) → c.grip ≡ Undoes v → UsageFits s c → Below (after_usage s c) (record (after_usage s (record c { undid = true; grip = Free })) { out = (after_usage s c).out })
done_below s c v g f = grind (arith, common_steps)

done_stand : (s : WalkState) (c : Usage) (v : ℕ) → c.grip ≡ Undoes v → (after_usage s (record c { undid = true; grip = Free })).stand ≡ (after_usage s c).stand
done_stand s c v g = grind (arith, common_steps)

-- what is left of a use whose undo came back
pub record Undone (z : WalkState) (a : List OrderEntry) (c : Usage) (b : List OrderEntry) : Type 0 where
  pub walk : WalkHolds z (a ++ Used (record c { undid = true; grip = Free }) ∷ b)
  pub up : (walk_end z (a ++ Used (record c { undid = true; grip = Free }) ∷ b)).up ≡ (walk_end z (a ++ Used c ∷ b)).up
  pub spanned : (walk_end z (a ++ Used (record c { undid = true; grip = Free }) ∷ b)).spanned ≡ true → (walk_end z (a ++ Used c ∷ b)).spanned ≡ true
  pub stand : (walk_end z (a ++ Used (record c { undid = true; grip = Free }) ∷ b)).stand ≡ (walk_end z (a ++ Used c ∷ b)).stand
  pub home : (walk_end z (a ++ Used (record c { undid = true; grip = Free }) ∷ b)).out ≡ Home
  pub free : has holds_grip b ≡ false
  pub out : (v : ℕ) → c.grip ≡ Undoes v → (walk_end z (a ++ Used c ∷ b)).out ≡ Undo v

pub undone : (z : WalkState) (a : List OrderEntry) (c : Usage) (b : List OrderEntry) (v : ℕ) → Cut z a c b → c.grip ≡ Undoes v → Undone z a c b
undone z a c b v k g =
    let s : WalkState = walk_end z a in
    let c' : Usage = record c { undid = true; grip = Free } in
    let o : s.out ≡ Home = homely s c v g k.fits in
    let free : has holds_grip b ≡ false = free_behind (after_usage s c) b (ap is_home (taken s c v g)) k.rest in
    let t : WalkState = record (after_usage s c') { out = (after_usage s c).out } in
    let u : Under (after_usage s c) t b = under (after_usage s c) t b (done_below s c v g k.fits) k.rest in
    let w : Outs t s.out b = another_out t s.out b free (ap is_command_out o) u.walk in
    let e' : walk_end z (a ++ Used c' ∷ b) ≡ walk_end (after_usage s c') b = (cut z a c' b (mend z a c' b k.front (done_fits s c v g k.fits) w.walk)).ends in
    record {
      walk = mend z a c' b k.front (done_fits s c v g k.fits) w.walk;
      up = ap (λ (q : WalkState). q.up) e' ∙ ap (λ (q : WalkState). q.up) w.ends ∙ u.ends.up ∙ ap (λ (q : WalkState). q.up) (sym k.ends);
      spanned = λ h. ap (λ (q : WalkState). q.spanned) k.ends ∙ u.ends.spanned (ap (λ (q : WalkState). q.spanned) (sym w.ends) ∙ ap (λ (q : WalkState). q.spanned) (sym e') ∙ h);
      stand = ap (λ (q : WalkState). q.stand) e' ∙ same_stand (after_usage s c) (after_usage s c') b (done_stand s c v g) ∙ ap (λ (q : WalkState). q.stand) (sym k.ends);
      home = ap (λ (q : WalkState). q.out) e' ∙ out_free (after_usage s c') b free ∙ o;
      free = free;
      out = λ x h. ap (λ (q : WalkState). q.out) k.ends ∙ out_free (after_usage s c) b free ∙ taken s c x h;
    }
  where
    homely : (s : WalkState) (c : Usage) (v : ℕ) → c.grip ≡ Undoes v → UsageFits s c → s.out ≡ Home
    homely s c v g f = grind (arith, common_steps)

    taken : (s : WalkState) (c : Usage) (v : ℕ) → c.grip ≡ Undoes v → (after_usage s c).out ≡ Undo v
    taken s c v g = grind (arith, common_steps)

undo_ends : (e e' : WalkState) (v : ℕ) (up : Bool) (held : ℕ) (p : Probe) → e.out ≡ Undo v → e'.out ≡ Home → e'.up ≡ e.up → (e'.spanned ≡ true → e.spanned ≡ true) → e'.stand ≡ e.stand → DeviceFits e up held p → DeviceFits e' up v p
undo_ends e e' v up held p o h u q st x = grind (arith, common_steps)

pub undo_ok : (d : DeviceRecord) (a b : List OrderEntry) (c : Usage) (v : ℕ) → d.order ≡ a ++ Used c ∷ b → c.grip ≡ Undoes v → DeviceInvariant d
    → DeviceInvariant (record d { order = a ++ Used (record c { undid = true; grip = Free }) ∷ b; held = v })
undo_ok d a b c v at g i =
    let z : WalkState = walk_start d.first_up d.first in
    let c' : Usage = record c { undid = true; grip = Free } in
    let k : Cut z a c b = cut z a c b (subst (λ l. WalkHolds z l) at i.walk) in
    let u : Undone z a c b = undone z a c b v k g in
    record {
      walk = u.walk;
      ends = undo_ends (walk_end z (a ++ Used c ∷ b)) (walk_end z (a ++ Used c' ∷ b)) v d.up d.held d.probe (u.out v g) u.home u.up u.spanned u.stand (subst (λ q. DeviceFits (walk_end z q) d.up d.held d.probe) at i.ends);
    }

undo_holds : (c : Usage) (v : ℕ) → c.grip ≡ Undoes v → holds_grip c ≡ true
undo_holds c v g = grind (arith, common_steps)

undo_dead_ends : (e e1 e' : WalkState) (v h : ℕ) (up : Bool) (held : ℕ) (p : Probe) → e1 ≡ record e { up = false } → e1.out ≡ Undo v → e'.out ≡ Home → e'.up ≡ e1.up → e'.spanned ≡ false → DeviceFits e up held p → DeviceFits e' false h p
undo_dead_ends e e1 e' v h up held p q o n u w x = grind (arith, common_steps)

pub undo_dead : (d : DeviceRecord) (a b : List OrderEntry) (c : Usage) (v h : ℕ) → with_event Failure d.order ≡ a ++ Used c ∷ b → c.grip ≡ Undoes v → DeviceInvariant d
    → DeviceInvariant (record d { order = a ++ Used (record c { undid = true; grip = Free }) ∷ b; up = false; held = h })
undo_dead d a b c v h at g i =
    let z : WalkState = walk_start d.first_up d.first in
    let s : WalkState = walk_end z a in
    let c' : Usage = record c { undid = true; grip = Free } in
    let n : Fell d (a ++ Used c ∷ b) = fell d (a ++ Used c ∷ b) at (held_up d a b c at (undo_holds c v g) i) i in
    let k : Cut z a c b = cut z a c b n.walk in
    let u : Undone z a c b = undone z a c b v k g in
    let undoing : (walk_end (after_usage s c) b).undoing ≡ true = ap (λ (q : WalkState). q.undoing) (sym k.ends) ∙ ap (λ (q : WalkState). q.undoing) n.ends ∙ undoing_of (walk_end z d.order) v d.up d.held d.probe (ap (λ (q : WalkState). q.out) (sym n.ends) ∙ u.out v g) i.ends in
    let lost : (walk_end z (a ++ Used c ∷ b)).spanned ≡ false = ap (λ (q : WalkState). q.spanned) k.ends ∙ none_lost (after_usage s c) b (exposes_it s c v g k.fits) (undo_last (after_usage s c) b u.free undoing) k.rest ∙ shut s c v g (tidy_front d.first_up d.first a k.front) k.fits in
    record {
      walk = u.walk;
      ends = undo_dead_ends (walk_end z d.order) (walk_end z (a ++ Used c ∷ b)) (walk_end z (a ++ Used c' ∷ b)) v h d.up d.held d.probe n.ends (u.out v g) u.home u.up (no ((walk_end z (a ++ Used c' ∷ b)).spanned) ((walk_end z (a ++ Used c ∷ b)).spanned) u.spanned lost) i.ends;
    }
  where
    undoing_of : (e : WalkState) (v : ℕ) (up : Bool) (held : ℕ) (p : Probe) → e.out ≡ Undo v → DeviceFits e up held p → e.undoing ≡ true
    undoing_of e v up held p o x = grind (arith, common_steps)

    exposes_it : (s : WalkState) (c : Usage) (v : ℕ) → c.grip ≡ Undoes v → UsageFits s c → (after_usage s c).exposed ≡ true
    exposes_it s c v g f = grind (arith, common_steps)

    shut : (s : WalkState) (c : Usage) (v : ℕ) → c.grip ≡ Undoes v → Tidy s → UsageFits s c → (after_usage s c).spanned ≡ false
    shut s c v g t f = grind (arith, common_steps)

    no : (x y : Bool) → (x ≡ true → y ≡ true) → y ≡ false → x ≡ false
    no x y f h = grind (arith, common_steps)
