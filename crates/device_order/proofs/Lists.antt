-- The walk along an order of two parts.
use Rattle.device_order.proofs.Prelude.{Bool, Event, List, Occurred, OrderEntry, Usage, Used, WalkHolds, WalkState, [], after_entry, after_usage, ap, arith, awaits_first, common_steps, false, has, has_pending, if◌then◌else◌, is_restart, or_left, or_parts, or_right, refl, true, walk_end, with_event, ◌++◌, ◌||◌, ◌∙◌, ◌∷◌, ◌≡◌}

pub end_join : (s : WalkState) (a b : List OrderEntry) → walk_end s (a ++ b) ≡ walk_end (walk_end s a) b
unfolding walk_end
end_join s [] b = refl
end_join s (c ∷ a) b = end_join (after_entry s c) a b

pub walk_join : (s : WalkState) (a b : List OrderEntry) → WalkHolds s a → WalkHolds (walk_end s a) b → WalkHolds s (a ++ b)
unfolding WalkHolds walk_end
walk_join s [] b h k = k
walk_join s (c ∷ a) b h k = (h.0, walk_join (after_entry s c) a b h.1 k)

pub walk_front : (s : WalkState) (a b : List OrderEntry) → WalkHolds s (a ++ b) → WalkHolds s a
unfolding WalkHolds walk_end
walk_front s [] b h = tt
walk_front s (c ∷ a) b h = (h.0, walk_front (after_entry s c) a b h.1)

pub walk_back : (s : WalkState) (a b : List OrderEntry) → WalkHolds s (a ++ b) → WalkHolds (walk_end s a) b
unfolding WalkHolds walk_end
walk_back s [] b h = h
walk_back s (c ∷ a) b h = walk_back (after_entry s c) a b h.1

pub has_join : (p : Usage → Bool) (a b : List OrderEntry) → has p (a ++ b) ≡ (has p a || has p b)
unfolding has
has_join p [] b = refl
has_join p (Occurred e ∷ a) b = has_join p a b
has_join p (Used c ∷ a) b = one (p c) (has p a) (has p b) (has p (a ++ b)) (has_join p a b)
  where
    one : (x y z w : Bool) → w ≡ (y || z) → (x || w) ≡ ((x || y) || z)
    one x y z w e = grind (arith, common_steps)

pub has_front : (p : Usage → Bool) (a b : List OrderEntry) → has p (a ++ b) ≡ false → has p a ≡ false
has_front p a b h = one (has p a) (has p b) (has p (a ++ b)) (has_join p a b) h
  where
    one : (x y w : Bool) → w ≡ (x || y) → w ≡ false → x ≡ false
    one x y w e h = grind (arith, common_steps)

pub has_back : (p : Usage → Bool) (a b : List OrderEntry) → has p (a ++ b) ≡ false → has p b ≡ false
has_back p a b h = one (has p a) (has p b) (has p (a ++ b)) (has_join p a b) h
  where
    one : (x y w : Bool) → w ≡ (x || y) → w ≡ false → y ≡ false
    one x y w e h = grind (arith, common_steps)

pub has_head : (p : Usage → Bool) (c : Usage) (b : List OrderEntry) → has p (Used c ∷ b) ≡ false → p c ≡ false
unfolding has
has_head p c b h = (or_parts (p c) (has p b) h).0

pub has_tail : (p : Usage → Bool) (c : Usage) (b : List OrderEntry) → has p (Used c ∷ b) ≡ false → has p b ≡ false
unfolding has
has_tail p c b h = (or_parts (p c) (has p b) h).1

pub opened_end : (s : WalkState) (a : List OrderEntry) → has has_pending a ≡ false → (walk_end s a).opened ≡ s.opened
unfolding walk_end has
opened_end s [] h = refl
opened_end s (Occurred e ∷ a) h = opened_end (record s { up = is_restart e }) a h
opened_end s (Used c ∷ a) h = opened_end (after_usage s c) a (has_tail has_pending c a h) ∙ one s c (has_head has_pending c a h)
  where
    one : (s : WalkState) (c : Usage) → has_pending c ≡ false → (after_usage s c).opened ≡ s.opened
    one s c h = grind (arith, common_steps)

pub has_event : (p : Usage → Bool) (e : Event) (l : List OrderEntry) → has p (with_event e l) ≡ has p l
unfolding has with_event
has_event p e [] = refl
has_event p e (Occurred x ∷ l) = has_event p e l
has_event p e (Used c ∷ l) = at (awaits_first c) (has_event p e l)
  where
    at : (x : Bool) → has p (with_event e l) ≡ has p l → has p (if x then (Occurred e ∷ Used c ∷ l) else (Used c ∷ with_event e l)) ≡ has p (Used c ∷ l)
    at true h = refl
    at false h = ap (λ y. p c || y) h

pub has_at : (p : Usage → Bool) (a : List OrderEntry) (c : Usage) (b : List OrderEntry) → p c ≡ true → has p (a ++ Used c ∷ b) ≡ true
unfolding has
has_at p [] c b h = or_left (p c) (has p b) h
has_at p (Occurred e ∷ a) c b h = has_at p a c b h
has_at p (Used d ∷ a) c b h = or_right (p d) (has p (a ++ Used c ∷ b)) (has_at p a c b h)
