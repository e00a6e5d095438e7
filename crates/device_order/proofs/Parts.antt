-- An order, cut at a use.
use Rattle.device_order.proofs.Below.{Below, under}
use Rattle.device_order.proofs.Effects.{Alike, alike}
use Rattle.device_order.proofs.Lists.{end_join, walk_join, walk_front, walk_back}
use Rattle.device_order.proofs.Suffix.{Idle, blocked, blocks}
use Rattle.device_order.proofs.Prelude.{List, OrderEntry, Usage, UsageFits, Used, WalkHolds, WalkState, after_usage, ap, arith, awaits_first, common_steps, refl, subst, sym, true, walk_end, ◌++◌, ◌||◌, ◌∙◌, ◌∷◌, ◌≡◌}

-- an order cut at a use
pub record Cut (z : WalkState) (a : List OrderEntry) (c : Usage) (b : List OrderEntry) : Type 0 where
  pub front : WalkHolds z a
  pub fits : UsageFits (walk_end z a) c
  pub rest : WalkHolds (after_usage (walk_end z a) c) b
  pub ends : walk_end z (a ++ Used c ∷ b) ≡ walk_end (after_usage (walk_end z a) c) b

pub cut : (z : WalkState) (a : List OrderEntry) (c : Usage) (b : List OrderEntry) → WalkHolds z (a ++ Used c ∷ b) → Cut z a c b
unfolding WalkHolds walk_end
cut z a c b k =
    let w : WalkHolds (walk_end z a) (Used c ∷ b) = walk_back z a (Used c ∷ b) k in
    record { front = walk_front z a (Used c ∷ b) k; fits = w.0; rest = w.1; ends = end_join z a (Used c ∷ b) }

pub mend : (z : WalkState) (a : List OrderEntry) (c : Usage) (b : List OrderEntry) → WalkHolds z a → UsageFits (walk_end z a) c → WalkHolds (after_usage (walk_end z a) c) b → WalkHolds z (a ++ Used c ∷ b)
unfolding WalkHolds walk_end
mend z a c b f h k = walk_join z a (Used c ∷ b) f (h, k)

-- another use in its place, behind which nothing is touched
pub record Put (z : WalkState) (a : List OrderEntry) (c d : Usage) (b : List OrderEntry) : Type 0 where
  pub walk : WalkHolds z (a ++ Used d ∷ b)
  pub idle : Idle (after_usage (walk_end z a) c) (walk_end z (a ++ Used c ∷ b))
  pub idle' : Idle (after_usage (walk_end z a) d) (walk_end z (a ++ Used d ∷ b))
  pub up : (walk_end z (a ++ Used d ∷ b)).up ≡ (walk_end z (a ++ Used c ∷ b)).up

pub put : (z : WalkState) (a : List OrderEntry) (c d : Usage) (b : List OrderEntry) → Cut z a c b → blocks (after_usage (walk_end z a) c) ≡ true → UsageFits (walk_end z a) d → (awaits_first d ≡ true → awaits_first c ≡ true) → Put z a c d b
put z a c d b k h f w =
    let s : WalkState = walk_end z a in
    let i = blocked (after_usage s c) (after_usage s d) b h refl (more s c d w) k.rest in
    let e : walk_end z (a ++ Used d ∷ b) ≡ walk_end (after_usage s d) b = (cut z a d b (mend z a d b k.front f i.walk)).ends in
    record {
      walk = mend z a d b k.front f i.walk;
      idle = subst (λ x. Idle (after_usage s c) x) (sym k.ends) i.idle;
      idle' = subst (λ x. Idle (after_usage s d) x) (sym e) i.idle';
      up = ap (λ (x : WalkState). x.up) e ∙ i.up ∙ ap (λ (x : WalkState). x.up) (sym k.ends);
    }
  where
    more : (s : WalkState) (c d : Usage) → (awaits_first d ≡ true → awaits_first c ≡ true) → (s.waiting || awaits_first d) ≡ true → (s.waiting || awaits_first c) ≡ true
    more s c d w h = grind (arith, common_steps)

-- another use in its place, of which less is seen
pub record Lower (z : WalkState) (a : List OrderEntry) (c d : Usage) (b : List OrderEntry) : Type 0 where
  pub walk : WalkHolds z (a ++ Used d ∷ b)
  pub below : Below (walk_end z (a ++ Used c ∷ b)) (walk_end z (a ++ Used d ∷ b))

pub lower : (z : WalkState) (a : List OrderEntry) (c d : Usage) (b : List OrderEntry) → Cut z a c b → UsageFits (walk_end z a) d → Below (after_usage (walk_end z a) c) (after_usage (walk_end z a) d) → Lower z a c d b
lower z a c d b k f r =
    let s : WalkState = walk_end z a in
    let i = under (after_usage s c) (after_usage s d) b r k.rest in
    let e : walk_end z (a ++ Used d ∷ b) ≡ walk_end (after_usage s d) b = (cut z a d b (mend z a d b k.front f i.walk)).ends in
    record {
      walk = mend z a d b k.front f i.walk;
      below = subst (λ x. Below (walk_end z (a ++ Used c ∷ b)) x) (sym e) (subst (λ x. Below x (walk_end (after_usage s d) b)) (sym k.ends) i.ends);
    }

pub likewise : (z : WalkState) (a : List OrderEntry) (c d : Usage) (b : List OrderEntry) → Alike (after_usage (walk_end z a) c) (after_usage (walk_end z a) d) → Alike (walk_end z (a ++ Used c ∷ b)) (walk_end z (a ++ Used d ∷ b))
unfolding walk_end
likewise z a c d b r =
    let s : WalkState = walk_end z a in
    subst (λ x. Alike (walk_end z (a ++ Used c ∷ b)) x) (sym (end_join z a (Used d ∷ b))) (subst (λ x. Alike x (walk_end (after_usage s d) b)) (sym (end_join z a (Used c ∷ b))) (alike (after_usage s c) (after_usage s d) b r))
