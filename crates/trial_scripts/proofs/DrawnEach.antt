-- Things that are drawn one after the other, and what holds of each.
use Rattle.trial_scripts.proofs.Prelude.{All, All-append, All-cons, All-nil, Drawing, EachAfter, List, [], ap, arith, below, draw_each, each-more, each-none, length, length-append, map, map-append, refl, subst, suc, zero, ℕ, ◌++◌, ◌+◌, ◌/◌, ◌<◌, ◌∙◌, ◌∷◌, ◌≡◌}
use Rattle.std.proofs.Math.Nat.{mod-lt}

-- a draw is below its bound
pub below_bound : (state k : ℕ) → 0 < k → below state k < k
below_bound state k some = mod-lt (state / 8589934592) some

-- ---- a loop that draws

pub none_yet : {A : Type 0} (draw : ℕ → ℕ → Drawing A) (state : ℕ) (made : List A) → made ≡ []
    → ◌≡◌ {A = Drawing (List A)} (record { made = made; state = state }) (draw_each draw 0 state)
unfolding draw_each
none_yet {A = A} draw state made none = let f : List A → Drawing (List A) = λ xs. record { made = xs; state = state } in ap f none

-- those so far, and the next one
pub one_more : {A : Type 0} (draw : ℕ → ℕ → Drawing A) (n first state last : ℕ) (made after : List A) (a : A)
    → ◌≡◌ {A = Drawing (List A)} (record { made = made; state = state }) (draw_each draw n first)
    → ◌≡◌ {A = Drawing A} (record { made = a; state = last }) (draw n state)
    → after ≡ made ++ a ∷ []
    → ◌≡◌ {A = Drawing (List A)} (record { made = after; state = last }) (draw_each draw (n + 1) first)
unfolding draw_each
one_more {A = A} draw n first state last made after a so_far next more =
    let Q : Drawing (List A) → Type 0 = λ d. ◌≡◌ {A = Drawing (List A)} (record { made = after; state = last }) (record { made = d.made ++ (draw n d.state).made ∷ []; state = (draw n d.state).state }) in
    let R : Drawing A → Type 0 = λ d. ◌≡◌ {A = Drawing (List A)} (record { made = after; state = last }) (record { made = made ++ d.made ∷ []; state = d.state }) in
    let f : List A → Drawing (List A) = λ xs. record { made = xs; state = last } in
    let more_than_n : suc n ≡ n + 1 = omega arith in
    subst (λ m. ◌≡◌ {A = Drawing (List A)} (record { made = after; state = last }) (draw_each draw m first)) more_than_n (subst Q so_far (subst R next (ap f more)))

-- the same of things as they are seen
pub one_more_seen : {X A : Type 0} (view : X → A) (draw : ℕ → ℕ → Drawing A) (n first state last : ℕ) (made after : List X) (x : X)
    → ◌≡◌ {A = Drawing (List A)} (record { made = map view made; state = state }) (draw_each draw n first)
    → ◌≡◌ {A = Drawing A} (record { made = view x; state = last }) (draw n state)
    → after ≡ made ++ x ∷ []
    → ◌≡◌ {A = Drawing (List A)} (record { made = map view after; state = last }) (draw_each draw (n + 1) first)
one_more_seen view draw n first state last made after x so_far next more =
    one_more draw n first state last (map view made) (map view after) (view x) so_far next (ap (map view) more ∙ map-append view made (x ∷ []))

-- ---- what was drawn

pub length_made : {A : Type 0} (draw : ℕ → ℕ → Drawing A) (n first : ℕ) → length (draw_each draw n first).made ≡ n
unfolding draw_each
length_made draw zero first = refl
length_made draw (suc n) first = let before = length_made draw n first in rw length-append (omega (arith, before))

-- Q of each, where it holds of each one that may be drawn
pub all_made : {A : Type 0} (Q : A → Type 0) (draw : ℕ → ℕ → Drawing A) (n first : ℕ)
    → ((k state : ℕ) → k < n → Q (draw k state).made) → All Q (draw_each draw n first).made
unfolding draw_each
all_made Q draw zero first each = All-nil Q
all_made Q draw (suc n) first each =
    let before = draw_each draw n first in
    All-append Q before.made ((draw n before.state).made ∷ []) (all_made Q draw n first (λ k state below. each k state (omega (arith, below))))
    (All-cons Q (draw n before.state).made [] (each n before.state (omega arith)) (All-nil Q))

-- P of each and those before it, where it holds of each one that may be drawn after these
pub after_made : {A : Type 0} (P : List A → A → Type 0) (draw : ℕ → ℕ → Drawing A) (n first : ℕ)
    → ((k state : ℕ) → k < n → P (draw_each draw k first).made (draw k state).made) → EachAfter P (draw_each draw n first).made
unfolding draw_each
after_made P draw zero first each = each-none P
after_made P draw (suc n) first each =
    let before = draw_each draw n first in
    each-more P before.made (draw n before.state).made (after_made P draw n first (λ k state below. each k state (omega (arith, below)))) (each n before.state (omega arith))
