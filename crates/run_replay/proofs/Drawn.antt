-- Actors picked in turn until one does not wait, and draws.
use Rattle.run_replay.proofs.Tellings.{draw_more, tells_back, tells_front}
use Rattle.seeded_draws.specs.Draws.{below, drawn}
use Rattle.run_replay.proofs.Prelude.{Bool, Course, DrawnPlay, GoesOn, IsDrawn, IsFinished, IsPicked, IsTried, List, Pick, Picked, Play, Tells, [], actors, ap, arith, draw_once, false, from_place, is_waiting_pick, length, length-append, pick, pick_first, refl, subst, suc, sym, true, ℕ, ◌++◌, ◌<◌, ◌∙◌, ◌∷◌, ◌≡◌}

-- none has been picked
pub none_tried : (rounds : ℕ) (all : List ℕ) (p : Play) → IsTried rounds all all p p
none_tried rounds all p = record { told = []; acts = omega arith; leads = λ course same tells. refl }

by_wait : (course : Course) (q : Play) (a : ℕ) (left : List ℕ) (b : Bool) → is_waiting_pick (pick course q a).picked ≡ b → pick_first course q (a ∷ left) ≡ (elim b [ true ↦ pick_first course (pick course q a).next left | false ↦ (pick course q a).next ])
by_wait course q a left b e = ap (λ (x : Bool). elim x as (λ y. Play) [ true ↦ pick_first course (pick course q a).next left | false ↦ (pick course q a).next ]) e

-- one more waited
pub tried_more : (rounds a : ℕ) (all left : List ℕ) (p q r : Play) (picked : Picked) → IsTried rounds all (a ∷ left) p q → IsPicked rounds a q picked r → is_waiting_pick picked ≡ true → IsTried rounds all left p r
tried_more rounds a all left p q r picked before is waited = record {
  told = before.told ++ is.told;
  acts = (let one = before.acts in let two = is.acts in let both = length-append before.told is.told in omega (arith, one, two, both));
  leads = λ course same tells.
      let made = is.leads course same (subst (λ x. Tells course x is.told) (sym before.acts) (tells_back course p.acts before.told is.told tells)) in
      before.leads course same (tells_front course p.acts before.told is.told tells)
      ∙ by_wait course q a left true (ap (λ (x : Pick). is_waiting_pick x.picked) made ∙ waited)
      ∙ ap (λ (x : Pick). pick_first course x.next left) made;
}

-- one did not wait
pub tried_moves : (rounds a : ℕ) (all left : List ℕ) (p q r : Play) (picked : Picked) → IsTried rounds all (a ∷ left) p q → IsPicked rounds a q picked r → is_waiting_pick picked ≡ false → GoesOn rounds (λ course x. pick_first course x all) p r
tried_moves rounds a all left p q r picked before is moved = record {
  told = before.told ++ is.told;
  acts = (let one = before.acts in let two = is.acts in let both = length-append before.told is.told in omega (arith, one, two, both));
  leads = λ course same tells.
      let made = is.leads course same (subst (λ x. Tells course x is.told) (sym before.acts) (tells_back course p.acts before.told is.told tells)) in
      before.leads course same (tells_front course p.acts before.told is.told tells)
      ∙ by_wait course q a left false (ap (λ (x : Pick). is_waiting_pick x.picked) made ∙ moved)
      ∙ ap (λ (x : Pick). x.next) made;
}

-- Draws

-- no draw so far
pub none_drawn : (rounds seed : ℕ) (p : Play) → IsDrawn rounds seed 0 p p seed
none_drawn rounds seed p = record { told = []; acts = omega arith; leads = λ course same tells. refl }

draw_from : (course : Course) (p : Play) (state : ℕ) (xs : List ℕ) → actors course p ≡ xs → 0 < length xs → draw_once course (record { play = p; state = state }) ≡ record { play = pick_first course p (from_place (below (drawn state) (length xs)) xs); state = drawn state }
draw_from course p state [] is some = absurd (let no : ⊥ = omega (arith, some) in no)
draw_from course p state (a ∷ xs) is some = rw is refl

-- one draw more: an actor was drawn, and the first one from there on that did not wait was picked
pub drawn_more : (rounds seed draws state : ℕ) (xs : List ℕ) (p q r : Play) → IsDrawn rounds seed draws p q state → ((course : Course) → course.rounds ≡ rounds → actors course q ≡ xs) → 0 < length xs
    → GoesOn rounds (λ course x. pick_first course x (from_place (below (drawn state) (length xs)) xs)) q r → IsDrawn rounds seed (suc draws) p r (drawn state)
drawn_more rounds seed draws state xs p q r before live some on = record {
  told = before.told ++ on.told;
  acts = (let one = before.acts in let two = on.acts in let both = length-append before.told on.told in omega (arith, one, two, both));
  leads = λ course same tells.
      draw_more course draws (record { play = p; state = seed })
      ∙ ap (draw_once course) (before.leads course same (tells_front course p.acts before.told on.told tells))
      ∙ draw_from course q state xs (live course same) some
      ∙ ap (λ (x : Play). record { play = x; state = drawn state }) (on.leads course same (subst (λ x. Tells course x on.told) (sym before.acts) (tells_back course p.acts before.told on.told tells)));
}

-- no actor is left
pub finishes : (rounds seed draws state : ℕ) (p q : Play) → IsDrawn rounds seed draws p q state → ((course : Course) → course.rounds ≡ rounds → actors course q ≡ []) → IsFinished rounds seed p q
finishes rounds seed draws state p q drawn none = record {
  draws = draws;
  drawn = record { told = drawn.told; acts = drawn.acts; leads = λ course same tells. ap (λ (x : DrawnPlay). x.play) (drawn.leads course same tells) };
  over = none;
}
