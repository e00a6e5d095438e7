-- Draws, one after another, until no actor is left.
use Rattle.run_replay.proofs.Drawn.{drawn_more, finishes, none_drawn}
use Rattle.run_replay.proofs.Living.{actors_are}
use Rattle.seeded_draws.specs.Draws.{below, drawn}
use Rattle.run_replay.proofs.Prelude.{GoesOn, IsDrawn, IsFinished, List, PlayerStands, PlayerState, [], ap, are_live, arith, from_place, length, pick_first, play_of, refl, subst, suc, sym, ℕ, ◌<◌, ◌∙◌, ◌∷◌, ◌≡◌}

-- after some draws the generator is in this state, and so many actors have not ended
pub record HaveDrawn {D : Type 0} (old now : PlayerState D) (seed state count : ℕ) : Type 0 where
  pub stands : PlayerStands now
  pub rounds : now.rounds ≡ old.rounds
  pub live : count ≡ length (are_live now)
  pub drawn : (acts : ℕ) → (draws : ℕ) × (later : ℕ) × IsDrawn old.rounds seed draws (play_of old acts) (play_of now later) state

-- no draw so far
pub starts : {D : Type 0} (s : PlayerState D) (seed state count : ℕ) → PlayerStands s → state ≡ seed → count ≡ length (are_live s) → HaveDrawn s s seed state count
starts s seed state count stands same live = record { stands = stands; rounds = refl; live = live; drawn = λ acts. (0, acts, subst (λ x. IsDrawn s.rounds seed 0 (play_of s acts) (play_of s acts) x) (sym same) (none_drawn s.rounds seed (play_of s acts))) }

-- one draw more
pub draws_on : {D : Type 0} (old now next : PlayerState D) (seed state after count left place : ℕ) → HaveDrawn old now seed state count → PlayerStands next → next.rounds ≡ now.rounds → 0 < count → after ≡ drawn state → place ≡ below after count
    → ((acts : ℕ) → (later : ℕ) × GoesOn now.rounds (λ course p. pick_first course p (from_place place (are_live now))) (play_of now acts) (play_of next later)) → left ≡ length (are_live next) → HaveDrawn old next seed after left
draws_on old now next seed state after count left place before stands rounds some moved at picks live = record {
  stands = stands;
  rounds = rounds ∙ before.rounds;
  live = live;
  drawn = λ acts.
      let was = before.drawn acts in
      let on = picks was.1 in
      let here : place ≡ below (drawn state) (length (are_live now)) = at ∙ ap (λ x. below x count) moved ∙ ap (below (drawn state)) before.live in
      let goes = subst (λ k. GoesOn old.rounds (λ course p. pick_first course p (from_place k (are_live now))) (play_of now was.1) (play_of next on.0)) here
      (subst (λ n. GoesOn n (λ course p. pick_first course p (from_place place (are_live now))) (play_of now was.1) (play_of next on.0)) before.rounds on.1) in
      let size = before.live in (
        suc was.0,
        on.0,
        subst (λ x. IsDrawn old.rounds seed (suc was.0) (play_of old acts) (play_of next on.0) x) (sym moved)
            (drawn_more old.rounds seed was.0 state (are_live now) (play_of old acts) (play_of now was.1) (play_of next on.0) was.2 (λ course same. actors_are course now was.1 before.stands.kept before.stands.size (same ∙ sym before.rounds)) (omega (arith, size, some)) goes),
      );
}

empty_of : (xs : List ℕ) → length xs ≡ 0 → xs ≡ []
empty_of [] e = refl
empty_of (x ∷ xs) e = absurd (omega (arith, e))

-- none is left
pub ends : {D : Type 0} (old now : PlayerState D) (seed state count : ℕ) → HaveDrawn old now seed state count → count ≡ 0 → (acts : ℕ) → (later : ℕ) × IsFinished old.rounds seed (play_of old acts) (play_of now later)
ends old now seed state count before none acts =
    let was = before.drawn acts in
    let size = before.live in
    (was.1, finishes old.rounds seed was.0 state (play_of old acts) (play_of now was.1) was.2 (λ course same. actors_are course now was.1 before.stands.kept before.stands.size (same ∙ sym before.rounds) ∙ empty_of (are_live now) (omega (arith, size, none))))
