-- The actors that have not ended, as the play tells them and as the hands do.
use Rattle.run_replay.proofs.Picking.{ended_is}
use Rattle.run_replay.proofs.Prelude.{Course, List, PlayerIsKept, PlayerState, [], actors, ap, are_live, filter, is_actor_done, is_ended, length, not, play_of, range_with_len, refl, sym, ℕ, ◌+◌, ◌∙◌, ◌∷◌, ◌≡◌}

-- the same actors
pub actors_are : {D : Type 0} (course : Course) (s : PlayerState D) (acts : ℕ) → PlayerIsKept s → length s.hub.places ≡ length s.hub.setting.first → course.rounds ≡ s.rounds → actors course (play_of s acts) ≡ are_live s
actors_are course s acts kept size same = same_filter (range_with_len 0 (length s.hub.setting.runs + 1)) ∙ ap (λ n. filter (λ a. not (is_ended s a)) (range_with_len 0 n)) (sym kept.actors)
  where
    same_filter : (xs : List ℕ) → filter (λ a. not (is_actor_done course (play_of s acts) a)) xs ≡ filter (λ a. not (is_ended s a)) xs
    same_filter [] = refl
    same_filter (a ∷ xs) = rw (ended_is course s acts a kept size same, same_filter xs) refl
