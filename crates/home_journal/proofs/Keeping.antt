-- From open slots to the states that they tell.
use Rattle.home_journal.proofs.Scanning.{if_kept}
use Rattle.home_journal.proofs.StateBytes.{last_pushed, round_trip, states_push}
use Rattle.home_journal.proofs.Prelude.{All, IsOldOrAll, IsStateOf, KeepsFirst, Kind, KnowsKept, List, Ok, Option, Stand, [], ap, append-nil, arith, body_size, inl, inr, kept_states, last_kept, length, length-append, open_slots, slot_state, state_bytes, states_from, sym, ℕ, ◌++◌, ◌+◌, ◌<◌, ◌^◌, ◌∙◌, ◌∷◌, ◌≡◌, ◌≤◌}
use Rattle.home_types.specs.Limits.{most_devices, most_windows}

-- the same open slots tell the same states
pub same_states : (kinds : List Kind) (size most : ℕ) (c d : List ℕ) → size ≡ body_size (length kinds) → open_slots size most c ≡ open_slots size most d → kept_states kinds most c ≡ kept_states kinds most d
same_states kinds size most c d sized same =
    ap (λ n. states_from kinds 0 (open_slots n most c)) (sym sized) ∙ ap (states_from kinds 0) same ∙ ap (λ n. states_from kinds 0 (open_slots n most d)) sized

-- one state more was kept, in the next slot
pub record IsNextState (kinds : List Kind) (size most count : ℕ) (seen : List ℕ) (home : List Stand) : Type 0 where
  pub sized : size ≡ body_size (length kinds)
  pub devices : length kinds ≤ most_devices
  pub windows : most ≤ most_windows
  pub next : count < most
  pub of_kinds : IsStateOf kinds home
  pub small : All (λ s. s.value < 2 ^ 32) home
  pub counts : count ≡ length (open_slots size most seen)

module _ (kinds : List Kind) (size most count : ℕ) (seen : List ℕ) (home : List Stand) (is : IsNextState kinds size most count seen home) (homes : List (List Stand)) (kept : kept_states kinds most seen ≡ Ok homes) where
  told : states_from kinds 0 (open_slots size most seen) ≡ Ok homes
  told = ap (λ n. states_from kinds 0 (open_slots n most seen)) is.sized ∙ kept

  pub keeps_next : (c : List ℕ) → open_slots size most c ≡ open_slots size most seen ++ state_bytes (count + 1) home ∷ [] → kept_states kinds most c ≡ Ok (homes ++ home ∷ [])
  keeps_next c same =
      let number : length (open_slots size most seen) + 1 ≡ count + 1 = omega (arith, is.counts) in
      ap (λ n. states_from kinds 0 (open_slots n most c)) (sym is.sized)
      ∙ ap (states_from kinds 0) same
      ∙ states_push kinds (open_slots size most seen) (state_bytes (count + 1) home) homes home told
      (ap (λ n. slot_state kinds n (state_bytes (count + 1) home)) number ∙ round_trip kinds (count + 1) home (omega (arith, is.next, is.windows)) (omega (arith, is.devices)) is.of_kinds is.small)

  pub keeps_first : (c : List ℕ) → IsOldOrAll size most (open_slots size most seen) (state_bytes (count + 1) home ∷ []) c → KeepsFirst kinds most homes (home ∷ []) c
  keeps_first c (inl same) = (0, same_states kinds size most c seen is.sized same ∙ kept ∙ ap Ok (sym (append-nil homes)))
  keeps_first c (inr same) = (1, keeps_next c same)

-- the new state is known as the last
pub knows_next : (kinds : List Kind) (size most count : ℕ) (seen c : List ℕ) (home : List Stand) → IsNextState kinds size most count seen home → (final : Option (List Stand)) → KnowsKept kinds most seen count final
    → open_slots size most c ≡ open_slots size most seen ++ state_bytes (count + 1) home ∷ [] → KnowsKept kinds most c (count + 1) (last_kept (count + 1) home)
knows_next kinds size most count seen c home is final knows same = record {
  homes = knows.homes ++ home ∷ [];
  kept = keeps_next kinds size most count seen home is knows.homes knows.kept c same;
  counts = omega (arith, knows.counts, length-append knows.homes (home ∷ []));
  last = if_kept count home ∙ sym (last_pushed knows.homes home);
}

-- the same file is known in the same way
pub knows_same : (kinds : List Kind) (most count : ℕ) (c d : List ℕ) (final : Option (List Stand)) → kept_states kinds most c ≡ kept_states kinds most d → KnowsKept kinds most d count final → KnowsKept kinds most c count final
knows_same kinds most count c d final same knows = record { homes = knows.homes; kept = same ∙ knows.kept; counts = knows.counts; last = knows.last }
