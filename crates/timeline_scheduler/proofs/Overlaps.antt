-- The devices of a run to which another one has an access.
use Rattle.timeline_scheduler.proofs.Prelude.{Bool, LineageState, List, Run, Slot, [], access_of, accesses_at, ap, arith, cond, false, filter, has_access, is_misfit, length, list_any, overlaps, range_with_len, refl, slot_at, sym, touches, true, ℕ, ◌&&◌, ◌-◌, ◌||◌, ◌∙◌, ◌∷◌, ◌≡◌}
use Rattle.timeline_scheduler.proofs.DeviceWalks.{rest}
use Rattle.timeline_scheduler.proofs.Frees.{none_of}

-- x has an access to a device of r
abbrev pub is_shared : List LineageState → List Run → ℕ → ℕ → ℕ → Bool
is_shared table runs r x d = has_access x (accesses_at table d) && touches runs r d

-- its access starts on the device before the plan ends there
abbrev pub overlaps_on : List LineageState → List Slot → ℕ → ℕ → Bool
overlaps_on table slots x d = overlaps (slot_at slots d) (access_of x (accesses_at table d))

module _ (table : List LineageState) (runs : List Run) (r x : ℕ) (slots : List Slot) where
  -- where it has no access, none overlaps
  fewer : (ds : List ℕ) → list_any (overlaps_on table slots x) (filter (is_shared table runs r x) ds) ≡ list_any (overlaps_on table slots x) (filter (touches runs r) ds)
  fewer [] = refl
  fewer (d ∷ ds) = by_tests (has_access x (accesses_at table d)) (touches runs r d) refl (fewer ds)
    where
      by_tests : (a b : Bool) → has_access x (accesses_at table d) ≡ a → list_any (overlaps_on table slots x) (filter (is_shared table runs r x) ds) ≡ list_any (overlaps_on table slots x) (filter (touches runs r) ds)
          → list_any (overlaps_on table slots x) (cond (a && b) (d ∷ filter (is_shared table runs r x) ds) (filter (is_shared table runs r x) ds)) ≡ list_any (overlaps_on table slots x) (cond b (d ∷ filter (touches runs r) ds) (filter (touches runs r) ds))
      by_tests true true e more = ap (λ b. overlaps_on table slots x d || b) more
      by_tests true false e more = more
      by_tests false true e more = more ∙ sym (ap (λ o. overlaps (slot_at slots d) o || list_any (overlaps_on table slots x) (filter (touches runs r) ds)) (none_of x (accesses_at table d) e))
      by_tests false false e more = more

  -- all of them are left at first
  pub all_left : (n : ℕ) → n ≡ length slots → list_any (overlaps_on table slots x) (rest (is_shared table runs r x) n 0) ≡ is_misfit table runs r slots x
  all_left n is = let all : n - 0 ≡ length slots = omega (arith, is) in ap (λ k. list_any (overlaps_on table slots x) (filter (is_shared table runs r x) (range_with_len 0 k))) all ∙ fewer (range_with_len 0 (length slots))
