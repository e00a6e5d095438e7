-- The actors from a place of the list on, by their numbers: one after another has ended, is known to wait, or is picked.
use Rattle.hub_core.specs.BlockedRuns.{IsBlocked}
use Rattle.run_replay.proofs.Prelude.{Bool, GoesOn, List, Picked, PlayerStands, PlayerState, Some, [], ap, append-nil, are_live, arith, common_steps, configuration_of, drop, false, filter, from_place, if◌then◌else◌, inl, inr, is_ended, is_waiting_pick, length, nat_lt, not, pick_first, play_of, range_with_len, refl, slice_get, steps_left, subst, suc, sym, take, true, zero, ℕ, ◌++◌, ◌+◌, ◌-◌, ◌<◌, ◌∙◌, ◌∷◌, ◌≡◌, ◌≤◌, ◌⊎◌}
use Rattle.run_replay.proofs.Passing.{one_more_passed}
use Rattle.run_replay.proofs.LiveRuns.{live_low}
use Rattle.run_replay.proofs.Trying.{HaveWaited, PickedNext, goes_on_at, never_all, none_waited, one_more_waits, one_moves, turned_length}

-- Numbers of a range that pass a test

-- the first of them
head : (p : ℕ → Bool) (k n : ℕ) (b : Bool) → p k ≡ b → filter p (range_with_len k (suc n)) ≡ (if b then k ∷ filter p (range_with_len (k + 1) n) else filter p (range_with_len (k + 1) n))
head p k n b is = ap (λ x. if x then k ∷ filter p (range_with_len (k + 1) n) else filter p (range_with_len (k + 1) n)) is

-- the list of those that pass, cut at the place of one of them
pub record IsCut (p : ℕ → Bool) (from n a : ℕ) (front back : List ℕ) : Type 0 where
  pub low : from ≤ a
  pub before : front ≡ filter p (range_with_len from (a - from))
  pub behind : back ≡ filter p (range_with_len a (from + n - a))

cut_here : (p : ℕ → Bool) (from n a : ℕ) → p from ≡ true → from ≡ a → IsCut p from (suc n) a [] (from ∷ filter p (range_with_len (from + 1) n))
cut_here p from n a is same =
    let none : a - from ≡ 0 = omega (arith, same) in
    let all : from + suc n - a ≡ suc n = omega (arith, same) in record {
      low = omega (arith, same);
      before = ap (λ k. filter p (range_with_len from k)) (sym none);
      behind = sym (head p from n true is) ∙ ap (λ x. filter p (range_with_len x (suc n))) same ∙ ap (λ k. filter p (range_with_len a k)) (sym all);
    }

cut_later : (p : ℕ → Bool) (from n a : ℕ) (b : Bool) (front back : List ℕ) → p from ≡ b → IsCut p (from + 1) n a front back → IsCut p from (suc n) a (if b then from ∷ front else front) back
cut_later p from n a b front back is cut =
    let low = cut.low in
    let size : suc (a - (from + 1)) ≡ a - from = omega (arith, low) in
    let rest : from + 1 + n - a ≡ from + suc n - a = omega arith in record {
      low = omega (arith, low);
      before = ap (λ xs. if b then from ∷ xs else xs) cut.before ∙ sym (head p from (a - (from + 1)) b is) ∙ ap (λ k. filter p (range_with_len from k)) size;
      behind = cut.behind ∙ ap (λ k. filter p (range_with_len a k)) rest;
    }

cut : (p : ℕ → Bool) (from n i a : ℕ) → slice_get (filter p (range_with_len from n)) i ≡ Some a → IsCut p from n a (take i (filter p (range_with_len from n))) (drop i (filter p (range_with_len from n)))
cut p from zero i a e = absurd (cc)
cut p from (suc n) i a e = step (λ j found. cut p (from + 1) n j a found) (p from) refl i e
  where
    step : ((j : ℕ) → slice_get (filter p (range_with_len (from + 1) n)) j ≡ Some a
        → IsCut p (from + 1) n a (take j (filter p (range_with_len (from + 1) n))) (drop j (filter p (range_with_len (from + 1) n)))) → (b : Bool) → p from ≡ b
        → (i : ℕ) → slice_get (if b then from ∷ filter p (range_with_len (from + 1) n) else filter p (range_with_len (from + 1) n)) i ≡ Some a
        → IsCut p from (suc n) a (take i (if b then from ∷ filter p (range_with_len (from + 1) n) else filter p (range_with_len (from + 1) n))) (drop i (if b then from ∷ filter p (range_with_len (from + 1) n) else filter p (range_with_len (from + 1) n)))
    step rest true is zero e = cut_here p from n a is (cc)
    step rest true is (suc i) e = cut_later p from n a true _ _ is (rest i e)
    step rest false is i e = cut_later p from n a false _ _ is (rest i e)

-- from the place of one of them on, in cyclic order: those from its number on, and then those before it
turned : (p : ℕ → Bool) (n i a : ℕ) → slice_get (filter p (range_with_len 0 n)) i ≡ Some a → from_place i (filter p (range_with_len 0 n)) ≡ filter p (range_with_len a (n - a)) ++ filter p (range_with_len 0 (a - 0))
turned p n i a e =
    let two = cut p 0 n i a e in
    let all : 0 + n - a ≡ n - a = omega arith in
    ap (λ xs. xs ++ take i (filter p (range_with_len 0 n))) (two.behind ∙ ap (λ k. filter p (range_with_len a k)) all) ∙ ap (λ xs. filter p (range_with_len a (n - a)) ++ xs) two.before

-- Places of a list

of_drop : {A : Type 0} (xs ys : List A) (k : ℕ) (x : A) → drop k xs ≡ x ∷ ys → (slice_get xs k ≡ Some x) × (drop (suc k) xs ≡ ys)
of_drop [] ys zero x e = absurd (cc)
of_drop [] ys (suc k) x e = absurd (cc)
of_drop (z ∷ xs) ys zero x e = (cc, cc)
of_drop (z ∷ xs) ys (suc k) x e = of_drop xs ys k x e

none_left : {A : Type 0} (xs : List A) (k : ℕ) → drop k xs ≡ [] → length xs ≤ k
none_left [] k e = omega arith
none_left (x ∷ xs) zero e = absurd (cc)
none_left (x ∷ xs) (suc k) e = let low = none_left xs k e in omega (arith, low)

-- The actors that are left

-- those from this number on, and below another one, that have not ended
abbrev pub those : {D : Type 0} → PlayerState D → ℕ → ℕ → List ℕ
those s k end = filter (λ a. not (is_ended s a)) (range_with_len k (end - k))

-- of these actors the first ones were picked, and waited, and these others are left
pub record HaveTried {D : Type 0} (old now : PlayerState D) (all left : List ℕ) : Type 0 where
  pub step : ℕ
  pub waited : HaveWaited old now all step
  pub rest : drop step all ≡ left

-- none beyond the end
none_beyond : {D : Type 0} (s : PlayerState D) (k end : ℕ) → end ≤ k → those s k end ≡ []
none_beyond s k end past = let none : end - k ≡ 0 = omega (arith, past) in ap (λ n. filter (λ a. not (is_ended s a)) (range_with_len k n)) none

next_ended : {D : Type 0} (s : PlayerState D) (k end : ℕ) → k < end → is_ended s k ≡ true → those s k end ≡ those s (k + 1) end
next_ended s k end low ended =
    let one : end - k ≡ suc (end - (k + 1)) = omega (arith, low) in
    ap (λ n. filter (λ a. not (is_ended s a)) (range_with_len k n)) one ∙ head (λ a. not (is_ended s a)) k (end - (k + 1)) false (ap not ended)

next_live : {D : Type 0} (s : PlayerState D) (k end : ℕ) → k < end → is_ended s k ≡ false → those s k end ≡ k ∷ those s (k + 1) end
next_live s k end low on =
    let one : end - k ≡ suc (end - (k + 1)) = omega (arith, low) in
    ap (λ n. filter (λ a. not (is_ended s a)) (range_with_len k n)) one ∙ head (λ a. not (is_ended s a)) k (end - (k + 1)) true (ap not on)

-- an actor that has ended, or is known to wait, is passed over
abbrev pub IsIdle : {D : Type 0} → PlayerState D → ℕ → Type 0
IsIdle s a = (is_ended s a ≡ true) ⊎ IsBlocked (configuration_of s.hub) a

module _ {D : Type 0} (old now : PlayerState D) (all behind : List ℕ) (end : ℕ) where
  blocked_passed : (k : ℕ) → HaveTried old now all (those old k end ++ behind) → k < end → is_ended old k ≡ false → IsBlocked (configuration_of now.hub) k → HaveTried old now all (those old (k + 1) end ++ behind)
  blocked_passed k tried low on blocked =
      let two = of_drop all (those old (k + 1) end ++ behind) tried.step k (tried.rest ∙ ap (λ xs. xs ++ behind) (next_live old k end low on)) in
      record { step = suc tried.step; waited = one_more_passed old now all tried.step k (suc tried.step) tried.waited two.0 blocked (omega arith); rest = two.1 }

  ended_passed : (k : ℕ) → HaveTried old now all (those old k end ++ behind) → k < end → is_ended old k ≡ true → HaveTried old now all (those old (k + 1) end ++ behind)
  ended_passed k tried low ended = subst (λ xs. HaveTried old now all (xs ++ behind)) (next_ended old k end low ended) tried

  number_passed : (k : ℕ) → HaveTried old now all (those old k end ++ behind) → IsIdle now k → HaveTried old now all (those old (k + 1) end ++ behind)
  number_passed k tried idle = elim (nat_lt k end) as (λ b. nat_lt k end ≡ b → HaveTried old now all (those old (k + 1) end ++ behind)) [
    | true ↦ (λ e. by_end (grind (arith, common_steps)) (is_ended old k) refl idle)
    | false ↦ (λ e.
        let past : end ≤ k = grind (arith, common_steps) in
        let further : end ≤ k + 1 = omega (arith, past) in
        subst (λ xs. HaveTried old now all (xs ++ behind)) (none_beyond old k end past ∙ sym (none_beyond old (k + 1) end further)) tried)
  ] refl
    where
      by_end : k < end → (b : Bool) → is_ended old k ≡ b → IsIdle now k → HaveTried old now all (those old (k + 1) end ++ behind)
      by_end low true is idle = ended_passed k tried low is
      by_end low false is (inl ended) = absurd (let no : true ≡ false = sym ended ∙ tried.waited.ends k ∙ is in cc)
      by_end low false is (inr blocked) = blocked_passed k tried low is blocked

  numbers_from : (n k to : ℕ) → k + n ≡ to → HaveTried old now all (those old k end ++ behind) → ((a : ℕ) → k ≤ a → a < to → IsIdle now a) → HaveTried old now all (those old to end ++ behind)
  numbers_from zero k to e tried each = let same : k ≡ to = omega (arith, e) in subst (λ x. HaveTried old now all (those old x end ++ behind)) same tried
  numbers_from (suc n) k to e tried each = numbers_from n (k + 1) to (omega (arith, e)) (number_passed k tried (each k (omega arith) (omega (arith, e)))) (λ a low high. each a (omega (arith, low)) high)

  -- all of these numbers are passed over
  pub numbers_passed : (k to : ℕ) → k ≤ to → HaveTried old now all (those old k end ++ behind) → ((a : ℕ) → k ≤ a → a < to → IsIdle now a) → HaveTried old now all (those old to end ++ behind)
  numbers_passed k to low tried each = numbers_from (to - k) k to (omega (arith, low)) tried each

  -- the actor of this number is the next one of the list
  next_at : (k : ℕ) (tried : HaveTried old now all (those old k end ++ behind)) → k < end → is_ended now k ≡ false → (slice_get all tried.step ≡ Some k) × (drop (suc tried.step) all ≡ those old (k + 1) end ++ behind)
  next_at k tried low on = of_drop all (those old (k + 1) end ++ behind) tried.step k (tried.rest ∙ ap (λ xs. xs ++ behind) (next_live old k end low (sym (tried.waited.ends k) ∙ on)))

  -- .. it was picked, and waited
  pub number_waits : (next : PlayerState D) (k : ℕ) (picked : Picked) → HaveTried old now all (those old k end ++ behind) → k < end → is_ended now k ≡ false
      → PlayerStands next → next.rounds ≡ now.rounds → next.hub.rounds ≡ now.hub.rounds → PickedNext now k picked next → is_waiting_pick picked ≡ true
      → HaveTried old next all (those old (k + 1) end ++ behind)
  number_waits next k picked tried low on stands rounds probes picks wait =
      let two = next_at k tried low on in
      record { step = suc tried.step; waited = one_more_waits old now next all tried.step (suc tried.step) k picked tried.waited stands rounds probes two.0 picks wait (omega arith); rest = two.1 }

  -- .. or did not wait
  pub number_moves : (next : PlayerState D) (k : ℕ) (picked : Picked) → HaveTried old now all (those old k end ++ behind) → k < end → is_ended now k ≡ false → PickedNext now k picked next → is_waiting_pick picked ≡ false
      → (acts : ℕ) → (later : ℕ) × GoesOn old.rounds (λ course x. pick_first course x all) (play_of old acts) (play_of next later)
  number_moves next k picked tried low on picks moved = one_moves old now next all tried.step k picked tried.waited (next_at k tried low on).0 picks moved

  pub moves_fewer : (next : PlayerState D) (left : List ℕ) → HaveTried old now all left → steps_left next < steps_left now → steps_left next < steps_left old
  moves_fewer next left tried fewer = subst (λ n. steps_left next < n) tried.waited.left fewer

-- From the place that was drawn

-- none has been picked
pub begins : {D : Type 0} (s : PlayerState D) (place first : ℕ) → PlayerStands s → slice_get (are_live s) place ≡ Some first → HaveTried s s (from_place place (are_live s)) (those s first (length s.grips) ++ those s 0 first)
begins s place first stands at = record { step = 0; waited = none_waited s (from_place place (are_live s)) stands; rest = turned (λ a. not (is_ended s a)) (length s.grips) place first at }

-- all from the first one on waited: those before it are left
pub turns : {D : Type 0} (old now : PlayerState D) (all : List ℕ) (at first : ℕ) → length old.grips ≤ at → HaveTried old now all (those old at (length old.grips) ++ those old 0 first) → HaveTried old now all (those old 0 first ++ [])
turns old now all at first past tried = subst (HaveTried old now all) (ap (λ xs. xs ++ those old 0 first) (none_beyond old at (length old.grips) past) ∙ sym (append-nil (those old 0 first))) tried

-- .. but not all of them wait
pub never_through : {D : Type 0} (old now : PlayerState D) (place at first : ℕ) → first ≤ at → HaveTried old now (from_place place (are_live old)) (those old at first ++ []) → 0 < length (are_live old) → ⊥
never_through old now place at first past tried some =
    let none = none_left (from_place place (are_live old)) tried.step (tried.rest ∙ ap (λ xs. xs ++ []) (none_beyond old at first past)) in
    let size = turned_length place (are_live old) in
    never_all old now place tried.step tried.waited (omega (arith, none, size)) some

-- The numbers of actors

-- there are 65 at most
pub few_actors : {D : Type 0} (s : PlayerState D) → PlayerStands s → length s.grips ≤ 65
few_actors s stands = let actors = stands.kept.actors in let few = stands.few_runs in omega (arith, actors, few)

pub first_low : {D : Type 0} (s : PlayerState D) (place first : ℕ) → PlayerStands s → slice_get (are_live s) place ≡ Some first → first ≤ 65
first_low s place first stands at = let low = (goes_on_at s place first at).0 in let few = few_actors s stands in omega (arith, low, few)

-- one that has not ended is one of the window
pub low_at : {D : Type 0} (old now : PlayerState D) (a : ℕ) (all left : List ℕ) → PlayerStands old → HaveTried old now all left → is_ended now a ≡ false → a < length old.grips
low_at old now a all left stands tried on = live_low old a stands.kept (sym (tried.waited.ends a) ∙ on)
