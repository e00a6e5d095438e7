-- What marking a run, and freeing the runs of a device, make of the marks.
use Rattle.blocked_runs.proofs.RunBits.{has_either, has_nothing, has_without}
use Rattle.blocked_runs.proofs.Prelude.{AreLeft, BlockedState, Bool, HasMarked, List, None, Option, Some, ap, arith, bit_and, bit_not, bit_or, common_steps, false, has_run, inl, inr, is_marked, is_marked_at, length, nat_lt, not, refl, slice_get, slice_index_or, slice_set, sym, true, unwrap_or, unwrap_or-slice_get, w64, ℕ, ◌&&◌, ◌+◌, ◌<◌, ◌==◌, ◌^◌, ◌||◌, ◌∙◌, ◌≡◌, ◌≢◌, ◌≤◌, ◌⊎◌}
use Rattle.std.proofs.lemmas.List.{get_or-set_other, get_or-set_same}

-- where nothing changes, a run is left where this holds of every device
pub all_left : {P : ℕ → Type 0} (b : BlockedState) → ((d : ℕ) → P d) → AreLeft b b P
all_left b every = record { marked = λ r marked. marked; there = λ r d marked before. (every d, before) }

-- the word of a device of which this is found
word_found : (words : List ℕ) (d : ℕ) (found : Option ℕ) → found ≡ slice_get words d → slice_index_or words d 0 ≡ unwrap_or found 0
word_found words d found is = sym (ap (λ o. unwrap_or o 0) is ∙ unwrap_or-slice_get words d 0)

-- the word of the device d after it is set, and that of another
word_set : {C : Type 0} (words : List ℕ) (d e word : ℕ) → d < length words → (e ≡ d → slice_index_or (slice_set words d word) e 0 ≡ word → C) → (e ≢ d → slice_index_or (slice_set words d word) e 0 ≡ slice_index_or words e 0 → C) → C
word_set {C} words d e word within same other = elim (e == d) as (λ b. (e == d) ≡ b → C) [
  | true ↦ (λ h. let is : e ≡ d = grind (arith, common_steps) in same is (rw is (get_or-set_same words d word 0 within)))
  | false ↦ (λ h. let apart : e ≢ d = grind (arith, common_steps) in other apart (get_or-set_other words d e word 0 apart))
] refl

-- the bit of a run is set in the word of the marked runs, and in that of a device of the home
pub has_marked : (b : BlockedState) (r d bit word : ℕ) → Some word ≡ slice_get b.at d → d < length b.at → ((q : ℕ) → has_run bit q ≡ (has_run bit r && (q == r))) → HasMarked b r d (record { runs = bit_or b.runs bit; at = slice_set b.at d (bit_or word bit) })
has_marked b r d bit word found within only = record { marked = marked; there = there }
  where
    marked : (q : ℕ) → has_run (bit_or b.runs bit) q ≡ true → (has_run b.runs q ≡ true) ⊎ ((q ≡ r) × (has_run (slice_index_or (slice_set b.at d (bit_or word bit)) d 0) q ≡ true))
    marked q after = elim (has_run b.runs q) as (λ h. has_run b.runs q ≡ h → (has_run b.runs q ≡ true) ⊎ ((q ≡ r) × (has_run (slice_index_or (slice_set b.at d (bit_or word bit)) d 0) q ≡ true))) [
      | true ↦ (λ before. inl before)
      | false ↦ (λ before.
          let either : (has_run b.runs q || has_run bit q) ≡ true = sym (has_either b.runs bit q) ∙ after in
          let new : has_run bit q ≡ true = grind (arith, common_steps) in
          let own : (has_run bit r && (q == r)) ≡ true = sym (only q) ∙ new in
          let same : q ≡ r = grind (arith, common_steps) in
          inr (same, ap (λ w. has_run w q) (get_or-set_same b.at d (bit_or word bit) 0 within) ∙ has_either word bit q ∙ rw new (grind (arith, common_steps))))
    ] refl

    there : (e q : ℕ) → has_run (slice_index_or b.at e 0) q ≡ true → has_run (slice_index_or (slice_set b.at d (bit_or word bit)) e 0) q ≡ true
    there e q before = word_set b.at d e (bit_or word bit) within
        (λ same is. let was : has_run word q ≡ true = sym (ap (λ w. has_run w q) (ap (λ x. slice_index_or b.at x 0) same ∙ word_found b.at d (Some word) found)) ∙ before in ap (λ w. has_run w q) is ∙ has_either word bit q ∙ rw was refl)
        (λ apart is. ap (λ w. has_run w q) is ∙ before)

-- those of the word of a device are marked no more, and it has none
pub are_unmarked : (b : BlockedState) (d word : ℕ) → Some word ≡ slice_get b.at d → d < length b.at → word < 2 ^ 64 → AreLeft b (record { runs = bit_and b.runs (bit_not w64 word); at = slice_set b.at d 0 }) (λ e. e ≢ d)
are_unmarked b d word found within small = record { marked = λ r after. (both r after).0; there = there }
  where
    both : (r : ℕ) → has_run (bit_and b.runs (bit_not w64 word)) r ≡ true → (has_run b.runs r ≡ true) × (has_run word r ≡ false)
    both r after =
        let left : (has_run b.runs r && not (has_run word r)) ≡ true = sym (has_without b.runs word r small) ∙ after in
        (grind (arith, common_steps), grind (arith, common_steps))

    there : (r e : ℕ) → has_run (bit_and b.runs (bit_not w64 word)) r ≡ true → has_run (slice_index_or b.at e 0) r ≡ true → (e ≢ d) × (has_run (slice_index_or (slice_set b.at d 0) e 0) r ≡ true)
    there r e after before = word_set b.at d e 0 within
        (λ same is. let was : has_run word r ≡ true = sym (ap (λ w. has_run w r) (ap (λ x. slice_index_or b.at x 0) same ∙ word_found b.at d (Some word) found)) ∙ before in let gone = (both r after).1 in absurd (let no : true ≡ false = sym was ∙ gone in cc))
        (λ apart is. (apart, ap (λ w. has_run w r) is ∙ before))

-- the devices up to here of which the test holds are seen to, and one more
pub left_more : (b now after : BlockedState) (p : ℕ → Bool) (from d : ℕ) → AreLeft b now (λ e. e < from → p e ≡ false) → ((q : ℕ) → from ≤ q → q < d → p q ≡ false) → AreLeft now after (λ e. e ≢ d) → AreLeft b after (λ e. e < d + 1 → p e ≡ false)
left_more b now after p from d left none one = record { marked = λ r marked. left.marked r (one.marked r marked); there = there }
  where
    there : (r e : ℕ) → is_marked after r ≡ true → is_marked_at b e r ≡ true → (e < d + 1 → p e ≡ false) × (is_marked_at after e r ≡ true)
    there r e marked before =
        let was = left.there r e (one.marked r marked) before in
        let still = one.there r e marked was.1 in
        (λ low. passed was.0 still.0 low, still.1)
      where
        passed : (e < from → p e ≡ false) → e ≢ d → e < d + 1 → p e ≡ false
        passed seen other low = by_place (nat_lt e from) refl
          where
            by_place : (b : Bool) → nat_lt e from ≡ b → p e ≡ false
            by_place true h = seen (grind (arith, common_steps))
            by_place false h = none e (grind (arith, common_steps)) (grind (arith, common_steps))

-- .. until no device is left
pub left_done : (b now : BlockedState) (p : ℕ → Bool) (from : ℕ) → AreLeft b now (λ e. e < from → p e ≡ false) → ((q : ℕ) → from ≤ q → p q ≡ false) → AreLeft b now (λ e. not (p e) ≡ true)
left_done b now p from left none = record { marked = left.marked; there = λ r e marked before. let at = left.there r e marked before in (ap not (by_place e at.0 (nat_lt e from) refl), at.1) }
  where
    by_place : (e : ℕ) → (e < from → p e ≡ false) → (b : Bool) → nat_lt e from ≡ b → p e ≡ false
    by_place e seen true h = seen (grind (arith, common_steps))
    by_place e seen false h = none e (grind (arith, common_steps))

-- at no device of the home no run is marked
pub none_there : (b : BlockedState) (d : ℕ) → None ≡ slice_get b.at d → AreLeft b b (λ e. e ≢ d)
none_there b d found = record {
  marked = λ r marked. marked;
  there = λ r e marked before. (
    λ same. absurd (let no : false ≡ true = sym (has_nothing r) ∙ sym (ap (λ w. has_run w r) (ap (λ x. slice_index_or b.at x 0) same ∙ word_found b.at d None found)) ∙ before in cc),
    before,
  );
}
