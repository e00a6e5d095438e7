-- What is known of a device when slots are changed.
use Rattle.timeline_scheduler.proofs.Prelude.{Bool, List, Slot, [], ap, arith, changed, changed_on, cleared, common_steps, cond, drop, false, filter, get_or-set_other, get_or-set_same, get_or_default, length, length-set, no_slot, range_with_len, refl, slice_index_or, slice_set, slot_at, subst, suc, sym, take, true, zero, ℕ, ◌++◌, ◌+◌, ◌<◌, ◌==◌, ◌∙◌, ◌∷◌, ◌≡◌, ◌≢◌, ◌≤◌}

-- of the device itself it is the new slot
pub set_here : (slots : List Slot) (d : ℕ) (x : Slot) → d < length slots → slot_at (slice_set slots d x) d ≡ x
set_here slots d x within = get_or-set_same slots d x no_slot within

-- of another one it is what it was
pub set_other : (slots : List Slot) (d e : ℕ) (x : Slot) → e ≢ d → slot_at (slice_set slots d x) e ≡ slot_at slots e
set_other slots d e x other = get_or-set_other slots d e x no_slot other

-- what an index gives
pub slot_read : (slots : List Slot) (d : ℕ) (s : Slot) → d < length slots → s ≡ slice_index_or slots d s → slot_at slots d ≡ s
slot_read slots d s within is = get_or_default slots d no_slot s within ∙ sym is

-- a slot put where it is
set_own : (slots : List Slot) (d : ℕ) → d < length slots → slice_set slots d (slot_at slots d) ≡ slots
set_own [] d within = refl
set_own (s ∷ slots) zero within = refl
set_own (s ∷ slots) (suc d) within = ap (λ rest. s ∷ rest) (set_own slots d (omega (arith, within)))

module _ (change : ℕ → Slot → Slot) where
  -- the slot of one device is changed
  pub changed_is : (slots : List Slot) (d : ℕ) (s x : Slot) → d < length slots → s ≡ slice_index_or slots d s → x ≡ change d s → slice_set slots d x ≡ changed_on change slots d
  changed_is slots d s x within is so = ap (slice_set slots d) (so ∙ ap (change d) (sym (slot_read slots d s within is)))

  -- there are as many
  pub changed_length : (devices : List ℕ) (slots : List Slot) → length (changed change devices slots) ≡ length slots
  changed_length [] slots = refl
  changed_length (d ∷ devices) slots = changed_length devices (changed_on change slots d) ∙ length-set slots d (change d (slot_at slots d))

  module _ (p : ℕ → Bool) where
    -- a device before the range is as it was
    before_range : (a n : ℕ) (slots : List Slot) (d : ℕ) → d < a → slot_at (changed change (filter p (range_with_len a n)) slots) d ≡ slot_at slots d
    before_range a zero slots d below = refl
    before_range a (suc n) slots d below = by_test (p a) (λ s. before_range (a + 1) n s d (omega (arith, below)))
      where
        by_test : (b : Bool) → ((s : List Slot) → slot_at (changed change (filter p (range_with_len (a + 1) n)) s) d ≡ slot_at s d)
            → slot_at (changed change (cond b (a ∷ filter p (range_with_len (a + 1) n)) (filter p (range_with_len (a + 1) n))) slots) d ≡ slot_at slots d
        by_test true rest = rest (changed_on change slots a) ∙ set_other slots a d (change a (slot_at slots a)) (omega (arith, below))
        by_test false rest = rest slots

    -- one in it is changed where it is chosen
    in_range : (a n : ℕ) (slots : List Slot) (d : ℕ) → a + n ≤ length slots → a ≤ d → d < a + n → slot_at (changed change (filter p (range_with_len a n)) slots) d ≡ cond (p d) (change d (slot_at slots d)) (slot_at slots d)
    in_range a zero slots d size from below = absurd (omega (arith, from, below))
    in_range a (suc n) slots d size from below = by_test (p a) (d == a) refl refl (λ s long further. in_range (a + 1) n s d long further (omega (arith, below)))
      where
        Goal : Bool → Type 0
        Goal b = slot_at (changed change (cond b (a ∷ filter p (range_with_len (a + 1) n)) (filter p (range_with_len (a + 1) n))) slots) d ≡ cond (p d) (change d (slot_at slots d)) (slot_at slots d)

        after : List Slot
        after = changed_on change slots a

        by_test : (b c : Bool) → p a ≡ b → (d == a) ≡ c
            → ((s : List Slot) → a + 1 + n ≤ length s → a + 1 ≤ d → slot_at (changed change (filter p (range_with_len (a + 1) n)) s) d ≡ cond (p d) (change d (slot_at s d)) (slot_at s d)) → Goal b
        by_test true true on own rest =
            let same : a ≡ d = grind (arith, common_steps) in
            before_range (a + 1) n after d (omega (arith, same))
            ∙ subst (λ k. slot_at (changed_on change slots a) k ≡ change k (slot_at slots k)) same (set_here slots a (change a (slot_at slots a)) (omega (arith, size)))
            ∙ sym (ap (λ b. cond b (change d (slot_at slots d)) (slot_at slots d)) (ap p (sym same) ∙ on))
        by_test true false on other rest =
            let apart : d ≢ a = grind (arith, common_steps) in
            let long : length after ≡ length slots = length-set slots a (change a (slot_at slots a)) in
            rest after (omega (arith, long, size)) (omega (arith, from, apart)) ∙ ap (λ x. cond (p d) (change d x) x) (set_other slots a d (change a (slot_at slots a)) apart)
        by_test false true off own rest =
            let same : a ≡ d = grind (arith, common_steps) in
            before_range (a + 1) n slots d (omega (arith, same)) ∙ sym (ap (λ b. cond b (change d (slot_at slots d)) (slot_at slots d)) (ap p (sym same) ∙ off))
        by_test false false off other rest =
            let apart : d ≢ a = grind (arith, common_steps) in
            rest slots (omega (arith, size)) (omega (arith, from, apart))

    -- each device that is chosen is changed
    pub chosen_at : (n : ℕ) (slots : List Slot) (d : ℕ) → length slots ≡ n → d < n → slot_at (changed change (filter p (range_with_len 0 n)) slots) d ≡ cond (p d) (change d (slot_at slots d)) (slot_at slots d)
    chosen_at n slots d size within = in_range 0 n slots d (omega (arith, size)) (omega arith) (omega (arith, within))

    -- .. and so is each, where the others would stay
    pub changed_at : ((d : ℕ) (s : Slot) → p d ≡ false → change d s ≡ s) → (n : ℕ) (slots : List Slot) (d : ℕ) → length slots ≡ n → d < n → slot_at (changed change (filter p (range_with_len 0 n)) slots) d ≡ change d (slot_at slots d)
    changed_at else_same n slots d size within = chosen_at n slots d size within ∙ by_test (p d) refl
      where
        by_test : (b : Bool) → p d ≡ b → cond b (change d (slot_at slots d)) (slot_at slots d) ≡ change d (slot_at slots d)
        by_test true e = refl
        by_test false e = sym (else_same d (slot_at slots d) e)

  module _ (p q : ℕ → Bool) (only : (d : ℕ) → q d ≡ true → p d ≡ true) (else_same : (d : ℕ) (s : Slot) → p d ≡ true → q d ≡ false → change d s ≡ s) where
    fewer_in_range : (a n : ℕ) (slots : List Slot) → a + n ≤ length slots → changed change (filter q (range_with_len a n)) slots ≡ changed change (filter p (range_with_len a n)) slots
    fewer_in_range a zero slots size = refl
    fewer_in_range a (suc n) slots size = by_test (p a) (q a) refl refl (λ s long. fewer_in_range (a + 1) n s long)
      where
        Goal : Bool → Bool → Type 0
        Goal b c = changed change (cond c (a ∷ filter q (range_with_len (a + 1) n)) (filter q (range_with_len (a + 1) n))) slots ≡ changed change (cond b (a ∷ filter p (range_with_len (a + 1) n)) (filter p (range_with_len (a + 1) n))) slots

        long : length (changed_on change slots a) ≡ length slots
        long = length-set slots a (change a (slot_at slots a))

        by_test : (b c : Bool) → p a ≡ b → q a ≡ c → ((s : List Slot) → a + 1 + n ≤ length s → changed change (filter q (range_with_len (a + 1) n)) s ≡ changed change (filter p (range_with_len (a + 1) n)) s) → Goal b c
        by_test true true on both rest = rest (changed_on change slots a) (omega (arith, long, size))
        by_test false false off neither rest = rest slots (omega (arith, size))
        by_test false true off both rest = let on = only a both in absurd (grind (arith, common_steps, on, off))
        by_test true false on other rest =
            let stays : changed_on change slots a ≡ slots = ap (slice_set slots a) (else_same a (slot_at slots a) on other) ∙ set_own slots a (omega (arith, size)) in
            rest slots (omega (arith, size)) ∙ ap (changed change (filter p (range_with_len (a + 1) n))) (sym stays)

    -- those that would stay may be left out
    pub changed_fewer : (n : ℕ) (slots : List Slot) → length slots ≡ n → changed change (filter q (range_with_len 0 n)) slots ≡ changed change (filter p (range_with_len 0 n)) slots
    changed_fewer n slots size = fewer_in_range 0 n slots (omega (arith, size))

-- Clearing

-- one device more is cleared
pub cleared_more : (slots : List Slot) (d : ℕ) → d < length slots → slice_set (cleared (take d slots) ++ drop d slots) d no_slot ≡ cleared (take (d + 1) slots) ++ drop (d + 1) slots
cleared_more slots d within = along slots d within ∙ ap (λ k. cleared (take k slots) ++ drop k slots) (next d)
  where
    next : (k : ℕ) → suc k ≡ k + 1
    next k = omega arith

    along : (xs : List Slot) (k : ℕ) → k < length xs → slice_set (cleared (take k xs) ++ drop k xs) k no_slot ≡ cleared (take (suc k) xs) ++ drop (suc k) xs
    along [] k inside = absurd (omega (arith, inside))
    along (x ∷ xs) zero inside = refl
    along (x ∷ xs) (suc k) inside = ap (λ l. no_slot ∷ l) (along xs k (omega (arith, inside)))

-- all are
pub cleared_all : (slots : List Slot) (d : ℕ) → length slots ≤ d → cleared (take d slots) ++ drop d slots ≡ cleared slots
cleared_all [] zero all = refl
cleared_all [] (suc d) all = refl
cleared_all (x ∷ xs) zero all = absurd (omega (arith, all))
cleared_all (x ∷ xs) (suc d) all = ap (λ l. no_slot ∷ l) (cleared_all xs d (omega (arith, all)))
