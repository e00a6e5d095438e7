-- The devices on which a run waits for one that writes them.
use Rattle.timeline_scheduler.proofs.Prelude.{Bool, Devices, IsFirstFrom, List, None, Run, RunsAreHomed, Slot, Some, ap, arith, changed, changed_on, common_steps, devices_among, false, filter, if◌then◌else◌, length, max, nat_lt, range_with_len, read_touched, reads_first, refl, slot_waiting, sym, touches, true, writes_on, ℕ, ◌&&◌, ◌-◌, ◌<◌, ◌∙◌, ◌≡◌}
use Rattle.std.specs.FinSet as set
use Rattle.timeline_scheduler.proofs.DeviceWalks.{fold_done, rest}
use Rattle.timeline_scheduler.proofs.SlotSets.{changed_fewer}

-- r reads the device first, and x writes it
abbrev pub waits_for : List Run → ℕ → ℕ → ℕ → Bool
waits_for runs r x d = reads_first runs r d && writes_on runs x d

module _ (runs : List Run) (r x : ℕ) where
  -- .. is one of the run's footprint
  pub waits_touched : (d : ℕ) → waits_for runs r x d ≡ true → touches runs r d ≡ true
  waits_touched d waits = read_touched runs r d (first (reads_first runs r d) (writes_on runs x d) waits)
    where
      first : (a b : Bool) → (a && b) ≡ true → a ≡ true
      first a b e = grind (arith, common_steps)

  -- there it is free at the end of the whole run
  pub waiting_slot : (whole d : ℕ) (s : Slot) → waits_for runs r x d ≡ true → record s { free = max s.free whole } ≡ slot_waiting runs r x whole d s
  waiting_slot whole d s waits = at (nat_lt s.free whole) refl ∙ sym (ap (λ b. if nat_lt s.free whole && b then record s { free = whole } else s) waits)
    where
      at : (b : Bool) → nat_lt s.free whole ≡ b → record s { free = max s.free whole } ≡ (if b && true then record s { free = whole } else s)
      at true e = let most : max s.free whole ≡ whole = grind (arith, common_steps) in ap (λ n. record s { free = n }) most
      at false e = let most : max s.free whole ≡ s.free = grind (arith, common_steps) in ap (λ n. record s { free = n }) most

  stays : (whole d : ℕ) (s : Slot) → touches runs r d ≡ true → waits_for runs r x d ≡ false → slot_waiting runs r x whole d s ≡ s
  stays whole d s touched none = ap (λ b. if nat_lt s.free whole && b then record s { free = whole } else s) none ∙ at (nat_lt s.free whole)
    where
      at : (b : Bool) → (if b && false then record s { free = whole } else s) ≡ s
      at true = refl
      at false = refl

  -- the slots of the others stay
  pub waits_alone : (whole n : ℕ) (slots : List Slot) → length slots ≡ n → changed (slot_waiting runs r x whole) (rest (waits_for runs r x) n 0) slots ≡ changed (slot_waiting runs r x whole) (devices_among runs r n) slots
  waits_alone whole n slots size =
      let all : n - 0 ≡ n = omega arith in
      ap (λ k. changed (slot_waiting runs r x whole) (filter (waits_for runs r x) (range_with_len 0 k)) slots) all ∙ changed_fewer (slot_waiting runs r x whole) (touches runs r) (waits_for runs r x) waits_touched (stays whole) n slots size

  -- where it waits on none, all stay
  pub waits_none : (whole : ℕ) (slots : List Slot) → IsFirstFrom (waits_for runs r x) 0 None → slots ≡ changed (slot_waiting runs r x whole) (devices_among runs r (length slots)) slots
  waits_none whole slots none =
      fold_done (changed_on (slot_waiting runs r x whole)) (waits_for runs r x) (changed (slot_waiting runs r x whole) (rest (waits_for runs r x) (length slots) 0) slots) (length slots) 0 slots none refl ∙ waits_alone whole (length slots) slots refl

  module _ (waiting : Devices) (are : (d : ℕ) → set.contains waiting d ≡ waits_for runs r x d) where
    -- what a walk over the set finds
    pub next_waiting : (from d : ℕ) → IsFirstFrom (λ e. set.contains waiting e) from (Some d) → IsFirstFrom (waits_for runs r x) from (Some d)
    next_waiting from d next = (next.0, sym (are d) ∙ next.1, λ q low high. sym (are q) ∙ next.2 q low high)

    pub none_waiting : (from : ℕ) → IsFirstFrom (λ e. set.contains waiting e) from None → IsFirstFrom (waits_for runs r x) from None
    none_waiting from none q low = sym (are q) ∙ none q low

    -- .. is a device of the home
    pub waiting_below : (devices from d : ℕ) → RunsAreHomed devices runs → IsFirstFrom (λ e. set.contains waiting e) from (Some d) → d < devices
    waiting_below devices from d homed next = homed r d (waits_touched d (sym (are d) ∙ next.1))
