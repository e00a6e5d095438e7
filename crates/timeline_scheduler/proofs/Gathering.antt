-- An item meets one of some items where their devices, the runs among them and those that these follow tell it.
use Rattle.timeline_scheduler.proofs.Prelude.{Back, Bool, Command, Devices, Failed, IsGathered, IsTrue, Item, List, Meet, None, Option, Ran, Run, RunNo, Some, [], ap, ap₂, are_tied, arith, both_touch, commands_of, common_steps, eq-eqb, false, followed_by, follows, get_or-set_other, get_or-set_same, is_ran, length, list_any, meet, of_run, option_map, or_left, or_right, refl, replicate, share_device, slice_index_or, slice_set, suc, sym, touches, true, unwrap_or, zero, ℕ, ◌<◌, ◌==◌, ◌||◌, ◌↔◌, ◌∙◌, ◌∷◌, ◌≡◌, ◌≢◌}
use Rattle.history_book.specs.Lines.{is_item_on}
use Rattle.home_types.proofs.Cited.{contains_insert}
use Rattle.home_types.specs.declared.numbers.DeviceNo.{DeviceNo}
use Rattle.std.specs.FinSet as set
use Rattle.std.specs.Ordering.{nat_cmp}
use Rattle.timeline_scheduler.specs.declared.gathered.Gathered.{Gathered}

both_ways : (a b : Bool) → (a ≡ true → b ≡ true) → (b ≡ true → a ≡ true) → a ≡ b
both_ways true b to from = sym (to refl)
both_ways false true to from = from refl
both_ways false false to from = refl

-- Devices

-- some command is on a device of the other run
found_on : (runs : List Run) (q : ℕ) (cs : List Command) → list_any (λ c. touches runs q c.device.0) cs ≡ true → (d : ℕ) × (list_any (λ c. c.device.0 == d) cs ≡ true) × (touches runs q d ≡ true)
found_on runs q [] some = absurd (cc)
found_on runs q (c ∷ cs) some = at (touches runs q c.device.0) refl (found_on runs q cs)
  where
    at : (b : Bool) → touches runs q c.device.0 ≡ b → (list_any (λ e. touches runs q e.device.0) cs ≡ true → (d : ℕ) × (list_any (λ e. e.device.0 == d) cs ≡ true) × (touches runs q d ≡ true))
        → (d : ℕ) × (list_any (λ e. e.device.0 == d) (c ∷ cs) ≡ true) × (touches runs q d ≡ true)
    at true here rest = (c.device.0, or_left (c.device.0 == c.device.0) (list_any (λ e. e.device.0 == c.device.0) cs) (eq-eqb c.device.0 c.device.0 refl), here)
    at false none rest = let later = rest (grind (arith, common_steps)) in (later.0, or_right (c.device.0 == later.0) (list_any (λ e. e.device.0 == later.0) cs) later.1, later.2)

module _ (runs : List Run) (x : ℕ) where
  -- an item on one of its devices shares it
  shares_item : (d : ℕ) (j : Item) → touches runs x d ≡ true → is_item_on runs d j ≡ true → share_device runs (Ran (record { 0 = x })) j ≡ true
  shares_item d (Ran q) on there = both_touch runs x q.0 d on there
  shares_item d (Failed e k) on there = let same : e.0 ≡ d = grind (arith, common_steps) in ap (touches runs x) same ∙ on
  shares_item d (Back e k) on there = let same : e.0 ≡ d = grind (arith, common_steps) in ap (touches runs x) same ∙ on

  -- .. and so is an item that shares one
  shared_on : (j : Item) → share_device runs (Ran (record { 0 = x })) j ≡ true → (d : ℕ) × (touches runs x d ≡ true) × (is_item_on runs d j ≡ true)
  shared_on (Ran q) sharing = let found = found_on runs q.0 (commands_of runs x) sharing in (found.0, found.1, found.2)
  shared_on (Failed e k) sharing = (e.0, sharing, eq-eqb e.0 e.0 refl)
  shared_on (Back e k) sharing = (e.0, sharing, eq-eqb e.0 e.0 refl)

  shares_some : (d : ℕ) (items : List Item) → touches runs x d ≡ true → list_any (is_item_on runs d) items ≡ true → list_any (share_device runs (Ran (record { 0 = x }))) items ≡ true
  shares_some d [] on some = absurd (cc)
  shares_some d (j ∷ items) on some = at (is_item_on runs d j) refl (shares_some d items on)
    where
      at : (b : Bool) → is_item_on runs d j ≡ b → (list_any (is_item_on runs d) items ≡ true → list_any (share_device runs (Ran (record { 0 = x }))) items ≡ true)
          → (share_device runs (Ran (record { 0 = x })) j || list_any (share_device runs (Ran (record { 0 = x }))) items) ≡ true
      at true here rest = or_left (share_device runs (Ran (record { 0 = x })) j) (list_any (share_device runs (Ran (record { 0 = x }))) items) (shares_item d j on here)
      at false none rest = or_right (share_device runs (Ran (record { 0 = x })) j) (list_any (share_device runs (Ran (record { 0 = x }))) items) (rest (grind (arith, common_steps)))

  some_shared : (items : List Item) → list_any (share_device runs (Ran (record { 0 = x }))) items ≡ true → (d : ℕ) × (touches runs x d ≡ true) × (list_any (is_item_on runs d) items ≡ true)
  some_shared [] some = absurd (cc)
  some_shared (j ∷ items) some = at (share_device runs (Ran (record { 0 = x })) j) refl (some_shared items)
    where
      at : (b : Bool) → share_device runs (Ran (record { 0 = x })) j ≡ b → (list_any (share_device runs (Ran (record { 0 = x }))) items ≡ true → (d : ℕ) × (touches runs x d ≡ true) × (list_any (is_item_on runs d) items ≡ true))
          → (d : ℕ) × (touches runs x d ≡ true) × (list_any (is_item_on runs d) (j ∷ items) ≡ true)
      at true here rest = let found = shared_on j here in (found.0, found.1, or_left (is_item_on runs found.0 j) (list_any (is_item_on runs found.0) items) found.2)
      at false none rest = let found = rest (grind (arith, common_steps)) in (found.0, found.1, or_right (is_item_on runs found.0 j) (list_any (is_item_on runs found.0) items) found.2)

  -- the devices of the items meet those of the run where it shares one with some item
  pub run_shares : (gathered own : Devices) (items : List Item) (met : Bool) → ((d : ℕ) → set.contains gathered d ≡ list_any (is_item_on runs d) items) → ((d : ℕ) → set.contains own d ≡ touches runs x d) → (IsTrue met ↔ Meet gathered own)
      → met ≡ list_any (share_device runs (Ran (record { 0 = x }))) items
  run_shares gathered own items met are its told = both_ways met (list_any (share_device runs (Ran (record { 0 = x }))) items) to from
    where
      to : met ≡ true → list_any (share_device runs (Ran (record { 0 = x }))) items ≡ true
      to e = let meets = told.0 e in shares_some meets.0 items (sym (its meets.0) ∙ meets.2) (sym (are meets.0) ∙ meets.1)

      from : list_any (share_device runs (Ran (record { 0 = x }))) items ≡ true → met ≡ true
      from some = let found = some_shared items some in told.1 (found.0, are found.0 ∙ found.2, its found.0 ∙ found.1)

-- Runs that follow

any_either : {A : Type 0} (p q : A → Bool) (xs : List A) → list_any (λ x. p x || q x) xs ≡ (list_any p xs || list_any q xs)
any_either p q [] = refl
any_either p q (x ∷ xs) = ap (λ b. (p x || q x) || b) (any_either p q xs) ∙ turn (p x) (q x) (list_any p xs) (list_any q xs)
  where
    turn : (a b c d : Bool) → ((a || b) || (c || d)) ≡ ((a || c) || (b || d))
    turn a b c d = grind (arith, common_steps)

any_alike : {A : Type 0} (p q : A → Bool) → ((x : A) → p x ≡ q x) → (xs : List A) → list_any p xs ≡ list_any q xs
any_alike p q same [] = refl
any_alike p q same (x ∷ xs) = ap₂ (λ a b. a || b) (same x) (any_alike p q same xs)

module _ (runs : List Run) (x : ℕ) where
  tied_by : (j : Item) → are_tied runs (Ran (record { 0 = x })) j ≡ (of_run (follows runs x) j || of_run (λ q. follows runs q x) j)
  tied_by (Ran q) = refl
  tied_by (Failed e k) = refl
  tied_by (Back e k) = refl

  -- the run that it follows is among them
  leads : (leader : Option RunNo) (items : List Item) → followed_by runs x ≡ leader → list_any (of_run (follows runs x)) items ≡ unwrap_or (option_map (λ (f : RunNo). list_any (is_ran f.0) items) leader) false
  leads None items e = any_alike (of_run (follows runs x)) (λ j. false) none items ∙ nowhere items
    where
      none : (j : Item) → of_run (follows runs x) j ≡ false
      none (Ran q) = ap (λ o. unwrap_or (option_map (λ (f : RunNo). f.0 == q.0) o) false) e
      none (Failed d k) = refl
      none (Back d k) = refl

      nowhere : (js : List Item) → list_any (λ (j : Item). false) js ≡ false
      nowhere [] = refl
      nowhere (j ∷ js) = nowhere js
  leads (Some f) items e = any_alike (of_run (follows runs x)) (is_ran f.0) own items
    where
      turned : (a b : ℕ) → (a == b) ≡ (b == a)
      turned a b = grind (arith, common_steps)

      own : (j : Item) → of_run (follows runs x) j ≡ is_ran f.0 j
      own (Ran q) = ap (λ o. unwrap_or (option_map (λ (l : RunNo). l.0 == q.0) o) false) e ∙ turned f.0 q.0
      own (Failed d k) = refl
      own (Back d k) = refl

  -- the run follows one of the items, or one of them follows it
  pub run_tied : (items : List Item) (leader : Option RunNo) (one other : Bool) → followed_by runs x ≡ leader → one ≡ unwrap_or (option_map (λ (f : RunNo). list_any (is_ran f.0) items) leader) false → other ≡ list_any (of_run (λ q. follows runs q x)) items
      → (one || other) ≡ list_any (are_tied runs (Ran (record { 0 = x }))) items
  run_tied items leader one other e is that =
      ap₂ (λ a b. a || b) (is ∙ sym (leads leader items e)) that ∙ sym (any_either (of_run (follows runs x)) (of_run (λ q. follows runs q x)) items)
      ∙ sym (any_alike (are_tied runs (Ran (record { 0 = x }))) (λ j. of_run (follows runs x) j || of_run (λ q. follows runs q x) j) tied_by items)

  -- .. one of them follows it
  pub tied_one : (items : List Item) → true ≡ list_any (of_run (λ q. follows runs q x)) items → true ≡ list_any (are_tied runs (Ran (record { 0 = x }))) items
  tied_one items some = sym (last (unwrap_or (option_map (λ (f : RunNo). list_any (is_ran f.0) items) (followed_by runs x)) false)) ∙ run_tied items (followed_by runs x) _ true refl refl some
    where
      last : (b : Bool) → (b || true) ≡ true
      last true = refl
      last false = refl

  -- .. none of them does
  pub tied_other : (items : List Item) (leader : Option RunNo) (one : Bool) → followed_by runs x ≡ leader → one ≡ unwrap_or (option_map (λ (f : RunNo). list_any (is_ran f.0) items) leader) false → false ≡ list_any (of_run (λ q. follows runs q x)) items
      → one ≡ list_any (are_tied runs (Ran (record { 0 = x }))) items
  tied_other items leader one e is none = sym (plain one) ∙ run_tied items leader one false e is none
    where
      plain : (b : Bool) → (b || false) ≡ b
      plain true = refl
      plain false = refl

  meets_either : (items : List Item) (one other : Bool) → one ≡ list_any (share_device runs (Ran (record { 0 = x }))) items → other ≡ list_any (are_tied runs (Ran (record { 0 = x }))) items
      → (one || other) ≡ list_any (meet runs (Ran (record { 0 = x }))) items
  meets_either items one other is that = ap₂ (λ a b. a || b) is that ∙ sym (any_either (share_device runs (Ran (record { 0 = x }))) (are_tied runs (Ran (record { 0 = x }))) items)

  -- it meets one with which it shares a device
  pub run_meets_shared : (items : List Item) → true ≡ list_any (share_device runs (Ran (record { 0 = x }))) items → true ≡ list_any (meet runs (Ran (record { 0 = x }))) items
  run_meets_shared items some = meets_either items true (list_any (are_tied runs (Ran (record { 0 = x }))) items) some refl

  -- .. or one to which it is tied
  pub run_meets : (items : List Item) (other : Bool) → false ≡ list_any (share_device runs (Ran (record { 0 = x }))) items → other ≡ list_any (are_tied runs (Ran (record { 0 = x }))) items → other ≡ list_any (meet runs (Ran (record { 0 = x }))) items
  run_meets items other none that = meets_either items false other none that

module _ (runs : List Run) (d : DeviceNo) (k : ℕ) where
  failed_on : (j : Item) → meet runs (Failed d k) j ≡ is_item_on runs d.0 j
  failed_on (Ran q) = plain (touches runs q.0 d.0)
    where
      plain : (b : Bool) → (b || false) ≡ b
      plain true = refl
      plain false = refl
  failed_on (Failed e l) = grind (arith, common_steps)
  failed_on (Back e l) = grind (arith, common_steps)

  back_on : (j : Item) → meet runs (Back d k) j ≡ is_item_on runs d.0 j
  back_on (Ran q) = plain (touches runs q.0 d.0)
    where
      plain : (b : Bool) → (b || false) ≡ b
      plain true = refl
      plain false = refl
  back_on (Failed e l) = grind (arith, common_steps)
  back_on (Back e l) = grind (arith, common_steps)

  -- an event meets those on its device
  pub failed_meets : (items : List Item) → list_any (is_item_on runs d.0) items ≡ list_any (meet runs (Failed d k)) items
  failed_meets items = sym (any_alike (meet runs (Failed d k)) (is_item_on runs d.0) failed_on items)

  pub back_meets : (items : List Item) → list_any (is_item_on runs d.0) items ≡ list_any (meet runs (Back d k)) items
  back_meets items = sym (any_alike (meet runs (Back d k)) (is_item_on runs d.0) back_on items)

-- Words of runs

-- the flag of a run is set
pub flag_set : (flags : List Bool) (f x : ℕ) (old : Bool) → f < length flags → slice_index_or flags x false ≡ old → slice_index_or (slice_set flags f true) x false ≡ ((f == x) || old)
flag_set flags f x old within was = by_run (f == x) refl
  where
    by_run : (b : Bool) → (f == x) ≡ b → slice_index_or (slice_set flags f true) x false ≡ (b || old)
    by_run true e = let same : x ≡ f = grind (arith, common_steps) in ap (λ k. slice_index_or (slice_set flags f true) k false) same ∙ get_or-set_same flags f true false within
    by_run false e = let other : x ≢ f = grind (arith, common_steps) in get_or-set_other flags f x true false other ∙ was

-- Gathering

pub no_flag : (n x : ℕ) → slice_index_or (replicate n false) x false ≡ false
no_flag zero x = refl
no_flag (suc n) zero = refl
no_flag (suc n) (suc x) = no_flag n x

-- no items
pub none_gathered : (runs : List Run) (devices : Devices) (n : ℕ) → devices ≡ set.empty → IsGathered runs [] (record { devices = devices; runs = replicate n false; leaders = replicate n false })
none_gathered runs devices n none = record {
  devices = λ d. ap (λ s. set.contains s d) none ∙ set.contains-empty nat_cmp d;
  among = λ x low. no_flag n x;
  leaders = λ x low. no_flag n x;
}

module _ (runs : List Run) (x : RunNo) (items : List Item) where
  -- a run that follows none
  pub leads_none : (flags : List Bool) → followed_by runs x.0 ≡ None → (q : ℕ) → slice_index_or flags q false ≡ (follows runs x.0 q || slice_index_or flags q false)
  leads_none flags e q = sym (ap (λ o. unwrap_or (option_map (λ (f : RunNo). f.0 == q) o) false || slice_index_or flags q false) e)

  -- .. and one that follows another
  pub leads_one : (flags : List Bool) (f : RunNo) → followed_by runs x.0 ≡ Some f → f.0 < length flags → (q : ℕ) → slice_index_or (slice_set flags f.0 true) q false ≡ (follows runs x.0 q || slice_index_or flags q false)
  leads_one flags f e within q = flag_set flags f.0 q (slice_index_or flags q false) within refl ∙ sym (ap (λ o. unwrap_or (option_map (λ (l : RunNo). l.0 == q) o) false || slice_index_or flags q false) e)

  -- one run more
  pub run_gathered : (old new : Gathered) (own : Devices) → IsGathered runs items old → ((d : ℕ) → set.contains new.devices d ≡ (set.contains old.devices d || set.contains own d)) → ((d : ℕ) → set.contains own d ≡ touches runs x.0 d)
      → new.runs ≡ slice_set old.runs x.0 true → x.0 < length old.runs → ((q : ℕ) → slice_index_or new.leaders q false ≡ (follows runs x.0 q || slice_index_or old.leaders q false)) → IsGathered runs (Ran x ∷ items) new
  run_gathered old new own was joined its set_is within leading = record {
    devices = λ d. joined d ∙ ap₂ (λ a b. a || b) (was.devices d) (its d) ∙ turn (list_any (is_item_on runs d) items) (touches runs x.0 d);
    among = λ q low. ap (λ l. slice_index_or l q false) set_is ∙ flag_set old.runs x.0 q (list_any (is_ran q) items) within (was.among q low);
    leaders = λ q low. leading q ∙ ap (λ b. follows runs x.0 q || b) (was.leaders q low);
  }
    where
      turn : (a b : Bool) → (a || b) ≡ (b || a)
      turn a b = grind (arith, common_steps)

module _ (runs : List Run) (d : DeviceNo) (k : ℕ) (items : List Item) (old new : Gathered) (was : IsGathered runs items old) (added : new.devices ≡ set.insert old.devices d.0) (same_runs : new.runs ≡ old.runs) (same_leaders : new.leaders ≡ old.leaders) where
  on_device : (e : ℕ) → set.contains new.devices e ≡ ((d.0 == e) || list_any (is_item_on runs e) items)
  on_device e = ap (λ s. set.contains s e) added ∙ contains_insert old.devices d.0 e ∙ ap₂ (λ a b. a || b) (turned e d.0) (was.devices e)
    where
      turned : (a b : ℕ) → (a == b) ≡ (b == a)
      turned a b = grind (arith, common_steps)

  -- one event more
  pub failed_gathered : IsGathered runs (Failed d k ∷ items) new
  failed_gathered = record {
    devices = on_device;
    among = λ q low. ap (λ l. slice_index_or l q false) same_runs ∙ was.among q low;
    leaders = λ q low. ap (λ l. slice_index_or l q false) same_leaders ∙ was.leaders q low;
  }

  pub back_gathered : IsGathered runs (Back d k ∷ items) new
  back_gathered = record {
    devices = on_device;
    among = λ q low. ap (λ l. slice_index_or l q false) same_runs ∙ was.among q low;
    leaders = λ q low. ap (λ l. slice_index_or l q false) same_leaders ∙ was.leaders q low;
  }
