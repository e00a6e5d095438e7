-- What the slots tell behind the items of a set.
use Rattle.timeline_scheduler.proofs.Prelude.{Alone, Back, Bool, EachTail, Facts, Failed, Grips, Item, Kept, LineageState, List, None, Ran, Reading, Run, RunNo, Setting, Slot, [], accesses_at, alone, ap, append-nil, append_assoc, ap₂, arith, changed, changed_on, chosen, cleared, commands_of, cond, devices_among, doom_of, false, fold, fold-append, free, if◌then◌else◌, is_counted, is_doomed, is_some, length, length-map, max, nat_lt, no_slot, reads_first, refl, slice_set, slot_at, slot_behind, slot_waiting, slots_behind, slots_passed, subst, suc, sym, take, take_all, touches, true, unread, waited_item, whole_passed, workers_have_access, writes_on, zero, ℕ, ◌&&◌, ◌++◌, ◌<◌, ◌∙◌, ◌∷◌, ◌≡◌, ◌≤◌}
use Rattle.timeline_scheduler.proofs.Frees.{AreOfLine, awaited_free, end_awaited, end_there, free_is, latest_is, max_none}
use Rattle.timeline_scheduler.proofs.SlotSets.{changed_at, changed_length, chosen_at}
use Rattle.timeline_scheduler.proofs.Wholes.{whole_is}

-- Slots of an item

no_wait : (runs : List Run) (r x whole d : ℕ) (s : Slot) → (reads_first runs r d ≡ false) → slot_waiting runs r x whole d s ≡ s
no_wait runs r x whole d s none = ap (λ b. if nat_lt s.free whole && (b && writes_on runs x d) then record s { free = whole } else s) none ∙ at (nat_lt s.free whole)
  where
    at : (b : Bool) → (if b && false then record s { free = whole } else s) ≡ s
    at true = refl
    at false = refl

-- what waiting for a run makes of the slot of a device
waited_slot : (table : List LineageState) (runs : List Run) (r : ℕ) (q : RunNo) (slots : List Slot) (d : ℕ) → d < length slots
    → slot_at (waited_item table runs r (Ran q) slots) d ≡ slot_waiting runs r q.0 (whole_passed table q.0) d (slot_at slots d)
waited_slot table runs r q slots d within =
    changed_at (slot_waiting runs r q.0 (whole_passed table q.0)) (touches runs r) (λ k s off. no_wait runs r q.0 (whole_passed table q.0) k s (unread k (commands_of runs r) off)) (length slots) slots d refl within

-- The planned times stay

set_planned : (slots : List Slot) (d e : ℕ) (x : Slot) → x.planned ≡ (slot_at slots d).planned → (slot_at (slice_set slots d x) e).planned ≡ (slot_at slots e).planned
set_planned [] d e x same = refl
set_planned (s ∷ slots) zero zero x same = same
set_planned (s ∷ slots) zero (suc e) x same = refl
set_planned (s ∷ slots) (suc d) zero x same = refl
set_planned (s ∷ slots) (suc d) (suc e) x same = set_planned slots d e x same

changed_planned : (change : ℕ → Slot → Slot) → ((d : ℕ) (s : Slot) → (change d s).planned ≡ s.planned) → (devices : List ℕ) (slots : List Slot) (e : ℕ) → (slot_at (changed change devices slots) e).planned ≡ (slot_at slots e).planned
changed_planned change same [] slots e = refl
changed_planned change same (d ∷ devices) slots e = changed_planned change same devices (changed_on change slots d) e ∙ set_planned slots d e (change d (slot_at slots d)) (same d (slot_at slots d))

waiting_planned : (runs : List Run) (r x whole d : ℕ) (s : Slot) → (slot_waiting runs r x whole d s).planned ≡ s.planned
waiting_planned runs r x whole d s = at (nat_lt s.free whole && (reads_first runs r d && writes_on runs x d))
  where
    at : (b : Bool) → (if b then record s { free = whole } else s).planned ≡ s.planned
    at true = refl
    at false = refl

-- where nothing was passed nothing is known
pub cleared_at : (slots : List Slot) (d : ℕ) → slot_at (cleared slots) d ≡ no_slot
cleared_at [] d = refl
cleared_at (s ∷ slots) zero = refl
cleared_at (s ∷ slots) (suc d) = cleared_at slots d

module _ (table : List LineageState) (runs : List Run) (r : ℕ) where
  -- an item that is waited for leaves the planned times
  item_planned : (i : Item) (slots : List Slot) (e : ℕ) → (slot_at (waited_item table runs r i slots) e).planned ≡ (slot_at slots e).planned
  item_planned (Failed d k) slots e = refl
  item_planned (Back d k) slots e = refl
  item_planned (Ran q) slots e = changed_planned (slot_waiting runs r q.0 (whole_passed table q.0)) (λ d s. waiting_planned runs r q.0 (whole_passed table q.0) d s) (devices_among runs r (length slots)) slots e

  -- .. and there are as many slots
  item_length : (i : Item) (slots : List Slot) → length (waited_item table runs r i slots) ≡ length slots
  item_length (Failed d k) slots = refl
  item_length (Back d k) slots = refl
  item_length (Ran q) slots = changed_length (slot_waiting runs r q.0 (whole_passed table q.0)) (devices_among runs r (length slots)) slots

  pub fold_length : (items : List Item) (slots : List Slot) → length (fold (λ ss i. waited_item table runs r i ss) slots items) ≡ length slots
  fold_length [] slots = refl
  fold_length (i ∷ is) slots = fold_length is (waited_item table runs r i slots) ∙ item_length i slots

  fold_planned : (items : List Item) (slots : List Slot) (e : ℕ) → (slot_at (fold (λ ss i. waited_item table runs r i ss) slots items) e).planned ≡ (slot_at slots e).planned
  fold_planned [] slots e = refl
  fold_planned (i ∷ is) slots e = fold_planned is (waited_item table runs r i slots) e ∙ item_planned i slots e

  module _ (history : List Kept) (items : List Item) (slots : List Slot) where
    passed_length : length (slots_passed table history runs r items slots) ≡ length slots
    passed_length = changed_length (slot_behind table (is_counted history items)) (devices_among runs r (length slots)) (cleared slots) ∙ length-map slots (λ s. no_slot)

    -- there are as many slots
    pub behind_length : length (slots_behind table history runs r items slots) ≡ length slots
    behind_length = fold_length items (slots_passed table history runs r items slots) ∙ passed_length

    -- .. and nothing is planned
    pub behind_planned : (e : ℕ) → (slot_at (slots_behind table history runs r items slots) e).planned ≡ None
    behind_planned e =
        fold_planned items (slots_passed table history runs r items slots) e
        ∙ changed_planned (slot_behind table (is_counted history items)) (λ d s. refl) (devices_among runs r (length slots)) (cleared slots) e ∙ ap (λ (s : Slot). s.planned) (cleared_at slots e)

    -- what was passed, and then waited for
    pub behind_is : (counted : ℕ → Bool) (clear passed done : List Slot) → ((x : ℕ) → counted x ≡ is_counted history items x) → clear ≡ cleared slots → passed ≡ changed (slot_behind table counted) (devices_among runs r (length clear)) clear
        → done ≡ fold (λ ss i. waited_item table runs r i ss) passed items → done ≡ slots_behind table history runs r items slots
    behind_is counted clear passed done same clear_is passed_is done_is =
        done_is
        ∙ ap (λ ss. fold (λ ts i. waited_item table runs r i ts) ss items)
        (passed_is ∙ ap (λ ss. changed (slot_behind table counted) (devices_among runs r (length ss)) ss) clear_is
        ∙ ap (λ k. changed (slot_behind table counted) (devices_among runs r k) (cleared slots)) (length-map slots (λ s. no_slot))
        ∙ (λ i. changed (slot_behind table (λ x. same x i)) (devices_among runs r (length slots)) (cleared slots)))

  module _ (before : List Bool) (items : List Item) (start slots : List Slot) (at : ℕ) (is : slots ≡ fold (λ ss i. waited_item table runs r i ss) start (chosen (take at before) (take at items))) where
    -- as many slots
    pub walk_length : length slots ≡ length start
    walk_length = ap length is ∙ fold_length (chosen (take at before) (take at items)) start

    -- at the end the whole set is waited for
    pub walk_done : length before ≤ at → length items ≤ at → slots ≡ fold (λ ss i. waited_item table runs r i ss) start (chosen before items)
    walk_done flags all = is ∙ ap₂ (λ bs js. fold (λ ss i. waited_item table runs r i ss) start (chosen bs js)) (take_all at before flags) (take_all at items all)

-- Along the line

module _ (w : Setting) (n : Reading) (g : Grips) (f : Facts w n g) (r : ℕ) (table : List LineageState) (history : List Kept)
    (size : length table ≡ length w.first) (lines : (d : ℕ) → d < length w.first → AreOfLine w n g d (accesses_at table d))
    (dooms : (q : ℕ) → is_some (doom_of history q) ≡ is_doomed n q) (set : List Bool) where
  -- the latest planned end of the runs of the set on the device
  abbrev latest : ℕ → ℕ
  latest d = fold (λ t i. max t (end_there w n g f r d i)) 0 (chosen set n.line)

  -- each device of r is free when its slot says so, behind the set where these are waited for
  abbrev AllFree : List Item → List Slot → Type 0
  AllFree items slots = (d : ℕ) → d < length w.first → touches w.runs r d ≡ true → (slot_at slots d).free ≡ fold (λ t i. max t (end_awaited w n g f r d i)) (latest d) items

  -- one item more is waited for, which stands there in the line
  item_free : (front is passed : List Item) (i : Item) (slots : List Slot) → n.line ≡ front ++ i ∷ is → length slots ≡ length table → AllFree passed slots → AllFree (passed ++ i ∷ []) (waited_item table w.runs r i slots)
  item_free front is passed (Failed e k) slots cut long was d within own = was d within own ∙ sym (fold-append (λ t j. max t (end_awaited w n g f r d j)) (latest d) passed (Failed e k ∷ []) ∙ max_none _)
  item_free front is passed (Back e k) slots cut long was d within own = was d within own ∙ sym (fold-append (λ t j. max t (end_awaited w n g f r d j)) (latest d) passed (Back e k ∷ []) ∙ max_none _)
  item_free front is passed (Ran q) slots cut long was d within own =
      ap (λ (s : Slot). s.free) (waited_slot table w.runs r q slots d (omega (arith, within, size, long)))
      ∙ awaited_free w n g f r d q (slot_at slots d) (whole_passed table q.0) (whole_is w n g table q front is cut (subst (EachTail Alone) cut (alone n f.once)) size lines)
      ∙ ap (λ t. max t (end_awaited w n g f r d (Ran q))) (was d within own)
      ∙ sym (fold-append (λ t j. max t (end_awaited w n g f r d j)) (latest d) passed (Ran q ∷ []))

  -- the items with a flag are waited for, from here on
  along_free : (front is passed : List Item) (bs : List Bool) (slots : List Slot) → n.line ≡ front ++ is → length slots ≡ length table → AllFree passed slots
      → AllFree (passed ++ chosen bs is) (fold (λ ss i. waited_item table w.runs r i ss) slots (chosen bs is))
  unfolding chosen
  along_free front [] passed bs slots cut long was = subst (λ l. AllFree l slots) (sym (append-nil passed)) was
  along_free front (i ∷ is) passed [] slots cut long was = subst (λ l. AllFree l slots) (sym (append-nil passed)) was
  along_free front (i ∷ is) passed (true ∷ bs) slots cut long was =
      subst (λ l. AllFree l (fold (λ ss j. waited_item table w.runs r j ss) (waited_item table w.runs r i slots) (chosen bs is))) (append_assoc passed (i ∷ []) (chosen bs is))
      (along_free (front ++ i ∷ []) is (passed ++ i ∷ []) bs (waited_item table w.runs r i slots) (cut ∙ sym (append_assoc front (i ∷ []) is)) (item_length table w.runs r i slots ∙ long) (item_free front is passed i slots cut long was))
  along_free front (i ∷ is) passed (false ∷ bs) slots cut long was = along_free (front ++ i ∷ []) is passed bs slots (cut ∙ sym (append_assoc front (i ∷ []) is)) long was

  -- at first none is
  passed_free : (slots : List Slot) → length slots ≡ length table → AllFree [] (slots_passed table history w.runs r (chosen set n.line) slots)
  passed_free slots long d within own =
      ap (λ (s : Slot). s.free)
      (chosen_at (slot_behind table (is_counted history (chosen set n.line))) (touches w.runs r) (length slots) (cleared slots) d (length-map slots (λ s. no_slot)) (omega (arith, within, size, long))
      ∙ ap (λ b. cond b (slot_behind table (is_counted history (chosen set n.line)) d (slot_at (cleared slots) d)) (slot_at (cleared slots) d)) own)
      ∙ latest_is w n g f r d history set (accesses_at table d) dooms (lines d within) (alone n f.once) (workers_have_access w n g f d)

  -- behind the items of the set each device of r is free when its slot says so
  pub set_free : (slots : List Slot) → length slots ≡ length table → (d : ℕ) → d < length w.first → touches w.runs r d ≡ true → (slot_at (slots_behind table history w.runs r (chosen set n.line) slots) d).free ≡ free w n r (chosen set n.line) d
  set_free slots long d within own =
      along_free [] n.line [] set (slots_passed table history w.runs r (chosen set n.line) slots) refl (passed_length table w.runs r history (chosen set n.line) slots ∙ long) (passed_free slots long) d within own ∙ free_is w n g f r d (chosen set n.line)
