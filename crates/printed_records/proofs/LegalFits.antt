-- A legal window fits: what is printed of it is read again as what it is.
use Rattle.printed_records.proofs.Prelude.{Aborted, AllStand, Answer, Arrived, Back, Bool, Cause, CausesAreSmall, Committed, DeviceText, Did, Doomed, DownAtEnd, End, Ended, Entry, Failed, Fell, HaveValues, IsCauseFor, IsSeriallyLegal, IsSmall, IsSound, IsSoundWindow, IsTrue, Item, ItemsMayStand, Kept, List, Lost, Mode, MustDown, None, Ok, Option, Placed, Ran, Reading, Refuted, Revoked, Rose, RunFits, Script, Setting, Some, Stand, Undid, WindowRecord, WindowText, [], along, ap, append_assoc, arith, common_steps, end_is, end_of, ends_told, entries_of, entry, false, follows, home_behind, if◌then◌else◌, is_committed, is_committing, is_none, is_some, kinds_of, length, length-map, list_all, map, nothing_read, option_and_then, option_map, order_setting, plain_item, plain_routine, plain_script, plain_window, range_with_len, reading, refl, run_of_text, slice_get, subst, subst₂, suc, sym, true, unwrap_or, zero, ℕ, ◌&&◌, ◌++◌, ◌+◌, ◌<◌, ◌==◌, ◌∙◌, ◌∷◌, ◌≡◌, ◌≢◌, ◌≤◌}
use Rattle.legal_days.specs.JustifiedAborts.{abort_is_justified}
use Rattle.order_checker.specs.RunLines as checked
use Rattle.printed_records.proofs.CausesKept.{NamesWell, all_name_well, found_shown}
use Rattle.printed_records.proofs.HistoryEnds.{committed_typed, in_turn, same_committed, told_whole}
use Rattle.printed_records.proofs.HomedEvents.{events_homed}
use Rattle.printed_records.proofs.SerialAnswers.{AreTold, behind_is}
use Rattle.printed_records.proofs.StandingItems.{IsHomed, IsOrderOf, all_stand, items_stand, ran_committed}
use Rattle.printed_records.proofs.ToldEnds.{told_at}
use Rattle.printed_records.proofs.ValuesKept.{items-values, script-filled, values-length, window-suits}

-- what is fixed in a window of the script
abbrev pub window_setting : Script → Mode → List Stand → WindowText → Setting
window_setting script mode home window = record { runs = map (run_of_text script) window.runs.items; mode = mode; kinds = kinds_of script; first = home }

at_range : (p : ℕ → Bool) (a n r : ℕ) → list_all p (range_with_len a n) ≡ true → a ≤ r → r < a + n → p r ≡ true
at_range p a zero r all from to = absurd (omega (arith, from, to))
at_range p a (suc n) r all from to = of_bool (a == r) refl (at_range p (a + 1) n r (grind (arith, common_steps)))
  where
    of_bool : (b : Bool) → (a == r) ≡ b → (a + 1 ≤ r → r < a + 1 + n → p r ≡ true) → p r ≡ true
    of_bool true e rest = let equal : a ≡ r = grind (arith, common_steps) in subst (λ k. p k ≡ true) equal (grind (arith, common_steps))
    of_bool false e rest = let other : a ≢ r = grind (arith, common_steps) in rest (omega (arith, other, from)) (omega (arith, to))

along_weaker : (w : Setting) (strong weak : Reading → Entry → Bool) (n : Reading) (h : List Entry) → ((m : Reading) (e : Entry) → IsTrue (strong m e) → IsTrue (weak m e))
    → IsTrue (along w strong n h) → IsTrue (along w weak n h)
along_weaker w strong weak n [] weaker all = all
along_weaker w strong weak n (e ∷ h) weaker all =
    let here : IsTrue (weak n e) = weaker n e (grind (arith, common_steps)) in
    let rest : IsTrue (along w weak (entry w n e) h) = along_weaker w strong weak (entry w n e) h weaker (grind (arith, common_steps)) in
    grind (arith, common_steps)

shown_found : (w : Setting) (n : Reading) (e : Entry) → IsTrue (abort_is_justified w n e) → IsTrue (found_shown n e)
shown_found w n (Doomed r (Refuted c x)) ok = grind (arith, common_steps)
shown_found w n (Doomed r (MustDown c)) ok = refl
shown_found w n (Doomed r (Lost d)) ok = refl
shown_found w n (Doomed r (Revoked l d t m)) ok = refl
shown_found w n (Doomed r (DownAtEnd d)) ok = refl
shown_found w n (Arrived r m) ok = refl
shown_found w n (Placed r at m) ok = refl
shown_found w n (Did r c a) ok = refl
shown_found w n (Undid r d drove) ok = refl
shown_found w n (Fell d) ok = refl
shown_found w n (Rose d) ok = refl
shown_found w n (Ended r end) ok = refl

module _ (script : Script) (mode : Mode) (home : List Stand) (window : WindowText) (closed : WindowRecord)
    (legal : IsSeriallyLegal (window_setting script mode home window) closed) (before : HaveValues (kinds_of script) home) where
  abbrev w : Setting
  w = window_setting script mode home window

  abbrev history : List Kept
  history = closed.history.items

  abbrev n : Reading
  n = reading w (entries_of history)

  same : (r : ℕ) → checked.is_told_committed (ends_told window history) r ≡ is_committed n r
  same r = same_committed w window (run_of_text script) history r legal.well_formed refl

  kind_count : length home ≡ length (kinds_of script)
  kind_count = values-length (kinds_of script) home before

  device_count : length home ≡ length script.devices.items
  device_count = kind_count ∙ length-map script.devices.items (λ (d : DeviceText). d.kind)

  is_order : IsOrderOf (order_setting script home window closed) (kinds_of script) closed.order.items
  is_order = record {
    calm = legal.agrees.applies;
    once = λ r. legal.is_order.runs r ∙ ap (λ b. if b then 1 else 0) (sym (same r));
    following = λ r f all. legal.is_order.following r f (subst₂ (λ a b. IsTrue (follows w.runs r f && a && b)) (same r) (same f) all);
    homed = λ front item back there. subst (λ k. IsHomed k item) device_count (events_homed w (entries_of history) legal.well_formed front item back (there ∙ legal.line));
  }

  -- its items may stand where they stand
  pub items_fit : ItemsMayStand (order_setting script home window closed) [] closed.order.items
  items_fit = items_stand (order_setting script home window closed) (kinds_of script) closed.order.items is_order

  stood : (k : ℕ) (told : Option (List Answer)) → slice_get (ends_told window history) k ≡ Some told → is_none told ≡ false → checked.is_told_committed (ends_told window history) (k + 1) ≡ true
  stood k None at some = absurd (cc)
  stood k (Some answers) at some = let next : k + 1 ≡ suc k = omega arith in ap (checked.is_told_committed (ends_told window history)) next ∙ ap is_some (told_at (ends_told window history) k) ∙ ap (λ o. is_some (option_and_then (λ x. x) o)) at

  -- each committed run stands among them
  pub all_fit : AllStand (map plain_item closed.order.items) 0 (ends_told window history)
  all_fit = all_stand (order_setting script home window closed) (kinds_of script) closed.order.items is_order stood

  told_from : (front back : List Item) → front ++ back ≡ closed.order.items → AreTold n (ends_told window history) back
  told_from front [] there = tt
  told_from front (Ran r ∷ back) there = (
    told_whole w window (run_of_text script) history r.0 legal.well_formed refl
        (ran_committed (order_setting script home window closed) (kinds_of script) closed.order.items front r back is_order there),
    told_from (front ++ Ran r ∷ []) back (append_assoc front (Ran r ∷ []) back ∙ there),
  )
  told_from front (Failed d k ∷ back) there = told_from (front ++ Failed d k ∷ []) back (append_assoc front (Failed d k ∷ []) back ∙ there)
  told_from front (Back d k ∷ back) there = told_from (front ++ Back d k ∷ []) back (append_assoc front (Back d k ∷ []) back ∙ there)

  -- the serial execution answers what is printed, and leaves the last home
  pub serial_fits : home_behind w.runs (kinds_of script) (ends_told window history) home (map plain_item closed.order.items) ≡ Ok closed.last.devices.items
  serial_fits =
      behind_is w.runs (kinds_of script) n (ends_told window history) home closed.last.devices.items closed.order.items
      legal.agrees.applies legal.agrees.answers legal.agrees.home (told_from [] closed.order.items refl)

  -- .. in which each device has a value of its kind
  pub values_fit : IsSound (plain_script script) → IsSoundWindow (length (map plain_routine script.routines.items)) (plain_window window) → HaveValues (kinds_of script) closed.last.devices.items
  values_fit sound well =
      subst (HaveValues (kinds_of script)) legal.agrees.home
      (items-values (kinds_of script) (script-filled script sound) w.runs (record { home = home; answers = []; refused = false }) closed.order.items (window-suits script window sound well) before)

  cause_fits : (r : ℕ) (cause : Cause) → NamesWell w r cause → IsSmall cause → IsCauseFor (kinds_of script) w.runs r cause
  cause_fits r (MustDown c) names small = names
  cause_fits r (Refuted c x) names small = names
  cause_fits r (Lost d) names small = omega (arith, names, kind_count)
  cause_fits r (Revoked l d t m) names small = (names.0, names.1, omega (arith, names.2, kind_count), small.0, small.1)
  cause_fits r (DownAtEnd d) names small = omega (arith, names, kind_count)

  ended_at : (r : ℕ) → 1 ≤ r → r ≤ length window.runs.items → is_some (n.run r).ended ≡ true
  ended_at r from to =
      let count = length-map window.runs.items (run_of_text script) in
      at_range (λ q. is_some (n.run q).ended) 1 (length w.runs) r legal.ended from (omega (arith, to, count))

  -- each run has ended as its line tells
  pub run_fits : CausesAreSmall history → (r : ℕ) → 1 ≤ r → r ≤ length window.runs.items → RunFits (kinds_of script) w.runs r history
  run_fits small r from to = of_end (n.run r).ended refl (ended_at r from to)
    where
      of_end : (e : Option End) → (n.run r).ended ≡ e → is_some (n.run r).ended ≡ true → RunFits (kinds_of script) w.runs r history
      of_end None is some = absurd (cc)
      of_end (Some Committed) is some =
          (Committed, end_is w history r legal.well_formed ∙ is, (in_turn w history r legal.well_formed, committed_typed w history r legal.well_formed (ap (λ e. unwrap_or (option_map is_committing e) false) is)))
      of_end (Some (Aborted cause)) is some =
          let told : end_of history r ≡ Some (Aborted cause) = end_is w history r legal.well_formed ∙ is in
          let shown = along_weaker w (abort_is_justified w) found_shown (nothing_read w) (entries_of history) (shown_found w) legal.justified in
          (Aborted cause, told, cause_fits r cause ((all_name_well w (entries_of history) legal.well_formed shown r).end cause is) (small r cause told))
