-- A window in which no device fails: no device is down, no run sees one down, no answer is Down, and a run is doomed by a must `check` alone.
use Rattle.hub_core.proofs.Prelude.{Aborted, Answer, Arrived, Bool, Cause, Command, Committed, Configuration, ConfigurationIsKept, Did, Doomed, Down, DownAtEnd, Ended, Entry, Event, Fcfs, Fell, Fine, First, Found, IsJustified, IsTrue, IsWellFormed, Kind, Last, List, LogMark, Lost, MayOpen, MustDown, None, OfRun, OnDevice, Option, Placed, Reading, Refuted, Revoked, Rose, Setting, Skipped, Some, Undid, [], abort_is_justified, along, and_parts, answered, ap, append-nil, arith, both_ways, command_at, commands_of, common_steps, cond, count_by, count_cons, devices_of, down_at_end, each_entry, each_found, entries_of, entry, eq-eqb, equals_some, events_of, fails, false, find, fold, has_answer, has_touched, if◌then◌else◌, is_access, is_device, is_fall, is_fall_of, is_last_mark, is_none, is_some, is_strict, keeps_leases, kind_at, length, list_all, list_any, ltb-true, may_follow, more_if, names_values_of, next_command, no_command, no_grips, not, nothing_read, option_map, option_or, own_devices, point, put, put_all, put_keeps, reading, refl, run_no, same_answer, sees_down, sees_up, slice_get, slice_get-get_or, span_of, stand_at, suc, sym, take_while, take_while-cons, told_falls, touches, touches_from, true, unwrap_or, view_by, zero, ℕ, ◌&&◌, ◌++◌, ◌+◌, ◌<◌, ◌==◌, ◌||◌, ◌∙◌, ◌∷◌, ◌≡◌}
use Rattle.legal_days.specs.CleanReads.{entry_is_clean}
use Rattle.std.proofs.lemmas.List.Elements.{filter_map-append}
use Rattle.std.proofs.lemmas.List.Folds.{list_all-append}

-- an entry of such a window: no event, no answer Down, and no doom but for a value that a must `check` found
abbrev pub calm_entry : Entry → Bool
calm_entry (Arrived r m) = true
calm_entry (Placed r at m) = true
calm_entry (Did r c Fine) = true
calm_entry (Did r c (Found x)) = true
calm_entry (Did r c Skipped) = true
calm_entry (Did r c Down) = false
calm_entry (Undid r d drove) = true
calm_entry (Fell d) = false
calm_entry (Rose d) = false
calm_entry (Doomed r (MustDown c)) = false
calm_entry (Doomed r (Refuted c x)) = true
calm_entry (Doomed r (Lost d)) = false
calm_entry (Doomed r (Revoked lender d deadline m)) = false
calm_entry (Doomed r (DownAtEnd d)) = false
calm_entry (Ended r e) = true

-- the run sees no device down
abbrev SeesNoneDown : OfRun → Type 0
SeesNoneDown o = (d : ℕ) → unwrap_or (o.on d).view true ≡ true

-- none of its answers is Down
abbrev NoneDown : OfRun → Type 0
NoneDown o = list_all (λ a. not (same_answer Down a)) o.answers ≡ true

-- each device is counted up as at the start, no event stands in a log, no run sees a device down, and none was told Down
pub record CalmReads (w : Setting) (n : Reading) : Type 0 where
  pub up : (d : ℕ) → n.up d ≡ (stand_at w.first d).up
  pub log : (d : ℕ) → events_of (n.log d) ≡ []
  pub views : (r : ℕ) → SeesNoneDown (n.run r)
  pub told : (r : ℕ) → NoneDown (n.run r)

calm_unread : (w : Setting) → CalmReads w (nothing_read w)
calm_unread w = record { up = λ d. refl; log = λ d. refl; views = λ r d. refl; told = λ r. refl }

-- something more of one run
calm_put : (w : Setting) (n m : Reading) (r : ℕ) (o : OfRun) → m.up ≡ n.up → ((d : ℕ) → events_of (m.log d) ≡ events_of (n.log d)) → m.run ≡ put n.run r o → SeesNoneDown o → NoneDown o → CalmReads w n → CalmReads w m
calm_put w n m r o up log run new told p =
    record {
      up = λ d. ap (λ f. f d) up ∙ p.up d;
      log = λ d. log d ∙ p.log d;
      views = λ q. rw run (put_all (λ k x. SeesNoneDown x) n.run r o p.views new q);
      told = λ q. rw run (put_all (λ k x. NoneDown x) n.run r o p.told told q);
    }

-- a command that worked, or was skipped
view_up : (kind : Kind) (c : Command) (doomed : Bool) (register : ℕ) (a : Answer) (o : OnDevice) → unwrap_or (view_by a) true ≡ true → unwrap_or o.view true ≡ true → unwrap_or (answered kind c doomed register a o).view true ≡ true
view_up kind c doomed register a o up = viewed o.view
  where
    viewed : (v : Option Bool) → unwrap_or v true ≡ true → unwrap_or (option_or v (view_by a)) true ≡ true
    viewed None e = up
    viewed (Some b) e = e

events_append : (xs ys : List LogMark) → events_of (xs ++ ys) ≡ events_of xs ++ events_of ys
events_append xs ys = filter_map-append _ xs ys

-- an answer adds no event to a log
no_event : (b : Bool) (m : LogMark) (ms : List LogMark) → events_of (m ∷ []) ≡ [] → events_of (more_if b m ms) ≡ events_of ms
no_event true m ms none = events_append ms (m ∷ []) ∙ ap (λ x. events_of ms ++ x) none ∙ append-nil (events_of ms)
no_event false m ms none = refl

calm_did : (w : Setting) (n : Reading) (r k : ℕ) (a : Answer) → unwrap_or (view_by a) true ≡ true → not (same_answer Down a) ≡ true → CalmReads w n → CalmReads w (entry w n (Did (run_no r) k a))
calm_did w n r k a up told p =
    calm_put w n (entry w n (Did (run_no r) k a)) r _ refl log refl (λ d. put_all (λ e x. unwrap_or x.view true ≡ true) (n.run r).on c.device.0 _ (p.views r)
    (view_up (kind_at w.kinds c.device.0) c (is_some (n.run r).doomed) (n.run r).register a ((n.run r).on c.device.0) up (p.views r c.device.0)) d)
    (list_all-append (λ b. not (same_answer Down b)) (n.run r).answers (a ∷ []) ∙ both (p.told r)) p
  where
    c : Command
    c = command_at w.runs r k

    both : list_all (λ b. not (same_answer Down b)) (n.run r).answers ≡ true → (list_all (λ b. not (same_answer Down b)) (n.run r).answers && (not (same_answer Down a) && true)) ≡ true
    both all = grind (arith, common_steps, told)

    log : (d : ℕ) → events_of ((entry w n (Did (run_no r) k a)).log d) ≡ events_of (n.log d)
    log d = put_keeps events_of n.log c.device.0 (more_if ended (Last r) (more_if begun (First r) (n.log c.device.0))) (no_event ended (Last r) (more_if begun (First r) (n.log c.device.0)) refl ∙ no_event begun (First r) (n.log c.device.0) refl) d
      where
        begun : Bool
        begun = is_access a && is_none ((n.run r).on c.device.0).view

        ended : Bool
        ended = not (touches_from w.runs r c.device.0 (k + 1))

calm_step : (w : Setting) (n : Reading) (e : Entry) → calm_entry e ≡ true → CalmReads w n → CalmReads w (entry w n e)
calm_step w n (Arrived r m) ok p = calm_put w n (entry w n (Arrived r m)) r.0 _ refl (λ d. refl) refl (p.views r.0) (p.told r.0) p
calm_step w n (Placed r at m) ok p = calm_put w n (entry w n (Placed r at m)) r.0 _ refl (λ d. refl) refl (p.views r.0) (p.told r.0) p
calm_step w n (Did r c Fine) ok p = calm_did w n r.0 c Fine refl refl p
calm_step w n (Did r c (Found x)) ok p = calm_did w n r.0 c (Found x) refl refl p
calm_step w n (Did r c Skipped) ok p = calm_did w n r.0 c Skipped refl refl p
calm_step w n (Did r c Down) ok p = absurd (cc)
calm_step w n (Undid r d drove) ok p = calm_put w n (entry w n (Undid r d drove)) r.0 _ refl (λ e. refl) refl (λ e. put_all (λ k x. unwrap_or x.view true ≡ true) (n.run r.0).on d.0 _ (p.views r.0) (p.views r.0 d.0) e) (p.told r.0) p
calm_step w n (Fell d) ok p = absurd (cc)
calm_step w n (Rose d) ok p = absurd (cc)
calm_step w n (Doomed r cause) ok p = calm_put w n (entry w n (Doomed r cause)) r.0 _ refl (λ d. refl) refl (p.views r.0) (p.told r.0) p
calm_step w n (Ended r Committed) ok p = calm_put w n (entry w n (Ended r Committed)) r.0 _ refl (λ d. refl) refl (p.views r.0) (p.told r.0) p
calm_step w n (Ended r (Aborted cause)) ok p = calm_put w n (entry w n (Ended r (Aborted cause))) r.0 _ refl (λ d. refl) refl (p.views r.0) (p.told r.0) p

-- Each entry is calm

-- each device is up as the window opens
abbrev pub AllUp : Setting → Type 0
AllUp w = (d : ℕ) → d < length w.first → (stand_at w.first d).up ≡ true

-- each command is on a device of the home
abbrev pub AllHomed : Setting → Type 0
AllHomed w = (r k : ℕ) (c : Command) → slice_get (commands_of w.runs r) k ≡ Some c → is_device w c.device.0 ≡ true

counted_up : (w : Setting) (n : Reading) (d : ℕ) → AllUp w → CalmReads w n → is_device w d ≡ true → n.up d ≡ true
counted_up w n d up p device = p.up d ∙ up d (ltb-true d (length w.first) device)

no_sight : (v : Option Bool) → unwrap_or v true ≡ true → unwrap_or (option_map not v) false ≡ false
no_sight None e = refl
no_sight (Some true) e = refl
no_sight (Some false) e = absurd (cc)

-- no answer is Down
answers_calm : (w : Setting) (n : Reading) (r : ℕ) (k : ℕ) → AllUp w → AllHomed w → CalmReads w n → k < length (commands_of w.runs r) → (not (n.up (command_at w.runs r k).device.0) || sees_down n r (command_at w.runs r k).device.0) ≡ false
answers_calm w n r k up homed p within = λ i. not (here i) || no_sight ((n.run r).on d).view (p.views r d) i
  where
    d : ℕ
    d = (command_at w.runs r k).device.0

    here : n.up d ≡ true
    here = counted_up w n d up p (homed r k (command_at w.runs r k) (slice_get-get_or (commands_of w.runs r) k no_command within))

-- .. and none was
not_down : (xs : List Answer) (k : ℕ) → list_all (λ a. not (same_answer Down a)) xs ≡ true → unwrap_or (option_map (same_answer Down) (slice_get xs k)) false ≡ false
not_down [] k all = refl
not_down (Fine ∷ xs) zero all = refl
not_down (Found x ∷ xs) zero all = refl
not_down (Skipped ∷ xs) zero all = refl
not_down (Down ∷ xs) zero all = absurd (cc)
not_down (Fine ∷ xs) (suc k) all = not_down xs k all
not_down (Found x ∷ xs) (suc k) all = not_down xs k all
not_down (Skipped ∷ xs) (suc k) all = not_down xs k all
not_down (Down ∷ xs) (suc k) all = absurd (cc)

-- no failure stands in a run's span
none_within : (r : ℕ) (marks : List LogMark) → events_of marks ≡ [] → list_any is_fall (take_while (λ x. not (is_last_mark r x)) marks) ≡ false
none_within r [] none = refl
none_within r (First q ∷ ms) none = ap (list_any is_fall) (take_while-cons (λ x. not (is_last_mark r x)) (First q) ms) ∙ none_within r ms none
none_within r (Event i ∷ ms) none = absurd (cc)
none_within r (Last q ∷ ms) none = ap (list_any is_fall) (take_while-cons (λ x. not (is_last_mark r x)) (Last q) ms) ∙ at_ (none_within r ms none) (q == r)
  where
    at_ : list_any is_fall (take_while (λ x. not (is_last_mark r x)) ms) ≡ false → (b : Bool) → list_any is_fall (cond (not b) (Last q ∷ take_while (λ x. not (is_last_mark r x)) ms) []) ≡ false
    at_ rest true = refl
    at_ rest false = rest

none_in_span : (r : ℕ) (marks : List LogMark) → events_of marks ≡ [] → list_any is_fall (span_of r marks) ≡ false
none_in_span r [] none = refl
none_in_span r (First q ∷ ms) none = at_ (none_within r ms none) (none_in_span r ms none) (q == r)
  where
    at_ : list_any is_fall (take_while (λ x. not (is_last_mark r x)) ms) ≡ false → list_any is_fall (span_of r ms) ≡ false → (b : Bool) → list_any is_fall (if b then take_while (λ x. not (is_last_mark r x)) ms else span_of r ms) ≡ false
    at_ within rest true = within
    at_ within rest false = rest
none_in_span r (Event i ∷ ms) none = absurd (cc)
none_in_span r (Last q ∷ ms) none = none_in_span r ms none

-- no device is down at a run's end
none_at_end : (w : Setting) (n : Reading) (r : ℕ) → AllUp w → CalmReads w n → down_at_end (point w n no_grips) r ≡ None
none_at_end w n r up p = by_model (is_strict w.mode) (find (λ d. has_touched n no_grips r d && not (n.up d)) (devices_of w r)) refl
  where
    found : (d : ℕ) → find (λ d. has_touched n no_grips r d && not (n.up d)) (devices_of w r) ≡ Some d → ⊥
    found d at =
        let which = each_found (λ d. (is_device w d ≡ true) × (touches w.runs r d ≡ true)) (λ d. has_touched n no_grips r d && not (n.up d)) (devices_of w r) d (own_devices w r) at in
        let here : n.up d ≡ true = counted_up w n d up p which.0.0 in
        let down : not (n.up d) ≡ true = (and_parts (has_touched n no_grips r d) (not (n.up d)) which.1).1 in
        both_ways (not (n.up d)) (ap not here) down

    by_model : (b : Bool) (o : Option ℕ) → find (λ d. has_touched n no_grips r d && not (n.up d)) (devices_of w r) ≡ o → (if b then o else None) ≡ None
    by_model true None e = refl
    by_model true (Some d) e = absurd (found d e)
    by_model false o e = refl

-- the answer Down is told where the device is counted down, or where the run saw it down before
abbrev pub downs_told : Setting → Reading → Entry → Bool
downs_told w n (Did r c Down) = not (n.up (command_at w.runs r.0 c).device.0) || sees_down n r.0 (command_at w.runs r.0 c).device.0
downs_told w n e = true

-- what follows is calm, where no device fails
entry_calm : (w : Setting) (n : Reading) (e : Entry) → AllUp w → AllHomed w → CalmReads w n → may_follow w n e ≡ true → downs_told w n e ≡ true → abort_is_justified w n e ≡ true → keeps_leases e ≡ true → ((d : ℕ) → d < length w.first → is_fall_of d e ≡ false) → calm_entry e ≡ true
entry_calm w n (Arrived r m) up homed p ok clean shown kept none = refl
entry_calm w n (Placed r at m) up homed p ok clean shown kept none = refl
entry_calm w n (Did r c Fine) up homed p ok clean shown kept none = refl
entry_calm w n (Did r c (Found x)) up homed p ok clean shown kept none = refl
entry_calm w n (Did r c Skipped) up homed p ok clean shown kept none = refl
entry_calm w n (Did r c Down) up homed p ok clean shown kept none = absurd (both_ways _ (answers_calm w n r.0 c up homed p (grind (arith, common_steps))) clean)
entry_calm w n (Undid r d drove) up homed p ok clean shown kept none = refl
entry_calm w n (Fell d) up homed p ok clean shown kept none = absurd (both_ways (d.0 == d.0) (none d.0 (grind (arith, common_steps))) (eq-eqb d.0 _ refl))
entry_calm w n (Rose d) up homed p ok clean shown kept none = absurd (both_ways (not (n.up d.0)) (ap not (counted_up w n d.0 up p (grind (arith, common_steps)))) (grind (arith, common_steps)))
entry_calm w n (Doomed r (MustDown c)) up homed p ok clean shown kept none = absurd (both_ways (has_answer n r.0 c Down) (not_down (n.run r.0).answers c (p.told r.0)) (and_parts (command_at w.runs r.0 c).must (has_answer n r.0 c Down) shown).1)
entry_calm w n (Doomed r (Refuted c x)) up homed p ok clean shown kept none = refl
entry_calm w n (Doomed r (Lost d)) up homed p ok clean shown kept none = absurd (both_ways (list_any is_fall (span_of r.0 (n.log d.0))) (none_in_span r.0 (n.log d.0) (p.log d.0)) (and_parts (sees_up n r.0 d.0) (list_any is_fall (span_of r.0 (n.log d.0))) shown).1)
entry_calm w n (Doomed r (Revoked lender d deadline m)) up homed p ok clean shown kept none = absurd (cc)
entry_calm w n (Doomed r (DownAtEnd d)) up homed p ok clean shown kept none =
    absurd (both_ways (equals_some (down_at_end (point w n no_grips) r.0) d.0) (ap (λ o. equals_some o d.0) (none_at_end w n r.0 up p))
    (and_parts (is_none (next_command w n r.0)) (equals_some (down_at_end (point w n no_grips) r.0) d.0) shown).1)
entry_calm w n (Ended r e) up homed p ok clean shown kept none = refl

-- no failure of these devices is told
abbrev pub NoneFalls : Setting → List Entry → Type 0
NoneFalls w h = (d : ℕ) → d < length w.first → told_falls h d ≡ 0

first_falls : (w : Setting) (e : Entry) (h : List Entry) → NoneFalls w (e ∷ h) → ((d : ℕ) → d < length w.first → is_fall_of d e ≡ false) × NoneFalls w h
first_falls w e h none = (λ d within. not_one (is_fall_of d e) (count_by (is_fall_of d) h) (sym (count_cons (is_fall_of d) e h) ∙ none d within), λ d within. no_more (is_fall_of d e) (count_by (is_fall_of d) h) (sym (count_cons (is_fall_of d) e h) ∙ none d within))
  where
    not_one : (b : Bool) (k : ℕ) → cond b 1 0 + k ≡ 0 → b ≡ false
    not_one true k e = absurd (omega (arith, e))
    not_one false k e = refl

    no_more : (b : Bool) (k : ℕ) → cond b 1 0 + k ≡ 0 → k ≡ 0
    no_more true k e = absurd (omega (arith, e))
    no_more false k e = omega (arith, e)

all_calm : (w : Setting) (n : Reading) (h : List Entry) → AllUp w → AllHomed w → CalmReads w n → IsTrue (along w (may_follow w) n h) → IsTrue (along w (downs_told w) n h) → IsTrue (along w (abort_is_justified w) n h) → IsTrue (list_all keeps_leases h) → NoneFalls w h → IsTrue (list_all calm_entry h)
all_calm w n [] up homed p ok clean shown kept none = refl
all_calm w n (e ∷ h) up homed p ok clean shown kept none =
    let split = first_falls w e h none in
    let here : calm_entry e ≡ true = entry_calm w n e up homed p (grind (arith, common_steps)) (grind (arith, common_steps)) (grind (arith, common_steps)) (grind (arith, common_steps)) split.0 in
    let rest : IsTrue (list_all calm_entry h) = all_calm w (entry w n e) h up homed (calm_step w n e here p) (grind (arith, common_steps)) (grind (arith, common_steps)) (grind (arith, common_steps)) (grind (arith, common_steps)) split.1 in
    rw (here, rest) refl

-- no device fails in the window
pub record NoneFailed (s : Configuration) : Type 0 where
  pub up : AllUp s.setting
  pub steady : (d : ℕ) → d < length s.setting.first → told_falls (entries_of s.history) d ≡ 0

-- what is known of the history of a window, under each model: each command is on a device of the home, where Down is told its device is down, dooms show their causes, and none is for a lease
pub record IsPlain (w : Setting) (h : List Entry) : Type 0 where
  pub homed : AllHomed w
  pub well_formed : IsWellFormed w h
  pub downs : IsTrue (each_entry w (downs_told w) h)
  pub justified : IsJustified w h
  pub unrevoked : IsTrue (list_all keeps_leases h)

-- a test that says less
pub along_less : (w : Setting) (test less : Reading → Entry → Bool) (n : Reading) (h : List Entry) → ((m : Reading) (e : Entry) → test m e ≡ true → less m e ≡ true) → IsTrue (along w test n h) → IsTrue (along w less n h)
along_less w test less n [] step all = refl
along_less w test less n (e ∷ h) step all =
    let parts = and_parts (test n e) (along w test (entry w n e) h) all in
    let here = step n e parts.0 in
    let rest : IsTrue (along w less (entry w n e) h) = along_less w test less (entry w n e) h step parts.1 in
    rw (here, rest) refl

-- each command of a window that may be opened is on a device of the home
pub all_homed : (w : Setting) (rounds opened : ℕ) → MayOpen w rounds opened → AllHomed w
all_homed w rounds opened opens r k c at = let home : IsTrue (is_device w c.device.0 && names_values_of (kind_at w.kinds c.device.0) c.job) = opens.homed r k c at in grind (arith, common_steps)

pub is_plain : (s : Configuration) (rounds opened : ℕ) (held : ℕ → ℕ) → ConfigurationIsKept s rounds opened held → s.setting.mode.scheduler ≡ Fcfs → IsPlain s.setting (entries_of s.history)
is_plain s rounds opened held kept first =
    record {
      homed = all_homed s.setting rounds opened kept.opens;
      well_formed = kept.history.well_formed;
      downs = along_less s.setting (entry_is_clean s.setting) (downs_told s.setting) (nothing_read s.setting) (entries_of s.history) told kept.history.clean;
      justified = kept.history.justified;
      unrevoked = kept.history.unrevoked first;
    }
  where
    told : (n : Reading) (e : Entry) → entry_is_clean s.setting n e ≡ true → downs_told s.setting n e ≡ true
    told n (Arrived r m) clean = refl
    told n (Placed r at m) clean = refl
    told n (Did r c Fine) clean = refl
    told n (Did r c (Found x)) clean = refl
    told n (Did r c Skipped) clean = refl
    told n (Did r c Down) clean = clean
    told n (Undid r d drove) clean = refl
    told n (Fell d) clean = refl
    told n (Rose d) clean = refl
    told n (Doomed r cause) clean = refl
    told n (Ended r e) clean = refl

pub calm_entries : (w : Setting) (h : List Entry) → IsPlain w h → AllUp w → NoneFalls w h → IsTrue (list_all calm_entry h)
calm_entries w h plain up steady = all_calm w (nothing_read w) h up plain.homed (calm_unread w) plain.well_formed plain.downs plain.justified plain.unrevoked steady

-- Dooms

-- a must command of the run failed by what it found
abbrev pub is_refuted : Setting → ℕ → Option Cause → Bool
is_refuted w r None = true
is_refuted w r (Some (MustDown c)) = false
is_refuted w r (Some (Refuted c x)) = fails (command_at w.runs r c) (Found x)
is_refuted w r (Some (Lost d)) = false
is_refuted w r (Some (Revoked lender d deadline m)) = false
is_refuted w r (Some (DownAtEnd d)) = false

-- each run that is doomed is so by a value that it found
abbrev pub DoomsAreRefuted : Setting → Reading → Type 0
DoomsAreRefuted w n = (r : ℕ) → is_refuted w r (n.run r).doomed ≡ true

refuted_put : (w : Setting) (n m : Reading) (r : ℕ) (o : OfRun) → m.run ≡ put n.run r o → is_refuted w r o.doomed ≡ true → DoomsAreRefuted w n → DoomsAreRefuted w m
refuted_put w n m r o run new all q = rw run (put_all (λ k x. is_refuted w k x.doomed ≡ true) n.run r o all new q)

refuted_step : (w : Setting) (n : Reading) (e : Entry) → calm_entry e ≡ true → abort_is_justified w n e ≡ true → DoomsAreRefuted w n → DoomsAreRefuted w (entry w n e)
refuted_step w n (Arrived r m) calm shown all = refuted_put w n (entry w n (Arrived r m)) r.0 _ refl (all r.0) all
refuted_step w n (Placed r at m) calm shown all = refuted_put w n (entry w n (Placed r at m)) r.0 _ refl (all r.0) all
refuted_step w n (Did r c a) calm shown all = refuted_put w n (entry w n (Did r c a)) r.0 _ refl (all r.0) all
refuted_step w n (Undid r d drove) calm shown all = refuted_put w n (entry w n (Undid r d drove)) r.0 _ refl (all r.0) all
refuted_step w n (Fell d) calm shown all = all
refuted_step w n (Rose d) calm shown all = all
refuted_step w n (Doomed r (MustDown c)) calm shown all = absurd (cc)
refuted_step w n (Doomed r (Refuted c x)) calm shown all = refuted_put w n (entry w n (Doomed r (Refuted c x))) r.0 _ refl (and_parts (fails (command_at w.runs r.0 c) (Found x)) (has_answer n r.0 c (Found x)) shown).0 all
refuted_step w n (Doomed r (Lost d)) calm shown all = absurd (cc)
refuted_step w n (Doomed r (Revoked lender d deadline m)) calm shown all = absurd (cc)
refuted_step w n (Doomed r (DownAtEnd d)) calm shown all = absurd (cc)
refuted_step w n (Ended r e) calm shown all = refuted_put w n (entry w n (Ended r e)) r.0 _ refl (all r.0) all

refuted_from : (w : Setting) (n : Reading) (h : List Entry) → DoomsAreRefuted w n → IsTrue (list_all calm_entry h) → IsTrue (along w (abort_is_justified w) n h) → DoomsAreRefuted w (fold (entry w) n h)
refuted_from w n [] all calm shown = all
refuted_from w n (e ∷ h) all calm shown = refuted_from w (entry w n e) h (refuted_step w n e (grind (arith, common_steps)) (grind (arith, common_steps)) all) (grind (arith, common_steps)) (grind (arith, common_steps))

-- in such a window
pub dooms_are_refuted : (w : Setting) (h : List Entry) → IsPlain w h → AllUp w → NoneFalls w h → DoomsAreRefuted w (reading w h)
dooms_are_refuted w h plain up steady = refuted_from w (nothing_read w) h (λ r. refl) (calm_entries w h plain up steady) plain.justified
