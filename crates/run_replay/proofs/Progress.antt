-- Of the actors that have not ended one does not wait.
use Rattle.run_replay.proofs.Prelude.{Absent, Bool, Choice, Commands, Configuration, Course, Each, HandsOut, Home, IsTrue, List, Moves, None, Option, Out, Over, Pick, Place, Play, PlayerIsKept, PlayerState, Probes, Purpose, Some, Undoes, Waits, Why, [], actors, ap, arith, choice_of, common_steps, configuration_of, drop, false, filter, find, from_place, grip_in, gripped, has_grip, if◌then◌else◌, inl, inr, is_actor_done, is_live, is_run, is_some, is_waiting_pick, length, none_is, none_there, not, pick, picked_by, play_of, point_of, progress_at, range_with_len, read_of, refl, slice_get, slice_get_within, subst, suc, sym, take, take-append-drop, true, zero, ℕ, ◌&&◌, ◌++◌, ◌+◌, ◌<◌, ◌∙◌, ◌∷◌, ◌≡◌, ◌≢◌, ◌≤◌}
use Rattle.lock_leasing.specs.Places.{GripsFit}
use Rattle.run_replay.proofs.Gripping.{full_hand}
use Rattle.run_replay.proofs.Picking.{IsGoing, going_not_ended, take_pick}
use Rattle.run_replay.proofs.Waiting.{act_never_waits, detector_never_waits}
use Rattle.run_replay.proofs.Settings.{at_or_past, both_are, there, within}

-- what holds of each number of a range that passes a test holds of the one
pub each_at : (Q : ℕ → Type 0) (p : ℕ → Bool) (from n a : ℕ) → Each Q (filter p (range_with_len from n)) → from ≤ a → a < from + n → p a ≡ true → Q a
each_at Q p from zero a each low high is = absurd (omega (arith, low, high))
each_at Q p from (suc n) a each low high is = elim (at_or_past from a low) [
  | inl same ↦ subst Q (sym same) (head (p from) (ap p (sym same) ∙ is) each)
  | inr more ↦ each_at Q p (from + 1) n a (rest (p from) each) more (omega (arith, high)) is
]
  where
    head : (b : Bool) → b ≡ true → Each Q (if b then from ∷ filter p (range_with_len (from + 1) n) else filter p (range_with_len (from + 1) n)) → Q from
    head true e all = all.0
    head false e all = absurd (cc)

    rest : (b : Bool) → Each Q (if b then from ∷ filter p (range_with_len (from + 1) n) else filter p (range_with_len (from + 1) n)) → Each Q (filter p (range_with_len (from + 1) n))
    rest true all = all.1
    rest false all = all

each_join : {A : Type 0} (P : A → Type 0) (xs ys : List A) → Each P xs → Each P ys → Each P (xs ++ ys)
each_join P [] ys a b = b
each_join P (x ∷ xs) ys a b = (a.0, each_join P xs ys a.1 b)

each_front : {A : Type 0} (P : A → Type 0) (xs ys : List A) → Each P (xs ++ ys) → Each P xs
each_front P [] ys a = tt
each_front P (x ∷ xs) ys a = (a.0, each_front P xs ys a.1)

each_back : {A : Type 0} (P : A → Type 0) (xs ys : List A) → Each P (xs ++ ys) → Each P ys
each_back P [] ys a = a
each_back P (x ∷ xs) ys a = each_back P xs ys a.1

-- what holds of each of a list from a place on holds of each of the list
pub each_from_place : (P : ℕ → Type 0) (k : ℕ) (xs : List ℕ) → Each P (from_place k xs) → Each P xs
each_from_place P k xs each = subst (Each P) (take-append-drop k xs) (each_join P (take k xs) (drop k xs) (each_back P (drop k xs) (take k xs) each) (each_front P (drop k xs) (take k xs) each))

-- The actors

-- where no device is out and some run has not ended, some run that has not ended does not wait, at any moment
abbrev pub SomeMoves : Configuration → Type 0
SomeMoves s = (r : ℕ) → IsGoing s r → ((d : ℕ) → s.grips d ≡ None) → (q : ℕ) × IsGoing s q × ((m : ℕ) (why : Why) → choice_of s q m ≢ Waits why)

-- each actor that has not ended waits
abbrev pub AllWait : Course → Play → Type 0
AllWait course p = Each (λ a. is_waiting_pick (pick course p a).picked ≡ true) (actors course p)

wait_of : (course : Course) (p : Play) (a : ℕ) → AllWait course p → a < length p.configuration.setting.runs + 1 → is_actor_done course p a ≡ false → is_waiting_pick (pick course p a).picked ≡ true
wait_of course p a all low going = each_at (λ b. is_waiting_pick (pick course p b).picked ≡ true) (λ b. not (is_actor_done course p b)) 0 (length p.configuration.setting.runs + 1) a all (omega arith) (omega (arith, low)) (ap not going)

-- a run that goes on is one of the window
run_within : (s : Configuration) (r : ℕ) → IsGoing s r → r < length s.setting.runs + 1
run_within s zero going = absurd (let no : false ≡ true = going.0 in cc)
run_within s (suc r) going = let low = within s.setting.runs r going.0 in omega (arith, low)

-- a run that has not ended goes on
pub is_going : (course : Course) (p : Play) (r : ℕ) → is_actor_done course p r ≡ false → 0 < r → IsGoing p.configuration r
is_going course p zero on some = absurd (omega (arith, some))
is_going course p (suc r) on some = let two = both_are (is_run p.configuration.setting.runs (suc r)) (is_some ((read_of p.configuration).run (suc r)).ended) on in (two.0, none_there ((read_of p.configuration).run (suc r)).ended two.1)

-- an actor with a grip acts
acts_on : (course : Course) (p : Play) (a d : ℕ) → is_actor_done course p a ≡ false → gripped p a ≡ Some d → is_waiting_pick (pick course p a).picked ≡ false
acts_on course p a d going holds = rw going (rw holds (act_never_waits course p d (p.configuration.grips d)))

-- with a device out its maker acts
none_out : {D : Type 0} (course : Course) (s : PlayerState D) (acts d : ℕ) → PlayerIsKept s → length s.hub.places ≡ length s.hub.setting.first → GripsFit (point_of (configuration_of s.hub))
    → AllWait course (play_of s acts) → (o : Option (Place D)) → slice_get s.hub.places d ≡ o → grip_in o (progress_at s.hub.devices d).purpose ≡ None
none_out course s acts d kept size fit all None at = refl
none_out course s acts d kept size fit all (Some (Home device)) at = refl
none_out {D = D} course s acts d kept size fit all (Some (Out slip task)) at = absurd (
    let hand = kept.out d slip task at in
    let holds : gripped (play_of s acts) slip.maker ≡ Some hand.grip.slip.device.0 = full_hand s slip.maker acts hand.grip kept size hand.there in
    let low : slip.maker < length s.hub.setting.runs + 1 = (let within = slice_get_within s.grips slip.maker (Some hand.grip) hand.there in omega (arith, within, kept.actors)) in
    let out : (configuration_of s.hub).grips d ≡ Some (record { maker = slip.maker; purpose = (progress_at s.hub.devices d).purpose }) = ap (λ o. grip_in o (progress_at s.hub.devices d).purpose) at in
    let going : is_actor_done course (play_of s acts) slip.maker ≡ false = by_purpose slip.maker (progress_at s.hub.devices d).purpose low out hand.grip.slip.device.0 holds in
    let waited = wait_of course (play_of s acts) slip.maker all low going in
    let moved = acts_on course (play_of s acts) slip.maker hand.grip.slip.device.0 going holds in
    let both : true ≡ false = sym waited ∙ moved in cc)
  where
    live_going : (r : ℕ) → is_live (read_of (configuration_of s.hub)) r ≡ true → ((read_of (configuration_of s.hub)).run r).ended ≡ None
    live_going r live = none_is ((read_of (configuration_of s.hub)).run r).ended (grind (arith, common_steps))

    live_of : (r : ℕ) (b c : Bool) → IsTrue (is_live (read_of (configuration_of s.hub)) r && b && c) → is_live (read_of (configuration_of s.hub)) r ≡ true
    live_of r b c e = grind (arith, common_steps)

    going_on : (r : ℕ) → suc r < length s.hub.setting.runs + 1 → is_live (read_of (configuration_of s.hub)) (suc r) ≡ true → is_actor_done course (play_of s acts) (suc r) ≡ false
    going_on r low live = going_not_ended course (play_of s acts) (suc r) (there s.hub.setting.runs r (omega (arith, low)), live_going (suc r) live)

    by_purpose : (a : ℕ) (purpose : Purpose) → a < length s.hub.setting.runs + 1 → (configuration_of s.hub).grips d ≡ Some (record { maker = a; purpose = purpose }) → (e : ℕ) → gripped (play_of s acts) a ≡ Some e → is_actor_done course (play_of s acts) a ≡ false
    by_purpose zero purpose low out e holds = rw holds refl
    by_purpose (suc r) (Commands k) low out e holds = going_on r low (live_of (suc r) _ _ (fit.runs.commands d (suc r) k out))
    by_purpose (suc r) (Undoes v) low out e holds = going_on r low (let undo = fit.runs.undos d (suc r) v out in grind (arith, common_steps))
    by_purpose (suc r) (Probes v) low out e holds = absurd (let no = fit.probes d (suc r) v out in omega (arith, no))

waits_by : (c : Choice) → ((why : Why) → c ≢ Waits why) → is_waiting_pick (picked_by c) ≡ false
waits_by Absent none = refl
waits_by (Over e entries) none = refl
waits_by (Moves entries) none = refl
waits_by (Waits why) none = absurd (none why refl)
waits_by (HandsOut d purpose) none = refl

-- not all of the actors that have not ended wait, where there is one
pub not_all_wait : {D : Type 0} (course : Course) (s : PlayerState D) (acts : ℕ) → PlayerIsKept s → length s.hub.places ≡ length s.hub.setting.first → GripsFit (point_of (configuration_of s.hub))
    → SomeMoves (configuration_of s.hub) → AllWait course (play_of s acts) → (a : ℕ) → a < length s.hub.setting.runs + 1 → is_actor_done course (play_of s acts) a ≡ false → ⊥
not_all_wait {D = D} course s acts kept size fit moves all a low going = by_actor a low going
  where
    home : (d : ℕ) → (configuration_of s.hub).grips d ≡ None
    home d = none_out course s acts d kept size fit all (slice_get s.hub.places d) refl

    free : (b : ℕ) → gripped (play_of s acts) b ≡ None
    free b = no_grip (range_with_len 0 (length s.hub.setting.first))
      where
        no_grip : (ds : List ℕ) → find (has_grip (configuration_of s.hub).grips b) ds ≡ None
        no_grip [] = refl
        no_grip (d ∷ ds) = rw (home d) (no_grip ds)

    run_moves : (r : ℕ) → IsGoing (configuration_of s.hub) r → ⊥
    run_moves r run =
        let q = moves r run home in
        let waited = wait_of course (play_of s acts) q.0 all (run_within (configuration_of s.hub) q.0 q.1) (going_not_ended course (play_of s acts) q.0 q.1) in
        let picked = ap (λ (x : Pick). is_waiting_pick x.picked) (take_pick course (play_of s acts) q.0 q.1 (free q.0)) in
        let moved : is_waiting_pick (picked_by (choice_of (configuration_of s.hub) q.0 s.hub.moment)) ≡ false = waits_by (choice_of (configuration_of s.hub) q.0 s.hub.moment) (q.2 s.hub.moment) in
        absurd (let both : true ≡ false = sym waited ∙ picked ∙ moved in cc)

    by_actor : (b : ℕ) → b < length s.hub.setting.runs + 1 → is_actor_done course (play_of s acts) b ≡ false → ⊥
    by_actor zero within on = absurd (
        let waited = wait_of course (play_of s acts) zero all within on in
        let picked : is_waiting_pick (pick course (play_of s acts) zero).picked ≡ false = rw on (rw (free zero) (detector_never_waits (play_of s acts))) in
        let both : true ≡ false = sym waited ∙ picked in cc)
    by_actor (suc r) within on = run_moves (suc r) (is_going course (play_of s acts) (suc r) on (omega arith))
