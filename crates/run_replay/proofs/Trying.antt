-- The actors that have not ended, picked one after another while they wait.
use Rattle.run_replay.proofs.Prelude.{Bool, Course, Each, GoesOn, IsPicked, IsTried, List, None, OpenHub, Option, Pick, Picked, Play, PlayerIsKept, PlayerStands, PlayerState, SameWindow, Some, Tells, Told, Worked, [], actors, ap, are_live, arith, configuration_of, drop, empty_places, false, first_is_full, from_place, gripped, inl, inr, is_actor_done, is_ended, is_full, is_some, is_waiting_pick, length, length-append, most_made, not, option_map, pick, pick_first, play_of, refl, slice_get, slice_get_within, slice_index_or, steps_left, subst, suc, sym, take, take-append-drop, true, unwrap_or, zero, ℕ, ◌*◌, ◌++◌, ◌+◌, ◌-◌, ◌<◌, ◌∙◌, ◌∷◌, ◌≡◌, ◌≤◌}
use Rattle.run_replay.proofs.Counting.{of_filter}
use Rattle.run_replay.proofs.Drawn.{none_tried, tried_more, tried_moves}
use Rattle.run_replay.proofs.Gripping.{empty_hand, full_hand}
use Rattle.run_replay.proofs.Living.{actors_are}
use Rattle.run_replay.proofs.Picking.{at_own_moment, empty_is, ended_is, full_is}
use Rattle.run_replay.proofs.Progress.{each_from_place, not_all_wait}
use Rattle.run_replay.proofs.Settings.{at_or_past}
use Rattle.run_replay.proofs.Waiting.{wait_keeps, waited}
use Rattle.run_replay.proofs.Stepping.{same_most}
use Rattle.run_replay.proofs.Tellings.{index_or_get}
use Rattle.std.proofs.lemmas.Bool.{not-true}

-- A pick that waits

abbrev teller : ℕ → ℕ → List Told → Course
teller rounds from told = record { rounds = rounds; told = λ k. slice_index_or told (k - from) Worked }

teller_tells : (rounds from : ℕ) (told : List Told) → Tells (teller rounds from told) from told
teller_tells rounds from told k t e = let same : from + k - from ≡ k = omega arith in ap (λ n. slice_index_or told n Worked) same ∙ index_or_get told k t Worked e

tells_none : (course : Course) (from : ℕ) (told : List Told) → length told ≡ 0 → Tells course from told
tells_none course from [] none k t at = absurd (cc)
tells_none course from (x ∷ xs) none k t at = absurd (omega (arith, none))

-- what waits in the telling of some devices waits in every one
pub waits_ever : (rounds a : ℕ) (p q : Play) (picked : Picked) → IsPicked rounds a p picked q → is_waiting_pick picked ≡ true → (q ≡ waited p) × ((course : Course) → course.rounds ≡ rounds → is_waiting_pick (pick course p a).picked ≡ true)
waits_ever rounds a p q picked is wait =
    let led = is.leads (teller rounds p.acts is.told) refl (teller_tells rounds p.acts is.told) in
    let here : is_waiting_pick (pick (teller rounds p.acts is.told) p a).picked ≡ true = ap (λ (x : Pick). is_waiting_pick x.picked) led ∙ wait in
    let same : q ≡ waited p = sym (ap (λ (x : Pick). x.next) led) ∙ wait_keeps (teller rounds p.acts is.told) p a here in
    let acts : q.acts ≡ p.acts = ap (λ (x : Play). x.acts) same in
    let more = is.acts in
    let none : length is.told ≡ 0 = omega (arith, acts, more) in
    (same, λ course rounds_are. ap (λ (x : Pick). is_waiting_pick x.picked) (is.leads course rounds_are (tells_none course p.acts is.told none)) ∙ wait)

-- The hands after it

abbrev holds_at : {A : Type 0} → List (Option A) → ℕ → Bool
holds_at xs i = unwrap_or (option_map is_some (slice_get xs i)) false

same_empty : {A : Type 0} (xs ys : List (Option A)) → length xs ≡ length ys → ((i : ℕ) → i < length xs → holds_at xs i ≡ holds_at ys i) → empty_places xs ≡ empty_places ys
same_empty [] [] size same = refl
same_empty [] (y ∷ ys) size same = absurd (omega (arith, size))
same_empty (x ∷ xs) [] size same = absurd (omega (arith, size))
same_empty (None ∷ xs) (None ∷ ys) size same = ap (λ n. n + 1) (same_empty xs ys (omega (arith, size)) (λ i low. same (suc i) (omega (arith, low))))
same_empty (Some x ∷ xs) (Some y ∷ ys) size same = same_empty xs ys (omega (arith, size)) (λ i low. same (suc i) (omega (arith, low)))
same_empty (None ∷ xs) (Some y ∷ ys) size same = absurd (let no : false ≡ true = same 0 (omega arith) in cc)
same_empty (Some x ∷ xs) (None ∷ ys) size same = absurd (let no : true ≡ false = same 0 (omega arith) in cc)

same_behind : {A : Type 0} (xs ys : List (Option A)) → length xs ≡ length ys → ((i : ℕ) → i < length xs → holds_at xs i ≡ holds_at ys i) → empty_places (drop 1 xs) ≡ empty_places (drop 1 ys)
same_behind [] [] size same = refl
same_behind [] (y ∷ ys) size same = absurd (omega (arith, size))
same_behind (x ∷ xs) [] size same = absurd (omega (arith, size))
same_behind (x ∷ xs) (y ∷ ys) size same = same_empty xs ys (omega (arith, size)) (λ i low. same (suc i) (omega (arith, low)))

same_first : {A : Type 0} (xs ys : List (Option A)) → length xs ≡ length ys → ((i : ℕ) → i < length xs → holds_at xs i ≡ holds_at ys i) → first_is_full xs ≡ first_is_full ys
same_first [] [] size same = refl
same_first [] (y ∷ ys) size same = absurd (omega (arith, size))
same_first (x ∷ xs) [] size same = absurd (omega (arith, size))
same_first (None ∷ xs) (None ∷ ys) size same = refl
same_first (Some x ∷ xs) (Some y ∷ ys) size same = refl
same_first (None ∷ xs) (Some y ∷ ys) size same = absurd (let no : false ≡ true = same 0 (omega arith) in cc)
same_first (Some x ∷ xs) (None ∷ ys) size same = absurd (let no : true ≡ false = same 0 (omega arith) in cc)

full_by_play : {D : Type 0} (s : PlayerState D) (a acts : ℕ) → PlayerIsKept s → length s.hub.places ≡ length s.hub.setting.first → a < length s.grips → is_full s a ≡ is_some (gripped (play_of s acts) a)
full_by_play s a acts kept size low = by_hand (is_full s a) refl
  where
    by_hand : (b : Bool) → is_full s a ≡ b → is_full s a ≡ is_some (gripped (play_of s acts) a)
    by_hand true is = let hand = full_is s a is in is ∙ ap is_some (sym (full_hand s a acts hand.0 kept size hand.1))
    by_hand false is = is ∙ ap is_some (sym (empty_hand s a acts kept (empty_is s a is low)))

-- the moment of a player is its hub's, so a pick that waits leaves the play as it is
same_play : {D : Type 0} (s : PlayerState D) (acts : ℕ) → waited (play_of s acts) ≡ play_of s acts
same_play s acts = ap (λ c. record { configuration = c; moment = s.hub.moment; place = s.place; acts = acts; moves = s.moves }) (at_own_moment (configuration_of s.hub))

-- the player after a pick that waited: it stands for the same play
pub record Stays {D : Type 0} (s t : PlayerState D) : Type 0 where
  pub before : PlayerStands s
  pub after : PlayerStands t
  pub rounds : t.rounds ≡ s.rounds
  pub probes : t.hub.rounds ≡ s.hub.rounds
  pub play : (acts : ℕ) → play_of t acts ≡ play_of s acts

same_live : {D : Type 0} (s t : PlayerState D) → Stays s t → are_live t ≡ are_live s
same_live s t stays =
    sym (actors_are (record { rounds = s.rounds; told = λ k. Worked }) t 0 stays.after.kept stays.after.size (sym stays.rounds))
    ∙ ap (actors (record { rounds = s.rounds; told = λ k. Worked })) (stays.play 0)
    ∙ actors_are (record { rounds = s.rounds; told = λ k. Worked }) s 0 stays.before.kept stays.before.size refl

same_end : {D : Type 0} (s t : PlayerState D) (a : ℕ) → Stays s t → is_ended t a ≡ is_ended s a
same_end s t a stays =
    sym (ended_is (record { rounds = s.rounds; told = λ k. Worked }) t 0 a stays.after.kept stays.after.size (sym stays.rounds))
    ∙ ap (λ p. is_actor_done (record { rounds = s.rounds; told = λ k. Worked }) p a) (stays.play 0)
    ∙ ended_is (record { rounds = s.rounds; told = λ k. Worked }) s 0 a stays.before.kept stays.before.size refl

same_left : {D : Type 0} (s t : PlayerState D) → Stays s t → steps_left t ≡ steps_left s
same_left s t stays =
    let most = same_most s t (ap (λ (x : Play). length x.configuration.setting.runs) (stays.play 0)) (ap (λ (x : Play). length x.configuration.setting.first) (stays.play 0)) stays.probes in
    let history : most_made t - length t.hub.history ≡ most_made s - length s.hub.history = ap (λ n. n - length t.hub.history) most ∙ ap (λ (x : Play). most_made s - length x.configuration.history) (stays.play 0) in
    let place : t.rounds * length t.hub.setting.first - t.place ≡ s.rounds * length s.hub.setting.first - s.place = ap (λ n. n * length t.hub.setting.first - t.place) stays.rounds ∙ ap (λ (x : Play). s.rounds * length x.configuration.setting.first - x.place) (stays.play 0) in
    let first : first_is_full t.grips ≡ first_is_full s.grips = same_first t.grips s.grips size hand in
    let hands : empty_places (drop 1 t.grips) ≡ empty_places (drop 1 s.grips) = same_behind t.grips s.grips size hand in
    ap (λ n. 2 * n + empty_places (drop 1 t.grips) + 2 * (t.rounds * length t.hub.setting.first - t.place) + first_is_full t.grips) history
    ∙ ap (λ n. 2 * (most_made s - length s.hub.history) + n + 2 * (t.rounds * length t.hub.setting.first - t.place) + first_is_full t.grips) hands
    ∙ ap (λ n. 2 * (most_made s - length s.hub.history) + empty_places (drop 1 s.grips) + 2 * n + first_is_full t.grips) place
    ∙ ap (λ n. 2 * (most_made s - length s.hub.history) + empty_places (drop 1 s.grips) + 2 * (s.rounds * length s.hub.setting.first - s.place) + n) first
  where
    size : length t.grips ≡ length s.grips
    size = stays.after.kept.actors ∙ ap (λ (x : Play). length x.configuration.setting.runs + 1) (stays.play 0) ∙ sym stays.before.kept.actors

    hand : (a : ℕ) → a < length t.grips → is_full t a ≡ is_full s a
    hand a low =
        full_by_play t a 0 stays.after.kept stays.after.size low
        ∙ ap (λ (x : Play). is_some (gripped x a)) (stays.play 0)
        ∙ sym (full_by_play s a 0 stays.before.kept stays.before.size (omega (arith, low, size)))

-- Picks that waited, one after another

drop_at : {A : Type 0} (xs : List A) (k : ℕ) (x : A) → slice_get xs k ≡ Some x → drop k xs ≡ x ∷ drop (suc k) xs
drop_at [] k x e = absurd (cc)
drop_at (y ∷ xs) zero x e = let same : y ≡ x = cc in ap (λ z. z ∷ xs) same
drop_at (y ∷ xs) (suc k) x e = drop_at xs k x e

-- of these actors so many were picked, and each of them waited
pub record HaveWaited {D : Type 0} (old now : PlayerState D) (all : List ℕ) (step : ℕ) : Type 0 where
  pub stands : PlayerStands now
  pub rounds : now.rounds ≡ old.rounds
  pub live : are_live now ≡ are_live old
  pub left : steps_left now ≡ steps_left old
  pub ends : (a : ℕ) → is_ended now a ≡ is_ended old a
  pub tried : (acts : ℕ) → (later : ℕ) × IsTried old.rounds all (drop step all) (play_of old acts) (play_of now later)
  pub each : (k a : ℕ) → k < step → slice_get all k ≡ Some a → (course : Course) → course.rounds ≡ old.rounds → (acts : ℕ) → is_waiting_pick (pick course (play_of now acts) a).picked ≡ true

-- what a pick does that comes next
abbrev pub PickedNext : {D : Type 0} → PlayerState D → ℕ → Picked → PlayerState D → Type 0
PickedNext s a picked t = (acts : ℕ) → (later : ℕ) × IsPicked s.rounds a (play_of s acts) picked (play_of t later)

stays_by_wait : {D : Type 0} (s t : PlayerState D) (a : ℕ) (picked : Picked) → PlayerStands s → PlayerStands t → t.rounds ≡ s.rounds → t.hub.rounds ≡ s.hub.rounds → PickedNext s a picked t → is_waiting_pick picked ≡ true → Stays s t
stays_by_wait s t a picked before after rounds probes picks wait = record { before = before; after = after; rounds = rounds; probes = probes; play = play }
  where
    play : (acts : ℕ) → play_of t acts ≡ play_of s acts
    play acts =
        let pick = picks acts in
        let same = (waits_ever s.rounds a (play_of s acts) (play_of t pick.0) picked pick.1 wait).0 in
        let later : pick.0 ≡ acts = ap (λ (x : Play). x.acts) same in
        ap (play_of t) (sym later) ∙ same ∙ same_play s acts

pub one_more_waits : {D : Type 0} (old now next : PlayerState D) (all : List ℕ) (step after a : ℕ) (picked : Picked) → HaveWaited old now all step
    → PlayerStands next → next.rounds ≡ now.rounds → next.hub.rounds ≡ now.hub.rounds → slice_get all step ≡ Some a → PickedNext now a picked next
    → is_waiting_pick picked ≡ true → after ≡ step + 1 → HaveWaited old next all after
one_more_waits old now next all step after a picked before stands rounds probes at picks wait is = record {
  stands = stands;
  rounds = rounds ∙ before.rounds;
  live = same_live now next stays ∙ before.live;
  left = same_left now next stays ∙ before.left;
  ends = λ a. same_end now next a stays ∙ before.ends a;
  tried = λ acts.
      let tried = before.tried acts in
      let pick = picks tried.0 in
      let here = subst (λ l. IsTried old.rounds all l (play_of old acts) (play_of now tried.0)) (drop_at all step a at) tried.1 in
      let was = subst (λ n. IsPicked n a (play_of now tried.0) picked (play_of next pick.0)) before.rounds pick.1 in
      let one : suc step ≡ after = omega (arith, is) in
      (pick.0, subst (λ n. IsTried old.rounds all (drop n all) (play_of old acts) (play_of next pick.0)) one (tried_more old.rounds a all (drop (suc step) all) (play_of old acts) (play_of now tried.0) (play_of next pick.0) picked here was wait));
  each = λ k b low there course same acts. ap (λ (x : Play). is_waiting_pick (pick course x b).picked) (stays.play acts) ∙ (elim (at_or_past k step (omega (arith, low, is))) [
    | inl last ↦ newest b (let both : ◌≡◌ {A = Option ℕ} (Some a) (Some b) = sym at ∙ ap (slice_get all) last ∙ there in cc) course same acts
    | inr past ↦ before.each k b (omega (arith, past)) there course same acts
  ]);
}
  where
    stays : Stays now next
    stays = stays_by_wait now next a picked before.stands stands rounds probes picks wait

    newest : (b : ℕ) → a ≡ b → (course : Course) → course.rounds ≡ old.rounds → (acts : ℕ) → is_waiting_pick (pick course (play_of now acts) b).picked ≡ true
    newest b own course same acts = ap (λ n. is_waiting_pick (pick course (play_of now acts) n).picked) (sym own) ∙ (waits_ever now.rounds a (play_of now acts) (play_of next (picks acts).0) picked (picks acts).1 wait).1 course (same ∙ sym before.rounds)

-- the first one that did not wait
pub one_moves : {D : Type 0} (old now next : PlayerState D) (all : List ℕ) (step a : ℕ) (picked : Picked) → HaveWaited old now all step → slice_get all step ≡ Some a → PickedNext now a picked next → is_waiting_pick picked ≡ false
    → (acts : ℕ) → (later : ℕ) × GoesOn old.rounds (λ course x. pick_first course x all) (play_of old acts) (play_of next later)
one_moves old now next all step a picked before at picks moved acts =
    let tried = before.tried acts in
    let pick = picks tried.0 in
    let here = subst (λ l. IsTried old.rounds all l (play_of old acts) (play_of now tried.0)) (drop_at all step a at) tried.1 in
    let was = subst (λ n. IsPicked n a (play_of now tried.0) picked (play_of next pick.0)) before.rounds pick.1 in
    (pick.0, tried_moves old.rounds a all (drop (suc step) all) (play_of old acts) (play_of now tried.0) (play_of next pick.0) picked here was moved)

-- an actor of the list has not ended
pub goes_on_at : {D : Type 0} (s : PlayerState D) (i a : ℕ) → slice_get (are_live s) i ≡ Some a → (a < length s.grips) × (is_ended s a ≡ false)
goes_on_at s i a at = let two = of_filter (λ b. not (is_ended s b)) 0 (length s.grips) i a at in let low = two.0 in (omega (arith, low), not-true (is_ended s a) two.1)

-- One of them moves

each_of : (P : ℕ → Type 0) (xs : List ℕ) → ((k a : ℕ) → slice_get xs k ≡ Some a → P a) → Each P xs
each_of P [] all = tt
each_of P (x ∷ xs) all = (all 0 x refl, each_of P xs (λ k a at. all (suc k) a at))

pub turned_length : (k : ℕ) (xs : List ℕ) → length (from_place k xs) ≡ length xs
turned_length k xs =
    let one = length-append (drop k xs) (take k xs) in
    let two = length-append (take k xs) (drop k xs) in
    let whole : length (take k xs ++ drop k xs) ≡ length xs = ap length (take-append-drop k xs) in
    omega (arith, one, two, whole)

first_of : (xs : List ℕ) → 0 < length xs → (a : ℕ) × (slice_get xs 0 ≡ Some a)
first_of [] some = absurd (omega (arith, some))
first_of (x ∷ xs) some = (x, refl)

pub never_all : {D : Type 0} (old now : PlayerState D) (place step : ℕ) → HaveWaited old now (from_place place (are_live old)) step → length (are_live old) ≤ step → 0 < length (are_live old) → ⊥
never_all {D = D} old now place step wait all some =
    not_all_wait course now 0 wait.stands.kept wait.stands.size wait.stands.grips
    (λ r going home. let q = wait.stands.progress r going.0 going.1 home in (q.0, (q.1, q.2), q.3)) each one.0 within
    (ended_is course now 0 one.0 wait.stands.kept wait.stands.size refl ∙ on.1)
  where
    course : Course
    course = record { rounds = now.rounds; told = λ k. Worked }

    one : (a : ℕ) × (slice_get (are_live now) 0 ≡ Some a)
    one = let same : length (are_live now) ≡ length (are_live old) = ap length wait.live in first_of (are_live now) (omega (arith, same, some))

    on : (one.0 < length now.grips) × (is_ended now one.0 ≡ false)
    on = goes_on_at now 0 one.0 one.1

    within : one.0 < length now.hub.setting.runs + 1
    within = let low = on.0 in let size = wait.stands.kept.actors in omega (arith, low, size)

    each : Each (λ a. is_waiting_pick (pick course (play_of now 0) a).picked ≡ true) (actors course (play_of now 0))
    each = subst (Each (λ a. is_waiting_pick (pick course (play_of now 0) a).picked ≡ true)) (sym wait.live ∙ sym (actors_are course now 0 wait.stands.kept wait.stands.size refl))
        (each_from_place (λ a. is_waiting_pick (pick course (play_of now 0) a).picked ≡ true) place (are_live old) (each_of (λ a. is_waiting_pick (pick course (play_of now 0) a).picked ≡ true) (from_place place (are_live old)) (λ k a at.
        let low = slice_get_within (from_place place (are_live old)) k a at in
        let size = turned_length place (are_live old) in
        wait.each k a (omega (arith, low, size, all)) at course wait.rounds 0)))

-- The window

pub window_stays : {D : Type 0} (s : OpenHub D) → SameWindow s s
window_stays s = record { setting = refl; rounds = refl; opened = refl; at_opening = λ d. refl }

pub same_window : {D : Type 0} (s t u : OpenHub D) → SameWindow s t → SameWindow t u → SameWindow s u
same_window s t u one two = record { setting = two.setting ∙ one.setting; rounds = two.rounds ∙ one.rounds; opened = two.opened ∙ one.opened; at_opening = λ d. two.at_opening d ∙ one.at_opening d }

-- none has been picked
pub none_waited : {D : Type 0} (s : PlayerState D) (all : List ℕ) → PlayerStands s → HaveWaited s s all 0
none_waited s all stands = record { stands = stands; rounds = refl; live = refl; left = refl; ends = λ a. refl; tried = λ acts. (acts, none_tried s.rounds all (play_of s acts)); each = λ k a low. absurd (omega (arith, low)) }
