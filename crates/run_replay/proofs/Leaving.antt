-- Which actors have ended after a step: those of before, and the run that was stepped where it has its end.
use Rattle.run_replay.proofs.Prelude.{Absent, Arrived, Bool, Choice, Commands, Configuration, Did, Died, Done, Doomed, Ended, Entry, Fell, Found, Gripped, HandsOut, List, Lost, Moves, None, Option, Over, Placed, PlayerState, Probes, Purpose, Reading, Ready, Rose, SameWindow, Sensed, Setting, Some, Told, Undid, Undoes, Waits, Why, Worked, [], after_choice, after_give, after_take, ap, are_live, arith, at_moment, choice_of, command_at, common_steps, configuration_of, decide_is, device_no, did, entries_on, false, filter, fold, give_entries, if◌then◌else◌, is_doomed, is_ended, is_run, is_some, is_weak, length, nat_le, not, option_map, option_to_list, put_keeps, put_other, range_with_len, read_of, reading_on, refl, run_no, slice_get, slice_set, suc, sym, true, unwrap_or, zero, ℕ, ⊤, ◌&&◌, ◌*◌, ◌++◌, ◌<◌, ◌==◌, ◌||◌, ◌∙◌, ◌∷◌, ◌≡◌, ◌≢◌}
use Rattle.history_book.specs.Histories.{entries_of, entry, kept_by, reading}
use Rattle.history_book.specs.declared.entries.Cause.{Cause}
use Rattle.home_types.specs.Commands.{fails}
use Rattle.lock_leasing.specs.Waits.{lost_by}
use Rattle.run_replay.proofs.Acting.{IsGivenBack, entries_are, purpose_at}
use Rattle.run_replay.proofs.Settings.{put_other_place}
use Rattle.run_replay.proofs.Taking.{GoesToHand, IsAnswered, after, chosen, went_after}
use Rattle.std.proofs.lemmas.Bool.{eqb-false}

-- Entries that end at most one run

-- the entry is the end of no other run than this one
abbrev pub EndsAtMost : ℕ → Entry → Type 0
EndsAtMost r (Ended q e) = q.0 ≡ r
EndsAtMost r (Arrived q m) = ⊤
EndsAtMost r (Placed q at m) = ⊤
EndsAtMost r (Did q c a) = ⊤
EndsAtMost r (Undid q d drove) = ⊤
EndsAtMost r (Fell d) = ⊤
EndsAtMost r (Rose d) = ⊤
EndsAtMost r (Doomed q cause) = ⊤

abbrev pub EndAtMost : ℕ → List Entry → Type 0
EndAtMost r [] = ⊤
EndAtMost r (e ∷ es) = EndsAtMost r e × EndAtMost r es

one_ended : (w : Setting) (n : Reading) (r q : ℕ) (e : Entry) → EndsAtMost r e → q ≢ r → ((entry w n e).run q).ended ≡ (n.run q).ended
one_ended w n r q (Ended x e) own other = ap (λ o. o.ended) (put_other n.run x.0 _ q (λ same. other (same ∙ own)))
one_ended w n r q (Arrived x m) own other = put_keeps (λ o. o.ended) n.run x.0 _ refl q
one_ended w n r q (Placed x at m) own other = put_keeps (λ o. o.ended) n.run x.0 _ refl q
one_ended w n r q (Did x c a) own other = put_keeps (λ o. o.ended) n.run x.0 _ refl q
one_ended w n r q (Undid x d drove) own other = put_keeps (λ o. o.ended) n.run x.0 _ refl q
one_ended w n r q (Fell d) own other = refl
one_ended w n r q (Rose d) own other = refl
one_ended w n r q (Doomed x cause) own other = put_keeps (λ o. o.ended) n.run x.0 _ refl q

all_ended : (w : Setting) (n : Reading) (r q : ℕ) (es : List Entry) → EndAtMost r es → q ≢ r → ((fold (entry w) n es).run q).ended ≡ (n.run q).ended
all_ended w n r q [] own other = refl
all_ended w n r q (e ∷ es) own other = all_ended w (entry w n e) r q es own.1 other ∙ one_ended w n r q e own.0 other

-- a configuration with such entries more
more_ended : (s : Configuration) (maker r q : ℕ) (es : List Entry) → EndAtMost r es → q ≢ r → ((reading s.setting (entries_of (s.history ++ kept_by maker es))).run q).ended ≡ ((read_of s).run q).ended
more_ended s maker r q es own other =
    ap (λ h. ((reading s.setting h).run q).ended) (entries_on s.history maker es)
    ∙ ap (λ n. (n.run q).ended) (reading_on s.setting (entries_of s.history) es)
    ∙ all_ended s.setting (read_of s) r q es own other

-- What a run's step makes

-- the step ends no other run
abbrev pub EndsOwn : ℕ → Choice → Type 0
EndsOwn r Absent = ⊤
EndsOwn r (Over e entries) = EndAtMost r entries
EndsOwn r (Moves entries) = EndAtMost r entries
EndsOwn r (Waits why) = ⊤
EndsOwn r (HandsOut d purpose) = ⊤

if_none : (r : ℕ) (b : Bool) (x : Entry) → EndsAtMost r x → EndAtMost r (if b then x ∷ [] else [])
if_none r true x own = (own, tt)
if_none r false x own = tt

choice_ends : (s : Configuration) (r m : ℕ) → EndsOwn r (choice_of s r m)
choice_ends s r m = decide_is (EndsOwn r) s.setting (read_of s) s.grips r _ (record {
  absent = λ e. tt;
  over = λ e at. tt;
  waits = λ why. tt;
  arrives = λ run e. (tt, tt);
  enters = λ split known. (tt, tt);
  aborted = λ cause act doomed over. (refl, tt);
  drops = λ cause d undoing down. (tt, tt);
  undoes = λ cause d undoing up. tt;
  revokes = λ c x run strong at. (tt, tt);
  downs = λ c run next home down. (tt, if_none r c.must _ tt);
  goes = λ c run next home up. tt;
  skips = λ c run. (tt, tt);
  fails_at_end = λ d all at. (tt, tt);
  commits = λ all up. (refl, tt);
})

after_ends : (s : Configuration) (r q : ℕ) (c : Choice) → EndsOwn r c → q ≢ r → ((read_of (after_choice s r c)).run q).ended ≡ ((read_of s).run q).ended
after_ends s r q Absent own other = refl
after_ends s r q (Over e entries) own other = more_ended s r r q entries own other
after_ends s r q (Moves entries) own other = more_ended s r r q entries own other
after_ends s r q (Waits why) own other = refl
after_ends s r q (HandsOut d purpose) own other = refl

take_ends : (s : Configuration) (r q m : ℕ) → q ≢ r → ((read_of (after_take s r m)).run q).ended ≡ ((read_of s).run q).ended
take_ends s r q m other = after_ends (at_moment s m) r q (choice_of s r m) (choice_ends s r m) other

-- What a step back makes: no end

either_ends : (x : ℕ) (b : Bool) (es fs : List Entry) → EndAtMost x es → EndAtMost x fs → EndAtMost x (if b then es else fs)
either_ends x true es fs own other = own
either_ends x false es fs own other = other

lost_ends : (x d : ℕ) (o : Option ℕ) → EndAtMost x (option_to_list (option_map (λ y. Doomed (run_no y) (Lost (device_no d))) o))
lost_ends x d None = tt
lost_ends x d (Some y) = (tt, tt)

give_ends : (w : Setting) (n : Reading) (x d r : ℕ) (purpose : Purpose) (told : Told) → EndAtMost x (give_entries w n d (record { maker = r; purpose = purpose }) told)
give_ends w n x d r (Commands k) Worked = (tt, tt)
give_ends w n x d r (Commands k) (Sensed v) = (tt, if_none x (fails (command_at w.runs r k) (Found v) && not (is_doomed n r)) _ tt)
give_ends w n x d r (Commands k) Died = (tt, (tt, dooms _ _ (is_doomed n r) (did n r (command_at w.runs r k).device.0 && not (is_weak w.mode)) (command_at w.runs r k).must))
  where
    dooms : (y z : Cause) (a b c : Bool) → EndAtMost x (if a then [] else (if b then Doomed (run_no r) y ∷ [] else (if c then Doomed (run_no r) z ∷ [] else [])))
    dooms y z true b c = tt
    dooms y z false true c = (tt, tt)
    dooms y z false false true = (tt, tt)
    dooms y z false false false = tt
give_ends w n x d r (Undoes v) Worked = (tt, tt)
give_ends w n x d r (Undoes v) (Sensed y) = (tt, tt)
give_ends w n x d r (Undoes v) Died = (tt, (tt, tt))
give_ends w n x d r (Probes v) Worked = either_ends x (n.up d) [] (Rose (device_no d) ∷ []) tt (tt, tt)
give_ends w n x d r (Probes v) (Sensed y) = either_ends x (n.up d) [] (Rose (device_no d) ∷ []) tt (tt, tt)
give_ends w n x d r (Probes v) Died = either_ends x (n.up d) (Fell (device_no d) ∷ option_to_list (option_map (λ y. Doomed (run_no y) (Lost (device_no d))) (lost_by w n d))) [] (tt, lost_ends x d (lost_by w n d)) tt

pub give_ended : (s : Configuration) (d r q : ℕ) (purpose : Purpose) (told : Told) → ((read_of (after_give s d (record { maker = r; purpose = purpose }) told)).run q).ended ≡ ((read_of s).run q).ended
give_ended s d r q purpose told = more_ended s r (suc q) q (give_entries s.setting (read_of s) d (record { maker = r; purpose = purpose }) told) (give_ends s.setting (read_of s) (suc q) d r purpose told) (λ same. absurd (omega (arith, same)))

-- The same of the actors

-- the detector has ended where it had, with its hand, its rounds and its place as they were
pub same_detector : {D : Type 0} (s t : PlayerState D) → SameWindow s.hub t.hub → slice_get t.grips 0 ≡ slice_get s.grips 0 → t.rounds ≡ s.rounds → t.place ≡ s.place → is_ended t 0 ≡ is_ended s 0
same_detector s t window hand rounds place = λ i. not (unwrap_or (option_map is_some (hand i)) false) && nat_le (rounds i * length (window.setting i).first) (place i)

-- .. and a run where it had its end
pub same_ends : {D : Type 0} (s t : PlayerState D) (q : ℕ) → SameWindow s.hub t.hub → (q ≡ 0 → is_ended t 0 ≡ is_ended s 0) → ((read_of (configuration_of t.hub)).run q).ended ≡ ((read_of (configuration_of s.hub)).run q).ended → is_ended t q ≡ is_ended s q
same_ends s t zero window detector same = detector refl
same_ends s t (suc r) window detector same = λ i. not (is_run (window.setting i).runs (suc r)) || is_some (same i)

-- the hand of a run is not the detector's
run_hand : {D : Type 0} (s t : PlayerState D) (r : ℕ) (o : Option (Gripped D Ready)) → 0 < r → t.grips ≡ slice_set s.grips r o → slice_get t.grips 0 ≡ slice_get s.grips 0
run_hand s t r o run grips = ap (λ g. slice_get g 0) grips ∙ put_other_place s.grips r 0 o (λ own. absurd (omega (arith, run, own)))

-- a run's step ends no other actor
pub answered_others : {D : Type 0} (s t : PlayerState D) (r : ℕ) (choice : Choice) → IsAnswered s t r choice → (q : ℕ) → q ≢ r → is_ended t q ≡ is_ended s q
answered_others s t r choice is q other =
    let ends = ap (λ (c : Configuration). ((read_of c).run q).ended) (after s t r choice is.answers) ∙ take_ends (configuration_of s.hub) r q s.hub.moment other in
    same_ends s t q is.window (λ own. same_detector s t is.window (ap (λ g. slice_get g 0) is.grips) is.rounds is.place) ends

-- .. and where it waits not even its own
pub waited_ends : {D : Type 0} (s t : PlayerState D) (r : ℕ) (why : Why) → IsAnswered s t r (Waits why) → is_ended t r ≡ is_ended s r
waited_ends s t r why is =
    let ends = ap (λ (c : Configuration). ((read_of c).run r).ended) (after s t r (Waits why) is.answers) ∙ ap (λ c. ((read_of (after_choice (at_moment (configuration_of s.hub) s.hub.moment) r c)).run r).ended) (sym (chosen s t r (Waits why) is.answers)) in
    same_ends s t r is.window (λ own. same_detector s t is.window (ap (λ g. slice_get g 0) is.grips) is.rounds is.place) ends

pub went_others : {D : Type 0} (s t : PlayerState D) (r : ℕ) (grip : Gripped D Ready) → GoesToHand s t r grip → (q : ℕ) → q ≢ r → is_ended t q ≡ is_ended s q
went_others s t r grip is q other =
    let ends = ap (λ (c : Configuration). ((read_of c).run q).ended) (went_after s t r grip is) ∙ take_ends (configuration_of s.hub) r q s.hub.moment other in
    same_ends s t q is.window (λ own. same_detector s t is.window (run_hand s t r (Some grip) is.free.run is.grips) is.rounds is.place) ends

-- a step back ends no actor
pub given_ends : {D : Type 0} (s t : PlayerState D) (a : ℕ) (grip : Gripped D Ready) (done : Gripped D Done) (entries : List Entry) → IsGivenBack s t a grip done entries → (q : ℕ) → is_ended t q ≡ is_ended s q
given_ends s t a grip done entries by q =
    let ends = ap (λ (c : Configuration). ((read_of c).run q).ended) (entries_are s t a grip done entries by).1 ∙ give_ended (at_moment (configuration_of s.hub) by.at) grip.slip.device.0 a q (purpose_at s grip) done.stage.told in
    same_ends s t q by.window (λ own. same_detector s t by.window (run_hand s t a None by.is.run by.grips) by.rounds by.place) ends

-- The list of those that have not ended

-- the actor that has ended is taken out, and no other
pub actors_left : {D : Type 0} (s t : PlayerState D) (a : ℕ) → length t.grips ≡ length s.grips → ((q : ℕ) → q ≢ a → is_ended t q ≡ is_ended s q) → is_ended t a ≡ true → filter (λ q. not (q == a)) (are_live s) ≡ are_live t
actors_left s t a size others over = left (range_with_len 0 (length s.grips)) ∙ ap (λ n. filter (λ q. not (is_ended t q)) (range_with_len 0 n)) (sym size)
  where
    step : (x : ℕ) (xs : List ℕ) → filter (λ q. not (q == a)) (filter (λ q. not (is_ended s q)) xs) ≡ filter (λ q. not (is_ended t q)) xs → (own : Bool) → (x == a) ≡ own → (ended : Bool) → is_ended s x ≡ ended
        → filter (λ q. not (q == a)) (filter (λ q. not (is_ended s q)) (x ∷ xs)) ≡ filter (λ q. not (is_ended t q)) (x ∷ xs)
    step x xs rest true is true was = let same : x ≡ a = grind (arith, common_steps) in let gone : is_ended t x ≡ true = ap (is_ended t) same ∙ over in rw (was, gone) rest
    step x xs rest true is false was = let same : x ≡ a = grind (arith, common_steps) in let gone : is_ended t x ≡ true = ap (is_ended t) same ∙ over in rw (was, gone, is) rest
    step x xs rest false is true was = let stays : is_ended t x ≡ true = others x (eqb-false x a is) ∙ was in rw (was, stays) rest
    step x xs rest false is false was = let stays : is_ended t x ≡ false = others x (eqb-false x a is) ∙ was in rw (was, stays, is) (ap (λ ys. x ∷ ys) rest)

    left : (xs : List ℕ) → filter (λ q. not (q == a)) (filter (λ q. not (is_ended s q)) xs) ≡ filter (λ q. not (is_ended t q)) xs
    left [] = refl
    left (x ∷ xs) = step x xs (left xs) (x == a) refl (is_ended s x) refl

-- .. where none has, the list stays
pub actors_stay : {D : Type 0} (s t : PlayerState D) (a : ℕ) → length t.grips ≡ length s.grips → ((q : ℕ) → q ≢ a → is_ended t q ≡ is_ended s q) → is_ended t a ≡ is_ended s a → are_live s ≡ are_live t
actors_stay s t a size others own = same_filter (range_with_len 0 (length s.grips)) ∙ ap (λ n. filter (λ q. not (is_ended t q)) (range_with_len 0 n)) (sym size)
  where
    each : (q : ℕ) → is_ended t q ≡ is_ended s q
    each q = by_actor (q == a) refl
      where
        by_actor : (b : Bool) → (q == a) ≡ b → is_ended t q ≡ is_ended s q
        by_actor true is = let same : q ≡ a = grind (arith, common_steps) in ap (is_ended t) same ∙ own ∙ ap (is_ended s) (sym same)
        by_actor false is = others q (eqb-false q a is)

    same_filter : (xs : List ℕ) → filter (λ q. not (is_ended s q)) xs ≡ filter (λ q. not (is_ended t q)) xs
    same_filter [] = refl
    same_filter (x ∷ xs) = rw (each x, same_filter xs) refl

-- The same of the player as callers see it

pub taken_out : {D : Type 0} (s t : PlayerState D) (old new : List ℕ) (a : ℕ) → old ≡ are_live s → new ≡ filter (λ q. not (q == a)) old → length t.grips ≡ length s.grips → ((q : ℕ) → q ≢ a → is_ended t q ≡ is_ended s q) → is_ended t a ≡ true → new ≡ are_live t
taken_out s t old new a before less size others over = less ∙ ap (λ xs. filter (λ q. not (q == a)) xs) before ∙ actors_left s t a size others over

-- an actor that waited, or has not ended, leaves the list as it is
pub kept_in : {D : Type 0} (s t : PlayerState D) (old : List ℕ) (a : ℕ) → old ≡ are_live s → length t.grips ≡ length s.grips → ((q : ℕ) → q ≢ a → is_ended t q ≡ is_ended s q) → is_ended t a ≡ is_ended s a → old ≡ are_live t
kept_in s t old a before size others own = before ∙ actors_stay s t a size others own
