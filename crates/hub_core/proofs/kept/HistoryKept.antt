-- What is kept of a history and the grips, with one entry more.
use Rattle.hub_core.proofs.Prelude.{Aborted, ActsInTurn, Along_more, Answer, Arrived, Bool, Cause, Commands, Committed, Configuration, Did, Doomed, Ended, Entry, Fcfs, FollowersStand, Grip, Grips, HistoryIsKept, HoldsNone, IsScheduled, IsTrue, JustInTime, List, MayOpen, None, NoneAnsweredDoomed, OfRun, Option, Placed, PlacedAt, PlacesAreScheduled, Purpose, Ran, Reading, Scheduler, Setting, Some, Standing, Timeline, Undid, Visibility, [], abort_is_justified, and-false, and_parts, any_taken, ap, arith, before, common_steps, cond, device_no, devices_of, did, did_live, doomed_live, down_at_end, each_entry, each_more, entries_of, entries_on, entry, false, find, front_for, grips_command, has_grip, has_touched, has_written, if◌then◌else◌, is_command, is_fcfs, is_live, is_mode, is_none, is_ran, is_some, is_strict, keeps_leases, kept_by, length, list_all, list_any, live_before, live_runs, may_follow, moment_of, nat_lt, not, nothing_read, option_map, placed_in_order, planned_times, point, point_of, put, put_keeps, put_other, put_same, read_of, reading, refl, run_no, scheduler_of, shapes, shows, stamp_of, standing, stands_in, strict_wait, subst, sym, true, unwrap_or, without, ℕ, ◌&&◌, ◌++◌, ◌==◌, ◌||◌, ◌∙◌, ◌∷◌, ◌≡◌, ◌≢◌, ◌≤◌}
use Rattle.home_types.specs.declared.modes.Visibility.TheVariants.{Eventual, Global, Partitioned, Weak}
use Rattle.hub_core.proofs.kept.Followed.{followed_placed, followed_step}
use Rattle.hub_core.proofs.steps.Afters.{read_with}
use Rattle.hub_core.proofs.kept.LineOrder.{StampsAreBelow, before_more, end_line, is_alone_by, live_before_without, order_at_end, order_without, same_order, stamps_below, strict_fewer_by}
use Rattle.hub_core.proofs.windows.StrongChoices.{IsPlacing, live_stands}
use Rattle.legal_days.specs.CleanReads.{entry_is_clean}
use Rattle.legal_days.specs.Isolation.{is_alone, is_isolated}
use Rattle.std.proofs.lemmas.List.Folds.{list_all-append}

-- what an entry has to be that comes at this moment, and leaves these grips out
pub record MayAdd (s : Configuration) (e : Entry) (m : ℕ) (g : Grips) : Type 0 where
  pub follows : may_follow s.setting (read_of s) e ≡ true
  pub clean : entry_is_clean s.setting (read_of s) e ≡ true
  pub justified : abort_is_justified s.setting (read_of s) e ≡ true
  pub scheduled : IsScheduled s.setting (read_of s) e
  pub isolated : IsTrue (is_strict s.setting.mode) → is_isolated s.setting (read_of s) e ≡ true
  pub unrevoked : s.setting.mode.scheduler ≡ Fcfs → keeps_leases e ≡ true
  pub moment : (entry s.setting (read_of s) e).moment ≤ m
  pub in_order : s.setting.mode.scheduler ≡ Fcfs → IsTrue (placed_in_order (entry s.setting (read_of s) e) (entry s.setting (read_of s) e).line)
  pub followed : FollowersStand s.setting (entry s.setting (read_of s) e)
  pub in_turn : ActsInTurn (point s.setting (entry s.setting (read_of s) e) g)
  pub first : NoneAnsweredDoomed (entry s.setting (read_of s) e) g

-- the configuration with one entry more
abbrev pub added : Configuration → ℕ → ℕ → Grips → Entry → Configuration
added s maker m g e = record s { history = s.history ++ kept_by maker (e ∷ []); moment = m; grips = g }

pub history_added : (s : Configuration) (maker m : ℕ) (g : Grips) (e : Entry) → MayAdd s e m g → HistoryIsKept s → HistoryIsKept (added s maker m g e)
history_added s maker m g e may kept =
    record {
      well_formed = subst (λ h. IsTrue (each_entry s.setting (may_follow s.setting) h)) (sym entries) (each_more s.setting (may_follow s.setting) (entries_of s.history) e kept.well_formed may.follows);
      moment = subst (λ n. n.moment ≤ m) (sym read) may.moment;
      clean = subst (λ h. IsTrue (each_entry s.setting (entry_is_clean s.setting) h)) (sym entries) (each_more s.setting (entry_is_clean s.setting) (entries_of s.history) e kept.clean may.clean);
      justified = subst (λ h. IsTrue (each_entry s.setting (abort_is_justified s.setting) h)) (sym entries) (each_more s.setting (abort_is_justified s.setting) (entries_of s.history) e kept.justified may.justified);
      places = subst (λ h. PlacesAreScheduled s.setting h) (sym entries) (Along_more s.setting (IsScheduled s.setting) (nothing_read s.setting) (entries_of s.history) e kept.places may.scheduled);
      isolated = λ strict. subst (λ h. IsTrue (each_entry s.setting (is_isolated s.setting) h)) (sym entries) (each_more s.setting (is_isolated s.setting) (entries_of s.history) e (kept.isolated strict) (may.isolated strict));
      unrevoked = λ first_come. subst (λ h. IsTrue (list_all keeps_leases h)) (sym entries) (list_all-append keeps_leases (entries_of s.history) (e ∷ []) ∙ rw (kept.unrevoked first_come, may.unrevoked first_come) refl);
      in_order = λ first_come. subst (λ n. IsTrue (placed_in_order n n.line)) (sym read) (may.in_order first_come);
      followed = subst (λ n. FollowersStand s.setting n) (sym read) may.followed;
      in_turn = subst (λ n. ActsInTurn (point s.setting n g)) (sym read) may.in_turn;
      first = subst (λ n. NoneAnsweredDoomed n g) (sym read) may.first;
    }
  where
    entries : entries_of (s.history ++ kept_by maker (e ∷ [])) ≡ entries_of s.history ++ e ∷ []
    entries = entries_on s.history maker (e ∷ [])

    read : reading s.setting (entries_of (s.history ++ kept_by maker (e ∷ []))) ≡ entry s.setting (read_of s) e
    read = read_with s maker (e ∷ [])

-- Runs that act in turn

-- where a run acts it waits for none, also when fewer runs are live and no other one stands before it
turn_by : (w : Setting) (n m : Reading) (h : Grips) → ((q : ℕ) → is_live m q ≡ true → live_before m q ≡ live_runs m (before q n.line))
    → ((q : ℕ) → is_live m q ≡ true → is_live n q ≡ true)
    → ((q d : ℕ) → IsTrue (is_live m q && (has_touched m h q d || has_grip h q d)) → strict_wait w n q ≡ None) → ActsInTurn (point w m h)
turn_by w n m h line fewer waitless q d acts = strict_fewer_by w.runs w.kinds w.first w.mode.model w.mode.scheduler n m q (line q (and_parts (is_live m q) (has_touched m h q d || has_grip h q d) acts).0) (λ x there now. fewer x now) (waitless q d acts)

-- a run that acts with less acts with more
acts_more : (l t c h l' t' c' h' : Bool) → (l ≡ true → l' ≡ true) → (t ≡ true → t' ≡ true) → (c ≡ true → c' ≡ true) → (h ≡ true → h' ≡ true) → (l && ((t || c) || h)) ≡ true → (l' && ((t' || c') || h')) ≡ true
acts_more false t c h l' t' c' h' fl ft fc fh e = absurd (cc)
acts_more true true c h l' t' c' h' fl ft fc fh e = rw (fl refl, ft refl) refl
acts_more true false true h l' t' c' h' fl ft fc fh e = rw (fl refl, fc refl) (grind (arith, common_steps))
acts_more true false false true l' t' c' h' fl ft fc fh e = rw (fl refl, fh refl) (grind (arith, common_steps))
acts_more true false false false l' t' c' h' fl ft fc fh e = absurd (cc)

same_true : {a b : Bool} → a ≡ b → a ≡ true → b ≡ true
same_true p e = sym p ∙ e

-- fewer grips are out
abbrev pub AreFewer : Grips → Grips → Type 0
AreFewer h g = (d : ℕ) (p : Grip) → h d ≡ Some p → g d ≡ Some p

pub less_one : (g : Grips) (d : ℕ) → AreFewer (put g d None) g
less_one g d e p = elim (e == d) as (λ b. (if b then None else g e) ≡ Some p → g e ≡ Some p) [ true ↦ (λ f. absurd (cc)) | false ↦ (λ f. f) ]

-- what a test finds of a grip it found before
fewer_pass : (g h : Grips) (test : Grip → Bool) (d : ℕ) → AreFewer h g → unwrap_or (option_map test (h d)) false ≡ true → unwrap_or (option_map test (g d)) false ≡ true
fewer_pass g h test d less = by_grip (h d) refl
  where
    by_grip : (o : Option Grip) → h d ≡ o → unwrap_or (option_map test o) false ≡ true → unwrap_or (option_map test (g d)) false ≡ true
    by_grip None at e = absurd (cc)
    by_grip (Some p) at e = ap (λ o. unwrap_or (option_map test o) false) (less d p at) ∙ e

-- where no run becomes live or has an answer or a grip more, and no other one stands before a live run
pub turn_less : (w : Setting) (n m : Reading) (g h : Grips) → ((q : ℕ) → is_live m q ≡ true → live_before m q ≡ live_runs m (before q n.line))
    → ((q : ℕ) → is_live m q ≡ true → is_live n q ≡ true) → ((q d : ℕ) → did m q d ≡ did n q d) → AreFewer h g → ActsInTurn (point w n g)
    → ActsInTurn (point w m h)
turn_less w n m g h line fewer same less turn = turn_by w n m h line fewer (λ q d acts. turn q d (acts_more _ _ _ _ _ _ _ _ (fewer q) (same_true (same q d)) (fewer_pass g h (λ p. (p.maker == q) && is_command p.purpose) d less) (fewer_pass g h (λ p. p.maker == q) d less) acts))

-- a command that is out is still the first one since a doom
pub first_less : (n m : Reading) (g h : Grips) → ((q : ℕ) → (m.run q).answered_doomed ≡ (n.run q).answered_doomed) → AreFewer h g → NoneAnsweredDoomed n g → NoneAnsweredDoomed m h
first_less n m g h same less first d p out = ap (λ b. not (is_command p.purpose && b)) (same p.maker) ∙ first d p (less d p out)

pub same_grips : (g : Grips) → AreFewer g g
same_grips g d p e = e

abbrev stamp_in : OfRun → ℕ
stamp_in o = unwrap_or (option_map (λ p. p.stamp) o.placed) 0

-- the order of placings where no run is placed
order_kept : (n m : Reading) → m.line ≡ n.line → ((q : ℕ) → stamp_of m q ≡ stamp_of n q) → IsTrue (placed_in_order n n.line) → IsTrue (placed_in_order m m.line)
order_kept n m line same ordered = ap (placed_in_order m) line ∙ same_order n m n.line same ∙ ordered

arrival_turn : (w : Setting) (n : Reading) (g : Grips) (r m : ℕ) → ActsInTurn (point w n g) → ActsInTurn (point w (entry w n (Arrived (run_no r) m)) g)
arrival_turn w n g r m turn = turn_less w n (entry w n (Arrived (run_no r) m)) g g (λ q now. refl) (λ q. same_true (put_keeps (λ o. is_some o.placed && is_none o.ended) n.run r _ refl q)) (λ q d. put_keeps (λ o. is_some (o.on d).view) n.run r _ refl q) (same_grips g) turn

has_none : (g : Grips) (r : ℕ) → ((d : ℕ) → has_grip g r d ≡ false) → (d : ℕ) → grips_command g r d ≡ false
has_none g r none d = by_grip (g d) (none d)
  where
    by_grip : (o : Option Grip) → unwrap_or (option_map (λ p. p.maker == r) o) false ≡ false → unwrap_or (option_map (λ p. (p.maker == r) && is_command p.purpose) o) false ≡ false
    by_grip None e = refl
    by_grip (Some p) e = grind (arith, common_steps)

-- a run is placed at the end
last_turn : (w : Setting) (n : Reading) (g : Grips) (r m : ℕ) → scheduler_of w.mode ≡ Fcfs → Standing n → is_none (n.run r).placed ≡ true
    → ((d : ℕ) → did n r d ≡ false) → ((d : ℕ) → has_grip g r d ≡ false) → ActsInTurn (point w n g)
    → ActsInTurn (point w (entry w n (Placed (run_no r) (length n.line) m)) g)
last_turn w n g r m first stands unplaced untouched' gripless turn q d acts = elim (q == r) as (λ b. (q == r) ≡ b → strict_wait w then' q ≡ None) [
  | true ↦ (λ at. absurd (idle (grind (arith, common_steps))))
  | false ↦ (λ at. others (grind (arith, common_steps)))
] refl
  where
    then' : Reading
    then' = entry w n (Placed (run_no r) (length n.line) m)

    new : OfRun
    new = record (n.run r) { placed = Some (record { place = length n.line; moment = m; stamp = n.size }); planned = planned_times w n r (front_for w n r (length n.line) m) m }

    did_is : (x e : ℕ) → did then' x e ≡ did n x e
    did_is x e = put_keeps (λ o. is_some (o.on e).view) n.run r new refl x

    live : (x : ℕ) → x ≢ r → is_live then' x ≡ is_live n x
    live x other = ap (λ o. is_some o.placed && is_none o.ended) (put_other n.run r new x other)

    idle : q ≡ r → ⊥
    idle same =
        let none : (did then' q d || grips_command g q d) || has_grip g q d ≡ false = rw (same, did_is r d, untouched' d, has_none g r gripless d, gripless d) refl in
        grind (arith, common_steps)

    other : (x : ℕ) → list_any (is_ran x) n.line ≡ true → x ≢ r
    other x there = λ same. not_both (n.run r).placed unplaced (subst (λ y. is_some (n.run y).placed ≡ true) same (let stands' : stands_in (n.run x) ≡ true = sym (stands.line x) ∙ there in grind (arith, common_steps)))
      where
        not_both : (p : Option PlacedAt) → is_none p ≡ true → is_some p ≡ true → ⊥
        not_both None none some = absurd (cc)
        not_both (Some p) none some = absurd (cc)

    others : q ≢ r → strict_wait w then' q ≡ None
    others apart =
        let acts' : IsTrue (is_live n q && (has_touched n g q d || has_grip g q d)) = acts_more _ _ _ _ _ _ _ _ (same_true (live q apart)) (same_true (did_is q d)) (λ e. e) (λ e. e) acts in
        let there : list_any (is_ran q) n.line ≡ true = live_stands n q stands (grind (arith, common_steps)) in
        strict_fewer_by w.runs w.kinds w.first w.mode.model w.mode.scheduler n then' q
        (ap (live_runs then') (ap (before q) (end_line w n r m first) ∙ before_more q n.line (Ran (run_no r)) there))
        (λ x among now. same_true (live x (other x (any_taken (is_ran x) _ n.line among))) now) (turn q d acts')

-- .. or anywhere, where no run waits for another one by its model
placing_turn : (w : Setting) (n : Reading) (g : Grips) (r at m : ℕ) → Standing n → is_none (n.run r).placed ≡ true → ((d : ℕ) → did n r d ≡ false)
    → ((d : ℕ) → has_grip g r d ≡ false) → (scheduler_of w.mode ≡ Fcfs → at ≡ length n.line) → ActsInTurn (point w n g)
    → ActsInTurn (point w (entry w n (Placed (run_no r) at m)) g)
placing_turn w n g r at m stands unplaced untouched' gripless last turn q d acts =
    by_model w.mode.model w.mode.scheduler last (λ first end. subst (λ k. ActsInTurn (point w (entry w n (Placed (run_no r) k m)) g)) (sym end)
    (last_turn w n g r m first stands unplaced untouched' gripless turn) q d acts)
  where
    then' : Reading
    then' = entry w n (Placed (run_no r) at m)

    by_model : (model : Visibility) (scheduler : Scheduler) → (scheduler_of (record { model = model; scheduler = scheduler }) ≡ Fcfs → at ≡ length n.line)
        → (scheduler_of (record { model = model; scheduler = scheduler }) ≡ Fcfs → at ≡ length n.line → strict_wait (record { runs = w.runs; mode = record { model = model; scheduler = scheduler }; kinds = w.kinds; first = w.first }) then' q ≡ None)
        → strict_wait (record { runs = w.runs; mode = record { model = model; scheduler = scheduler }; kinds = w.kinds; first = w.first }) then' q ≡ None
    by_model Weak scheduler end waitless = refl
    by_model Global scheduler end waitless = waitless refl (end refl)
    by_model Partitioned scheduler end waitless = waitless refl (end refl)
    by_model Eventual scheduler end waitless = refl

-- one device less is out

pub holds_is : (g : Grips) (r d : ℕ) (p : Purpose) → g d ≡ Some (record { maker = r; purpose = p }) → has_grip g r d ≡ true
holds_is g r d p out = ap (λ o. unwrap_or (option_map (λ x. x.maker == r) o) false) out ∙ self
  where
    self : (r == r) ≡ true
    self = grind (arith, common_steps)

-- a run that waits for none is answered, and fewer grips are out
answer_turn : (w : Setting) (n : Reading) (g h : Grips) (r k : ℕ) (a : Answer) → AreFewer h g → strict_wait w n r ≡ None → ActsInTurn (point w n g) → ActsInTurn (point w (entry w n (Did (run_no r) k a)) h)
answer_turn w n g h r k a less waitless turn = turn_by w n (entry w n (Did (run_no r) k a)) h (λ q now. refl) (λ q. same_true (live q)) (λ q e acts. elim (q == r) as (λ b. (q == r) ≡ b → strict_wait w n q ≡ None) [
  | true ↦ (λ at. let same : q ≡ r = grind (arith, common_steps) in subst (λ x. strict_wait w n x ≡ None) (sym same) waitless)
  | false ↦ (λ at. turn q e (acts_more _ _ _ _ _ _ _ _ (same_true (live q)) (same_true (did_is q e (grind (arith, common_steps)))) (fewer_pass g h (λ p. (p.maker == q) && is_command p.purpose) e less) (fewer_pass g h (λ p. p.maker == q) e less) acts))
] refl)
  where
    live : (q : ℕ) → is_live (entry w n (Did (run_no r) k a)) q ≡ is_live n q
    live q = did_live w n (run_no r) k a q

    did_is : (q e : ℕ) → q ≢ r → did (entry w n (Did (run_no r) k a)) q e ≡ did n q e
    did_is q e other = ap (λ o. is_some (o.on e).view) (put_other n.run r _ q other)

-- the run has no grip out then
answer_first : (w : Setting) (n : Reading) (g h : Grips) (r k : ℕ) (a : Answer) → AreFewer h g → HoldsNone h r → NoneAnsweredDoomed n g → NoneAnsweredDoomed (entry w n (Did (run_no r) k a)) h
answer_first w n g h r k a less none first e p out = elim (p.maker == r) as (λ b. (p.maker == r) ≡ b → not (is_command p.purpose && ((entry w n (Did (run_no r) k a)).run p.maker).answered_doomed) ≡ true) [
  | true ↦ (λ at. absurd (let own : p.maker ≡ r = grind (arith, common_steps) in none e p.purpose (subst (λ x. h e ≡ Some (record { maker = x; purpose = p.purpose })) own out)))
  | false ↦ (λ at. let other : p.maker ≢ r = grind (arith, common_steps) in ap (λ o. not (is_command p.purpose && o.answered_doomed)) (put_other n.run r _ p.maker other) ∙ first e p (less e p out))
] refl

-- a run with one grip has none when its device is home
last_home : (g : Grips) (r d : ℕ) → ((e : ℕ) (p : Purpose) → g e ≡ Some (record { maker = r; purpose = p }) → e ≡ d) → HoldsNone (put g d None) r
last_home g r d alone e p out = absurd (let none : None ≡ Some (record { maker = r; purpose = p }) = sym (put_same g d None) ∙ ap (put g d None) (sym (alone e p (less_one g d e (record { maker = r; purpose = p }) out))) ∙ out in cc)

ends_live : (n : Reading) (r : ℕ) (o : OfRun) → is_some o.ended ≡ true → (q : ℕ) → (is_some (put n.run r o q).placed && is_none (put n.run r o q).ended) ≡ true → is_live n q ≡ true
ends_live n r o over q = elim (q == r) as (λ b. (is_some (if b then o else n.run q).placed && is_none (if b then o else n.run q).ended) ≡ true → is_live n q ≡ true) [
  | true ↦ (λ e. absurd (grind (arith, common_steps)))
  | false ↦ (λ e. e)
]

commit_turn : (w : Setting) (n : Reading) (g : Grips) (r : ℕ) → ActsInTurn (point w n g) → ActsInTurn (point w (entry w n (Ended (run_no r) Committed)) g)
commit_turn w n g r turn = turn_less w n (entry w n (Ended (run_no r) Committed)) g g (λ q now. refl) (ends_live n r (record (n.run r) { ended = Some Committed }) refl) (λ q d. put_keeps (λ o. is_some (o.on d).view) n.run r _ refl q) (same_grips g) turn

-- a run that is aborted stands before no run
aborted_turn : (w : Setting) (n : Reading) (g : Grips) (r : ℕ) (cause : Cause) → ActsInTurn (point w n g) → ActsInTurn (point w (entry w n (Ended (run_no r) (Aborted cause))) g)
aborted_turn w n g r cause turn = turn_less w n m g g (λ q now. live_before_without n m r q refl gone (stays q now)) fewer (λ q d. put_keeps (λ o. is_some (o.on d).view) n.run r new refl q) (same_grips g) turn
  where
    m : Reading
    m = entry w n (Ended (run_no r) (Aborted cause))

    new : OfRun
    new = record (n.run r) { ended = Some (Aborted cause) }

    fewer : (q : ℕ) → is_live m q ≡ true → is_live n q ≡ true
    fewer = ends_live n r new refl

    gone : is_live m r ≡ false
    gone = ap (λ o. is_some o.placed && is_none o.ended) (put_same n.run r new) ∙ and-false (is_some (n.run r).placed)

    stays : (q : ℕ) → is_live m q ≡ true → q ≢ r
    stays q now same = let both : true ≡ false = sym now ∙ ap (is_live m) same ∙ gone in absurd (cc)

doom_turn : (w : Setting) (n : Reading) (g : Grips) (r : ℕ) (cause : Cause) → ActsInTurn (point w n g) → ActsInTurn (point w (entry w n (Doomed (run_no r) cause)) g)
doom_turn w n g r cause turn = turn_less w n (entry w n (Doomed (run_no r) cause)) g g (λ q now. refl) (λ q. same_true (doomed_live w n (run_no r) cause q)) (λ q d. put_keeps (λ o. is_some (o.on d).view) n.run r _ refl q) (same_grips g) turn

undo_turn : (w : Setting) (n : Reading) (g h : Grips) (r d : ℕ) (drove : Bool) → AreFewer h g → ActsInTurn (point w n g) → ActsInTurn (point w (entry w n (Undid (run_no r) (device_no d) drove)) h)
undo_turn w n g h r d drove less turn =
    turn_less w n (entry w n (Undid (run_no r) (device_no d) drove)) g h (λ q now. refl)
    (λ q. same_true (put_keeps (λ o. is_some o.placed && is_none o.ended) n.run r _ refl q))
    (λ q e. put_keeps (λ o. is_some (o.on e).view) n.run r _ (put_keeps (λ x. is_some x.view) (n.run r).on d _ refl e) q) less turn

-- one device more is out: its maker waits for none, where it is a live run
pub grip_turn : (w : Setting) (n : Reading) (g : Grips) (r d : ℕ) (p : Purpose) → (is_live n r ≡ true → strict_wait w n r ≡ None) → ActsInTurn (point w n g) → ActsInTurn (point w n (put g d (Some (record { maker = r; purpose = p }))))
grip_turn w n g r d p alone turn q e acts = elim (q == r) as (λ b. (q == r) ≡ b → strict_wait w n q ≡ None) [
  | true ↦ (λ at. let same : q ≡ r = grind (arith, common_steps) in subst (λ x. strict_wait w n x ≡ None) (sym same) (alone (subst (λ x. is_live n x ≡ true) same (and_parts (is_live n q) (has_touched n (put g d (Some new)) q e || has_grip (put g d (Some new)) q e) acts).0)))
  | false ↦ (λ at. turn q e (acts_more _ _ _ _ _ _ _ _ (λ x. x) (λ x. x) (other_command (grind (arith, common_steps))) (other_grip (grind (arith, common_steps))) acts))
] refl
  where
    new : Grip
    new = record { maker = r; purpose = p }

    other_grip : (r == q) ≡ false → has_grip (put g d (Some new)) q e ≡ true → has_grip g q e ≡ true
    other_grip other = elim (e == d) as (λ b. unwrap_or (option_map (λ x. x.maker == q) (if b then Some new else g e)) false ≡ true → has_grip g q e ≡ true) [ true ↦ (λ f. absurd (let both : true ≡ false = sym f ∙ other in cc)) | false ↦ (λ f. f) ]

    other_command : (r == q) ≡ false → grips_command (put g d (Some new)) q e ≡ true → grips_command g q e ≡ true
    other_command other =
        elim (e == d) as
        (λ b. unwrap_or (option_map (λ x. (x.maker == q) && is_command x.purpose) (if b then Some new else g e)) false ≡ true → grips_command g q e ≡ true) [
          | true ↦ (λ f. absurd (let both : (r == q) ≡ true = grind (arith, common_steps) in let all : true ≡ false = sym both ∙ other in cc))
          | false ↦ (λ f. f)
        ]

-- A run arrives

pub arrival_may : (s : Configuration) (r m : ℕ) → may_follow s.setting (read_of s) (Arrived (run_no r) m) ≡ true → (read_of s).moment ≤ m → HistoryIsKept s → MayAdd s (Arrived (run_no r) m) m s.grips
arrival_may s r m follows later kept =
    record {
      follows = follows;
      clean = refl;
      justified = refl;
      scheduled = tt;
      isolated = λ strict. refl;
      unrevoked = λ first_come. refl;
      moment = omega (arith, later);
      in_order = λ first_come. order_kept n (entry s.setting n (Arrived (run_no r) m)) refl (λ q. put_keeps stamp_in n.run r (record (n.run r) { arrived = Some m }) refl q) (kept.in_order first_come);
      followed = followed_step s.setting n (Arrived (run_no r) m) refl kept.followed;
      in_turn = arrival_turn s.setting n s.grips r m kept.in_turn;
      first = first_less n (entry s.setting n (Arrived (run_no r) m)) s.grips s.grips (λ q. put_keeps (λ o. o.answered_doomed) n.run r _ refl q) (same_grips s.grips) kept.first;
    }
  where
    n : Reading
    n = read_of s

-- A run is placed at the end

placing_order : (w : Setting) (n : Reading) (r m : ℕ) → scheduler_of w.mode ≡ Fcfs → Standing n → StampsAreBelow n → is_none (n.run r).placed ≡ true
    → IsTrue (placed_in_order n n.line)
    → IsTrue (placed_in_order (entry w n (Placed (run_no r) (length n.line) m)) (entry w n (Placed (run_no r) (length n.line) m)).line)
placing_order w n r m first stands stamps unplaced ordered = subst (λ l. IsTrue (placed_in_order then' l)) (sym (end_line w n r m first)) (order_at_end n then' r n.line same below ordered)
  where
    new : OfRun
    new = record (n.run r) { placed = Some (record { place = length n.line; moment = m; stamp = n.size }); planned = planned_times w n r (front_for w n r (length n.line) m) m }

    then' : Reading
    then' = entry w n (Placed (run_no r) (length n.line) m)

    same : (q : ℕ) → q ≢ r → stamp_of then' q ≡ stamp_of n q
    same q other = ap stamp_in (put_other n.run r new q other)

    -- a run that stands in the line has been placed
    placed : (q : ℕ) → list_any (is_ran q) n.line ≡ true → is_some (n.run q).placed ≡ true
    placed q there = let stands' : stands_in (n.run q) ≡ true = sym (stands.line q) ∙ there in grind (arith, common_steps)

    other : (q : ℕ) → list_any (is_ran q) n.line ≡ true → q ≢ r
    other q there = λ same'. not_both (n.run r).placed unplaced (subst (λ x. is_some (n.run x).placed ≡ true) same' (placed q there))
      where
        not_both : (p : Option PlacedAt) → is_none p ≡ true → is_some p ≡ true → ⊥
        not_both None none some = absurd (cc)
        not_both (Some p) none some = absurd (cc)

    below : (q : ℕ) → list_any (is_ran q) n.line ≡ true → (q ≢ r) × (nat_lt (stamp_of then' q) (stamp_of then' r) ≡ true)
    below q there = (other q there, ap (λ k. nat_lt k (stamp_of then' r)) (same q (other q there)) ∙ ap (λ k. nat_lt (stamp_of n q) k) (ap stamp_in (put_same n.run r new)) ∙ stamped (n.run q).placed (placed q there) (stamps q))
      where
        stamped : (p : Option PlacedAt) → is_some p ≡ true → unwrap_or (option_map (λ x. nat_lt x.stamp n.size) p) true ≡ true → nat_lt (unwrap_or (option_map (λ x. x.stamp) p) 0) n.size ≡ true
        stamped None some f = absurd (cc)
        stamped (Some p) some f = f

-- runs are served as they come by the scheduler of the window where its mode says so
first_served : (model : Visibility) (scheduler : Scheduler) → scheduler ≡ Fcfs → scheduler_of (record { model = model; scheduler = scheduler }) ≡ Fcfs
first_served Weak scheduler e = refl
first_served Global scheduler e = refl
first_served Partitioned scheduler e = refl
first_served Eventual scheduler e = e

pub placing_may : (s : Configuration) (r at m : ℕ) → may_follow s.setting (read_of s) (Placed (run_no r) at m) ≡ true → (read_of s).moment ≤ m → IsScheduled s.setting (read_of s) (Placed (run_no r) at m) → IsPlacing (point_of s) r at m
    → is_none ((read_of s).run r).placed ≡ true → ((d : ℕ) → has_grip s.grips r d ≡ false) → HistoryIsKept s → MayAdd s (Placed (run_no r) at m) m s.grips
placing_may s r at m follows later scheduled place unplaced gripless kept =
    record {
      follows = follows;
      clean = refl;
      justified = refl;
      scheduled = scheduled;
      isolated = λ strict. refl;
      unrevoked = λ first_come. refl;
      moment = omega (arith, later);
      in_order = λ first_come. let first = first_served s.setting.mode.model s.setting.mode.scheduler first_come in
          subst (λ k. IsTrue (placed_in_order (entry s.setting n (Placed (run_no r) k m)) (entry s.setting n (Placed (run_no r) k m)).line)) (sym (place.last first)) (placing_order s.setting n r m first stands (stamps_below s.setting (entries_of s.history)) unplaced (kept.in_order first_come));
      followed = followed_placed s.setting n s.grips r at m stands unplaced place kept.followed;
      in_turn = placing_turn s.setting n s.grips r at m stands unplaced (λ d. ap (λ o. is_some o.view) ((shapes s.setting (entries_of s.history) kept.well_formed r).clear unplaced d)) gripless place.last kept.in_turn;
      first = first_less n (entry s.setting n (Placed (run_no r) at m)) s.grips s.grips (λ q. put_keeps (λ o. o.answered_doomed) n.run r _ refl q) (same_grips s.grips) kept.first;
    }
  where
    n : Reading
    n = read_of s

    stands : Standing n
    stands = standing s.setting (entries_of s.history) kept.well_formed

-- A run that waits for no run acts alone

in_turn_out : (s : Configuration) (r d : ℕ) (p : Purpose) → s.grips d ≡ Some (record { maker = r; purpose = p }) → is_live (read_of s) r ≡ true → HistoryIsKept s → strict_wait s.setting (read_of s) r ≡ None
in_turn_out s r d p out live kept = kept.in_turn r d (acting (is_live (read_of s) r) (has_touched (read_of s) s.grips r d) (has_grip s.grips r d) live (holds_is s.grips r d p out))
  where
    acting : (l t h : Bool) → l ≡ true → h ≡ true → IsTrue (l && (t || h))
    acting l t h el eh = grind (arith, common_steps)

-- .. so does a run that has written a device
pub in_turn_wrote : (s : Configuration) (r d : ℕ) → is_live (read_of s) r ≡ true → has_written (read_of s) r d ≡ true → HistoryIsKept s → strict_wait s.setting (read_of s) r ≡ None
in_turn_wrote s r d live wrote kept = kept.in_turn r d (acting (is_live (read_of s) r) (did (read_of s) r d) (grips_command s.grips r d) (has_grip s.grips r d) live ((shapes s.setting (entries_of s.history) kept.well_formed r).wrote d wrote))
  where
    acting : (l t c h : Bool) → l ≡ true → t ≡ true → IsTrue (l && ((t || c) || h))
    acting l t c h el et = grind (arith, common_steps)

alone_now : (s : Configuration) (r : ℕ) → s.setting.mode.scheduler ≡ Fcfs → is_live (read_of s) r ≡ true → strict_wait s.setting (read_of s) r ≡ None → HistoryIsKept s → IsTrue (is_alone s.setting (read_of s) r)
alone_now s r first_come live waitless kept =
    is_alone_by s.setting.runs s.setting.kinds s.setting.first s.setting.mode.model s.setting.mode.scheduler (read_of s) r
    (record { in_order = kept.in_order first_come; there = live_stands (read_of s) r stands live; live = λ q now. live_stands (read_of s) q stands now })
    waitless
  where
    stands : Standing (read_of s)
    stands = standing s.setting (entries_of s.history) kept.well_formed

-- under a strict model runs are served as they come
abbrev pub ServesStrict : Setting → Type 0
ServesStrict w = IsTrue (is_strict w.mode) → w.mode.scheduler ≡ Fcfs

-- .. in a window that may be opened
pub serves_strict : (w : Setting) (rounds opened : ℕ) → MayOpen w rounds opened → ServesStrict w
serves_strict w rounds opened opens = by_model w.mode.model w.mode.scheduler opens.mode
  where
    is_first : (scheduler : Scheduler) → IsTrue (is_fcfs scheduler) → scheduler ≡ Fcfs
    is_first Fcfs e = refl
    is_first JustInTime e = absurd (cc)
    is_first Timeline e = absurd (cc)

    by_model : (model : Visibility) (scheduler : Scheduler) → IsTrue (is_mode (record { model = model; scheduler = scheduler })) → IsTrue (is_strict (record { model = model; scheduler = scheduler })) → scheduler ≡ Fcfs
    by_model Weak scheduler mode strict = absurd (cc)
    by_model Global scheduler mode strict = is_first scheduler mode
    by_model Partitioned scheduler mode strict = is_first scheduler mode
    by_model Eventual scheduler mode strict = absurd (cc)

-- A command is answered

answered_may : (s : Configuration) (h : Grips) (r k m : ℕ) (a : Answer) → may_follow s.setting (read_of s) (Did (run_no r) k a) ≡ true → entry_is_clean s.setting (read_of s) (Did (run_no r) k a) ≡ true → (read_of s).moment ≤ m → ServesStrict s.setting → AreFewer h s.grips
    → HoldsNone h r → is_live (read_of s) r ≡ true → strict_wait s.setting (read_of s) r ≡ None → HistoryIsKept s → MayAdd s (Did (run_no r) k a) m h
answered_may s h r k m a follows clean later served less none live waitless kept =
    record {
      follows = follows;
      clean = clean;
      justified = refl;
      scheduled = tt;
      isolated = λ strict. alone_now s r (served strict) live waitless kept;
      unrevoked = λ first_come. refl;
      moment = later;
      in_order = λ first_come. order_kept n (entry s.setting n (Did (run_no r) k a)) refl (λ q. put_keeps stamp_in n.run r _ refl q) (kept.in_order first_come);
      followed = followed_step s.setting n (Did (run_no r) k a) refl kept.followed;
      in_turn = answer_turn s.setting n s.grips h r k a less waitless kept.in_turn;
      first = answer_first s.setting n s.grips h r k a less none kept.first;
    }
  where
    n : Reading
    n = read_of s

-- by its device, which comes home
pub answer_may : (s : Configuration) (r k d m : ℕ) (a : Answer) → may_follow s.setting (read_of s) (Did (run_no r) k a) ≡ true
    → entry_is_clean s.setting (read_of s) (Did (run_no r) k a) ≡ true → (read_of s).moment ≤ m → ServesStrict s.setting
    → s.grips d ≡ Some (record { maker = r; purpose = Commands k })
    → ((e : ℕ) (p : Purpose) → s.grips e ≡ Some (record { maker = r; purpose = p }) → e ≡ d) → is_live (read_of s) r ≡ true → HistoryIsKept s → MayAdd s (Did (run_no r) k a) m (put s.grips d None)
answer_may s r k d m a follows clean later served out alone live kept = answered_may s (put s.grips d None) r k m a follows clean later served (less_one s.grips d) (last_home s.grips r d alone) live (in_turn_out s r d (Commands k) out live kept) kept

-- with no call of its device, where the run holds no grip and waits for no run by its model
pub told_may : (s : Configuration) (r k m : ℕ) (a : Answer) → may_follow s.setting (read_of s) (Did (run_no r) k a) ≡ true → entry_is_clean s.setting (read_of s) (Did (run_no r) k a) ≡ true → (read_of s).moment ≤ m → ServesStrict s.setting
    → HoldsNone s.grips r → is_live (read_of s) r ≡ true → strict_wait s.setting (read_of s) r ≡ None → HistoryIsKept s → MayAdd s (Did (run_no r) k a) m s.grips
told_may s r k m a follows clean later served none live waitless kept = answered_may s s.grips r k m a follows clean later served (same_grips s.grips) none live waitless kept

-- A run commits

-- the devices that the run has touched are counted up where none of them is found down
ends_up : (n : Reading) (g : Grips) (r : ℕ) (ds : List ℕ) → find (λ d. has_touched n g r d && not (n.up d)) ds ≡ None → IsTrue (list_all (λ d. not (did n r d) || n.up d) ds)
ends_up n g r [] none = refl
ends_up n g r (d ∷ ds) none = elim (has_touched n g r d && not (n.up d)) as (λ b. (has_touched n g r d && not (n.up d)) ≡ b → cond b (Some d) (find (λ e. has_touched n g r e && not (n.up e)) ds) ≡ None → IsTrue (list_all (λ e. not (did n r e) || n.up e) (d ∷ ds))) [
  | true ↦ (λ h f. absurd (cc))
  | false ↦ (λ h f. rw (here (did n r d) (grips_command g r d) (n.up d) h, ends_up n g r ds f) refl)
] refl none
  where
    here : (t c u : Bool) → ((t || c) && not u) ≡ false → (not t || u) ≡ true
    here t c u e = grind (arith, common_steps)

pub commit_may : (s : Configuration) (r m : ℕ) → may_follow s.setting (read_of s) (Ended (run_no r) Committed) ≡ true → (read_of s).moment ≤ m → down_at_end (point_of s) r ≡ None → HistoryIsKept s → MayAdd s (Ended (run_no r) Committed) m s.grips
commit_may s r m follows later up kept =
    record {
      follows = follows;
      clean = refl;
      justified = refl;
      scheduled = tt;
      isolated = λ strict. ends_up n s.grips r (devices_of s.setting r) (ap (λ b. if b then find (λ d. has_touched n s.grips r d && not (n.up d)) (devices_of s.setting r) else None) (sym strict) ∙ up);
      unrevoked = λ first_come. refl;
      moment = later;
      in_order = λ first_come. order_kept n (entry s.setting n (Ended (run_no r) Committed)) refl (λ q. put_keeps stamp_in n.run r (record (n.run r) { ended = Some Committed }) refl q) (kept.in_order first_come);
      followed = followed_step s.setting n (Ended (run_no r) Committed) refl kept.followed;
      in_turn = commit_turn s.setting n s.grips r kept.in_turn;
      first = first_less n (entry s.setting n (Ended (run_no r) Committed)) s.grips s.grips (λ q. put_keeps (λ o. o.answered_doomed) n.run r _ refl q) (same_grips s.grips) kept.first;
    }
  where
    n : Reading
    n = read_of s

-- A run is doomed

pub doom_may : (s : Configuration) (r m : ℕ) (cause : Cause) → may_follow s.setting (read_of s) (Doomed (run_no r) cause) ≡ true
    → (s.setting.mode.scheduler ≡ Fcfs → keeps_leases (Doomed (run_no r) cause) ≡ true) → shows s.setting (read_of s) r cause ≡ true
    → moment_of cause (read_of s).moment ≤ m → HistoryIsKept s
    → MayAdd s (Doomed (run_no r) cause) m s.grips
doom_may s r m cause follows keeps shown later kept =
    record {
      follows = follows;
      clean = refl;
      justified = shown;
      scheduled = tt;
      isolated = λ strict. refl;
      unrevoked = keeps;
      moment = later;
      in_order = λ first_come. order_kept n (entry s.setting n (Doomed (run_no r) cause)) refl (λ q. put_keeps stamp_in n.run r _ refl q) (kept.in_order first_come);
      followed = followed_step s.setting n (Doomed (run_no r) cause) refl kept.followed;
      in_turn = doom_turn s.setting n s.grips r cause kept.in_turn;
      first = first_less n (entry s.setting n (Doomed (run_no r) cause)) s.grips s.grips (λ q. put_keeps (λ o. o.answered_doomed) n.run r _ refl q) (same_grips s.grips) kept.first;
    }
  where
    n : Reading
    n = read_of s

-- A run is undone on a device

undone_may : (s : Configuration) (h : Grips) (r d m : ℕ) (drove : Bool) → AreFewer h s.grips → may_follow s.setting (read_of s) (Undid (run_no r) (device_no d) drove) ≡ true → (read_of s).moment ≤ m → ServesStrict s.setting → HistoryIsKept s → MayAdd s (Undid (run_no r) (device_no d) drove) m h
undone_may s h r d m drove less follows later served kept =
    record {
      follows = follows;
      clean = refl;
      justified = refl;
      scheduled = tt;
      isolated = λ strict. alone_now s r (served strict) live (in_turn_wrote s r d live wrote kept) kept;
      unrevoked = λ first_come. refl;
      moment = later;
      in_order = λ first_come. order_kept n (entry s.setting n (Undid (run_no r) (device_no d) drove)) refl (λ q. put_keeps stamp_in n.run r _ refl q) (kept.in_order first_come);
      followed = followed_step s.setting n (Undid (run_no r) (device_no d) drove) refl kept.followed;
      in_turn = undo_turn s.setting n s.grips h r d drove less kept.in_turn;
      first = first_less n (entry s.setting n (Undid (run_no r) (device_no d) drove)) s.grips h (λ q. put_keeps (λ o. o.answered_doomed) n.run r _ refl q) less kept.first;
    }
  where
    n : Reading
    n = read_of s

    live : is_live n r ≡ true
    live = grind (arith, common_steps, follows)

    wrote : has_written n r d ≡ true
    wrote = grind (arith, common_steps, follows)

-- by its device, which comes home
pub undo_may : (s : Configuration) (r d m : ℕ) (drove : Bool) → may_follow s.setting (read_of s) (Undid (run_no r) (device_no d) drove) ≡ true → (read_of s).moment ≤ m → ServesStrict s.setting → HistoryIsKept s → MayAdd s (Undid (run_no r) (device_no d) drove) m (put s.grips d None)
undo_may s r d m drove follows later served kept = undone_may s (put s.grips d None) r d m drove (less_one s.grips d) follows later served kept

-- with no call of its device: the write is dropped
pub drop_may : (s : Configuration) (r d m : ℕ) → may_follow s.setting (read_of s) (Undid (run_no r) (device_no d) false) ≡ true → (read_of s).moment ≤ m → ServesStrict s.setting → HistoryIsKept s → MayAdd s (Undid (run_no r) (device_no d) false) m s.grips
drop_may s r d m follows later served kept = undone_may s s.grips r d m false (same_grips s.grips) follows later served kept

-- A run aborts

pub aborted_may : (s : Configuration) (r m : ℕ) (cause : Cause) → may_follow s.setting (read_of s) (Ended (run_no r) (Aborted cause)) ≡ true → (read_of s).moment ≤ m → HistoryIsKept s → MayAdd s (Ended (run_no r) (Aborted cause)) m s.grips
aborted_may s r m cause follows later kept =
    record {
      follows = follows;
      clean = refl;
      justified = refl;
      scheduled = tt;
      isolated = λ strict. refl;
      unrevoked = λ first_come. refl;
      moment = later;
      in_order = λ first_come. same_order n next (without r n.line) (λ q. put_keeps stamp_in n.run r _ refl q) ∙ order_without n r n.line (kept.in_order first_come);
      followed = followed_step s.setting n (Ended (run_no r) (Aborted cause)) refl kept.followed;
      in_turn = aborted_turn s.setting n s.grips r cause kept.in_turn;
      first = first_less n next s.grips s.grips (λ q. put_keeps (λ o. o.answered_doomed) n.run r _ refl q) (same_grips s.grips) kept.first;
    }
  where
    n : Reading
    n = read_of s

    next : Reading
    next = entry s.setting n (Ended (run_no r) (Aborted cause))
