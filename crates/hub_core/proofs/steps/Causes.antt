-- The answers of a run's step are clean, and its dooms show their causes.
use Rattle.hub_core.proofs.Prelude.{Answer, Bool, Choice, Command, Did, Doomed, Down, DownAtEnd, Each, Fine, Found, Grip, Grips, IsTrue, List, Moves, MustDown, None, Option, Point, Reading, Scheduler, Setting, Skipped, Some, Visibility, [], abort_is_justified, along, answers_down, ap, arith, command_at, commands_of, common_steps, cond, decide, device_no, device_numbers, devices_of, did, down_at_end, down_entries, each_filter, entry, equals_some, false, find, free, grip_wait, grips_command, has_answer, has_grip, has_touched, if◌then◌else◌, is_command, is_none, is_strict, is_weak, length, live_before, next_command, next_of, no_grips, none_fails, not, option_map, point, put_same, refl, run_no, same_answer, sees_down, shares, slice_get, strict_wait, sym, touches, true, unwrap_or, weakly_allowed, ℕ, ◌&&◌, ◌++◌, ◌==◌, ◌||◌, ◌∙◌, ◌∷◌, ◌≡◌}
use Rattle.home_types.specs.declared.modes.Visibility.TheVariants.{Eventual, Global, Partitioned, Weak}
use Rattle.hub_core.proofs.steps.Choices.{decide_is}
use Rattle.hub_core.proofs.steps.Revoked.{revocation_is_shown}
use Rattle.hub_core.proofs.steps.Takes.{command_is, made_by}
use Rattle.legal_days.specs.CleanReads.{answer_is_clean, entry_is_clean}

-- Answers

-- the run's last answer
pub answered_last : (w : Setting) (n : Reading) (r : ℕ) (a : Answer) → has_answer (entry w n (Did (run_no r) (next_of n r) a)) r (next_of n r) a ≡ true
answered_last w n r a = ap (λ xs. unwrap_or (option_map (same_answer a) (slice_get xs (next_of n r))) false) (answers_now r) ∙ ap (λ o. unwrap_or (option_map (same_answer a) o) false) (get_last (n.run r).answers) ∙ same_self a
  where
    answers_now : (q : ℕ) → ((entry w n (Did (run_no q) (next_of n q) a)).run q).answers ≡ (n.run q).answers ++ a ∷ []
    answers_now q = ap (λ o. o.answers) (put_same n.run q _)

    get_last : (xs : List Answer) → slice_get (xs ++ a ∷ []) (length xs) ≡ Some a
    get_last [] = refl
    get_last (x ∷ xs) = get_last xs

    same_self : (b : Answer) → same_answer b b ≡ true
    same_self Fine = refl
    same_self (Found x) = grind (arith, common_steps)
    same_self Down = refl
    same_self Skipped = refl

-- Grips

-- with no grip of the run out, what it has touched is told by its answers
no_grip : (g : Grips) (r : ℕ) (ds : List ℕ) → find (has_grip g r) ds ≡ None → Each (λ d. has_grip g r d ≡ false) ds
no_grip g r [] e = tt
no_grip g r (d ∷ ds) e = elim (has_grip g r d) as (λ b. has_grip g r d ≡ b → cond b (Some d) (find (has_grip g r) ds) ≡ None → Each (λ x. has_grip g r x ≡ false) (d ∷ ds)) [
  | true ↦ (λ h f. absurd (cc))
  | false ↦ (λ h f. (h, no_grip g r ds f))
] refl e

no_command_grip : (g : Grips) (r d : ℕ) → has_grip g r d ≡ false → grips_command g r d ≡ false
no_command_grip g r d none = by_grip (g d) none
  where
    by_grip : (o : Option Grip) → unwrap_or (option_map (λ p. p.maker == r) o) false ≡ false → unwrap_or (option_map (λ p. (p.maker == r) && is_command p.purpose) o) false ≡ false
    by_grip None e = refl
    by_grip (Some p) e = grind (arith, common_steps)

find_each : {A : Type 0} (p q : A → Bool) (xs : List A) → Each (λ x. p x ≡ q x) xs → find p xs ≡ find q xs
find_each p q [] same = refl
find_each p q (x ∷ xs) same = rw (same.0, find_each p q xs same.1) refl

pub each_is : {A : Type 0} (P Q : A → Type 0) (xs : List A) → ((x : A) → P x → Q x) → Each P xs → Each Q xs
each_is P Q [] step all = tt
each_is P Q (x ∷ xs) step all = (step x all.0, each_is P Q xs step all.1)

end_without_grips : (w : Setting) (n : Reading) (g : Grips) (r : ℕ) → grip_wait w g r ≡ None → down_at_end (point w n g) r ≡ down_at_end (point w n no_grips) r
end_without_grips w n g r free =
    ap (λ o. if is_strict w.mode then o else None)
    (find_each (λ d. has_touched n g r d && not (n.up d)) (λ d. has_touched n no_grips r d && not (n.up d)) (devices_of w r)
    (each_is (λ d. (has_grip g r d ≡ false) × (touches w.runs r d ≡ true)) (λ d. (has_touched n g r d && not (n.up d)) ≡ (has_touched n no_grips r d && not (n.up d))) (devices_of w r)
    (λ d none. ap (λ b. (did n r d || b) && not (n.up d)) (no_command_grip g r d none.0)) (each_filter (λ d. has_grip g r d ≡ false) (touches w.runs r) (device_numbers w) (no_grip g r (device_numbers w) free))))

-- The step

abbrev pub Shows : Setting → Reading → Choice → Type 0
Shows w n c = IsTrue (along w (abort_is_justified w) n (made_by c))

abbrev pub IsClean : Setting → Reading → Choice → Type 0
IsClean w n c = IsTrue (along w (entry_is_clean w) n (made_by c))

pub and_is : {a b : Bool} → a ≡ true → b ≡ true → (a && b) ≡ true
and_is p q = rw (p, q) refl

pub and_three : {a b c : Bool} → a ≡ true → b ≡ true → c ≡ true → (a && b && c) ≡ true
and_three p q r = rw (p, q, r) refl

down_shows : (w : Setting) (n : Reading) (r : ℕ) (c : Command) → next_command w n r ≡ Some c → Shows w n (Moves (down_entries r (next_of n r) c))
down_shows w n r c next = elim c.must as (λ b. c.must ≡ b → IsTrue (along w (abort_is_justified w) n (Did (run_no r) (next_of n r) Down ∷ (if b then Doomed (run_no r) (MustDown (next_of n r)) ∷ [] else [])))) [
  | true ↦ (λ must. and_is (and_is (ap (λ x. x.must) (command_is w n r c next) ∙ must) (answered_last w n r Down)) refl)
  | false ↦ (λ free. refl)
] refl

end_shows : (w : Setting) (n : Reading) (g : Grips) (r d : ℕ) → grip_wait w g r ≡ None → next_command w n r ≡ None → down_at_end (point w n g) r ≡ Some d → Shows w n (Moves (Doomed (run_no r) (DownAtEnd (device_no d)) ∷ []))
end_shows w n g r d free none at = and_is (and_is (ap is_none none) (ap (λ o. equals_some o d) (sym (end_without_grips w n g r free) ∙ at) ∙ grind (arith, common_steps))) refl

-- but for the weak model, each doom that a run's step makes is justified
pub take_shows : (p : Point) (r m : ℕ) → is_weak p.setting.mode ≡ false → Shows p.setting p.reading (decide p r m)
take_shows p r m strong =
    decide_is (Shows p.setting p.reading) p.setting p.reading p.grips r m (record {
      absent = λ none. refl;
      over = λ e at. refl;
      waits = λ why. refl;
      arrives = λ run none. refl;
      enters = λ s enters. refl;
      aborted = λ cause act doomed over. refl;
      drops = λ cause d undoing down. refl;
      undoes = λ cause d undoing up. refl;
      revokes = λ c x run e at. and_is (revocation_is_shown p r m x c run.act.live run.next run.guard at) refl;
      skips = λ c skip. refl;
      downs = λ c run next home down. down_shows p.setting p.reading r c run.next;
      goes = λ c run next home up. refl;
      fails_at_end = λ d all at. end_shows p.setting p.reading p.grips r d all.act.free all.none at;
      commits = λ all up. refl;
    })

down_is_clean : (w : Setting) (n : Reading) (r : ℕ) (c : Command) → is_weak w.mode ≡ false → next_command w n r ≡ Some c → answers_down w n r c.device.0 ≡ true → IsClean w n (Moves (down_entries r (next_of n r) c))
down_is_clean w n r c strong next down = elim c.must as (λ b. IsTrue (along w (entry_is_clean w) n (Did (run_no r) (next_of n r) Down ∷ (if b then Doomed (run_no r) (MustDown (next_of n r)) ∷ [] else [])))) [
  | true ↦ and_is clean refl
  | false ↦ and_is clean refl
]
  where
    clean : answer_is_clean w n r (command_at w.runs r (next_of n r)).device.0 Down ≡ true
    clean = ap (λ x. not (n.up x.device.0) || sees_down n r x.device.0) (command_is w n r c next) ∙ either (n.up c.device.0) (sees_down n r c.device.0) (is_weak w.mode) strong down
      where
        either : (up sees weak : Bool) → weak ≡ false → ((not weak && sees) || not up) ≡ true → (not up || sees) ≡ true
        either up sees weak s d = grind (arith, common_steps)

-- and each answer that it makes is clean
pub take_is_clean : (p : Point) (r m : ℕ) → is_weak p.setting.mode ≡ false → IsClean p.setting p.reading (decide p r m)
take_is_clean p r m strong =
    decide_is (IsClean p.setting p.reading) p.setting p.reading p.grips r m (record {
      absent = λ none. refl;
      over = λ e at. refl;
      waits = λ why. refl;
      arrives = λ run none. refl;
      enters = λ s enters. refl;
      aborted = λ cause act doomed over. refl;
      drops = λ cause d undoing down. refl;
      undoes = λ cause d undoing up. refl;
      revokes = λ c x run e at. refl;
      skips = λ c skip. refl;
      downs = λ c run next home down. down_is_clean p.setting p.reading r c strong run.next down;
      goes = λ c run next home up. refl;
      fails_at_end = λ d all at. refl;
      commits = λ all up. refl;
    })

-- under the weak model each entry of it is allowed

weakly_down : (w : Setting) (n : Reading) (r : ℕ) (c : Command) → is_weak w.mode ≡ true → next_command w n r ≡ Some c → answers_down w n r c.device.0 ≡ true → IsTrue (along w (weakly_allowed w) n (down_entries r (next_of n r) c))
weakly_down w n r c weak next down = elim c.must as (λ b. c.must ≡ b → IsTrue (along w (weakly_allowed w) n (Did (run_no r) (next_of n r) Down ∷ (if b then Doomed (run_no r) (MustDown (next_of n r)) ∷ [] else [])))) [
  | true ↦ (λ must. and_is down_there (and_is (and_is (ap (λ x. x.must) (command_is w n r c next) ∙ must) (answered_last w n r Down)) refl))
  | false ↦ (λ free. and_is down_there refl)
] refl
  where
    down_there : not (n.up (command_at w.runs r (next_of n r)).device.0) ≡ true
    down_there = ap (λ x. not (n.up x.device.0)) (command_is w n r c next) ∙ either (n.up c.device.0) (sees_down n r c.device.0) (is_weak w.mode) weak down
      where
        either : (up sees is : Bool) → is ≡ true → ((not is && sees) || not up) ≡ true → not up ≡ true
        either up sees is s d = grind (arith, common_steps)

weak_is_not_strict : (v : Visibility) (s : Scheduler) → is_weak (record { model = v; scheduler = s }) ≡ true → is_strict (record { model = v; scheduler = s }) ≡ false
weak_is_not_strict Weak s e = refl
weak_is_not_strict Global s e = absurd (cc)
weak_is_not_strict Partitioned s e = absurd (cc)
weak_is_not_strict Eventual s e = absurd (cc)

-- no run of it fails at its end for a device that is down
pub never_down_at_end : (p : Point) (r : ℕ) → is_weak p.setting.mode ≡ true → down_at_end p r ≡ None
never_down_at_end p r weak = ap (λ b. if b then find (λ e. has_touched p.reading p.grips r e && not (p.reading.up e)) (devices_of p.setting r) else None) (weak_is_not_strict p.setting.mode.model p.setting.mode.scheduler weak)

-- nor waits for one by the model
pub never_strict : (w : Setting) (n : Reading) (r : ℕ) → is_weak w.mode ≡ true → strict_wait w n r ≡ None
never_strict w n r weak = by_weak w.mode.model w.mode.scheduler weak
  where
    by_model : Visibility → Option ℕ
    by_model Weak = None
    by_model Global = find (λ x. true) (live_before n r)
    by_model Partitioned = find (λ x. shares w.runs x r) (live_before n r)
    by_model Eventual = None

    by_weak : (v : Visibility) (s : Scheduler) → is_weak (record { model = v; scheduler = s }) ≡ true → by_model v ≡ None
    by_weak Weak s e = refl
    by_weak Global s e = absurd (cc)
    by_weak Partitioned s e = absurd (cc)
    by_weak Eventual s e = refl

abbrev pub IsAllowed : Setting → Reading → Choice → Type 0
IsAllowed w n c = IsTrue (along w (weakly_allowed w) n (made_by c))

-- where no command of the run has failed, if it is not doomed
pub take_is_allowed : (p : Point) (r m : ℕ) → is_weak p.setting.mode ≡ true → ((p.reading.run r).doomed ≡ None → none_fails (commands_of p.setting.runs r) (p.reading.run r).answers ≡ true) → IsAllowed p.setting p.reading (decide p r m)
take_is_allowed p r m weak passes =
    decide_is (IsAllowed p.setting p.reading) p.setting p.reading p.grips r m (record {
      absent = λ none. refl;
      over = λ e at. refl;
      waits = λ why. refl;
      arrives = λ run none. refl;
      enters = λ s enters. refl;
      aborted = λ cause act doomed over. refl;
      drops = λ cause d undoing down. refl;
      undoes = λ cause d undoing up. refl;
      revokes = λ c x run strong at. absurd (let both' : true ≡ false = sym weak ∙ strong in cc);
      skips = λ c skip. refl;
      downs = λ c run next home down. weakly_down p.setting p.reading r c weak run.next down;
      goes = λ c run next home up. refl;
      fails_at_end = λ d all at. absurd (let both' : None ≡ Some d = sym (never_down_at_end p r weak) ∙ at in cc);
      commits = λ all up. and_is (passes all.sound) refl;
    })
