-- Accesses are passed: those of doomed runs before a run that touches the device for the first time.
use Rattle.window_order.proofs.Prelude.{Access, Acquired, Bool, CutAt, Down, Grips, LineageIsKept, LineageState, List, None, Option, Reading, Released, RunsAreDistinct, Scheduled, Setting, Some, Status, View, [], access_read, accesses_along, ap, arith, commits_write, common_steps, did, false, grips_command, has_access, if◌then◌else◌, is_acquired, is_doomed, is_live, is_of, is_ran, is_scheduled, is_undone, list_any, map, may_be_passed, not, option_map, pass_access, passed, pends, planned_end, planned_start, point, refl, run_no, status_by_answers, subst, sym, touches, true, uses, view_of, view_when, with_passed, ℕ, ◌&&◌, ◌++◌, ◌==◌, ◌||◌, ◌∙◌, ◌∷◌, ◌≡◌, ◌≢◌}
use Rattle.window_order.proofs.AccessLists.{along_each, apart, front_accesses, front_each, lacks_none, lacks_ran}
use Rattle.window_order.proofs.AnsweredTables.{TouchesNow, accesses_around, none_in_front}
use Rattle.window_order.proofs.ReadFacts.{IsRead, runs_distinct}

-- A list of accesses

-- those before the run's are passed, and it and those behind it stay
passed_around : (r : ℕ) (a : List Access) (x : Access) (b : List Access) → has_access r a ≡ false → is_of r x ≡ true → with_passed r (a ++ x ∷ b) ≡ map pass_access a ++ x ∷ b
passed_around r [] x b none own = λ i. if own i then (x ∷ b) else (pass_access x ∷ with_passed r b)
passed_around r (y ∷ a) x b none own = (λ i. if first i then (y ∷ (a ++ x ∷ b)) else (pass_access y ∷ with_passed r (a ++ x ∷ b))) ∙ ap (λ ys. pass_access y ∷ ys) (passed_around r a x b rest own)
  where
    neither : (u v : Bool) → (u || v) ≡ false → (u ≡ false) × (v ≡ false)
    neither u v h = (grind (arith, common_steps), grind (arith, common_steps))

    first : is_of r y ≡ false
    first = (neither (is_of r y) (has_access r a) none).0

    rest : has_access r a ≡ false
    rest = (neither (is_of r y) (has_access r a) none).1

-- The runs before one whose command is out

-- a run with an access there, which has no answer, is doomed, and did not touch the device
pub may_pass_before : (w : Setting) (n : Reading) (g : Grips) (d r : ℕ) (cut : CutAt r n.line) → IsRead w n → TouchesNow w n g d r cut → (x : ℕ) → list_any (is_ran x) cut.front ≡ true → uses w n d x ≡ true → did n x d ≡ false → may_be_passed n g x d ≡ true
may_pass_before w n g d r cut read now x there used none = λ i. doomed i && not (none i || unheld i)
  where
    parts : (a b c : Bool) → (a && b && not c) ≡ true → (a ≡ true) × (b ≡ true)
    parts a b c h = (grind (arith, common_steps), grind (arith, common_steps))

    of : (is_live n x ≡ true) × (touches w.runs x d ≡ true)
    of = parts (is_live n x) (touches w.runs x d) (touches w.runs x d && not (pends w n x d) && not (did n x d)) used

    -- it has not passed the device, and has no command left there
    was_there : pends w n x d ≡ false → did n x d ≡ true
    was_there = answered (is_live n x) (touches w.runs x d) (pends w n x d) (did n x d) used
      where
        answered : (l t p y : Bool) → (l && t && not (t && not p && not y)) ≡ true → p ≡ false → y ≡ true
        answered true true p true u e = refl
        answered true true true false u e = absurd (cc)
        answered true true false false u e = absurd (cc)
        answered true false p y u e = absurd (cc)
        answered false t p y u e = absurd (cc)

    clash : (b : Bool) → b ≡ true → b ≡ false → ⊥
    clash b h k = grind (arith, common_steps)

    at_ : (b : Bool) → is_doomed n x ≡ b → b ≡ true
    at_ true e = refl
    at_ false e = absurd (clash (did n x d) (was_there (now.front x there of.0 e)) none)

    doomed : is_doomed n x ≡ true
    doomed = at_ (is_doomed n x) refl

    other : x ≢ r
    other equal = lacks_none r cut.front cut.before x there (sym equal)

    unheld : grips_command g x d ≡ false
    unheld = now.alone x other

-- no access before it is acquired
pub unacquired_before : (w : Setting) (n : Reading) (g : Grips) (d r : ℕ) (cut : CutAt r n.line) → TouchesNow w n g d r cut → (x : ℕ) → list_any (is_ran x) cut.front ≡ true → is_live n x ≡ true → is_acquired (status_by_answers (point w n g) x d) ≡ false
unacquired_before w n g d r cut now x there live = at_ (did n x d) (is_doomed n x) refl
  where
    other : x ≢ r
    other equal = lacks_none r cut.front cut.before x there (sym equal)

    unheld : grips_command g x d ≡ false
    unheld = now.alone x other

    at_ : (a b : Bool) → is_doomed n x ≡ b → is_acquired (if a then (if (not (is_doomed n x) && pends w n x d) || grips_command g x d then Acquired else Released) else Scheduled) ≡ false
    at_ true true e = λ i. is_acquired (if (not (e i) && pends w n x d) || unheld i then Acquired else Released)
    at_ true false e = λ i. is_acquired (if (not (e i) && now.front x there live e i) || unheld i then Acquired else Released)
    at_ false b e = refl

-- They are passed

-- an access that is passed or was
passes : (run : Access) (p m : Bool) (status : Status) (view : Option View) → (m ≡ true → status ≡ Scheduled) → (p ≡ false → m ≡ false → is_scheduled status ≡ false)
    → record run { status = if p || m then Released else status; view = if p || m then Some Down else view } ≡ pass_access (record run { status = if p then Released else status; view = if p then Some Down else view })
passes run true m status view scheduled done = refl
passes run false true status view scheduled done = λ i. if is_scheduled (sym (scheduled refl) i) then record run { status = Released; view = Some Down } else record run { status = status; view = view }
passes run false false status view scheduled done = λ i. if sym (done refl refl) i then record run { status = Released; view = Some Down } else record run { status = status; view = view }

-- the lineage is kept
pub passed_kept : (w : Setting) (n : Reading) (g : Grips) (d r : ℕ) (cut : CutAt r n.line) (s : LineageState) → IsRead w n → TouchesNow w n g d r cut → LineageIsKept (point w n g) d s → LineageIsKept (point w n g) d (passed r s)
passed_kept w n g d r cut s read now kept = record {
  passed = after;
  may_pass = λ x h. may x (kept.passed x) refl h;
  committed = kept.committed;
  accesses =
      ap (with_passed r) (kept.accesses ∙ accesses_around w n g kept.passed d r cut read now)
      ∙ passed_around r (front_accesses (uses w n d) (commits_write n d) before_ false cut.front) (before_ r) (accesses_along (uses w n d) (commits_write n d) before_ cut.back) (none_in_front w n g kept.passed d r cut) (self r)
      ∙ (λ i. front_each (uses w n d) (commits_write n d) before_ then_ false pass_access cut.front front i ++ own i ∷ sym (along_each (uses w n d) (commits_write n d) before_ then_ cut.back back) i)
      ∙ sym (accesses_around w n g after d r cut read now);
  room = kept.room;
  up = kept.up;
}
  where
    self : (x : ℕ) → (x == x) ≡ true
    self x = grind (arith, common_steps)

    now_passed : ℕ → Bool
    now_passed x = list_any (is_ran x) cut.front && may_be_passed n g x d

    after : ℕ → Bool
    after x = kept.passed x || now_passed x

    before_ : ℕ → Access
    before_ = access_read (point w n g) kept.passed d

    then_ : ℕ → Access
    then_ = access_read (point w n g) after d

    second : (a b : Bool) → (a && b) ≡ true → b ≡ true
    second a b h = grind (arith, common_steps)

    may : (x : ℕ) (b : Bool) → kept.passed x ≡ b → (b || now_passed x) ≡ true → may_be_passed n g x d ≡ true
    may x true e h = kept.may_pass x e
    may x false e h = second (list_any (is_ran x) cut.front) (may_be_passed n g x d) h

    -- a run that does not stand in front is passed as before
    same_after : (x : ℕ) → list_any (is_ran x) cut.front ≡ false → then_ x ≡ before_ x
    same_after x none = λ i. record {
      run = run_no x;
      status = if stays i then Released else status_by_answers (point w n g) x d;
      view = if stays i then Some Down else option_map view_when (view_of n x d);
      wrote = if is_undone n g x d then None else ((n.run x).on d).wrote;
      from = planned_start (n.run x).planned d;
      to = planned_end (n.run x).planned d;
    }
      where
        no_more : (a b c : Bool) → b ≡ false → (a || (b && c)) ≡ a
        no_more a b c h = grind (arith, common_steps)

        stays : after x ≡ kept.passed x
        stays = no_more (kept.passed x) (list_any (is_ran x) cut.front) (may_be_passed n g x d) none

    own : before_ r ≡ then_ r
    own = sym (same_after r (lacks_ran r cut.front cut.before))

    back : (x : ℕ) → list_any (is_ran x) cut.back ≡ true → then_ x ≡ before_ x
    back x there = same_after x (apart r cut.front cut.back (subst RunsAreDistinct cut.at (runs_distinct n read.once)) x there)

    front : (x : ℕ) → list_any (is_ran x) cut.front ≡ true → uses w n d x ≡ true → then_ x ≡ pass_access (before_ x)
    front x there used = passes (before_ x) (kept.passed x) (now_passed x) (status_by_answers (point w n g) x d) (option_map view_when (view_of n x d)) scheduled done
      where
        unseen : (a b c : Bool) → (a && not (b || c)) ≡ true → b ≡ false
        unseen a b c h = grind (arith, common_steps)

        scheduled : now_passed x ≡ true → status_by_answers (point w n g) x d ≡ Scheduled
        scheduled h = λ i. if unseen (is_doomed n x) (did n x d) (grips_command g x d) (second (list_any (is_ran x) cut.front) (may_be_passed n g x d) h) i then (if (not (is_doomed n x) && pends w n x d) || grips_command g x d then Acquired else Released) else Scheduled

        clash : (a b : Bool) → a ≡ true → b ≡ true → (a && b) ≡ false → ⊥
        clash a b h k e = grind (arith, common_steps)

        used_up : (b : Bool) → is_scheduled (if b then Acquired else Released) ≡ false
        used_up true = refl
        used_up false = refl

        by_answer : (b : Bool) → did n x d ≡ b → now_passed x ≡ false → is_scheduled (if b then (if (not (is_doomed n x) && pends w n x d) || grips_command g x d then Acquired else Released) else Scheduled) ≡ false
        by_answer true e h = used_up ((not (is_doomed n x) && pends w n x d) || grips_command g x d)
        by_answer false e h = absurd (clash (list_any (is_ran x) cut.front) (may_be_passed n g x d) there (may_pass_before w n g d r cut read now x there used e) h)

        done : kept.passed x ≡ false → now_passed x ≡ false → is_scheduled (status_by_answers (point w n g) x d) ≡ false
        done p h = by_answer (did n x d) refl h
