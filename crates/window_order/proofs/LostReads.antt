-- The run that is lost where a device fails, and the run before which its event stands, read off the device's lineage.
use Rattle.window_order.proofs.Prelude.{Access, Acquired, Back, Bool, CutAt, Down, Failed, Grips, Item, Lacks, LineageIsKept, LineageState, List, None, Option, OrderIsKept, Ran, Reading, Released, RunsAreDistinct, Scheduled, Setting, Some, [], access_read, accesses_along, and_parts, ap, arith, commands_of, commits_write, common_steps, cond, cons_option, did, eq-eqb, false, find, grips_command, if◌then◌else◌, is_acquired, is_device, is_doomed, is_live, is_open, is_ran, is_scheduled, is_some, is_up, is_weak, list_any, live_runs, lost_by, may_be_passed, next_of, not, of_run, option_map, or_left, pends, point, refl, run_no, run_state, sees_up, stage_is_open, stage_of, status_by_answers, subst, sym, touches, true, unwrap_or, usage, uses, uses_device, view_of, view_when, ℕ, ◌&&◌, ◌++◌, ◌==◌, ◌||◌, ◌∙◌, ◌∷◌, ◌≡◌}
use Rattle.window_order.proofs.AccessLists.{distinct_parts}
use Rattle.window_order.proofs.AnsweredTables.{none_commits, pending_touches, uses_now}
use Rattle.window_order.proofs.EventPlaces.{awaits_there}
use Rattle.window_order.proofs.Goes.{open_behind}
use Rattle.window_order.proofs.ReadFacts.{IsRead, rest_drop, runs_distinct}
use Rattle.window_order.proofs.Runs.{live_uncommitted}
use Rattle.window_order.specs.LostRuns.{first_waiting_run, is_access_waiting, is_lost_access, lost_on}

-- the run is live and not doomed, sees the device up, and has more to do there
abbrev spans_there : Setting → Reading → ℕ → ℕ → Bool
spans_there w n d r = is_open w n r d && sees_up n r d

-- of a run that uses the device its access says so too
lost_same : (w : Setting) (n : Reading) (g : Grips) (passed : ℕ → Bool) (d r : ℕ) → ((q : ℕ) → passed q ≡ true → may_be_passed n g q d ≡ true) → grips_command g r d ≡ false → uses w n d r ≡ true → is_lost_access (access_read (point w n g) passed d r) ≡ spans_there w n d r
lost_same w n g passed d r may free used = by_passed (passed r) refl
  where
    lives : (l t x : Bool) → (l && t && x) ≡ true → l ≡ true
    lives l t x h = grind (arith, common_steps)

    doomed_off : (l x p u y : Bool) → (x && y) ≡ true → false ≡ ((l && not x && p) && u)
    doomed_off l x p u y h = grind (arith, common_steps)

    counted : (l x p u c : Bool) → l ≡ true → c ≡ false → (((not x && p) || c) && u) ≡ ((l && not x && p) && u)
    counted l x p u c h k = grind (arith, common_steps)

    by_view : (v : Option Bool) (k : Bool) → (is_acquired (if is_some v then (if k then Acquired else Released) else Scheduled) && is_up (option_map view_when v)) ≡ (k && unwrap_or v false)
    by_view None true = refl
    by_view None false = refl
    by_view (Some true) true = refl
    by_view (Some true) false = refl
    by_view (Some false) true = refl
    by_view (Some false) false = refl

    by_passed : (b : Bool) → passed r ≡ b → (is_acquired (if b then Released else status_by_answers (point w n g) r d) && is_up (if b then Some Down else option_map view_when (view_of n r d))) ≡ spans_there w n d r
    by_passed true e = doomed_off (is_live n r) (is_doomed n r) (pends w n r d) (sees_up n r d) _ (may r e)
    by_passed false e =
        by_view (view_of n r d) ((not (is_doomed n r) && pends w n r d) || grips_command g r d)
        ∙ counted (is_live n r) (is_doomed n r) (pends w n r d) (sees_up n r d) (grips_command g r d) (lives (is_live n r) (touches w.runs r d) _ used) free

-- the first run of a part of the line of which a test holds, and the first access of which another does, where they say the same of each run that uses the device
first_along : (w : Setting) (n : Reading) (d : ℕ) (p : ℕ → Bool) (access : ℕ → Access) (test : Access → Bool) (is : List Item) → ((r : ℕ) → (access r).run.0 ≡ r) → ((r : ℕ) → uses w n d r ≡ true → test (access r) ≡ p r) → ((r : ℕ) → p r ≡ true → (is_live n r ≡ true) × (uses w n d r ≡ true))
    → ((front back : List Item) (r : ℕ) → is ≡ front ++ Ran (run_no r) ∷ back → p r ≡ true → list_any (of_run (commits_write n d)) back ≡ false)
    → find p (live_runs n is) ≡ option_map (λ (x : Access). x.run.0) (find test (accesses_along (uses w n d) (commits_write n d) access is))
first_along w n d p access test [] own same acts clear = refl
first_along w n d p access test (Failed e k ∷ is) own same acts clear = first_along w n d p access test is own same acts (λ front back r at h. clear (Failed e k ∷ front) back r (ap (λ l. Failed e k ∷ l) at) h)
first_along w n d p access test (Back e k ∷ is) own same acts clear = first_along w n d p access test is own same acts (λ front back r at h. clear (Back e k ∷ front) back r (ap (λ l. Back e k ∷ l) at) h)
first_along w n d p access test (Ran q ∷ is) own same acts clear = by_test (first_along w n d p access test is own same acts (λ front back y at h. clear (Ran q ∷ front) back y (ap (λ l. Ran q ∷ l) at) h)) (p q.0) refl
  where
    r : ℕ
    r = q.0

    rest_ : List Access
    rest_ = accesses_along (uses w n d) (commits_write n d) access is

    live_is : (b : Bool) → is_live n r ≡ b → p r ≡ false → find p (cons_option (if b then Some r else None) (live_runs n is)) ≡ find p (live_runs n is)
    live_is true e h = ap (λ b. cond b (Some r) (find p (live_runs n is))) h
    live_is false e h = refl

    none_here : (b c : Bool) → uses w n d r ≡ b → p r ≡ false → find test rest_ ≡ find test (if b && not c then (access r ∷ rest_) else rest_)
    none_here true false used h = sym (ap (λ b. cond b (Some (access r)) (find test rest_)) (same r used ∙ h))
    none_here true true used h = refl
    none_here false c used h = refl

    by_test : find p (live_runs n is) ≡ option_map (λ (x : Access). x.run.0) (find test rest_) → (b : Bool) → p r ≡ b
        → find p (cons_option (if is_live n r then Some r else None) (live_runs n is)) ≡ option_map (λ (x : Access). x.run.0) (find test (if uses w n d r && not (list_any (of_run (commits_write n d)) is) then (access r ∷ rest_) else rest_))
    by_test later false h = live_is (is_live n r) refl h ∙ later ∙ ap (option_map (λ (x : Access). x.run.0)) (none_here (uses w n d r) (list_any (of_run (commits_write n d)) is) refl h)
    by_test later true h =
        let act : (is_live n r ≡ true) × (uses w n d r ≡ true) = acts r h in
        let mine : test (access r) ≡ true = same r act.1 ∙ h in
        (λ i. find p (cons_option (if act.0 i then Some r else None) (live_runs n is))) ∙ ap (λ b. cond b (Some r) (find p (live_runs n is))) h
        ∙ sym ((λ i. option_map (λ (x : Access). x.run.0) (find test (if act.1 i && not (clear [] is r refl h i) then (access r ∷ rest_) else rest_)))
        ∙ ap (λ b. option_map (λ (x : Access). x.run.0) (cond b (Some (access r)) (find test rest_))) mine
        ∙ ap (λ x. Some x) (own r))

-- behind a run that is open there no committed run has written
none_wrote : (w : Setting) (n : Reading) (g : Grips) (held : ℕ → ℕ) (d r : ℕ) (front back : List Item) → IsRead w n → OrderIsKept (point w n g) held → is_device w d ≡ true → n.line ≡ front ++ Ran (run_no r) ∷ back → is_open w n r d ≡ true → list_any (of_run (commits_write n d)) back ≡ false
unfolding RunsAreDistinct
none_wrote w n g held d r front back read kept device at opened = none_commits w n d back read (open_behind w n g held d r cut read kept device (pending_touches d (commands_of w.runs r) (next_of n r) parts.2) (stage parts.0 parts.1 parts.2))
  where
    of : (l x p : Bool) → (l && not x && p) ≡ true → (l ≡ true) × (x ≡ false) × (p ≡ true)
    of l x p h = (grind (arith, common_steps), grind (arith, common_steps), grind (arith, common_steps))

    parts : (is_live n r ≡ true) × (is_doomed n r ≡ false) × (pends w n r d ≡ true)
    parts = of (is_live n r) (is_doomed n r) (pends w n r d) opened

    distinct : RunsAreDistinct (Ran (run_no r) ∷ back) × ((x : ℕ) → list_any (is_ran x) (Ran (run_no r) ∷ back) ≡ true → Lacks x front)
    distinct = distinct_parts front (Ran (run_no r) ∷ back) (subst RunsAreDistinct at (runs_distinct n read.once))

    cut : CutAt r n.line
    cut = record { front = front; back = back; at = at; before = distinct.1 r (or_left (r == r) (list_any (is_ran r) back) (eq-eqb r r refl)); behind = distinct.0.0 }

    stage : is_live n r ≡ true → is_doomed n r ≡ false → pends w n r d ≡ true → stage_is_open (usage w.kinds (run_state (point w n g) r) d).stage ≡ true
    stage live sound left = λ i. stage_is_open (stage_of (live_uncommitted n r live i) (sound i) ((ap (uses_device d) (rest_drop (commands_of w.runs r) (n.run r).answers) ∙ left) i))

-- a run that is open there uses the device
open_uses : (w : Setting) (n : Reading) (d r : ℕ) → IsRead w n → is_open w n r d ≡ true → (is_live n r ≡ true) × (uses w n d r ≡ true)
open_uses w n d r read opened = (lives (is_live n r) (is_doomed n r) (pends w n r d) opened, uses_now w n d r read (lives (is_live n r) (is_doomed n r) (pends w n r d) opened) (left (is_live n r) (is_doomed n r) (pends w n r d) opened))
  where
    lives : (l x p : Bool) → (l && not x && p) ≡ true → l ≡ true
    lives l x p h = grind (arith, common_steps)

    left : (l x p : Bool) → (l && not x && p) ≡ true → p ≡ true
    left l x p h = grind (arith, common_steps)

-- the rule's lost run, read off the lineage of a device that is out for no command
pub lost_read : (w : Setting) (n : Reading) (g : Grips) (held : ℕ → ℕ) (d : ℕ) (s : LineageState) → IsRead w n → is_weak w.mode ≡ false → is_device w d ≡ true → ((q : ℕ) → grips_command g q d ≡ false) → OrderIsKept (point w n g) held → LineageIsKept (point w n g) d s → lost_by w n d ≡ lost_on s
lost_read w n g held d s read strong device free kept own =
    ap (λ b. if b then None else find (spans_there w n d) (live_runs n n.line)) strong
    ∙ first_along w n d (spans_there w n d) (access_read (point w n g) own.passed d) is_lost_access n.line (λ r. refl) (λ r used. lost_same w n g own.passed d r own.may_pass (free r) used) (λ r h. open_uses w n d r read (opens_there r h))
    (λ front back r at h. none_wrote w n g held d r front back read kept device at (opens_there r h))
    ∙ ap (λ xs. option_map (λ (x : Access). x.run.0) (find is_lost_access xs)) (sym own.accesses)
  where
    opens_there : (r : ℕ) → spans_there w n d r ≡ true → is_open w n r d ≡ true
    opens_there r h = (and_parts (is_open w n r d) (sees_up n r d) h).0

-- .. and the run before which its event stands: the first with a scheduled access that is not doomed
pub waiting_read : (w : Setting) (n : Reading) (g : Grips) (held : ℕ → ℕ) (d : ℕ) (s : LineageState) → IsRead w n → is_weak w.mode ≡ false
    → is_device w d ≡ true → OrderIsKept (point w n g) held → LineageIsKept (point w n g) d s
    → find (awaits_there w n d) (live_runs n n.line) ≡ first_waiting_run (is_doomed n) s
waiting_read w n g held d s read strong device kept own =
    first_along w n d (awaits_there w n d) (access_read (point w n g) own.passed d) (is_access_waiting (is_doomed n)) n.line (λ r. refl) (λ r used. same r used (own.passed r) refl) (λ r h. open_uses w n d r read (opens_there r h))
    (λ front back r at h. none_wrote w n g held d r front back read kept device at (opens_there r h))
    ∙ ap (λ xs. option_map (λ (x : Access). x.run.0) (find (is_access_waiting (is_doomed n)) xs)) (sym own.accesses)
  where
    second : (a b c : Bool) → (a && b && c) ≡ true → b ≡ true
    second a b c h = grind (arith, common_steps)

    opens_there : (r : ℕ) → awaits_there w n d r ≡ true → is_open w n r d ≡ true
    opens_there r h = second (not (is_weak w.mode)) (is_open w n r d) (not (did n r d)) h

    doomed_off : (a x b : Bool) (y l p v : Bool) → (x && y) ≡ true → false ≡ (not a && (l && not x && p) && not v)
    doomed_off a x b y l p v h = grind (arith, common_steps)

    unseen : (v k : Bool) → is_scheduled (if v then (if k then Acquired else Released) else Scheduled) ≡ not v
    unseen true true = refl
    unseen true false = refl
    unseen false k = refl

    counted : (a l t x p v : Bool) → a ≡ false → (l && t && not (t && not p && not v)) ≡ true → (not v && not x) ≡ (not a && (l && not x && p) && not v)
    counted a l t x p v h k = grind (arith, common_steps)

    same : (r : ℕ) → uses w n d r ≡ true → (b : Bool) → own.passed r ≡ b → (is_scheduled (if b then Released else status_by_answers (point w n g) r d) && not (is_doomed n r)) ≡ awaits_there w n d r
    same r used true e = doomed_off (is_weak w.mode) (is_doomed n r) true _ (is_live n r) (pends w n r d) (did n r d) (own.may_pass r e)
    same r used false e =
        ap (λ b. b && not (is_doomed n r)) (unseen (did n r d) ((not (is_doomed n r) && pends w n r d) || grips_command g r d))
        ∙ counted (is_weak w.mode) (is_live n r) (touches w.runs r d) (is_doomed n r) (pends w n r d) (did n r d) strong used
