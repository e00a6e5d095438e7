-- What the calls of a lineage table ask for, where a command that was out is answered.
use Rattle.window_order.proofs.Prelude.{Access, Acquired, Back, Bool, Commands, CutAt, Failed, Free, Grips, IsWaiting, Item, LineageIsKept, LineageState, List, OrderIsKept, Ran, Reading, Reads, Released, Scheduled, Setting, Some, Status, Usage, WalkHolds, Writes, [], access_read, accesses_along, ap, arith, asks_on, commands_of, commits_write, common_steps, did, entries, eq-eqb, eqb-true, false, grips_command, held_by, holds_command, if◌then◌else◌, is_acquired, is_device, is_doomed, is_live, is_open, is_ran, is_some, is_touched, list_any, list_any-append, next_of, not, of_run, open_runs_are_last, opens, or_parts, or_right, pends, point, refl, run_no, run_state, some_acquired, stand_at, status_at, status_by_answers, status_of, subst, sym, touches, true, usage, uses, walk_start, window_of, ℕ, ◌&&◌, ◌++◌, ◌==◌, ◌||◌, ◌∙◌, ◌∷◌, ◌≡◌}
use Rattle.device_order.proofs.Cited.{cut as use_cut}
use Rattle.device_order.specs.Walks.{GripFits as HoldsFit}
use Rattle.device_order.specs.declared.records.HeldGrip.TheVariants.{Undoes as ToUndo}
use Rattle.device_order.specs.declared.records.HeldGrip.{HeldGrip}
use Rattle.window_order.proofs.AccessLists.{along_none, front_accesses, front_none}
use Rattle.window_order.proofs.AnsweredTables.{TouchesNow, accesses_around, never_passed, none_in_front, pending_touches, works_now}
use Rattle.window_order.proofs.Firsts.{below_home, device_order_at, unseen_behind}
use Rattle.window_order.proofs.GripWords.{other_command, own_command, own_undo}
use Rattle.window_order.proofs.PassedTables.{unacquired_before}
use Rattle.window_order.proofs.PromisedClauses.{open_runs_last}
use Rattle.window_order.proofs.PromisedWords.{command_held}
use Rattle.window_order.proofs.ReadFacts.{IsRead}
use Rattle.window_order.proofs.Representing.{gripped_pends}
use Rattle.window_order.proofs.Runs.{both, three}

-- The order of the runs around a command that is out

-- no run before one that has touched the device is open there
pub closed_before : (w : Setting) (n : Reading) (g : Grips) (d : ℕ) (front back : List Item) (i : Item) → is_touched n g d i ≡ true → open_runs_are_last (point w n g) d (front ++ i ∷ back) ≡ true → (x : ℕ) → list_any (is_ran x) front ≡ true → is_open w n x d ≡ false
closed_before w n g d [] back i touched last x there = absurd (cc)
closed_before w n g d (Ran q ∷ front) back i touched last x there = at_ (closed_before w n g d front back i touched rest.1 x) (q.0 == x) refl there
  where
    rest : ((not (opens w n d (Ran q)) || not (list_any (is_touched n g d) (front ++ i ∷ back))) ≡ true) × (open_runs_are_last (point w n g) d (front ++ i ∷ back) ≡ true)
    rest = both (not (opens w n d (Ran q)) || not (list_any (is_touched n g d) (front ++ i ∷ back))) (open_runs_are_last (point w n g) d (front ++ i ∷ back)) last

    some : (a b c : Bool) → b ≡ true → (a || (b || c)) ≡ true
    some a b c h = grind (arith, common_steps)

    any : list_any (is_touched n g d) (front ++ i ∷ back) ≡ true
    any = list_any-append (is_touched n g d) front (i ∷ back) ∙ some (list_any (is_touched n g d) front) (is_touched n g d i) (list_any (is_touched n g d) back) touched

    shut : (a b : Bool) → b ≡ true → (not a || not b) ≡ true → a ≡ false
    shut a b h k = grind (arith, common_steps)

    at_ : (list_any (is_ran x) front ≡ true → is_open w n x d ≡ false) → (b : Bool) → (q.0 == x) ≡ b → (b || list_any (is_ran x) front) ≡ true → is_open w n x d ≡ false
    at_ ih true e h = sym (ap (λ y. is_open w n y d) (eqb-true q.0 x e)) ∙ shut (is_open w n q.0 d) (list_any (is_touched n g d) (front ++ i ∷ back)) any rest.0
    at_ ih false e h = ih h
closed_before w n g d (Failed e k ∷ front) back i touched last x there = closed_before w n g d front back i touched (both (not false || not (list_any (is_touched n g d) (front ++ i ∷ back))) (open_runs_are_last (point w n g) d (front ++ i ∷ back)) last).1 x there
closed_before w n g d (Back e k ∷ front) back i touched last x there = closed_before w n g d front back i touched (both (not false || not (list_any (is_touched n g d) (front ++ i ∷ back))) (open_runs_are_last (point w n g) d (front ++ i ∷ back)) last).1 x there

-- a run that holds the grip for a command is not undone
command_kept : (u : Usage) → holds_command u.grip ≡ true → HoldsFit u.grip u → u.undid ≡ false
command_kept u command fits = at_ u.grip command fits
  where
    at_ : (g : HeldGrip) → holds_command g ≡ true → HoldsFit g u → u.undid ≡ false
    at_ Free h k = absurd (cc)
    at_ Reads h k = k.1
    at_ Writes h k = k.1
    at_ (ToUndo v) h k = absurd (cc)

-- while the run's command is out on the device, it is the run's turn there
pub touches_now : (w : Setting) (n : Reading) (g : Grips) (held : ℕ → ℕ) (d r k : ℕ) (cut : CutAt r n.line) → IsRead w n → OrderIsKept (point w n g) held → g d ≡ Some (record { maker = r; purpose = Commands k }) → TouchesNow w n g d r cut
touches_now w n g held d r k cut read order at = record {
  live = live;
  pending = pending;
  acts = or_right (not (is_doomed n r)) (grips_command g r d) gripped;
  undoes_none = own_undo g d r (Commands k) at;
  alone = λ q ne. other_command g d r q (Commands k) at ne;
  kept =
      command_kept (usage w.kinds (run_state (point w n g) r) d) command
      (use_cut (walk_start (stand_at w.first d).up (stand_at w.first d).value) (entries w.kinds (window_of (point w n g) held).states d cut.front)
      (usage w.kinds (run_state (point w n g) r) d) (entries w.kinds (window_of (point w n g) held).states d cut.back)
      (subst (WalkHolds (walk_start (stand_at w.first d).up (stand_at w.first d).value)) (device_order_at w n g held d r cut used) (order.window.devices d (below_home w d device)).walk)).fits.grip;
  front = λ x there lives sound. no_more (is_live n x) (is_doomed n x) (pends w n x d) lives sound (closed_before w n g d cut.front cut.back (Ran (run_no r)) touched along x there);
  back = unseen_behind w n g held d r cut read order device used command;
}
  where
    along : open_runs_are_last (point w n g) d (cut.front ++ Ran (run_no r) ∷ cut.back) ≡ true
    along = ap (open_runs_are_last (point w n g) d) (sym cut.at) ∙ open_runs_last w n g held d read order

    device : is_device w d ≡ true
    device = order.grips.homed d (ap is_some at)

    live : is_live n r ≡ true
    live = (three (is_live n r) (asks_on w n r d) (k == next_of n r) (order.grips.runs.commands d r k at)).0

    gripped : grips_command g r d ≡ true
    gripped = own_command g d r (Commands k) at

    command : holds_command (held_by w r (g d)) ≡ true
    command = command_held w g r d ∙ gripped

    pending : pends w n r d ≡ true
    pending = gripped_pends w n g r d order.grips gripped

    used : touches w.runs r d ≡ true
    used = pending_touches d (commands_of w.runs r) (next_of n r) pending

    touched : is_touched n g d (Ran (run_no r)) ≡ true
    touched = or_right (did n r d) (grips_command g r d) gripped

    no_more : (a b c : Bool) → a ≡ true → b ≡ false → (a && not b && c) ≡ false → c ≡ false
    no_more a b c h k e = grind (arith, common_steps)

-- The run's access

-- how the access stands
pub status_there : (w : Setting) (n : Reading) (g : Grips) (d r : ℕ) (cut : CutAt r n.line) (s : LineageState) → IsRead w n → TouchesNow w n g d r cut → LineageIsKept (point w n g) d s → status_of r s.accesses ≡ Some (if did n r d then Acquired else Scheduled)
status_there w n g d r cut s read now kept =
    ap (status_of r) (kept.accesses ∙ accesses_around w n g kept.passed d r cut read now)
    ∙ status_at r (front_accesses (uses w n d) (commits_write n d) (access_read (point w n g) kept.passed d) false cut.front) (access_read (point w n g) kept.passed d r)
    (accesses_along (uses w n d) (commits_write n d) (access_read (point w n g) kept.passed d) cut.back) (none_in_front w n g kept.passed d r cut) (eq-eqb r r refl)
    ∙ (λ i. Some (if never_passed n g d r kept.passed kept.may_pass now.acts i then Released else (if did n r d then (if works_now w n g d r cut now i then Acquired else Released) else Scheduled)))

-- a run that stands among these has no answer where none of them has
pub found : (n : Reading) (d x : ℕ) (is : List Item) → list_any (of_run (λ q. did n q d)) is ≡ false → list_any (is_ran x) is ≡ true → did n x d ≡ false
found n d x [] none there = absurd (cc)
found n d x (Ran q ∷ is) none there = at_ (found n d x is) (q.0 == x) refl none there
  where
    at_ : (list_any (of_run (λ y. did n y d)) is ≡ false → list_any (is_ran x) is ≡ true → did n x d ≡ false) → (b : Bool) → (q.0 == x) ≡ b → (did n q.0 d || list_any (of_run (λ y. did n y d)) is) ≡ false → (b || list_any (is_ran x) is) ≡ true → did n x d ≡ false
    at_ ih true e h k = sym (ap (λ y. did n y d) (eqb-true q.0 x e)) ∙ (or_parts (did n q.0 d) (list_any (of_run (λ y. did n y d)) is) h).0
    at_ ih false e h k = ih (or_parts (did n q.0 d) (list_any (of_run (λ y. did n y d)) is) h).1 k
found n d x (Failed e k ∷ is) none there = found n d x is none there
found n d x (Back e k ∷ is) none there = found n d x is none there

-- before its first answer on the device the run's access waits: none is acquired
pub waits_there : (w : Setting) (n : Reading) (g : Grips) (d r : ℕ) (cut : CutAt r n.line) (s : LineageState) → IsRead w n → TouchesNow w n g d r cut → did n r d ≡ false → LineageIsKept (point w n g) d s → IsWaiting r s
waits_there w n g d r cut s read now none kept = record {
  scheduled = scheduled;
  none_acquired =
      ap some_acquired around ∙ list_any-append (λ (x : Access). is_acquired x.status) front (access_read (point w n g) kept.passed d r ∷ back)
      ∙ (λ i. none_front i || (is_acquired (if never_passed n g d r kept.passed kept.may_pass now.acts i then Released else (if none i then (if (not (is_doomed n r) && pends w n r d) || grips_command g r d then Acquired else Released) else Scheduled)) || none_back i));
}
  where
    front : List Access
    front = front_accesses (uses w n d) (commits_write n d) (access_read (point w n g) kept.passed d) false cut.front

    back : List Access
    back = accesses_along (uses w n d) (commits_write n d) (access_read (point w n g) kept.passed d) cut.back

    around : s.accesses ≡ front ++ access_read (point w n g) kept.passed d r ∷ back
    around = kept.accesses ∙ accesses_around w n g kept.passed d r cut read now

    scheduled : status_of r s.accesses ≡ Some Scheduled
    scheduled = status_there w n g d r cut s read now kept ∙ (λ i. Some (if none i then Acquired else Scheduled))

    lives : (a b c : Bool) → (a && b && not c) ≡ true → a ≡ true
    lives a b c h = grind (arith, common_steps)

    unacquired : (p : Bool) (status : Status) → is_acquired status ≡ false → is_acquired (if p then Released else status) ≡ false
    unacquired true status h = refl
    unacquired false status h = h

    none_front : list_any (λ (x : Access). is_acquired x.status) front ≡ false
    none_front = front_none (uses w n d) (commits_write n d) (access_read (point w n g) kept.passed d) false (λ (x : Access). is_acquired x.status) cut.front (λ x there used. unacquired (kept.passed x) (status_by_answers (point w n g) x d)
        (unacquired_before w n g d r cut now x there (lives (is_live n x) (touches w.runs x d) (touches w.runs x d && not (pends w n x d) && not (did n x d)) used)))

    none_back : list_any (λ (x : Access). is_acquired x.status) back ≡ false
    none_back = along_none (uses w n d) (commits_write n d) (access_read (point w n g) kept.passed d) (λ (x : Access). is_acquired x.status) cut.back (λ x there used. unacquired (kept.passed x) (status_by_answers (point w n g) x d)
        (λ i. is_acquired (if found n d x cut.back now.back there i then (if (not (is_doomed n x) && pends w n x d) || grips_command g x d then Acquired else Released) else Scheduled)))
