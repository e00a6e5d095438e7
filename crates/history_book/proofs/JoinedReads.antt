-- A history reads the same, and is as well formed, where a run joins the window that is not told of in it.
use Rattle.history_book.proofs.Prelude.{Aborted, Along, Answer, Arrived, Back, Bool, Cause, Command, Committed, DeviceNo, Did, Doomed, Down, Ended, Entry, Event, Failed, Fell, Fine, First, Found, IsTrue, IsWellFormed, Item, Last, List, OfRun, Placed, Reading, Rose, Run, Setting, Skipped, Undid, [], along, answered, ap, arith, cause_fits, command_at, common_steps, did, driven, drop, entry, false, fold, front_for, if◌then◌else◌, is_access, is_doomed, is_fine, is_live, is_none, is_on, is_run, is_some, is_weak, kind_at, length, list_any, may_follow, more_if, nat_lt, next_of, no_command, not, nothing_read, of_run, planned_times, put, put_before, reading, refl, register_after, slice_index_or, split_of, subst, suits, sym, touches_from, true, with_event, with_joined, with_placed, with_run_told, ℕ, ◌&&◌, ◌++◌, ◌+◌, ◌==◌, ◌||◌, ◌∙◌, ◌∷◌, ◌≡◌}
use Rattle.history_book.proofs.Joined.{own_commands, own_run, same_front, same_open, same_plan, same_split}
use Rattle.history_book.proofs.OwnItems.{is_stray, stray_step}
use Rattle.history_book.proofs.Shapes.{Shaped, shapes, shapes_step}
use Rattle.history_book.specs.declared.entries.Cause.TheVariants.{DownAtEnd, Lost, MustDown, Refuted, Revoked}

-- what is known of a reading along a well-formed history
pub record ReadsOwn (w : Setting) (n : Reading) : Type 0 where
  pub shaped : Shaped w n
  pub none : list_any (is_stray w) n.line ≡ false

pub own_start : (w : Setting) → ReadsOwn w (nothing_read w)
own_start w = record { shaped = shapes w [] refl; none = refl }

pub own_step : (w : Setting) (n : Reading) (e : Entry) → IsTrue (may_follow w n e) → ReadsOwn w n → ReadsOwn w (entry w n e)
own_step w n e ok own = record { shaped = shapes_step w n e ok own.shaped; none = stray_step w n e ok own.none }

first_true : (a b : Bool) → (a && b) ≡ true → a ≡ true
first_true true b e = refl
first_true false b e = e

second_true : (a b : Bool) → (a && b) ≡ true → b ≡ true
second_true true b e = e
second_true false b e = absurd (cc)

-- One entry

same_event : (w : Setting) (q : Run) (n : Reading) (d : DeviceNo) (x : Item) → Shaped w n → with_event (with_joined w q) n d x ≡ with_event w n d x
same_event w q n d x shaped = λ k. put_before (of_run (λ r. not (is_weak w.mode) && same_open w q n shaped r d.0 k && not (did n r d.0))) x n.line

pub same_entry : (w : Setting) (q : Run) (n : Reading) (e : Entry) → IsTrue (may_follow w n e) → ReadsOwn w n → entry (with_joined w q) n e ≡ entry w n e
same_entry w q n (Arrived r m) ok own = refl
same_entry w q n (Placed r at m) ok own =
    let mine : is_run w.runs r.0 ≡ true = grind (arith, common_steps) in
    (λ k. with_placed n r at m (planned_times (with_joined w q) n r.0 (same_front w q n r.0 at m own.shaped own.none mine k) m) (same_split w q n r.0 at m own.shaped own.none mine k))
    ∙ ap (λ planned. with_placed n r at m planned (split_of w n r.0 at m)) (same_plan w q n r.0 (front_for w n r.0 at m) m own.shaped mine)
same_entry w q n (Did r c a) ok own = λ k. with_later (own_later k) (own_command k)
  where
    mine : is_run w.runs r.0 ≡ true
    mine = grind (arith, common_steps)

    own_command : command_at (with_joined w q).runs r.0 c ≡ command_at w.runs r.0 c
    own_command = ap (λ cs. slice_index_or cs c no_command) (own_commands w.runs q r.0 mine)

    own_later : touches_from (with_joined w q).runs r.0 (command_at (with_joined w q).runs r.0 c).device.0 (c + 1) ≡ touches_from w.runs r.0 (command_at w.runs r.0 c).device.0 (c + 1)
    own_later = λ k. list_any (is_on (own_command k).device.0) (drop (c + 1) (own_commands w.runs q r.0 mine k))

    o : OfRun
    o = n.run r.0

    with_later : Bool → Command → Reading
    with_later later x = record (with_run_told n r.0 (record o {
      answers = o.answers ++ a ∷ [];
      register = register_after x.job a o.register;
      answered_doomed = o.answered_doomed || is_some o.doomed;
      on = put o.on x.device.0 (answered (kind_at w.kinds x.device.0) x (is_some o.doomed) o.register a (o.on x.device.0));
    })) {
      last = if is_fine a then put n.last x.device.0 (driven (kind_at w.kinds x.device.0) x.job o.register) else n.last;
      log =
          put n.log x.device.0 (more_if (not later) (Last r.0)
          (more_if (is_access a && is_none (o.on x.device.0).view) (First r.0) (n.log x.device.0)));
    }
same_entry w q n (Undid r d drove) ok own = refl
same_entry w q n (Fell d) ok own = λ k. record n {
  up = put n.up d.0 false;
  line = same_event w q n d (Failed d (n.fell d.0 + 1)) own.shaped k;
  log = put n.log d.0 (n.log d.0 ++ Event (Failed d (n.fell d.0 + 1)) ∷ []);
  size = n.size + 1;
  fell = put n.fell d.0 (n.fell d.0 + 1);
}
same_entry w q n (Rose d) ok own = λ k. record n {
  up = put n.up d.0 true;
  line = same_event w q n d (Back d (n.rose d.0 + 1)) own.shaped k;
  log = put n.log d.0 (n.log d.0 ++ Event (Back d (n.rose d.0 + 1)) ∷ []);
  size = n.size + 1;
  rose = put n.rose d.0 (n.rose d.0 + 1);
}
same_entry w q n (Doomed r cause) ok own = refl
same_entry w q n (Ended r e) ok own = refl

-- A run of the window stays one of it

more_runs : (runs : List Run) (q : Run) (r : ℕ) → is_run runs r ≡ true → is_run (runs ++ q ∷ []) r ≡ true
more_runs runs q r own = ap is_some (own_run runs q r own) ∙ own

pub may_still_follow : (w : Setting) (q : Run) (n : Reading) (e : Entry) → ReadsOwn w n → IsTrue (may_follow w n e) → IsTrue (may_follow (with_joined w q) n e)
may_still_follow w q n (Arrived r m) own ok = let more : is_run (with_joined w q).runs r.0 ≡ true = more_runs w.runs q r.0 (grind (arith, common_steps)) in grind (arith, common_steps)
may_still_follow w q n (Placed r at m) own ok = let more : is_run (with_joined w q).runs r.0 ≡ true = more_runs w.runs q r.0 (grind (arith, common_steps)) in grind (arith, common_steps)
may_still_follow w q n (Did r c a) own ok =
    (λ k. (is_some (own_run w.runs q r.0 mine k) && is_live n r.0) && (c == next_of n r.0) && nat_lt c (length (own_commands w.runs q r.0 mine k))
    && same_suits a (slice_index_or (own_commands w.runs q r.0 mine k) c no_command) k
    && not (n.run r.0).answered_doomed)
    ∙ ok
  where
    mine : is_run w.runs r.0 ≡ true
    mine = grind (arith, common_steps)

    same_suits : (a : Answer) (x : Command) → suits (with_joined w q) n r.0 x a ≡ suits w n r.0 x a
    same_suits Fine x = refl
    same_suits (Found v) x = refl
    same_suits Down x = refl
    same_suits Skipped x = refl
may_still_follow w q n (Undid r d drove) own ok = let more : is_run (with_joined w q).runs r.0 ≡ true = more_runs w.runs q r.0 (grind (arith, common_steps)) in grind (arith, common_steps)
may_still_follow w q n (Fell d) own ok = ok
may_still_follow w q n (Rose d) own ok = ok
may_still_follow w q n (Doomed r cause) own ok =
    (λ k. (is_some (own_run w.runs q r.0 mine k) && is_live n r.0) && not (is_doomed n r.0) && (cause_still_fits cause fit ∙ sym fit) k)
    ∙ ok
  where
    mine : is_run w.runs r.0 ≡ true
    mine = grind (arith, common_steps)

    fit : cause_fits w n r.0 cause ≡ true
    fit = second_true ((is_run w.runs r.0 && is_live n r.0) && not (is_doomed n r.0)) (cause_fits w n r.0 cause) ok

    cause_still_fits : (cause : Cause) → cause_fits w n r.0 cause ≡ true → cause_fits (with_joined w q) n r.0 cause ≡ true
    cause_still_fits (MustDown c) fits = ap (λ cs. nat_lt c (length cs)) (own_commands w.runs q r.0 mine) ∙ fits
    cause_still_fits (Refuted c x) fits = ap (λ cs. nat_lt c (length cs)) (own_commands w.runs q r.0 mine) ∙ fits
    cause_still_fits (Lost d) fits = fits
    cause_still_fits (Revoked lender d deadline m) fits = let more : is_run (with_joined w q).runs lender.0 ≡ true = more_runs w.runs q lender.0 (grind (arith, common_steps)) in grind (arith, common_steps)
    cause_still_fits (DownAtEnd d) fits = fits
may_still_follow w q n (Ended r Committed) own ok =
    (λ k. (is_some (own_run w.runs q r.0 mine k) && is_live n r.0) && not (is_doomed n r.0) && (next_of n r.0 == length (own_commands w.runs q r.0 mine k)))
    ∙ ok
  where
    mine : is_run w.runs r.0 ≡ true
    mine = grind (arith, common_steps)
may_still_follow w q n (Ended r (Aborted cause)) own ok = let more : is_run (with_joined w q).runs r.0 ≡ true = more_runs w.runs q r.0 (grind (arith, common_steps)) in grind (arith, common_steps)

-- Along a history

same_from : (w : Setting) (q : Run) (n : Reading) (h : List Entry) → ReadsOwn w n → IsTrue (along w (may_follow w) n h) → fold (entry (with_joined w q)) n h ≡ fold (entry w) n h
same_from w q n [] own ok = refl
same_from w q n (e ∷ h) own ok =
    let may : IsTrue (may_follow w n e) = first_true _ _ ok in
    ap (λ x. fold (entry (with_joined w q)) x h) (same_entry w q n e may own)
    ∙ same_from w q (entry w n e) h (own_step w n e may own) (second_true _ _ ok)

-- the history reads the same
pub same_reading : (w : Setting) (q : Run) (h : List Entry) → IsWellFormed w h → reading (with_joined w q) h ≡ reading w h
same_reading w q h ok = same_from w q (nothing_read w) h (own_start w) ok

-- a test that holds along the history holds where it is made of the window with the run that joined
pub along_joined : (w : Setting) (q : Run) (test more : Reading → Entry → Bool) → ((n : Reading) (e : Entry) → ReadsOwn w n → IsTrue (may_follow w n e) → IsTrue (test n e) → IsTrue (more n e))
    → (n : Reading) (h : List Entry) → ReadsOwn w n → IsTrue (along w (may_follow w) n h) → IsTrue (along w test n h) → IsTrue (along (with_joined w q) more n h)
along_joined w q test more each n [] own ok all = refl
along_joined w q test more each n (e ∷ h) own ok all =
    and_true (more n e) _ (each n e own may (first_true _ _ all))
    (subst (λ x. IsTrue (along (with_joined w q) more x h)) (sym (same_entry w q n e may own))
    (along_joined w q test more each (entry w n e) h (own_step w n e may own) (second_true _ _ ok) (second_true _ _ all)))
  where
    may : IsTrue (may_follow w n e)
    may = first_true _ _ ok

    and_true : (a b : Bool) → a ≡ true → b ≡ true → (a && b) ≡ true
    and_true a b x y = λ k. x k && y k

-- .. and so a fact
pub Along_joined : (w : Setting) (q : Run) (P Q : Reading → Entry → Type 0) → ((n : Reading) (e : Entry) → ReadsOwn w n → IsTrue (may_follow w n e) → P n e → Q n e)
    → (n : Reading) (h : List Entry) → ReadsOwn w n → IsTrue (along w (may_follow w) n h) → Along w P n h → Along (with_joined w q) Q n h
Along_joined w q P Q each n [] own ok all = tt
Along_joined w q P Q each n (e ∷ h) own ok all = (
  each n e own may all.0,
  subst (λ x. Along (with_joined w q) Q x h) (sym (same_entry w q n e may own))
      (Along_joined w q P Q each (entry w n e) h (own_step w n e may own) (second_true _ _ ok) all.1),
)
  where
    may : IsTrue (may_follow w n e)
    may = first_true _ _ ok

-- the history is well formed
pub formed_joined : (w : Setting) (q : Run) (h : List Entry) → IsWellFormed w h → IsWellFormed (with_joined w q) h
formed_joined w q h ok = along_joined w q (may_follow w) (may_follow (with_joined w q)) (λ n e own may test. may_still_follow w q n e own may) (nothing_read w) h (own_start w) ok ok
