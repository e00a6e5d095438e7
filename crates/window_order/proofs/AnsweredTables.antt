-- An answer keeps the lineages, with the access of its run changed on the command's device alone.
use Rattle.window_order.proofs.Prelude.{Access, Acquired, Answer, Back, Bool, Command, CutAt, Did, Down, Failed, Fine, Found, Grips, Item, Kind, LineageIsKept, LineageState, List, None, OfRun, OnDevice, Option, Ran, Reading, Released, RunNo, Scheduled, Setting, Skipped, Some, View, [], access_read, accesses_along, accesses_read, acquired_if, answer_noted, answered, ap, arith, command_at, commands_of, commits_write, common_steps, did, driven, drop, drop_more, entry, false, grips_command, grips_undo, has_access, if◌then◌else◌, is_access, is_committed, is_committing, is_done_there, is_doomed, is_fine, is_live, is_none, is_of, is_on, is_ran, is_some, is_told, kind_at, length, length-append, list_any, may_be_passed, next_of, no_command, not, of_run, option_map, option_or, pending_not_passed, pends, planned_end, planned_start, point, put, put_all, put_other, put_same, refl, register_after, released_if, run_no, subst, suc, sym, told_write, touches, touches_from, true, unwrap_or, uses, view_by, view_when, with_change, written_if, zero, ℕ, ◌&&◌, ◌++◌, ◌+◌, ◌<◌, ◌==◌, ◌||◌, ◌∙◌, ◌∷◌, ◌≡◌, ◌≢◌}
use Rattle.home_types.specs.declared.commands.Answer.TheVariants.{Down as IsDown}
use Rattle.window_order.proofs.AccessLists.{along_there, front_accesses, front_lacks}
use Rattle.window_order.proofs.GripWords.{SameGrip}
use Rattle.window_order.proofs.ReadFacts.{IsRead, runs_distinct}
use Rattle.window_order.proofs.Runs.{live_uncommitted}
use Rattle.window_order.proofs.TableFrames.{SameUses, access_by, access_gripped, commits_by, lineage_changed, lineage_same, may_by, may_gripped, put_says, uses_by, write_by}

-- One access that changes

abbrev pub acquire_access : Bool → View → Access → Access
acquire_access first view x = if first then record x { status = Acquired; view = Some view } else x

abbrev pub write_access : Option ℕ → Access → Access
write_access None x = x
write_access (Some v) x = record x { wrote = Some v }

abbrev pub release_access : Bool → Access → Access
release_access last x = if last then record x { status = Released } else x

-- the access after an answer
abbrev pub answered_access : Bool → View → Option ℕ → Bool → Access → Access
answered_access first view wrote last x = record {
  run = x.run;
  status = if last then Released else (if first then Acquired else x.status);
  view = if first then Some view else x.view;
  wrote = option_or wrote x.wrote;
  from = x.from;
  to = x.to;
}

pub with_none : (r : ℕ) (xs : List Access) → with_change r (λ x. x) xs ≡ xs
with_none r [] = refl
with_none r (x ∷ xs) = at_ (is_of r x) (with_none r xs)
  where
    at_ : (b : Bool) → with_change r (λ y. y) xs ≡ xs → (if b then (x ∷ xs) else (x ∷ with_change r (λ y. y) xs)) ≡ x ∷ xs
    at_ true rest = refl
    at_ false rest = ap (λ ys. x ∷ ys) rest

pub with_twice : (r : ℕ) (f h : Access → Access) (xs : List Access) → ((x : Access) → (f x).run ≡ x.run) → with_change r h (with_change r f xs) ≡ with_change r (λ x. h (f x)) xs
with_twice r f h [] own = refl
with_twice r f h (x ∷ xs) own = at_ (is_of r x) refl (with_twice r f h xs own)
  where
    at_ : (b : Bool) → is_of r x ≡ b → with_change r h (with_change r f xs) ≡ with_change r (λ y. h (f y)) xs → with_change r h (if b then (f x ∷ xs) else (x ∷ with_change r f xs)) ≡ (if b then (h (f x) ∷ xs) else (x ∷ with_change r (λ y. h (f y)) xs))
    at_ true e rest = λ i. if (ap (λ (y : RunNo). y.0 == r) (own x) ∙ e) i then (h (f x) ∷ xs) else (f x ∷ with_change r h xs)
    at_ false e rest = (λ i. if e i then (h x ∷ with_change r f xs) else (x ∷ with_change r h (with_change r f xs))) ∙ ap (λ ys. x ∷ ys) rest

pub with_like : (r : ℕ) (f h : Access → Access) (xs : List Access) → ((x : Access) → f x ≡ h x) → with_change r f xs ≡ with_change r h xs
with_like r f h [] like = refl
with_like r f h (x ∷ xs) like = λ i. if is_of r x then (like x i ∷ xs) else (x ∷ with_like r f h xs like i)

-- the lineage with the access of the run changed
abbrev pub lineage_with : ℕ → (Access → Access) → LineageState → LineageState
lineage_with r change s = record s { accesses = with_change r change s.accesses }

acquired_is : (r : ℕ) (first : Bool) (view : View) (s : LineageState) → acquired_if first r view s ≡ lineage_with r (acquire_access first view) s
acquired_is r true view s = refl
acquired_is r false view s = λ i. record s { accesses = sym (with_none r s.accesses) i }

written_is : (r : ℕ) (wrote : Option ℕ) (s : LineageState) → written_if wrote r s ≡ lineage_with r (write_access wrote) s
written_is r None s = λ i. record s { accesses = sym (with_none r s.accesses) i }
written_is r (Some v) s = refl

pub released_is : (r : ℕ) (last : Bool) (s : LineageState) → released_if last r s ≡ lineage_with r (release_access last) s
released_is r true s = refl
released_is r false s = λ i. record s { accesses = sym (with_none r s.accesses) i }

in_turn : (first : Bool) (view : View) (wrote : Option ℕ) (last : Bool) (x : Access) → release_access last (write_access wrote (acquire_access first view x)) ≡ answered_access first view wrote last x
in_turn true view None true x = refl
in_turn true view None false x = refl
in_turn true view (Some v) true x = refl
in_turn true view (Some v) false x = refl
in_turn false view None true x = refl
in_turn false view None false x = refl
in_turn false view (Some v) true x = refl
in_turn false view (Some v) false x = refl

acquired_own : (first : Bool) (view : View) (x : Access) → (acquire_access first view x).run ≡ x.run
acquired_own true view x = refl
acquired_own false view x = refl

written_own : (wrote : Option ℕ) (x : Access) → (write_access wrote x).run ≡ x.run
written_own None x = refl
written_own (Some v) x = refl

-- what an answer notes is one change of the run's access
noted_is : (r : ℕ) (first : Bool) (view : View) (wrote : Option ℕ) (last : Bool) (s : LineageState) → answer_noted r first view wrote last s ≡ lineage_with r (answered_access first view wrote last) s
noted_is r first view wrote last s =
    released_is r last (written_if wrote r (acquired_if first r view s))
    ∙ ap (lineage_with r (release_access last)) (written_is r wrote (acquired_if first r view s) ∙ ap (lineage_with r (write_access wrote)) (acquired_is r first view s))
    ∙ (λ i. record s { accesses = whole i })
  where
    whole : with_change r (release_access last) (with_change r (write_access wrote) (with_change r (acquire_access first view) s.accesses)) ≡ with_change r (answered_access first view wrote last) s.accesses
    whole =
        ap (with_change r (release_access last)) (with_twice r (acquire_access first view) (write_access wrote) s.accesses (acquired_own first view))
        ∙ with_twice r (λ x. write_access wrote (acquire_access first view x)) (release_access last) s.accesses (λ x. written_own wrote (acquire_access first view x) ∙ acquired_own first view x)
        ∙ with_like r (λ x. release_access last (write_access wrote (acquire_access first view x))) (answered_access first view wrote last) s.accesses (in_turn first view wrote last)

-- What the answer says of the device

told_view : (a : Answer) → is_access a ≡ true → view_by a ≡ Some (is_told a)
told_view Fine access = refl
told_view (Found x) access = refl
told_view IsDown access = refl
told_view Skipped access = absurd (cc)

view_then : (v : Option Bool) (u : Bool) → option_map view_when (option_or v (Some u)) ≡ (if not (is_some v) then Some (view_when u) else option_map view_when v)
view_then None u = refl
view_then (Some x) u = refl

wrote_then : (kind : Kind) (c : Command) (doomed : Bool) (register : ℕ) (a : Answer) (o : OnDevice) → (answered kind c doomed register a o).wrote ≡ option_or (if is_fine a then Some (driven kind c.job register) else None) o.wrote
wrote_then kind c doomed register Fine o = refl
wrote_then kind c doomed register (Found x) o = refl
wrote_then kind c doomed register IsDown o = refl
wrote_then kind c doomed register Skipped o = refl

some_view : (v : Option Bool) (u : Bool) → is_some (option_or v (Some u)) ≡ true
some_view None u = refl
some_view (Some x) u = refl

-- What has to be so before it: the live run has a command left on the device, counts or has its command out there, and is not undone there; no other run has a command out there, no run before it that is not doomed has one left there, and no run behind it has touched the device
pub record TouchesNow (w : Setting) (n : Reading) (g : Grips) (d r : ℕ) (cut : CutAt r n.line) : Type 0 where
  pub live : is_live n r ≡ true
  pub pending : pends w n r d ≡ true
  pub acts : (not (is_doomed n r) || grips_command g r d) ≡ true
  pub kept : ((n.run r).on d).undid ≡ false
  pub undoes_none : grips_undo g r d ≡ false
  pub alone : (q : ℕ) → q ≢ r → grips_command g q d ≡ false
  pub front : (x : ℕ) → list_any (is_ran x) cut.front ≡ true → is_live n x ≡ true → is_doomed n x ≡ false → pends w n x d ≡ false
  pub back : list_any (of_run (λ q. did n q d)) cut.back ≡ false

pub pending_touches : (d : ℕ) (cs : List Command) (k : ℕ) → list_any (is_on d) (drop k cs) ≡ true → list_any (is_on d) cs ≡ true
pending_touches d [] zero h = h
pending_touches d [] (suc k) h = h
pending_touches d (c ∷ cs) zero h = h
pending_touches d (c ∷ cs) (suc k) h = either (is_on d c) (list_any (is_on d) cs) (pending_touches d cs k h)
  where
    either : (x y : Bool) → y ≡ true → (x || y) ≡ true
    either x y h = grind (arith, common_steps)

-- the run uses the device
pub uses_now : (w : Setting) (n : Reading) (d r : ℕ) → IsRead w n → is_live n r ≡ true → pends w n r d ≡ true → uses w n d r ≡ true
uses_now w n d r read live pending = λ i. live i && pending_touches d (commands_of w.runs r) (next_of n r) pending i && not (pending_not_passed w n r d pending i)

-- no run that stands there commits a write behind it
pub none_commits : (w : Setting) (n : Reading) (d : ℕ) (is : List Item) → IsRead w n → list_any (of_run (λ q. did n q d)) is ≡ false → list_any (of_run (commits_write n d)) is ≡ false
none_commits w n d [] read none = refl
none_commits w n d (Ran q ∷ is) read none = let parts = neither (did n q.0 d) (list_any (of_run (λ x. did n x d)) is) none in λ i. unwritten q.0 parts.0 i || none_commits w n d is read parts.1 i
  where
    neither : (a b : Bool) → (a || b) ≡ false → (a ≡ false) × (b ≡ false)
    neither a b h = (grind (arith, common_steps), grind (arith, common_steps))

    unwritten : (x : ℕ) → did n x d ≡ false → commits_write n d x ≡ false
    unwritten x h = at_ (is_some ((n.run x).on d).wrote) refl
      where
        clash : (b : Bool) → b ≡ true → b ≡ false → ⊥
        clash b h k = grind (arith, common_steps)

        off : (b : Bool) → (b && false) ≡ false
        off true = refl
        off false = refl

        at_ : (b : Bool) → is_some ((n.run x).on d).wrote ≡ b → commits_write n d x ≡ false
        at_ true e = absurd (clash (did n x d) ((read.shaped x).wrote d e) h)
        at_ false e = (λ i. is_committed n x && e i) ∙ off (is_committed n x)
none_commits w n d (Failed e k ∷ is) read none = none_commits w n d is read none
none_commits w n d (Back e k ∷ is) read none = none_commits w n d is read none

live_covers_none : (w : Setting) (n : Reading) (d r : ℕ) → is_live n r ≡ true → commits_write n d r ≡ false
live_covers_none w n d r live = λ i. live_uncommitted n r live i && is_some ((n.run r).on d).wrote

-- the accesses stand around that of the run
pub accesses_around : (w : Setting) (n : Reading) (g : Grips) (passed : ℕ → Bool) (d r : ℕ) (cut : CutAt r n.line) → IsRead w n → TouchesNow w n g d r cut
    → accesses_read (point w n g) passed d n.line ≡ front_accesses (uses w n d) (commits_write n d) (access_read (point w n g) passed d) false cut.front ++ access_read (point w n g) passed d r ∷ accesses_along (uses w n d) (commits_write n d) (access_read (point w n g) passed d) cut.back
accesses_around w n g passed d r cut read now =
    ap (accesses_read (point w n g) passed d) cut.at
    ∙ along_there (uses w n d) (commits_write n d) (access_read (point w n g) passed d) r cut.front cut.back (uses_now w n d r read now.live now.pending) (live_covers_none w n d r now.live) (none_commits w n d cut.back read now.back)

pub none_in_front : (w : Setting) (n : Reading) (g : Grips) (passed : ℕ → Bool) (d r : ℕ) (cut : CutAt r n.line) → has_access r (front_accesses (uses w n d) (commits_write n d) (access_read (point w n g) passed d) false cut.front) ≡ false
none_in_front w n g passed d r cut = front_lacks (uses w n d) (commits_write n d) (access_read (point w n g) passed d) false r cut.front (λ x. refl) cut.before

-- a run that counts, or has touched the device, was not passed there
pub never_passed : (n : Reading) (g : Grips) (d r : ℕ) (passed : ℕ → Bool) → ((q : ℕ) → passed q ≡ true → may_be_passed n g q d ≡ true) → (not (is_doomed n r) || grips_command g r d) ≡ true → passed r ≡ false
never_passed n g d r passed may acts = at_ (passed r) refl
  where
    clash : (a b c : Bool) → (not a || c) ≡ true → (a && not (b || c)) ≡ true → ⊥
    clash a b c h k = grind (arith, common_steps)

    at_ : (b : Bool) → passed r ≡ b → passed r ≡ false
    at_ true e = absurd (clash (is_doomed n r) (did n r d) (grips_command g r d) acts (may r e))
    at_ false e = e

-- .. and is at work there
pub works_now : (w : Setting) (n : Reading) (g : Grips) (d r : ℕ) (cut : CutAt r n.line) → TouchesNow w n g d r cut → ((not (is_doomed n r) && pends w n r d) || grips_command g r d) ≡ true
works_now w n g d r cut now = at_ (is_doomed n r) (pends w n r d) (grips_command g r d) now.pending now.acts
  where
    at_ : (a b c : Bool) → b ≡ true → (not a || c) ≡ true → ((not a && b) || c) ≡ true
    at_ a b c h k = grind (arith, common_steps)

-- The answer

-- the record of a run whose command of this number has the answer
abbrev pub answered_run : Setting → Reading → ℕ → ℕ → Answer → OfRun
answered_run w n r k a = record (n.run r) {
  answers = (n.run r).answers ++ a ∷ [];
  register = register_after (command_at w.runs r k).job a (n.run r).register;
  answered_doomed = (n.run r).answered_doomed || is_some (n.run r).doomed;
  on = put (n.run r).on (command_at w.runs r k).device.0 (answered (kind_at w.kinds (command_at w.runs r k).device.0) (command_at w.runs r k) (is_some (n.run r).doomed) (n.run r).register a ((n.run r).on (command_at w.runs r k).device.0));
}

-- its commands from its next one on
left_now : (w : Setting) (n : Reading) (r k : ℕ) → k ≡ next_of n r → next_of n r < length (commands_of w.runs r) → drop (next_of n r) (commands_of w.runs r) ≡ command_at w.runs r k ∷ drop (k + 1) (commands_of w.runs r)
left_now w n r k number more = drop_more (commands_of w.runs r) (next_of n r) no_command more ∙ (λ i. command_at w.runs r (sym number i) ∷ drop (sym number i + 1) (commands_of w.runs r))

pub left_after : (w : Setting) (n : Reading) (r k : ℕ) (a : Answer) (e : ℕ) → k ≡ next_of n r → touches_from w.runs r e (length (answered_run w n r k a).answers) ≡ touches_from w.runs r e (k + 1)
left_after w n r k a e number = ap (touches_from w.runs r e) (length-append (n.run r).answers (a ∷ []) ∙ ap (λ x. x + 1) (sym number))

-- on another device nothing changes
pub answered_elsewhere : (w : Setting) (n : Reading) (g h : Grips) (r k : ℕ) (a : Answer) (e : ℕ) (s : LineageState) → k ≡ next_of n r → next_of n r < length (commands_of w.runs r) → e ≢ (command_at w.runs r k).device.0 → ((q : ℕ) → SameGrip g h e q) → LineageIsKept (point w n g) e s
    → LineageIsKept (point w (entry w n (Did (run_no r) k a)) h) e s
answered_elsewhere w n g h r k a e s number more ne home kept = lineage_same w n m g h e s (record {
  line = refl;
  has_one = put_says (uses_by w e) n.run r new (λ i. (is_some old.placed && is_none old.ended) && touches w.runs r e && not (touches w.runs r e && not (pend i) && not (is_some (there i).view)));
  covering = put_says (λ q. commits_by e) n.run r new (λ i. unwrap_or (option_map is_committing old.ended) false && is_some (there i).wrote);
  write = put_says (λ q. write_by e) n.run r new (λ i. if unwrap_or (option_map is_committing old.ended) false then (there i).wrote else None);
  unplaced = put_says (λ q o. is_none o.placed) n.run r new refl;
  up = refl;
  may = λ q may. may_gripped g h e q (m.run q) (home q).command ∙ put_says (may_by g e) n.run r new (λ i. is_some old.doomed && not (is_some (there i).view || grips_command g r e)) q ∙ may;
}) kept (λ q. access_gripped w g h kept.passed e q (m.run q) (home q) ∙ put_says (access_by w g kept.passed e) n.run r new (λ i. record {
  run = run_no r;
  status = if kept.passed r then Released else (if is_some (there i).view then (if (not (is_some old.doomed) && pend i) || grips_command g r e then Acquired else Released) else Scheduled);
  view = if kept.passed r then Some Down else option_map view_when (there i).view;
  wrote = if (there i).undid || grips_undo g r e then None else (there i).wrote;
  from = planned_start old.planned e;
  to = planned_end old.planned e;
}) q)
  where
    m : Reading
    m = entry w n (Did (run_no r) k a)

    old : OfRun
    old = n.run r

    new : OfRun
    new = answered_run w n r k a

    there : new.on e ≡ old.on e
    there = put_other old.on (command_at w.runs r k).device.0 _ e ne

    differ : (x y : ℕ) (b : Bool) → y ≢ x → ((x == y) || b) ≡ b
    differ x y b h = grind (arith, common_steps)

    pend : touches_from w.runs r e (length new.answers) ≡ touches_from w.runs r e (length old.answers)
    pend = left_after w n r k a e number ∙ sym (ap (list_any (is_on e)) (left_now w n r k number more) ∙ differ (command_at w.runs r k).device.0 e (list_any (is_on e) (drop (k + 1) (commands_of w.runs r))) ne)

-- the grips after the answer: the run has none of the device, and the others have what they had
pub record HomeFrom (g h : Grips) (d r : ℕ) : Type 0 where
  pub command : grips_command h r d ≡ false
  pub undo : grips_undo h r d ≡ false
  pub others : (q : ℕ) → q ≢ r → SameGrip g h d q

-- on its own device the access of the run changes
pub answered_there : (w : Setting) (n : Reading) (g h : Grips) (r k : ℕ) (a : Answer) (cut : CutAt r n.line) → is_access a ≡ true → IsRead w n → k ≡ next_of n r
    → TouchesNow w n g (command_at w.runs r k).device.0 r cut → HomeFrom g h (command_at w.runs r k).device.0 r
    → (s : LineageState) → LineageIsKept (point w n g) (command_at w.runs r k).device.0 s
    → LineageIsKept (point w (entry w n (Did (run_no r) k a)) h) (command_at w.runs r k).device.0
    (answer_noted r (not (did n r (command_at w.runs r k).device.0)) (view_when (is_told a)) (told_write w n r (command_at w.runs r k) a) (is_done_there w n r k) s)
answered_there w n g h r k a cut access read number now home s kept = subst (LineageIsKept (point w m h) d) (sym (noted_is r first view wrote last s)) (lineage_changed w n m g h d r (answered_access first view wrote last) s (runs_distinct n read.once) same kept changed
    (λ q ne. access_gripped w g h kept.passed d q (m.run q) (home.others q ne) ∙ ap (access_by w g kept.passed d q) (put_other n.run r new q ne)))
  where
    c : Command
    c = command_at w.runs r k

    d : ℕ
    d = c.device.0

    m : Reading
    m = entry w n (Did (run_no r) k a)

    old : OfRun
    old = n.run r

    new : OfRun
    new = answered_run w n r k a

    on_device : OnDevice
    on_device = answered (kind_at w.kinds d) c (is_some old.doomed) old.register a (old.on d)

    first : Bool
    first = not (did n r d)

    view : View
    view = view_when (is_told a)

    wrote : Option ℕ
    wrote = told_write w n r c a

    last : Bool
    last = is_done_there w n r k

    own : m.run r ≡ new
    own = put_same n.run r new

    here : new.on d ≡ on_device
    here = put_same old.on d on_device

    viewed : (new.on d).view ≡ option_or (old.on d).view (Some (is_told a))
    viewed = ap (λ x. x.view) here ∙ ap (option_or (old.on d).view) (told_view a access)

    uncommitted : is_committed n r ≡ false
    uncommitted = live_uncommitted n r now.live

    works : ((not (is_doomed n r) && pends w n r d) || grips_command g r d) ≡ true
    works = works_now w n g d r cut now

    unpassed : kept.passed r ≡ false
    unpassed = never_passed n g d r kept.passed kept.may_pass now.acts

    seen : is_some (new.on d).view ≡ true
    seen = ap is_some viewed ∙ some_view (old.on d).view (is_told a)

    on_it : (x y t p v : Bool) → x ≡ true → y ≡ true → v ≡ true → (x && y && not (t && not p && not v)) ≡ true
    on_it x y t p v h e f = grind (arith, common_steps)

    used : uses_by w d r new ≡ true
    used = on_it (is_some old.placed && is_none old.ended) (touches w.runs r d) (touches w.runs r d) (touches_from w.runs r d (length new.answers)) (is_some (new.on d).view) now.live (pending_touches d (commands_of w.runs r) (next_of n r) now.pending) seen

    untouched : may_be_passed n g r d ≡ false
    untouched = none (is_doomed n r) (did n r d) (grips_command g r d) now.acts
      where
        none : (x y z : Bool) → (not x || z) ≡ true → (x && not (y || z)) ≡ false
        none x y z h = grind (arith, common_steps)

    clash : (x : Bool) → x ≡ true → x ≡ false → ⊥
    clash x h k = grind (arith, common_steps)

    equal : (x y : ℕ) → (x == y) ≡ true → x ≡ y
    equal x y h = grind (arith, common_steps)

    differ : (x y : ℕ) → (x == y) ≡ false → x ≢ y
    differ x y h = grind (arith, common_steps)

    -- a run that may be passed is another, and still may
    still_may : (q : ℕ) (b : Bool) → (q == r) ≡ b → may_be_passed n g q d ≡ true → may_be_passed n h q d ≡ true
    still_may q true e may = absurd (clash (may_be_passed n g r d) (ap (λ x. may_be_passed n g x d) (sym (equal q r e)) ∙ may) untouched)
    still_may q false e may = may_gripped g h d q (n.run q) (home.others q (differ q r e)).command ∙ may

    same : SameUses w n m g h d
    same = record {
      line = refl;
      has_one = put_says (uses_by w d) n.run r new (used ∙ sym (uses_now w n d r read now.live now.pending));
      covering = put_says (λ q. commits_by d) n.run r new ((λ i. uncommitted i && is_some (new.on d).wrote) ∙ sym (λ i. uncommitted i && is_some (old.on d).wrote));
      write = put_says (λ q. write_by d) n.run r new ((λ i. if uncommitted i then (new.on d).wrote else None) ∙ sym (λ i. if uncommitted i then (old.on d).wrote else None));
      unplaced = put_says (λ q o. is_none o.placed) n.run r new refl;
      up = refl;
      may = put_all (λ q o. may_be_passed n g q d ≡ true → may_by h d q o ≡ true) n.run r new (λ q may. still_may q (q == r) refl may) (λ may. absurd (clash (may_be_passed n g r d) may untouched));
    }

    status_is : (x t y : Bool) → (if (not x && t) || false then Acquired else Released) ≡ (if x || not t then Released else (if not y then Acquired else (if y then Acquired else Scheduled)))
    status_is true t y = refl
    status_is false false y = refl
    status_is false true false = refl
    status_is false true true = refl

    status : (access_by w h kept.passed d r new).status ≡ (if last then Released else (if first then Acquired else (access_by w g kept.passed d r old).status))
    status =
        (λ i. if unpassed i then Released else (if seen i then (if (not (is_doomed n r) && left_after w n r k a d number i) || home.command i then Acquired else Released) else Scheduled))
        ∙ status_is (is_doomed n r) (touches_from w.runs r d (k + 1)) (did n r d)
        ∙ (λ i. if last then Released else (if first then Acquired else (if sym unpassed i then Released else (if did n r d then (if sym works i then Acquired else Released) else Scheduled))))

    views : (access_by w h kept.passed d r new).view ≡ (if first then Some view else (access_by w g kept.passed d r old).view)
    views =
        (λ i. if unpassed i then Some Down else option_map view_when (viewed i))
        ∙ view_then (old.on d).view (is_told a)
        ∙ (λ i. if first then Some view else (if sym unpassed i then Some Down else option_map view_when (old.on d).view))

    undid : (new.on d).undid ≡ false
    undid = ap (λ x. x.undid) here ∙ now.kept

    writes : (access_by w h kept.passed d r new).wrote ≡ option_or wrote (access_by w g kept.passed d r old).wrote
    writes =
        (λ i. if undid i || home.undo i then None else (new.on d).wrote)
        ∙ ap (λ x. x.wrote) here ∙ wrote_then (kind_at w.kinds d) c (is_some old.doomed) old.register a (old.on d)
        ∙ (λ i. option_or wrote (if sym now.kept i || sym now.undoes_none i then None else (old.on d).wrote))

    changed : access_by w h kept.passed d r (m.run r) ≡ answered_access first view wrote last (access_by w g kept.passed d r old)
    changed = ap (access_by w h kept.passed d r) own ∙ (λ i. record { run = run_no r; status = status i; view = views i; wrote = writes i; from = planned_start old.planned d; to = planned_end old.planned d })
