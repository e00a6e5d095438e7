-- The lineages as a window opens, as a run arrives, and as one is placed in the line.
use Rattle.window_order.proofs.Prelude.{Access, Acquired, Arrived, Bool, Down, Grips, IsClear, IsNewOn, IsShaped, Item, Lacks, LineageIsKept, LineageState, List, None, OfRun, Option, Placed, PlacedAt, Planned, Ran, Reading, Released, Run, RunsAreDistinct, Scheduled, Setting, Some, TableIsKept, TableIsOpened, [], aborted, access_read, accesses_along, accesses_from, accesses_read, ap, arith, commands_of, commits_write, committed_value, committed_write, common_steps, cond, count_by, did, drop, entry, false, first_with_access, fold, fold-append, grips_command, grips_undo, has_access, if◌then◌else◌, is_acquired, is_at_work, is_committing, is_device, is_doomed, is_none, is_on, is_ran, is_run, is_some, is_undone, length, lineage_at, list_any, may_be_passed, may_follow, not, nothing_read, of_run, option_map, option_or, placed_change, planned_end, planned_start, point, put, put_access_before, put_other, put_same, refl, rescheduled, run_no, runs_on, scheduled, slice_get, some_acquired, some_is, split_at, stand_at, status_by_answers, subst, suc, sum_by-cons, sym, take, take-append-drop, touches, touches_from, true, unplaced_among, unplaced_on, unwrap_or, uses, view_of, view_when, waiting_access, waits_again, with_again, with_placed, zero, ℕ, ◌&&◌, ◌++◌, ◌+◌, ◌<◌, ◌||◌, ◌∙◌, ◌∷◌, ◌≡◌, ◌≢◌}
use Rattle.window_order.proofs.AccessLists.{SameBut, along_absent, along_but, along_lacks, along_parts, along_there, any_but, distinct_parts, from_between, front_accesses, front_but, front_in, front_lacks, lacks_none, put_between}
use Rattle.window_order.proofs.ClearLines.{clear_run, clear_written}
use Rattle.window_order.proofs.ReadFacts.{IsRead, lacks_count, runs_distinct}
use Rattle.window_order.proofs.Runs.{lacks_parts}
use Rattle.window_order.proofs.TableFrames.{access_by, commits_by, lineage_same, may_by, put_says, same_committed, uses_by, write_by}

-- The start

none_placed : (w : Setting) (d r : ℕ) (runs : List Run) → unplaced_among (nothing_read w) d r runs ≡ runs_on runs d
none_placed w d r [] = refl
none_placed w d r (run ∷ runs) = (λ i. one (list_any (is_on d) run.commands) i + none_placed w d (suc r) runs i) ∙ sym (sum_by-cons (λ (x : Run). cond (list_any (is_on d) x.commands) 1 0) run runs)
  where
    one : (b : Bool) → ◌≡◌ {A = ℕ} (if b && true then 1 else 0) (cond b 1 0)
    one true = refl
    one false = refl

-- a table that was opened for the window is kept
pub opened_table : (w : Setting) (g : Grips) (table : List LineageState) → TableIsOpened w.runs w.first table → TableIsKept (point w (nothing_read w) g) table
opened_table w g table opened = record {
  devices = opened.devices;
  each = λ d below. let new = opened.each d below in record {
    passed = λ r. false;
    may_pass = λ r h. absurd (cc);
    committed = new.committed;
    accesses = new.none;
    room = let room = new.room in let none = none_placed w d 1 w.runs in omega (arith, room, none);
    up = new.up;
  };
}

-- A run arrives

-- the table stays
pub arrived_table : (w : Setting) (n : Reading) (g : Grips) (r m : ℕ) (table : List LineageState) → TableIsKept (point w n g) table → TableIsKept (point w (entry w n (Arrived (run_no r) m)) g) table
arrived_table w n g r m table kept = record {
  devices = kept.devices;
  each = λ d below. lineage_same w n next g g d (lineage_at table d) (record {
    line = refl;
    has_one = put_says (uses_by w d) n.run r new refl;
    covering = put_says (λ q. commits_by d) n.run r new refl;
    write = put_says (λ q. write_by d) n.run r new refl;
    unplaced = put_says (λ q o. is_none o.placed) n.run r new refl;
    up = refl;
    may = λ q may. put_says (may_by g d) n.run r new refl q ∙ may;
  }) (kept.each d below) (put_says (access_by w g (kept.each d below).passed d) n.run r new refl);
}
  where
    next : Reading
    next = entry w n (Arrived (run_no r) m)

    new : OfRun
    new = record (n.run r) { arrived = Some m }

-- A run is placed

-- one run fewer is not placed
record OnePlaced (n m : Reading) (r : ℕ) : Type 0 where
  before : is_none (n.run r).placed ≡ true
  after : is_none (m.run r).placed ≡ false
  others : (q : ℕ) → q ≢ r → is_none (m.run q).placed ≡ is_none (n.run q).placed

later_same : (n m : Reading) (d r k : ℕ) (runs : List Run) → r < k → OnePlaced n m r → unplaced_among m d k runs ≡ unplaced_among n d k runs
later_same n m d r k [] lt one = refl
later_same n m d r k (run ∷ runs) lt one = λ i. (if list_any (is_on d) run.commands && one.others k (λ e. clash e) i then 1 else 0) + later_same n m d r (suc k) runs (omega (arith, lt)) one i
  where
    clash : k ≡ r → ⊥
    clash e = omega (arith, e, lt)

one_fewer : (n m : Reading) (d r k i : ℕ) (runs : List Run) (run : Run) → slice_get runs i ≡ Some run → k + i ≡ r → OnePlaced n m r → unplaced_among n d k runs ≡ cond (list_any (is_on d) run.commands) 1 0 + unplaced_among m d k runs
one_fewer n m d r k i [] run at is one = absurd (cc)
one_fewer n m d r k zero (x ∷ runs) run at is one =
    (λ i. (if list_any (is_on d) (same i).commands && before i then 1 else 0) + sym (later_same n m d r (suc k) runs (omega (arith, is)) one) i)
    ∙ sums (list_any (is_on d) run.commands) (unplaced_among m d (suc k) runs)
    ∙ (λ i. cond (list_any (is_on d) run.commands) 1 0 + ((if list_any (is_on d) (sym same i).commands && sym after i then 1 else 0) + unplaced_among m d (suc k) runs))
  where
    same : x ≡ run
    same = some_is x run at

    here : k ≡ r
    here = omega (arith, is)

    before : is_none (n.run k).placed ≡ true
    before = ap (λ q. is_none (n.run q).placed) here ∙ one.before

    after : is_none (m.run k).placed ≡ false
    after = ap (λ q. is_none (m.run q).placed) here ∙ one.after

    sums : (b : Bool) (y : ℕ) → (if b && true then 1 else 0) + y ≡ cond b 1 0 + ((if b && false then 1 else 0) + y)
    sums true y = omega arith
    sums false y = omega arith
one_fewer n m d r k (suc i) (x ∷ runs) run at is one =
    (λ j. (if list_any (is_on d) x.commands && sym (one.others k (λ e. clash e)) j then 1 else 0) + one_fewer n m d r (suc k) i runs run at (omega (arith, is)) one j)
    ∙ swap (if list_any (is_on d) x.commands && is_none (m.run k).placed then 1 else 0) (cond (list_any (is_on d) run.commands) 1 0) (unplaced_among m d (suc k) runs)
  where
    clash : k ≡ r → ⊥
    clash e = omega (arith, e, is)

    swap : (a b c : ℕ) → a + (b + c) ≡ b + (a + c)
    swap a b c = omega arith

-- the run among the runs of the window
record Stands (w : Setting) (r : ℕ) : Type 0 where
  index : ℕ
  run : Run
  number : 1 + index ≡ r
  at : slice_get w.runs index ≡ Some run
  commands : commands_of w.runs r ≡ run.commands

stands : (w : Setting) (r : ℕ) → is_run w.runs r ≡ true → Stands w r
stands w zero h = absurd (cc)
stands w (suc i) h = at_ (slice_get w.runs i) refl h
  where
    at_ : (o : Option Run) → slice_get w.runs i ≡ o → is_some o ≡ true → Stands w (suc i)
    at_ None e k = absurd (cc)
    at_ (Some run) e k = record { index = i; run = run; number = omega arith; at = e; commands = ap (λ o. unwrap_or (option_map (λ (x : Run). x.commands) o) []) e }

-- each lineage is kept, with an access more on the run's devices, where the place is clear: the accesses behind it that were passed wait again
pub placed_kept : (w : Setting) (n : Reading) (g : Grips) (r at m : ℕ) (planned : List Planned) → IsRead w n → may_follow w n (Placed (run_no r) at m) ≡ true → IsClear (point w n g) r at → (d : ℕ) → d < length w.first → (s : LineageState) → LineageIsKept (point w n g) d s
    → LineageIsKept (point w (with_placed n (run_no r) at m planned (split_at n.line at)) g) d (placed_change w n r at planned d s)
placed_kept w n g r at m planned read may clear d below s kept = at_ (touches w.runs r d) refl
  where
    next : Reading
    next = with_placed n (run_no r) at m planned (split_at n.line at)

    front : List Item
    front = take at n.line

    back : List Item
    back = drop at n.line

    old : OfRun
    old = n.run r

    new : OfRun
    new = record (n.run r) { placed = Some (record { place = at; moment = m; stamp = n.size }); planned = planned }

    own : next.run r ≡ new
    own = put_same n.run r new

    p : ℕ → Bool
    p = uses w n d

    q : ℕ → Bool
    q = uses w next d

    c : ℕ → Bool
    c = commits_write n d

    e : ℕ → Bool
    e = commits_write next d

    before_ : ℕ → Access
    before_ = access_read (point w n g) kept.passed d

    then_ : ℕ → Access
    then_ = access_read (point w next g) kept.passed d

    shape : IsShaped w r (n.run r)
    shape = read.shaped r

    none : is_none (n.run r).placed ≡ true
    none = grind (arith, common_steps)

    run : is_run w.runs r ≡ true
    run = grind (arith, common_steps)

    of_window : Stands w r
    of_window = stands w r run

    unplaced : (o : Option PlacedAt) (b : Bool) → is_none o ≡ true → (is_some o && b) ≡ false
    unplaced None b h = refl
    unplaced (Some x) b h = absurd (cc)

    -- the line before, and after

    parts : front ++ back ≡ n.line
    parts = take-append-drop at n.line

    lacks : Lacks r front × Lacks r back
    lacks = lacks_parts r front back (ap (count_by (is_ran r)) parts ∙ read.once r ∙ ap (λ b. cond b 1 0) (unplaced (n.run r).placed (not (aborted (n.run r))) none))

    apart : RunsAreDistinct back × ((x : ℕ) → list_any (is_ran x) back ≡ true → Lacks x front)
    apart = distinct_parts front back (subst RunsAreDistinct (sym parts) (runs_distinct n read.once))

    others : SameBut r p q c e before_ then_
    others = record {
      has_one = λ x ne. ap (uses_by w d x) (put_other n.run r new x ne);
      covering = λ x ne. ap (commits_by d) (put_other n.run r new x ne);
      access = λ x ne. ap (access_by w g kept.passed d x) (put_other n.run r new x ne);
    }

    going : old.ended ≡ None
    going = shape.going none

    uncommitted : e r ≡ false
    uncommitted = ap (commits_by d) own ∙ (λ i. unwrap_or (option_map is_committing (going i)) false && is_some (old.on d).wrote)

    on_it : (a t b v : Bool) → a ≡ true → b ≡ t → ((true && a) && t && not (t && not b && not v)) ≡ t
    on_it a t b v h k = grind (arith, common_steps)

    used : q r ≡ touches w.runs r d
    used = ap (uses_by w d r) own ∙ on_it (is_none old.ended) (touches w.runs r d) (touches_from w.runs r d (length old.answers)) (is_some (old.on d).view) (ap is_none going) (ap (λ xs. touches_from w.runs r d (length xs)) (shape.unanswered none))

    clash : (a b : Bool) → a ≡ false → (a && b) ≡ true → ⊥
    clash a b h k = grind (arith, common_steps)

    sound : is_doomed n r ≡ false
    sound = ap is_some (shape.sound none)

    -- a run that is not doomed was not passed
    unpassed : kept.passed r ≡ false
    unpassed = by_passed (kept.passed r) refl
      where
        by_passed : (b : Bool) → kept.passed r ≡ b → b ≡ false
        by_passed true h = absurd (clash (is_doomed n r) (not (did n r d || grips_command g r d)) sound (kept.may_pass r h))
        by_passed false h = refl

    may_after : (x : ℕ) → may_be_passed n g x d ≡ true → may_be_passed next g x d ≡ true
    may_after x passed = put_says (may_by g d) n.run r new refl x ∙ passed

    none_written : (b : Bool) → ◌≡◌ {A = Option ℕ} (if b then None else None) None
    none_written true = refl
    none_written false = refl

    -- the accesses of the two parts

    whole : accesses_read (point w n g) kept.passed d n.line ≡ front_accesses p c before_ (list_any (of_run c) back) front ++ accesses_along p c before_ back
    whole = ap (accesses_along p c before_) (sym parts) ∙ along_parts p c before_ front back

    front_same : (b : Bool) → front_accesses q e then_ b front ≡ front_accesses p c before_ b front
    front_same b = front_but r p q c e before_ then_ b front others lacks.0

    back_same : accesses_along q e then_ back ≡ accesses_along p c before_ back
    back_same = along_but r p q c e before_ then_ back others lacks.1

    behind_same : list_any (of_run e) back ≡ list_any (of_run c) back
    behind_same = any_but r c e back others.covering lacks.1

    -- where the run uses the device, those that were passed behind it wait again
    left : ℕ → Bool
    left x = kept.passed x && not (list_any (is_ran x) back)

    first : (a b : Bool) → (a && b) ≡ true → a ≡ true
    first a b h = grind (arith, common_steps)

    again_ : ℕ → Access
    again_ = access_read (point w n g) left d

    later : ℕ → Access
    later = access_read (point w next g) left d

    again_others : SameBut r p q c e again_ later
    again_others = record { has_one = others.has_one; covering = others.covering; access = λ x ne. ap (access_by w g left d x) (put_other n.run r new x ne) }

    device : is_device w d ≡ true
    device = grind (arith, common_steps)

    -- a run in front is passed as it was
    front_left : (x : ℕ) → list_any (is_ran x) front ≡ true → again_ x ≡ before_ x
    front_left x there = λ i. record {
      run = run_no x;
      status = if same_left i then Released else status_by_answers (point w n g) x d;
      view = if same_left i then Some Down else option_map view_when (view_of n x d);
      wrote = if is_undone n g x d then None else ((n.run x).on d).wrote;
      from = planned_start (n.run x).planned d;
      to = planned_end (n.run x).planned d;
    }
      where
        all : (b : Bool) → (b && true) ≡ b
        all true = refl
        all false = refl

        elsewhere : (b : Bool) → list_any (is_ran x) back ≡ b → b ≡ false
        elsewhere true h = absurd (lacks_none x front (apart.1 x h) x there refl)
        elsewhere false h = refl

        same_left : left x ≡ kept.passed x
        same_left = (λ i. kept.passed x && not (elsewhere (list_any (is_ran x) back) refl i)) ∙ all (kept.passed x)

    -- a run behind has not touched the device, and waits
    back_again : touches w.runs r d ≡ true → (x : ℕ) → list_any (is_ran x) back ≡ true → again_ x ≡ waits_again (before_ x)
    back_again on x there =
        (λ i. record {
          run = run_no x;
          status = if not_left i then Released else (if unseen i then (if is_at_work (point w n g) x d then Acquired else Released) else Scheduled);
          view = if not_left i then Some Down else option_map view_when (no_view i);
          wrote = wrote_;
          from = planned_start (n.run x).planned d;
          to = planned_end (n.run x).planned d;
        })
        ∙ by_passed (kept.passed x)
        ∙ (λ i. waits_again (record {
          run = run_no x;
          status = if kept.passed x then Released else (if sym unseen i then (if is_at_work (point w n g) x d then Acquired else Released) else Scheduled);
          view = if kept.passed x then Some Down else option_map view_when (sym no_view i);
          wrote = wrote_;
          from = planned_start (n.run x).planned d;
          to = planned_end (n.run x).planned d;
        }))
      where
        wrote_ : Option ℕ
        wrote_ = if is_undone n g x d then None else ((n.run x).on d).wrote

        none_of : (b : Bool) → (b && false) ≡ false
        none_of true = refl
        none_of false = refl

        not_left : left x ≡ false
        not_left = (λ i. kept.passed x && not (there i)) ∙ none_of (kept.passed x)

        untouched : (u v : Bool) → (u || v) ≡ false → u ≡ false
        untouched u v h = grind (arith, common_steps)

        unseen : did n x d ≡ false
        unseen = untouched (did n x d) (grips_command g x d) (clear_run w n g r at d x clear device on there)

        nothing : (o : Option Bool) → is_some o ≡ false → o ≡ None
        nothing None h = refl
        nothing (Some v) h = absurd (cc)

        no_view : view_of n x d ≡ None
        no_view = nothing (view_of n x d) unseen

        access_if : Bool → Access
        access_if b = record {
          run = run_no x;
          status = if b then Released else Scheduled;
          view = if b then Some Down else None;
          wrote = wrote_;
          from = planned_start (n.run x).planned d;
          to = planned_end (n.run x).planned d;
        }

        by_passed : (b : Bool) → access_if false ≡ waits_again (access_if b)
        by_passed true = refl
        by_passed false = refl

    -- the run's own access
    own_left : left r ≡ false
    own_left = λ i. unpassed i && not (list_any (is_ran r) back)

    waits : later r ≡ waiting_access r planned d
    waits = ap (access_by w g left d r) own ∙ (λ i. record {
      run = run_no r;
      status = if own_left i then Released else (if is_some (shape.clear none d i).view then (if (not (is_some old.doomed) && touches_from w.runs r d (length old.answers)) || grips_command g r d then Acquired else Released) else Scheduled);
      view = if own_left i then Some Down else option_map view_when (shape.clear none d i).view;
      wrote = ((λ j. if (old.on d).undid || grips_undo g r d then None else (shape.clear none d j).wrote) ∙ none_written ((old.on d).undid || grips_undo g r d)) i;
      from = planned_start planned d;
      to = planned_end planned d;
    })

    -- the run has an access between them
    with_one : touches w.runs r d ≡ true → put_access_before (first_with_access s.accesses back) (waiting_access r planned d) (with_again (first_with_access s.accesses back) s.accesses) ≡ accesses_read (point w next g) left d next.line
    with_one on = subst (λ xs. put_access_before (first_with_access xs back) (waiting_access r planned d) (with_again (first_with_access xs back) xs) ≡ accesses_read (point w next g) left d next.line) (sym was) (
        put_between p c before_ again_ (waiting_access r planned d) (front_accesses p c before_ false front) back apart.0 (λ x. refl) (λ x there used. back_again on x there) (λ x there. front_lacks p c before_ false x front (λ y. refl) (apart.1 x there))
        ∙ sym (
        along_there q e later r front back (used ∙ on) uncommitted (behind_same ∙ written)
        ∙ (λ i. (front_but r p q c e again_ later false front again_others lacks.0 ∙ front_in p c before_ again_ false front front_left) i ++ waits i ∷ along_but r p q c e again_ later back again_others lacks.1 i)
        )
        )
      where
        written : list_any (of_run c) back ≡ false
        written = clear_written w n g r at d read clear device on

        was : s.accesses ≡ front_accesses p c before_ false front ++ accesses_along p c before_ back
        was = kept.accesses ∙ whole ∙ (λ i. front_accesses p c before_ (written i) front ++ accesses_along p c before_ back)

    -- it has none
    with_none : touches w.runs r d ≡ false → s.accesses ≡ accesses_read (point w next g) kept.passed d next.line
    with_none off = kept.accesses ∙ whole ∙ sym (
        along_absent q e then_ r front back (used ∙ off)
        ∙ (λ i. front_accesses q e then_ (uncommitted i || behind_same i) front ++ back_same i)
        ∙ (λ i. front_same (list_any (of_run c) back) i ++ accesses_along p c before_ back)
        )

    same_write : (x : ℕ) → write_by d (next.run x) ≡ write_by d (n.run x)
    same_write = put_says (λ x. write_by d) n.run r new refl

    last_write : Reading → Option ℕ → List Item → Option ℕ
    last_write x best is = fold (λ b i. option_or (committed_write x d i) b) best is

    committed : committed_value w next d ≡ committed_value w n d
    committed = ap (λ o. unwrap_or o (stand_at w.first d).value) (
        fold-append (λ b i. option_or (committed_write next d i) b) None front (Ran (run_no r) ∷ back)
        ∙ (λ i. last_write next (option_or (no_write i) (last_write next None front)) back)
        ∙ sym (fold-append (λ b i. option_or (committed_write next d i) b) None front back)
        ∙ ap (last_write next None) parts
        ∙ same_committed n next d None n.line same_write
        )
      where
        no_write : committed_write next d (Ran (run_no r)) ≡ None
        no_write = same_write r ∙ (λ i. if unwrap_or (option_map is_committing (going i)) false then (old.on d).wrote else None)

    one : OnePlaced n next r
    one = record { before = none; after = ap (λ o. is_none o.placed) own; others = λ x ne. ap (λ o. is_none o.placed) (put_other n.run r new x ne) }

    fewer : unplaced_on w n d ≡ cond (touches w.runs r d) 1 0 + unplaced_on w next d
    fewer = one_fewer n next d r 1 of_window.index w.runs of_window.run of_window.at of_window.number one ∙ ap (λ cs. cond (list_any (is_on d) cs) 1 0 + unplaced_on w next d) (sym of_window.commands)

    at_ : (b : Bool) → touches w.runs r d ≡ b → LineageIsKept (point w next g) d (placed_change w n r at planned d s)
    at_ true on = subst (LineageIsKept (point w next g) d) (λ i. if sym on i then scheduled (first_with_access s.accesses back) (waiting_access r planned d) (rescheduled (first_with_access s.accesses back) s) else s) (record {
      passed = left;
      may_pass = λ x passed. may_after x (kept.may_pass x (first (kept.passed x) (not (list_any (is_ran x) back)) passed));
      committed = kept.committed ∙ sym committed;
      accesses = with_one on;
      room = let less : unplaced_on w n d ≡ 1 + unplaced_on w next d = fewer ∙ ap (λ b. cond b 1 0 + unplaced_on w next d) on in let room = kept.room in omega (arith, less, room);
      up = kept.up;
    })
    at_ false off = subst (LineageIsKept (point w next g) d) (λ i. if sym off i then scheduled (first_with_access s.accesses back) (waiting_access r planned d) (rescheduled (first_with_access s.accesses back) s) else s) (record {
      passed = kept.passed;
      may_pass = λ x passed. may_after x (kept.may_pass x passed);
      committed = kept.committed ∙ sym committed;
      accesses = with_none off;
      room = let less : unplaced_on w n d ≡ 0 + unplaced_on w next d = fewer ∙ ap (λ b. cond b 1 0 + unplaced_on w next d) off in let room = kept.room in omega (arith, less, room);
      up = kept.up;
    })

-- a run that is placed is new on each of its devices: behind a place that is clear no access is acquired
pub new_on : (w : Setting) (n : Reading) (g : Grips) (r at m : ℕ) → IsRead w n → may_follow w n (Placed (run_no r) at m) ≡ true → IsClear (point w n g) r at
    → (d : ℕ) → d < length w.first → (s : LineageState) → touches w.runs r d ≡ true → LineageIsKept (point w n g) d s → IsNewOn r (drop at n.line) s
new_on w n g r at m read may clear d below s used kept = record {
  none = ap (has_access r) kept.accesses ∙ along_lacks p c access r n.line (λ x. refl) lacks;
  room = let room = kept.room in omega (arith, some, room);
  waits = ap (λ xs. some_acquired (accesses_from (first_with_access xs back) xs)) was ∙ from_between p c access before_ back apart.0 (λ x. refl) (λ x there uses. unacquired x there) (λ x there. front_lacks p c access (list_any (of_run c) back) x front (λ y. refl) (apart.1 x there));
}
  where
    front : List Item
    front = take at n.line

    back : List Item
    back = drop at n.line

    p : ℕ → Bool
    p = uses w n d

    c : ℕ → Bool
    c = commits_write n d

    access : ℕ → Access
    access = access_read (point w n g) kept.passed d

    before_ : List Access
    before_ = front_accesses p c access (list_any (of_run c) back) front

    parts : front ++ back ≡ n.line
    parts = take-append-drop at n.line

    was : s.accesses ≡ before_ ++ accesses_along p c access back
    was = kept.accesses ∙ ap (accesses_along p c access) (sym parts) ∙ along_parts p c access front back

    apart : RunsAreDistinct back × ((x : ℕ) → list_any (is_ran x) back ≡ true → Lacks x front)
    apart = distinct_parts front back (subst RunsAreDistinct (sym parts) (runs_distinct n read.once))

    device : is_device w d ≡ true
    device = grind (arith, common_steps)

    unacquired : (x : ℕ) → list_any (is_ran x) back ≡ true → is_acquired (access x).status ≡ false
    unacquired x there = by_passed (kept.passed x)
      where
        untouched : (u v : Bool) → (u || v) ≡ false → u ≡ false
        untouched u v h = grind (arith, common_steps)

        by_passed : (b : Bool) → is_acquired (if b then Released else status_by_answers (point w n g) x d) ≡ false
        by_passed true = refl
        by_passed false = λ i. is_acquired (if untouched (did n x d) (grips_command g x d) (clear_run w n g r at d x clear device used there) i then (if is_at_work (point w n g) x d then Acquired else Released) else Scheduled)

    none : is_none (n.run r).placed ≡ true
    none = grind (arith, common_steps)

    run : is_run w.runs r ≡ true
    run = grind (arith, common_steps)

    of_window : Stands w r
    of_window = stands w r run

    unplaced : (p : Option PlacedAt) (b : Bool) → is_none p ≡ true → (is_some p && b) ≡ false
    unplaced None b h = refl
    unplaced (Some x) b h = absurd (cc)

    lacks : Lacks r n.line
    lacks = lacks_count r n.line (read.once r ∙ ap (λ b. cond b 1 0) (unplaced (n.run r).placed (not (aborted (n.run r))) none))

    next : Reading
    next = record n { run = put n.run r (record (n.run r) { placed = Some (record { place = 0; moment = 0; stamp = 0 }) }) }

    one : OnePlaced n next r
    one = record { before = none; after = ap (λ (o : OfRun). is_none o.placed) (put_same n.run r _); others = λ q ne. ap (λ (o : OfRun). is_none o.placed) (put_other n.run r _ q ne) }

    some : unplaced_on w n d ≡ 1 + unplaced_on w next d
    some = one_fewer n next d r 1 of_window.index w.runs of_window.run of_window.at of_window.number one ∙ ap (λ cs. cond (list_any (is_on d) cs) 1 0 + unplaced_on w next d) (sym of_window.commands) ∙ ap (λ b. cond b 1 0 + unplaced_on w next d) used
