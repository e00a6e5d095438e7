-- The lineages as a run commits.
use Rattle.window_order.proofs.Prelude.{Access, Back, Bool, Commands, Committed, CutAt, Ended, Failed, Grip, Grips, GripsFit, Item, Lacks, LineageIsKept, LineageState, List, None, OfRun, Option, Probes, Purpose, Ran, Reading, Setting, Some, Undoes, [], access_of, access_read, accesses_along, accesses_behind, accesses_read, accesses_without, ap, arith, behind_at, commits_write, committed_lineage, committed_value, committed_write, common_steps, did, did_not_passed, did_touches, entry, false, fold, fold-append, grips_undo, has_access, has_written, if◌then◌else◌, is_committed, is_doomed, is_live, is_none, is_of, is_some, is_undo, is_undone, length, list_any, list_any-append, may_follow, not, of_run, option_and_then, option_map, option_or, point, put_other, put_same, refl, removed, run_no, settled, stand_at, subst, sym, touches, touches_from, true, unplaced_on, unwrap_or, uses, without_at, without_none, written_at, written_by, ℕ, ◌&&◌, ◌++◌, ◌+◌, ◌-◌, ◌==◌, ◌||◌, ◌∙◌, ◌∷◌, ◌≡◌, ◌≢◌, ◌≤◌}
use Rattle.window_order.proofs.AccessLists.{SameBut, along_absent, along_but, along_covered, along_lacks, along_there, any_but, front_accesses, front_but, front_covered, front_lacks}
use Rattle.window_order.proofs.ReadFacts.{IsRead}
use Rattle.window_order.proofs.Representing.{held_as}
use Rattle.window_order.proofs.Runs.{both, cut_live, live_uncommitted}
use Rattle.window_order.proofs.TableFrames.{access_by, commits_by, lineage_same, may_by, put_says, same_unplaced, uses_by, write_by}

-- The last committed write along a list

abbrev last_write : Reading → ℕ → Option ℕ → List Item → Option ℕ
last_write n d best is = fold (λ b x. option_or (committed_write n d x) b) best is

-- where some run of it commits a write, what was there before does not count
write_there : (n : Reading) (d : ℕ) (is : List Item) → list_any (of_run (commits_write n d)) is ≡ true → (a b : Option ℕ) → last_write n d a is ≡ last_write n d b is
write_there n d [] some a b = absurd (cc)
write_there n d (Ran q ∷ is) some a b = at_ (λ h x y. write_there n d is h x y) (is_committed n q.0) ((n.run q.0).on d).wrote some
  where
    at_ : (list_any (of_run (commits_write n d)) is ≡ true → (x y : Option ℕ) → last_write n d x is ≡ last_write n d y is) → (c : Bool) (o : Option ℕ) → ((c && is_some o) || list_any (of_run (commits_write n d)) is) ≡ true
        → last_write n d (option_or (if c then o else None) a) is ≡ last_write n d (option_or (if c then o else None) b) is
    at_ ih true (Some v) h = refl
    at_ ih true None h = ih h a b
    at_ ih false o h = ih h a b
write_there n d (Failed e k ∷ is) some a b = write_there n d is some a b
write_there n d (Back e k ∷ is) some a b = write_there n d is some a b

-- where none does, it stays
write_absent : (n : Reading) (d : ℕ) (is : List Item) → list_any (of_run (commits_write n d)) is ≡ false → (a : Option ℕ) → last_write n d a is ≡ a
write_absent n d [] none a = refl
write_absent n d (Ran q ∷ is) none a = at_ (λ h x. write_absent n d is h x) (is_committed n q.0) ((n.run q.0).on d).wrote none
  where
    at_ : (list_any (of_run (commits_write n d)) is ≡ false → (x : Option ℕ) → last_write n d x is ≡ x) → (c : Bool) (o : Option ℕ) → ((c && is_some o) || list_any (of_run (commits_write n d)) is) ≡ false → last_write n d (option_or (if c then o else None) a) is ≡ a
    at_ ih true (Some v) h = absurd (cc)
    at_ ih true None h = ih h a
    at_ ih false o h = ih h a
write_absent n d (Failed e k ∷ is) none a = write_absent n d is none a
write_absent n d (Back e k ∷ is) none a = write_absent n d is none a

-- it is the same where only a run that the list lacks is another
write_but : (n m : Reading) (d r : ℕ) (is : List Item) → ((q : ℕ) → q ≢ r → write_by d (m.run q) ≡ write_by d (n.run q)) → Lacks r is → (a : Option ℕ) → last_write m d a is ≡ last_write n d a is
unfolding Lacks
write_but n m d r [] same lacks a = refl
write_but n m d r (Ran q ∷ is) same lacks a = ap (λ o. last_write m d (option_or o a) is) (same q.0 lacks.0) ∙ write_but n m d r is same lacks.1 (option_or (committed_write n d (Ran q)) a)
write_but n m d r (Failed e k ∷ is) same lacks a = write_but n m d r is same lacks a
write_but n m d r (Back e k ∷ is) same lacks a = write_but n m d r is same lacks a

-- A lineage without an access of the run

none_of : (r : ℕ) (xs : List Access) → has_access r xs ≡ false → access_of r xs ≡ None
none_of r [] h = refl
none_of r (x ∷ xs) h = grind (arith, common_steps, none_of r xs)

none_written : (r : ℕ) (xs : List Access) → has_access r xs ≡ false → written_by r xs ≡ None
none_written r xs h = ap (option_and_then (λ (x : Access). x.wrote)) (none_of r xs h)

-- where the run has no access nothing changes
unchanged : (r : ℕ) (s : LineageState) → access_of r s.accesses ≡ None → committed_lineage r s ≡ s
unchanged r s e = grind (arith, common_steps, e)

-- its access is gone, ..
removes : (r : ℕ) (s : LineageState) (x : Access) → access_of r s.accesses ≡ Some x → x.wrote ≡ None → committed_lineage r s ≡ removed r s
removes r s x e w = grind (arith, common_steps, e, w)

-- .. or settled, where it wrote
settles : (r v : ℕ) (s : LineageState) (x : Access) → access_of r s.accesses ≡ Some x → x.wrote ≡ Some v → committed_lineage r s ≡ settled r s
settles r v s x e w = grind (arith, common_steps, e, w)

-- what a commit makes of it
record Commits (r : ℕ) (s t : LineageState) : Type 0 where
  accesses : t.accesses ≡ (if is_some (written_by r s.accesses) then accesses_behind r s.accesses else accesses_without r s.accesses)
  committed : t.committed ≡ unwrap_or (written_by r s.accesses) s.committed
  room : s.room ≤ t.room
  up : t.up ≡ s.up

commits : (r : ℕ) (s : LineageState) → Commits r s (committed_lineage r s)
commits r s = at_ (access_of r s.accesses) refl
  where
    more : (a b : ℕ) → a ≤ a + b
    more a b = omega arith

    absent : (xs : List Access) → access_of r xs ≡ None → has_access r xs ≡ false
    absent [] h = refl
    absent (x ∷ xs) h = grind (arith, common_steps, absent xs)

    -- the value that its access has
    value : (x : Access) (o : Option ℕ) → access_of r s.accesses ≡ Some x → x.wrote ≡ o → written_by r s.accesses ≡ o
    value x o e w = ap (option_and_then (λ (y : Access). y.wrote)) e ∙ w

    by_value : (x : Access) → access_of r s.accesses ≡ Some x → (o : Option ℕ) → x.wrote ≡ o → Commits r s (committed_lineage r s)
    by_value x e None w = subst (Commits r s) (sym (removes r s x e w)) (record {
      accesses = (λ i. if is_some (sym (value x None e w) i) then accesses_behind r s.accesses else accesses_without r s.accesses);
      committed = (λ i. unwrap_or (sym (value x None e w) i) s.committed);
      room = more s.room (length s.accesses - length (accesses_without r s.accesses));
      up = refl;
    })
    by_value x e (Some v) w = subst (Commits r s) (sym (settles r v s x e w)) (record {
      accesses = (λ i. if is_some (sym (value x (Some v) e w) i) then accesses_behind r s.accesses else accesses_without r s.accesses);
      committed = refl;
      room = more s.room (length s.accesses - length (accesses_behind r s.accesses));
      up = refl;
    })

    at_ : (o : Option Access) → access_of r s.accesses ≡ o → Commits r s (committed_lineage r s)
    at_ None e = subst (Commits r s) (sym (unchanged r s e)) (record {
      accesses = sym ((λ i. if is_some (option_and_then (λ (y : Access). y.wrote) (e i)) then accesses_behind r s.accesses else accesses_without r s.accesses) ∙ without_none r s.accesses (absent s.accesses e));
      committed = (λ i. unwrap_or (option_and_then (λ (y : Access). y.wrote) (sym e i)) s.committed);
      room = at_most_itself s.room;
      up = refl;
    })
      where
        at_most_itself : (a : ℕ) → a ≤ a
        at_most_itself a = omega arith
    at_ (Some x) e = by_value x e x.wrote refl

-- A run commits

unwritten : (w : Setting) (n : Reading) (r d : ℕ) → IsRead w n → is_live n r ≡ true → uses w n d r ≡ false → ((n.run r).on d).wrote ≡ None
unwritten w n r d read live off = at_ ((n.run r).on d).wrote refl
  where
    clash : (b : Bool) → b ≡ true → b ≡ false → ⊥
    clash b h k = grind (arith, common_steps)

    at_ : (o : Option ℕ) → ((n.run r).on d).wrote ≡ o → ((n.run r).on d).wrote ≡ None
    at_ None e = e
    at_ (Some v) e =
        let seen : did n r d ≡ true = (read.shaped r).wrote d (ap is_some e) in
        absurd (clash (uses w n d r) (λ i. live i && did_touches w n r d read.shaped seen i && not (did_not_passed w n r d seen i)) off)

-- the record of the run
abbrev ended_run : Reading → ℕ → OfRun
ended_run n r = record (n.run r) { ended = Some Committed }

-- on a device that it does not use nothing changes
committed_elsewhere : (w : Setting) (n : Reading) (g : Grips) (r d : ℕ) (s : LineageState) → IsRead w n → is_live n r ≡ true → uses w n d r ≡ false → LineageIsKept (point w n g) d s → LineageIsKept (point w (entry w n (Ended (run_no r) Committed)) g) d s
committed_elsewhere w n g r d s read live off kept = lineage_same w n (entry w n (Ended (run_no r) Committed)) g g d s (record {
  line = refl;
  has_one = put_says (uses_by w d) n.run r (ended_run n r) (gone (is_some (n.run r).placed) (touches w.runs r d) (touches w.runs r d && not (touches_from w.runs r d (length (n.run r).answers)) && not (is_some ((n.run r).on d).view)) ∙ sym off);
  covering = put_says (λ q. commits_by d) n.run r (ended_run n r) ((λ i. is_some (none i)) ∙ sym (λ i. uncommitted i && is_some ((n.run r).on d).wrote));
  write = put_says (λ q. write_by d) n.run r (ended_run n r) (none ∙ sym (λ i. if uncommitted i then ((n.run r).on d).wrote else None));
  unplaced = put_says (λ q o. is_none o.placed) n.run r (ended_run n r) refl;
  up = refl;
  may = λ q may. put_says (may_by g d) n.run r (ended_run n r) refl q ∙ may;
}) kept (put_says (access_by w g kept.passed d) n.run r (ended_run n r) refl)
  where
    none : ((n.run r).on d).wrote ≡ None
    none = unwritten w n r d read live off

    uncommitted : is_committed n r ≡ false
    uncommitted = live_uncommitted n r live

    gone : (a b x : Bool) → ((a && false) && b && not x) ≡ false
    gone a b x = grind (arith, common_steps)

-- on those that it uses its value is committed, or its access is gone
committed_there : (w : Setting) (n : Reading) (g : Grips) (r d : ℕ) → IsRead w n → is_live n r ≡ true → uses w n d r ≡ true → is_undone n g r d ≡ false
    → (s : LineageState) → LineageIsKept (point w n g) d s → LineageIsKept (point w (entry w n (Ended (run_no r) Committed)) g) d (committed_lineage r s)
committed_there w n g r d read live on sound s kept = record {
  passed = kept.passed;
  may_pass = λ q passed. put_says (may_by g d) n.run r (ended_run n r) refl q ∙ kept.may_pass q passed;
  committed = done.committed ∙ at_value (list_any (of_run c) cut.back) refl;
  accesses = done.accesses ∙ at_list (list_any (of_run c) cut.back) refl;
  room = subst (λ x. x ≤ (committed_lineage r s).room) (sym (same_unplaced n m d 1 w.runs (put_says (λ q o. is_none o.placed) n.run r (ended_run n r) refl))) (at_most (unplaced_on w n d) s.room (committed_lineage r s).room kept.room done.room);
  up = done.up ∙ kept.up;
}
  where
    m : Reading
    m = entry w n (Ended (run_no r) Committed)

    own : m.run r ≡ ended_run n r
    own = put_same n.run r (ended_run n r)

    cut : CutAt r n.line
    cut = cut_live w n r read live

    done : Commits r s (committed_lineage r s)
    done = commits r s

    p : ℕ → Bool
    p = uses w n d

    c : ℕ → Bool
    c = commits_write n d

    f : ℕ → Access
    f = access_read (point w n g) kept.passed d

    h : ℕ → Access
    h = access_read (point w m g) kept.passed d

    wrote : Option ℕ
    wrote = ((n.run r).on d).wrote

    front : List Access
    front = front_accesses p c f false cut.front

    back : List Access
    back = accesses_along p c f cut.back

    others : SameBut r p (uses w m d) c (commits_write m d) f h
    others = record {
      has_one = λ x ne. ap (uses_by w d x) (put_other n.run r (ended_run n r) x ne);
      covering = λ x ne. ap (commits_by d) (put_other n.run r (ended_run n r) x ne);
      access = λ x ne. ap (access_by w g kept.passed d x) (put_other n.run r (ended_run n r) x ne);
    }

    at_most : (a b e : ℕ) → a ≤ b → b ≤ e → a ≤ e
    at_most a b e h k = omega (arith, h, k)

    uncommitted : is_committed n r ≡ false
    uncommitted = live_uncommitted n r live

    used : p r ≡ true
    used = on

    uncovering : c r ≡ false
    uncovering = λ i. uncommitted i && is_some wrote

    gone : (a b x : Bool) → ((a && false) && b && not x) ≡ false
    gone a b x = grind (arith, common_steps)

    unused : uses w m d r ≡ false
    unused = ap (uses_by w d r) own ∙ gone (is_some (n.run r).placed) (touches w.runs r d) (touches w.runs r d && not (touches_from w.runs r d (length (n.run r).answers)) && not (is_some ((n.run r).on d).view))

    covering : commits_write m d r ≡ is_some wrote
    covering = ap (commits_by d) own

    back_covers : list_any (of_run (commits_write m d)) cut.back ≡ list_any (of_run c) cut.back
    back_covers = any_but r c (commits_write m d) cut.back others.covering cut.behind

    none_behind : has_access r back ≡ false
    none_behind = along_lacks p c f r cut.back (λ x. refl) cut.behind

    none_before : has_access r front ≡ false
    none_before = front_lacks p c f false r cut.front (λ x. refl) cut.before

    own_access : is_of r (f r) ≡ true
    own_access = same r
      where
        same : (x : ℕ) → (x == x) ≡ true
        same x = grind (arith, common_steps)

    -- a committed run behind it has written the device: it has no access any more
    covered : list_any (of_run c) cut.back ≡ true → s.accesses ≡ back
    covered e = kept.accesses ∙ ap (accesses_read (point w n g) kept.passed d) cut.at ∙ along_covered p c f r cut.front cut.back e

    around : list_any (of_run c) cut.back ≡ false → s.accesses ≡ front ++ f r ∷ back
    around e = kept.accesses ∙ ap (accesses_read (point w n g) kept.passed d) cut.at ∙ along_there p c f r cut.front cut.back used uncovering e

    written : list_any (of_run c) cut.back ≡ false → written_by r s.accesses ≡ wrote
    written e = ap (written_by r) (around e) ∙ written_at r front (f r) back none_before own_access ∙ (λ i. if sound i then None else wrote)

    unwritten_there : list_any (of_run c) cut.back ≡ true → written_by r s.accesses ≡ None
    unwritten_there e = ap (written_by r) (covered e) ∙ none_written r back none_behind

    list_after : (b : Bool) → list_any (of_run c) cut.back ≡ b → accesses_read (point w m g) kept.passed d n.line ≡ front_accesses p c f (is_some wrote || b) cut.front ++ back
    list_after b e =
        ap (accesses_read (point w m g) kept.passed d) cut.at
        ∙ along_absent (uses w m d) (commits_write m d) h r cut.front cut.back unused
        ∙ (λ i. front_accesses (uses w m d) (commits_write m d) h (covering i || (back_covers ∙ e) i) cut.front ++ along_but r p (uses w m d) c (commits_write m d) f h cut.back others cut.behind i)
        ∙ ap (λ xs. xs ++ back) (front_but r p (uses w m d) c (commits_write m d) f h (is_some wrote || b) cut.front others cut.before)

    either : (x : Bool) → (x || true) ≡ true
    either true = refl
    either false = refl

    by_write : (o : Option ℕ) → wrote ≡ o → list_any (of_run c) cut.back ≡ false → (if is_some (written_by r s.accesses) then accesses_behind r s.accesses else accesses_without r s.accesses) ≡ front_accesses p c f (is_some wrote || false) cut.front ++ back
    by_write (Some v) w e =
        (λ i. if is_some ((written e ∙ w) i) then accesses_behind r s.accesses else accesses_without r s.accesses) ∙ ap (accesses_behind r) (around e) ∙ behind_at r front (f r) back none_before own_access
        ∙ sym ((λ i. front_accesses p c f (is_some (w i) || false) cut.front ++ back) ∙ ap (λ xs. xs ++ back) (front_covered p c f cut.front))
    by_write None w e =
        (λ i. if is_some ((written e ∙ w) i) then accesses_behind r s.accesses else accesses_without r s.accesses) ∙ ap (accesses_without r) (around e) ∙ without_at r front (f r) back none_before none_behind own_access
        ∙ sym (λ i. front_accesses p c f (is_some (w i) || false) cut.front ++ back)

    at_list : (b : Bool) → list_any (of_run c) cut.back ≡ b → (if is_some (written_by r s.accesses) then accesses_behind r s.accesses else accesses_without r s.accesses) ≡ accesses_read (point w m g) kept.passed d m.line
    at_list true e =
        (λ i. if is_some (unwritten_there e i) then accesses_behind r s.accesses else accesses_without r s.accesses) ∙ ap (accesses_without r) (covered e) ∙ without_none r back none_behind
        ∙ sym (list_after true e ∙ (λ i. front_accesses p c f (either (is_some wrote) i) cut.front ++ back) ∙ ap (λ xs. xs ++ back) (front_covered p c f cut.front))
    at_list false e = by_write wrote refl e ∙ sym (list_after false e)

    first : ℕ
    first = (stand_at w.first d).value

    -- the last committed write before the run, and then behind it
    value_before : committed_value w n d ≡ unwrap_or (last_write n d (last_write n d None cut.front) cut.back) first
    value_before = ap (λ o. unwrap_or o first) (
        ap (last_write n d None) cut.at ∙ fold-append (λ b x. option_or (committed_write n d x) b) None cut.front (Ran (run_no r) ∷ cut.back)
        ∙ (λ i. last_write n d (option_or (if uncommitted i then wrote else None) (last_write n d None cut.front)) cut.back)
        )

    others_write : (q : ℕ) → q ≢ r → write_by d (m.run q) ≡ write_by d (n.run q)
    others_write q ne = ap (write_by d) (put_other n.run r (ended_run n r) q ne)

    value_after : committed_value w m d ≡ unwrap_or (last_write n d (option_or wrote (last_write n d None cut.front)) cut.back) first
    value_after = ap (λ o. unwrap_or o first) (
        ap (last_write m d None) cut.at ∙ fold-append (λ b x. option_or (committed_write m d x) b) None cut.front (Ran (run_no r) ∷ cut.back)
        ∙ (λ i. last_write m d (option_or (ap (write_by d) own i) (write_but n m d r cut.front others_write cut.before None i)) cut.back)
        ∙ write_but n m d r cut.back others_write cut.behind (option_or wrote (last_write n d None cut.front))
        )

    chosen : (o b : Option ℕ) (x : ℕ) → unwrap_or o (unwrap_or b x) ≡ unwrap_or (option_or o b) x
    chosen None b x = refl
    chosen (Some v) b x = refl

    at_value : (b : Bool) → list_any (of_run c) cut.back ≡ b → unwrap_or (written_by r s.accesses) s.committed ≡ committed_value w m d
    at_value true e =
        (λ i. unwrap_or (unwritten_there e i) s.committed) ∙ kept.committed ∙ value_before
        ∙ ap (λ o. unwrap_or o first) (write_there n d cut.back e (last_write n d None cut.front) (option_or wrote (last_write n d None cut.front))) ∙ sym value_after
    at_value false e =
        (λ i. unwrap_or (written e i) ((kept.committed ∙ value_before ∙ ap (λ o. unwrap_or o first) (write_absent n d cut.back e (last_write n d None cut.front))) i)) ∙ chosen wrote (last_write n d None cut.front) first
        ∙ sym (value_after ∙ ap (λ o. unwrap_or o first) (write_absent n d cut.back e (option_or wrote (last_write n d None cut.front))))

-- a run that is not doomed is not undone
never_undone : (w : Setting) (n : Reading) (g : Grips) (r d : ℕ) → IsRead w n → GripsFit (point w n g) → is_doomed n r ≡ false → is_undone n g r d ≡ false
never_undone w n g r d read fit sound = λ i. undid (((n.run r).on d).undid) refl i || none (grips_undo g r d) refl i
  where
    clash : is_doomed n r ≡ true → ⊥
    clash h = two (is_doomed n r) h sound
      where
        two : (a : Bool) → a ≡ true → a ≡ false → ⊥
        two a h k = grind (arith, common_steps)

    undid : (b : Bool) → ((n.run r).on d).undid ≡ b → ((n.run r).on d).undid ≡ false
    undid true e = absurd (clash ((read.shaped r).undone d e))
    undid false e = e

    by_purpose : (grip : Grip) → g d ≡ Some grip → (grip.maker == r) ≡ true → (p : Purpose) → grip.purpose ≡ p → is_undo p ≡ true → ⊥
    by_purpose grip e own (Commands k) purpose h = absurd (cc)
    by_purpose grip e own (Undoes v) purpose h = clash (second (is_live n r) (is_doomed n r) (has_written n r d) (not ((n.run r).on d).undid) (fit.runs.undos d r v (held_as g r d grip (Undoes v) e own purpose)))
      where
        second : (a b c x : Bool) → (a && b && c && x) ≡ true → b ≡ true
        second a b c x h = grind (arith, common_steps)
    by_purpose grip e own (Probes v) purpose h = absurd (cc)

    at_ : (o : Option Grip) → g d ≡ o → unwrap_or (option_map (λ p. (p.maker == r) && is_undo p.purpose) o) false ≡ true → ⊥
    at_ None e h = absurd (cc)
    at_ (Some grip) e h = let of = both (grip.maker == r) (is_undo grip.purpose) h in by_purpose grip e of.0 grip.purpose refl of.1

    none : (b : Bool) → grips_undo g r d ≡ b → grips_undo g r d ≡ false
    none true e = absurd (at_ (g d) refl e)
    none false e = e

-- each lineage is kept
pub committed_kept : (w : Setting) (n : Reading) (g : Grips) (r : ℕ) → IsRead w n → GripsFit (point w n g) → may_follow w n (Ended (run_no r) Committed) ≡ true
    → (d : ℕ) (s : LineageState) → LineageIsKept (point w n g) d s
    → LineageIsKept (point w (entry w n (Ended (run_no r) Committed)) g) d (committed_lineage r s)
committed_kept w n g r read fit may d s kept = at_ (uses w n d r) refl
  where
    live : is_live n r ≡ true
    live = grind (arith, common_steps)

    sound : is_doomed n r ≡ false
    sound = grind (arith, common_steps)

    f : ℕ → Access
    f = access_read (point w n g) kept.passed d

    -- on a device that it does not use it has no access
    no_access : uses w n d r ≡ false → access_of r s.accesses ≡ None
    no_access e =
        let cut : CutAt r n.line = cut_live w n r read live in
        ap (access_of r) (kept.accesses ∙ ap (accesses_read (point w n g) kept.passed d) cut.at
        ∙ along_absent (uses w n d) (commits_write n d) f r cut.front cut.back e)
        ∙ none_of r _ (apart (front_accesses (uses w n d) (commits_write n d) f _ cut.front) (accesses_along (uses w n d) (commits_write n d) f cut.back)
        (front_lacks (uses w n d) (commits_write n d) f _ r cut.front (λ x. refl) cut.before) (along_lacks (uses w n d) (commits_write n d) f r cut.back (λ x. refl) cut.behind))
      where
        apart : (a b : List Access) → has_access r a ≡ false → has_access r b ≡ false → has_access r (a ++ b) ≡ false
        apart a b h k = list_any-append (is_of r) a b ∙ (λ i. h i || k i)

    at_ : (b : Bool) → uses w n d r ≡ b → LineageIsKept (point w (entry w n (Ended (run_no r) Committed)) g) d (committed_lineage r s)
    at_ true e = committed_there w n g r d read live e (never_undone w n g r d read fit sound) s kept
    at_ false e = subst (LineageIsKept (point w (entry w n (Ended (run_no r) Committed)) g) d) (sym (unchanged r s (no_access e))) (committed_elsewhere w n g r d s read live e kept)
