-- How the scheduled accesses before a run's are passed, one after another.
use Rattle.window_order.proofs.Prelude.{Access, Acquired, AllByRecursion, AreOfTwoRuns, Bool, Down, IsDisciplined, IsFirst, IsWaiting, LineageState, List, None, Option, Released, Scheduled, Some, Status, [], accesses_before, acquired, acquired_at, ap, arith, before_at, common_steps, cond, count_by, count_insert, false, find, has_access, if◌then◌else◌, is_acquired, is_of, is_scheduled, list_any-append, map, not, option_map, or_from, or_parts, pairs_from_all, pairs_front, pass_access, pass_at, passed, refl, released, some_acquired, some_scheduled, status_at, status_of, subst, sym, true, unwrap_or, with_passed, ℕ, ◌++◌, ◌+◌, ◌<◌, ◌==◌, ◌||◌, ◌∙◌, ◌∷◌, ◌≡◌}
use Rattle.lineage_table.proofs.Cited.{Pairs}

-- the access is scheduled
abbrev pub waits : Access → Bool
waits x = is_scheduled x.status

-- the first scheduled access before that of the run
abbrev pub next_waiting : ℕ → List Access → Option Access
next_waiting r xs = find waits (accesses_before r xs)

-- how many of those there are
abbrev pub waits_before : ℕ → List Access → ℕ
waits_before r xs = count_by waits (accesses_before r xs)

self : (x : Access) → is_of x.run.0 x ≡ true
self x = grind (arith, common_steps)

-- a list cut at the first scheduled access before that of the run
record CutBefore (r : ℕ) (x : Access) (xs : List Access) : Type 0 where
  front : List Access
  back : List Access
  list : xs ≡ front ++ x ∷ back
  none_waits : some_scheduled front ≡ false
  none_own : has_access r front ≡ false
  other : is_of r x ≡ false
  scheduled : waits x ≡ true

cut_before : (r : ℕ) (x : Access) (xs : List Access) → next_waiting r xs ≡ Some x → CutBefore r x xs
cut_before r x [] h = absurd (cc)
cut_before r x (y ∷ ys) h = at_ (λ e. cut_before r x ys e) (is_of r y) (waits y) refl refl h
  where
    the : (u v : Access) → Some u ≡ Some v → u ≡ v
    the u v e = ap (λ o. unwrap_or o u) e

    at_ : (next_waiting r ys ≡ Some x → CutBefore r x ys) → (a b : Bool) → is_of r y ≡ a → waits y ≡ b → find waits (if a then [] else (y ∷ accesses_before r ys)) ≡ Some x → CutBefore r x (y ∷ ys)
    at_ ih true b e f h = absurd (cc)
    at_ ih false true e f h =
        let same : y ≡ x = the y x (ap (λ c. cond c (Some y) (find waits (accesses_before r ys))) (sym f) ∙ h) in
        record { front = []; back = ys; list = ap (λ z. z ∷ ys) same; none_waits = refl; none_own = refl; other = ap (is_of r) (sym same) ∙ e; scheduled = ap waits (sym same) ∙ f }
    at_ ih false false e f h =
        let c : CutBefore r x ys = ih (ap (λ c. cond c (Some y) (find waits (accesses_before r ys))) (sym f) ∙ h) in
        record { front = y ∷ c.front; back = c.back; list = ap (λ l. y ∷ l) c.list; none_waits = or_from (waits y) (some_scheduled c.front) f c.none_waits; none_own = or_from (is_of r y) (has_access r c.front) e c.none_own; other = c.other; scheduled = c.scheduled }

-- no access in front is of the same run
pub alone : (x : Access) (a b : List Access) → Pairs AreOfTwoRuns (a ++ x ∷ b) → has_access x.run.0 a ≡ false
alone x a b pairs = each a (pairs_front AreOfTwoRuns a x b pairs)
  where
    differ : (u v : ℕ) → not (u == v) ≡ true → (v == u) ≡ false
    differ u v h = grind (arith, common_steps)

    each : (ys : List Access) → AllByRecursion (λ u. AreOfTwoRuns u x) ys → has_access x.run.0 ys ≡ false
    each [] h = refl
    each (y ∷ ys) h = or_from (is_of x.run.0 y) (has_access x.run.0 ys) (differ x.run.0 y.run.0 h.0) (each ys h.1)

-- the accesses with one in the middle that is not the run's

passed_at : (r : ℕ) (a : List Access) (z : Access) (b : List Access) → has_access r a ≡ false → is_of r z ≡ false → with_passed r (a ++ z ∷ b) ≡ map pass_access a ++ pass_access z ∷ with_passed r b
passed_at r [] z b none other = ap (λ c. if c then (z ∷ b) else (pass_access z ∷ with_passed r b)) other
passed_at r (y ∷ a) z b none other = let p = or_parts (is_of r y) (has_access r a) none in
    ap (λ c. if c then (y ∷ (a ++ z ∷ b)) else (pass_access y ∷ with_passed r (a ++ z ∷ b))) p.0 ∙ ap (λ l. pass_access y ∷ l) (passed_at r a z b p.1 other)

before_past : (r : ℕ) (a : List Access) (z : Access) (b : List Access) → has_access r a ≡ false → is_of r z ≡ false → accesses_before r (a ++ z ∷ b) ≡ a ++ z ∷ accesses_before r b
before_past r [] z b none other = grind (arith, common_steps)
before_past r (y ∷ a) z b none other = grind (arith, common_steps, before_past r a z b)

status_past : (r : ℕ) (a : List Access) (z : Access) (b : List Access) → has_access r a ≡ false → is_of r z ≡ false → status_of r (a ++ z ∷ b) ≡ status_of r b
status_past r [] z b none other = grind (arith, common_steps)
status_past r (y ∷ a) z b none other = grind (arith, common_steps, status_past r a z b)

-- the access is passed
abbrev pub passed_access : Access → Access
passed_access x = record x { status = Released; view = Some Down }

again : (x : Access) → waits x ≡ true → pass_access (passed_access x) ≡ pass_access x
again x h = sym (ap (λ b. if b then passed_access x else x) h)

acquired_parts : (a : List Access) (x : Access) (b : List Access) → some_acquired (a ++ x ∷ b) ≡ false → (some_acquired a ≡ false) × (some_acquired b ≡ false)
acquired_parts a x b h = parts (some_acquired a) (is_acquired x.status) (some_acquired b) (sym (list_any-append (λ y. is_acquired y.status) a (x ∷ b)) ∙ h)
  where
    parts : (p q s : Bool) → (p || (q || s)) ≡ false → (p ≡ false) × (s ≡ false)
    parts p q s h = (grind (arith, common_steps), grind (arith, common_steps))

-- the access of the run q, which is passed next, is the first of the scheduled ones, and passing it leaves one less to pass
pub record PassesFirst (r q : ℕ) (s : LineageState) : Type 0 where
  pub first : IsFirst q s
  pub waiting : IsWaiting r (released q (acquired q Down s))
  pub same : passed r (released q (acquired q Down s)) ≡ passed r s
  pub fewer : waits_before r (released q (acquired q Down s)).accesses < waits_before r s.accesses

pub pass_first : (r : ℕ) (x : Access) (s : LineageState) → IsDisciplined s.accesses → IsWaiting r s → next_waiting r s.accesses ≡ Some x → PassesFirst r x.run.0 s
pass_first r x s disciplined waiting found = record {
  first = record {
    scheduled = ap (status_of x.run.0) c.list ∙ status_at x.run.0 c.front x c.back own (self x) ∙ ap (λ t. Some t) (is_waiting x.status c.scheduled);
    none_acquired = waiting.none_acquired;
    none_before = ap some_scheduled (ap (accesses_before x.run.0) c.list ∙ before_at x.run.0 c.front x c.back own (self x)) ∙ c.none_waits;
  };
  waiting = record {
    scheduled = ap (status_of r) after ∙ status_past r c.front (passed_access x) c.back c.none_own c.other ∙ sym (status_past r c.front x c.back c.none_own c.other) ∙ ap (status_of r) (sym c.list) ∙ waiting.scheduled;
    none_acquired = ap some_acquired after ∙ acquired_at c.front (passed_access x) c.back acquired_none.0 refl acquired_none.1;
  };
  same = ap (λ (l : List Access). record s { accesses = l }) same;
  fewer = less;
}
  where
    c : CutBefore r x s.accesses
    c = cut_before r x s.accesses found

    own : has_access x.run.0 c.front ≡ false
    own = alone x c.front c.back (subst (Pairs AreOfTwoRuns) c.list (pairs_from_all AreOfTwoRuns s.accesses disciplined.one_each))

    is_waiting : (t : Status) → is_scheduled t ≡ true → t ≡ Scheduled
    is_waiting Released h = absurd (cc)
    is_waiting Acquired h = absurd (cc)
    is_waiting Scheduled h = refl

    after : (released x.run.0 (acquired x.run.0 Down s)).accesses ≡ c.front ++ passed_access x ∷ c.back
    after = ap (λ (l : List Access). (released x.run.0 (acquired x.run.0 Down (record s { accesses = l }))).accesses) c.list ∙ pass_at x.run.0 Down c.front x c.back own (self x)

    acquired_none : (some_acquired c.front ≡ false) × (some_acquired c.back ≡ false)
    acquired_none = acquired_parts c.front x c.back (ap some_acquired (sym c.list) ∙ waiting.none_acquired)

    same : with_passed r (released x.run.0 (acquired x.run.0 Down s)).accesses ≡ with_passed r s.accesses
    same =
        ap (with_passed r) after ∙ passed_at r c.front (passed_access x) c.back c.none_own c.other ∙ ap (λ y. map pass_access c.front ++ y ∷ with_passed r c.back) (again x c.scheduled)
        ∙ sym (ap (with_passed r) c.list ∙ passed_at r c.front x c.back c.none_own c.other)

    was : waits_before r s.accesses ≡ 1 + count_by waits (c.front ++ accesses_before r c.back)
    was = ap (waits_before r) c.list ∙ ap (count_by waits) (before_past r c.front x c.back c.none_own c.other) ∙ count_insert waits c.front (accesses_before r c.back) x ∙ ap (λ b. cond b 1 0 + count_by waits (c.front ++ accesses_before r c.back)) c.scheduled

    is : waits_before r (released x.run.0 (acquired x.run.0 Down s)).accesses ≡ 0 + count_by waits (c.front ++ accesses_before r c.back)
    is = ap (waits_before r) after ∙ ap (count_by waits) (before_past r c.front (passed_access x) c.back c.none_own c.other) ∙ count_insert waits c.front (accesses_before r c.back) (passed_access x)

    less : waits_before r (released x.run.0 (acquired x.run.0 Down s)).accesses < waits_before r s.accesses
    less = omega (arith, was, is)

-- where none is left to pass

none_later : (r : ℕ) (y : Access) (ys : List Access) → is_of r y ≡ false → next_waiting r (y ∷ ys) ≡ None → (waits y ≡ false) × (next_waiting r ys ≡ None)
none_later r y ys other h = at_ (waits y) refl (ap (λ c. find waits (if c then [] else (y ∷ accesses_before r ys))) (sym other) ∙ h)
  where
    at_ : (b : Bool) → waits y ≡ b → cond b (Some y) (next_waiting r ys) ≡ None → (waits y ≡ false) × (next_waiting r ys ≡ None)
    at_ true e h = absurd (cc)
    at_ false e h = (e, h)

none_waits : (r : ℕ) (xs : List Access) → next_waiting r xs ≡ None → some_scheduled (accesses_before r xs) ≡ false
none_waits r [] h = refl
none_waits r (y ∷ ys) h = at_ (λ e. none_waits r ys e) (is_of r y) refl
  where
    at_ : (next_waiting r ys ≡ None → some_scheduled (accesses_before r ys) ≡ false) → (b : Bool) → is_of r y ≡ b → some_scheduled (if b then [] else (y ∷ accesses_before r ys)) ≡ false
    at_ ih true e = refl
    at_ ih false e = let p = none_later r y ys e h in or_from (waits y) (some_scheduled (accesses_before r ys)) p.0 (ih p.1)

none_passes : (r : ℕ) (xs : List Access) → next_waiting r xs ≡ None → with_passed r xs ≡ xs
none_passes r [] h = refl
none_passes r (y ∷ ys) h = at_ (λ e. none_passes r ys e) (is_of r y) refl
  where
    at_ : (next_waiting r ys ≡ None → with_passed r ys ≡ ys) → (b : Bool) → is_of r y ≡ b → (if b then (y ∷ ys) else (pass_access y ∷ with_passed r ys)) ≡ y ∷ ys
    at_ ih true e = refl
    at_ ih false e = let p = none_later r y ys e h in (λ i. (if p.0 i then passed_access y else y) ∷ ih p.1 i)

-- .. nothing changes, and the run's access is the first of the scheduled ones
pub record PassesNone (r : ℕ) (s : LineageState) : Type 0 where
  pub first : IsFirst r s
  pub same : passed r s ≡ s

pub pass_none : (r : ℕ) (s : LineageState) → IsWaiting r s → next_waiting r s.accesses ≡ None → PassesNone r s
pass_none r s waiting none = record {
  first = record { scheduled = waiting.scheduled; none_acquired = waiting.none_acquired; none_before = none_waits r s.accesses none };
  same = ap (λ (l : List Access). record s { accesses = l }) (none_passes r s.accesses none);
}

-- when all are passed

status_passed : (r : ℕ) (xs : List Access) → status_of r (with_passed r xs) ≡ status_of r xs
status_passed r [] = refl
status_passed r (y ∷ ys) = at_ (status_passed r ys) (is_of r y) (waits y) refl
  where
    at_ : status_of r (with_passed r ys) ≡ status_of r ys → (b c : Bool) → is_of r y ≡ b → status_of r (if b then (y ∷ ys) else ((if c then passed_access y else y) ∷ with_passed r ys)) ≡ status_of r (y ∷ ys)
    at_ ih true c e = refl
    at_ ih false true e = ap (λ d. option_map (λ (x : Access). x.status) (cond d (Some (passed_access y)) (find (is_of r) (with_passed r ys)))) e ∙ ih ∙ sym (ap (λ d. option_map (λ (x : Access). x.status) (cond d (Some y) (find (is_of r) ys))) e)
    at_ ih false false e = ap (λ d. option_map (λ (x : Access). x.status) (cond d (Some y) (find (is_of r) (with_passed r ys)))) e ∙ ih ∙ sym (ap (λ d. option_map (λ (x : Access). x.status) (cond d (Some y) (find (is_of r) ys))) e)

unacquired_passed : (r : ℕ) (xs : List Access) → some_acquired xs ≡ false → some_acquired (with_passed r xs) ≡ false
unacquired_passed r [] h = refl
unacquired_passed r (y ∷ ys) h = at_ (unacquired_passed r ys (or_parts (is_acquired y.status) (some_acquired ys) h).1) (is_of r y) (waits y)
  where
    at_ : some_acquired (with_passed r ys) ≡ false → (b c : Bool) → some_acquired (if b then (y ∷ ys) else ((if c then passed_access y else y) ∷ with_passed r ys)) ≡ false
    at_ ih true c = h
    at_ ih false true = ih
    at_ ih false false = or_from (is_acquired y.status) (some_acquired (with_passed r ys)) (or_parts (is_acquired y.status) (some_acquired ys) h).0 ih

none_before_passed : (r : ℕ) (xs : List Access) → some_scheduled (accesses_before r (with_passed r xs)) ≡ false
none_before_passed r [] = refl
none_before_passed r (y ∷ ys) = at_ (none_before_passed r ys) (is_of r y) (waits y) refl refl
  where
    at_ : some_scheduled (accesses_before r (with_passed r ys)) ≡ false → (b c : Bool) → is_of r y ≡ b → waits y ≡ c → some_scheduled (accesses_before r (if b then (y ∷ ys) else ((if c then passed_access y else y) ∷ with_passed r ys))) ≡ false
    at_ ih true c e f = ap (λ d. some_scheduled (if d then [] else (y ∷ accesses_before r ys))) e
    at_ ih false true e f = ap (λ d. some_scheduled (if d then [] else (passed_access y ∷ accesses_before r (with_passed r ys)))) e ∙ ih
    at_ ih false false e f = ap (λ d. some_scheduled (if d then [] else (y ∷ accesses_before r (with_passed r ys)))) e ∙ or_from (waits y) (some_scheduled (accesses_before r (with_passed r ys))) f ih

-- .. the run's access is the first of those that are left scheduled
pub passed_first : (r : ℕ) (s : LineageState) → IsWaiting r s → IsFirst r (passed r s)
passed_first r s waiting = record { scheduled = status_passed r s.accesses ∙ waiting.scheduled; none_acquired = unacquired_passed r s.accesses waiting.none_acquired; none_before = none_before_passed r s.accesses }
