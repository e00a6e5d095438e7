-- How the accesses from that of a run on wait again, one after another from the last.
use Rattle.window_order.proofs.Prelude.{Access, Acquired, AllByRecursion, AreInTurn, AreOfTwoRuns, Back, Bool, Failed, ForSome, IsDisciplined, IsNewOn, Item, LineageState, List, None, Option, Ran, Released, RunNo, Scheduled, Some, Status, [], access_of, accesses_behind, accesses_from, accesses_without, ap, append-nil, append_assoc, arith, behind_at, common_steps, false, first_with_access, from_run, has_access, if◌then◌else◌, is_acquired, is_of, is_released, is_scheduled, length, length-append, list_any-append, map, not, option_map, or_parts, pairs_back, pairs_from_all, put_access_before, put_at, refl, removed, rescheduled, run_behind, scheduled, slice_get, some_acquired, status_at, status_of, subst, sym, true, unwrap_or, waits_again, with_again, with_again_from, without_at, ℕ, ◌++◌, ◌+◌, ◌-◌, ◌<◌, ◌==◌, ◌||◌, ◌∙◌, ◌∷◌, ◌≡◌}
use Rattle.lineage_table.proofs.Cited.{Pairs}
use Rattle.window_order.proofs.AccessLists.{again_from_at, again_run, from_at}
use Rattle.window_order.proofs.PassedAccesses.{alone}

same : (a b : ℕ) → (a == b) ≡ true → a ≡ b
same a b h = grind (arith, common_steps)

-- a list cut at the access of the run
record CutAtRun (q : ℕ) (x : Access) (xs : List Access) : Type 0 where
  front : List Access
  back : List Access
  list : xs ≡ front ++ x ∷ back
  none : has_access q front ≡ false
  own : is_of q x ≡ true

cut_at_run : (q : ℕ) (x : Access) (xs : List Access) → access_of q xs ≡ Some x → CutAtRun q x xs
cut_at_run q x [] h = absurd (cc)
cut_at_run q x (y ∷ ys) h = by_run (is_of q y) refl h (λ e. cut_at_run q x ys e)
  where
    by_run : (b : Bool) → is_of q y ≡ b → (if b then Some y else access_of q ys) ≡ Some x → (access_of q ys ≡ Some x → CutAtRun q x ys) → CutAtRun q x (y ∷ ys)
    by_run true e h rest = let is : y ≡ x = ap (λ o. unwrap_or o y) h in record { front = []; back = ys; list = ap (λ z. z ∷ ys) is; none = refl; own = ap (is_of q) (sym is) ∙ e }
    by_run false e h rest = let c = rest h in record { front = y ∷ c.front; back = c.back; list = ap (λ l. y ∷ l) c.list; none = λ i. e i || c.none i; own = c.own }

-- no access behind that of the run is its own
lacks_behind : (q : ℕ) (x : Access) (a b : List Access) → is_of q x ≡ true → Pairs AreOfTwoRuns (a ++ x ∷ b) → has_access q b ≡ false
unfolding Pairs
lacks_behind q x a b own pairs = each b (pairs_back AreOfTwoRuns a (x ∷ b) pairs).0
  where
    differ : (y : Access) → AreOfTwoRuns x y → is_of q y ≡ false
    differ y h = by_run (x.run.0) (same x.run.0 q own) h
      where
        by_run : (r : ℕ) → r ≡ q → not (y.run.0 == r) ≡ true → (y.run.0 == q) ≡ false
        by_run r e h = grind (arith, common_steps)

    each : (ys : List Access) → AllByRecursion (AreOfTwoRuns x) ys → has_access q ys ≡ false
    each [] h = refl
    each (y ∷ ys) h = λ i. differ y h.0 i || each ys h.1 i

-- An access past another

from_past : (r : ℕ) (a : List Access) (x : Access) (b : List Access) → has_access r a ≡ false → is_of r x ≡ false → from_run r (a ++ x ∷ b) ≡ from_run r b
from_past r [] x b none other = λ i. if other i then (x ∷ b) else from_run r b
from_past r (y ∷ a) x b none other = let p = or_parts (is_of r y) (has_access r a) none in (λ i. if p.0 i then (y ∷ (a ++ x ∷ b)) else from_run r (a ++ x ∷ b)) ∙ from_past r a x b p.1 other

again_past : (r : ℕ) (a : List Access) (x : Access) (b : List Access) → has_access r a ≡ false → is_of r x ≡ false → with_again_from r (a ++ x ∷ b) ≡ a ++ x ∷ with_again_from r b
again_past r [] x b none other = λ i. if other i then (waits_again x ∷ map waits_again b) else (x ∷ with_again_from r b)
again_past r (y ∷ a) x b none other =
    let p = or_parts (is_of r y) (has_access r a) none in
    (λ i. if p.0 i then (waits_again y ∷ map waits_again (a ++ x ∷ b)) else (y ∷ with_again_from r (a ++ x ∷ b))) ∙ ap (λ l. y ∷ l) (again_past r a x b p.1 other)

has_again : (q : ℕ) (xs : List Access) → has_access q (map waits_again xs) ≡ has_access q xs
has_again q [] = refl
has_again q (x ∷ xs) = λ i. ap (λ (r : RunNo). r.0 == q) (again_run x) i || has_again q xs i

-- an access that is not acquired waits then
again_waits : (x : Access) → is_acquired x.status ≡ false → (waits_again x).status ≡ Scheduled
again_waits x none = by_status x.status none
  where
    by_status : (t : Status) → is_acquired t ≡ false → (if is_released t then record x { status = Scheduled; view = None } else record x { status = t }).status ≡ Scheduled
    by_status Released h = refl
    by_status Acquired h = absurd (cc)
    by_status Scheduled h = refl

-- Nothing to do

-- where the run has none
pub none_again : (q : ℕ) (xs : List Access) → access_of q xs ≡ None → with_again_from q xs ≡ xs
none_again q [] h = refl
none_again q (x ∷ xs) h = by_run (is_of q x) refl h (none_again q xs)
  where
    by_run : (b : Bool) → is_of q x ≡ b → (if b then Some x else access_of q xs) ≡ None → (access_of q xs ≡ None → with_again_from q xs ≡ xs) → (if b then (waits_again x ∷ map waits_again xs) else (x ∷ with_again_from q xs)) ≡ x ∷ xs
    by_run true e h rest = absurd (cc)
    by_run false e h rest = ap (λ l. x ∷ l) (rest h)

-- .. and where its access is not released: then those behind it wait
pub same_again : (q : ℕ) (x : Access) (xs : List Access) → IsDisciplined xs → access_of q xs ≡ Some x → is_released x.status ≡ false → with_again_from q xs ≡ xs
unfolding Pairs
same_again q x xs disciplined at waiting =
    ap (with_again_from q) c.list
    ∙ again_from_at q c.front x c.back c.none c.own
    ∙ (λ i. c.front ++ (if waiting i then record x { status = Scheduled; view = None } else x) ∷ each c.back (pairs_back AreInTurn c.front (x ∷ c.back) (subst (Pairs AreInTurn) c.list (pairs_from_all AreInTurn xs disciplined.in_turn))).0 i)
    ∙ sym c.list
  where
    c : CutAtRun q x xs
    c = cut_at_run q x xs at

    waits : (a b : Bool) → a ≡ false → (a || b) ≡ true → b ≡ true
    waits a b h k = grind (arith, common_steps)

    unreleased : (t : Status) → is_scheduled t ≡ true → is_released t ≡ false
    unreleased Released h = absurd (cc)
    unreleased Acquired h = absurd (cc)
    unreleased Scheduled h = refl

    each : (ys : List Access) → AllByRecursion (AreInTurn x) ys → map waits_again ys ≡ ys
    each [] h = refl
    each (y ∷ ys) h = λ i. (if unreleased y.status (waits (is_released x.status) (is_scheduled y.status) waiting h.0) i then record y { status = Scheduled; view = None } else y) ∷ each ys h.1 i

-- One access waits again, with those behind it waiting

-- the access, taken out and put back before the next one
pub record WaitsAgain (q : RunNo) (x : Access) (next : Option RunNo) (s : LineageState) : Type 0 where
  -- those behind it first
  pub unused : some_acquired (accesses_from next s.accesses) ≡ false
  pub fewer : length (accesses_from next s.accesses) < length (from_run q.0 s.accesses)
  -- then its own
  pub new : has_access x.run.0 (removed q.0 (rescheduled next s)).accesses ≡ false
  pub room : 0 < (removed q.0 (rescheduled next s)).room
  pub before : ForSome next (λ r. status_of r.0 (removed q.0 (rescheduled next s)).accesses ≡ Some Scheduled)
  pub same : scheduled next (record x { status = Scheduled; view = None }) (removed q.0 (rescheduled next s)) ≡ rescheduled (Some q) s

module _ (q : RunNo) (x : Access) (s : LineageState) (disciplined : IsDisciplined s.accesses) (at : access_of q.0 s.accesses ≡ Some x) (released : is_released x.status ≡ true) (unused : some_acquired (from_run q.0 s.accesses) ≡ false) where
  cut : CutAtRun q.0 x s.accesses
  cut = cut_at_run q.0 x s.accesses at

  again : Access
  again = record x { status = Scheduled; view = None }

  lacks_back : (b : List Access) → s.accesses ≡ cut.front ++ x ∷ b → has_access q.0 (map waits_again b) ≡ false
  lacks_back b list = has_again q.0 b ∙ lacks_behind q.0 x cut.front b cut.own (subst (Pairs AreOfTwoRuns) list (pairs_from_all AreOfTwoRuns s.accesses disciplined.one_each))

  -- what is known, with these behind it
  record Behind (b : List Access) (next : Option RunNo) : Type 0 where
    unused_ : some_acquired (accesses_from next s.accesses) ≡ false
    fewer_ : length (accesses_from next s.accesses) < length (from_run q.0 s.accesses)
    after : with_again next s.accesses ≡ cut.front ++ x ∷ map waits_again b
    before_ : ForSome next (λ r. status_of r.0 (cut.front ++ map waits_again b) ≡ Some Scheduled)
    put : put_access_before next again (cut.front ++ map waits_again b) ≡ cut.front ++ again ∷ map waits_again b

  behind_it : (b : List Access) → s.accesses ≡ cut.front ++ x ∷ b → some_acquired (x ∷ b) ≡ false → Behind b (option_map (λ (y : Access). y.run) (slice_get b 0))
  behind_it [] list none = record {
    unused_ = refl;
    fewer_ = let own = ap (λ (l : List Access). length l) (ap (from_run q.0) list ∙ from_at q.0 cut.front x [] cut.none cut.own) in omega (arith, own);
    after = list;
    before_ = λ r h. absurd (cc);
    put = ap (λ l. l ++ again ∷ []) (append-nil cut.front);
  }
  behind_it (z ∷ b) list none = record {
    unused_ = ap some_acquired from_next ∙ (or_parts (is_acquired x.status) (some_acquired (z ∷ b)) none).1;
    fewer_ = less;
    after = ap (with_again_from z.run.0) list ∙ again_past z.run.0 cut.front x (z ∷ b) apart.0 apart.1 ∙ (λ i. cut.front ++ x ∷ (if self z i then (waits_again z ∷ map waits_again b) else (z ∷ with_again_from z.run.0 b)));
    before_ = λ r h. subst (λ (y : RunNo). status_of y.0 (cut.front ++ waits_again z ∷ map waits_again b) ≡ Some Scheduled) (the r h)
        (status_at z.run.0 cut.front (waits_again z) (map waits_again b) apart.0 again_own ∙ ap (λ t. Some t) (again_waits z (or_parts (is_acquired z.status) (some_acquired b) (or_parts (is_acquired x.status) (some_acquired (z ∷ b)) none).1).0));
    put = put_at z.run.0 again cut.front (waits_again z) (map waits_again b) apart.0 again_own;
  }
    where
      the : (r : RunNo) → Some z.run ≡ Some r → z.run ≡ r
      the r h = ap (λ o. unwrap_or o z.run) h

      self : (y : Access) → is_of y.run.0 y ≡ true
      self y = grind (arith, common_steps)

      again_own : is_of z.run.0 (waits_again z) ≡ true
      again_own = ap (λ (r : RunNo). r.0 == z.run.0) (again_run z) ∙ self z

      whole : s.accesses ≡ (cut.front ++ x ∷ []) ++ z ∷ b
      whole = list ∙ sym (append_assoc cut.front (x ∷ []) (z ∷ b))

      apart : (has_access z.run.0 cut.front ≡ false) × (is_of z.run.0 x ≡ false)
      apart =
          let parts = or_parts (has_access z.run.0 cut.front) (is_of z.run.0 x || false) (sym (list_any-append (is_of z.run.0) cut.front (x ∷ [])) ∙ alone z (cut.front ++ x ∷ []) b (subst (Pairs AreOfTwoRuns) whole (pairs_from_all AreOfTwoRuns s.accesses disciplined.one_each))) in
          (parts.0, (or_parts (is_of z.run.0 x) false parts.1).0)

      from_next : from_run z.run.0 s.accesses ≡ z ∷ b
      from_next = ap (from_run z.run.0) list ∙ from_past z.run.0 cut.front x (z ∷ b) apart.0 apart.1 ∙ (λ i. if self z i then (z ∷ b) else from_run z.run.0 b)

      from_own : from_run q.0 s.accesses ≡ x ∷ z ∷ b
      from_own = ap (from_run q.0) list ∙ from_at q.0 cut.front x (z ∷ b) cut.none cut.own

      less : length (from_run z.run.0 s.accesses) < length (from_run q.0 s.accesses)
      less = let one = ap (λ (l : List Access). length l) from_next in let two = ap (λ (l : List Access). length l) from_own in omega (arith, one, two)

  pub waits_again_one : (next : Option RunNo) → next ≡ run_behind q.0 s.accesses → WaitsAgain q x next s
  unfolding again
  waits_again_one next is = subst (λ o. WaitsAgain q x o s) (sym named) (by_back (behind_it cut.back cut.list (ap some_acquired (sym (ap (from_run q.0) cut.list ∙ from_at q.0 cut.front x cut.back cut.none cut.own)) ∙ unused)))
    where
      o_ : Option RunNo
      o_ = option_map (λ (y : Access). y.run) (slice_get cut.back 0)

      named : next ≡ o_
      named = is ∙ ap (λ l. option_map (λ (y : Access). y.run) (slice_get l 0)) (ap (accesses_behind q.0) cut.list ∙ behind_at q.0 cut.front x cut.back cut.none cut.own)

      back_ : List Access
      back_ = map waits_again cut.back

      by_back : Behind cut.back o_ → WaitsAgain q x o_ s
      by_back k = record {
        unused = k.unused_;
        fewer = k.fewer_;
        new = ap (λ y. has_access y (removed q.0 (rescheduled o_ s)).accesses) (same x.run.0 q.0 cut.own) ∙ ap (has_access q.0) left ∙ list_any-append (is_of q.0) cut.front back_ ∙ (λ i. cut.none i || lacks_back cut.back cut.list i);
        room = omega (arith, one);
        before = λ r h. ap (status_of r.0) left ∙ k.before_ r h;
        same = λ i. record s {
          accesses = (ap (put_access_before o_ again) left ∙ k.put ∙ sym (ap (with_again_from q.0) cut.list ∙ again_from_at q.0 cut.front x cut.back cut.none cut.own ∙ (λ j. cut.front ++ (if released j then again else x) ∷ back_))) i;
          room = room_is i;
        };
      }
        where
          left : accesses_without q.0 (with_again o_ s.accesses) ≡ cut.front ++ back_
          left = ap (accesses_without q.0) k.after ∙ without_at q.0 cut.front x back_ cut.none (lacks_back cut.back cut.list) cut.own

          one : length (with_again o_ s.accesses) - length (accesses_without q.0 (with_again o_ s.accesses)) ≡ 1
          one =
              let whole = ap (λ (l : List Access). length l) k.after ∙ length-append cut.front (x ∷ back_) in
              let rest = ap (λ (l : List Access). length l) left ∙ length-append cut.front back_ in
              omega (arith, whole, rest)

          room_is : s.room + (length (with_again o_ s.accesses) - length (accesses_without q.0 (with_again o_ s.accesses))) - 1 ≡ s.room
          room_is = omega (arith, one)

-- What the table asks for, once those behind the place wait

-- the same runs have an access
has_from : (r q : ℕ) (xs : List Access) → has_access r (with_again_from q xs) ≡ has_access r xs
has_from r q [] = refl
has_from r q (x ∷ xs) = by_run (is_of q x) (has_from r q xs)
  where
    by_run : (b : Bool) → has_access r (with_again_from q xs) ≡ has_access r xs → has_access r (if b then (waits_again x ∷ map waits_again xs) else (x ∷ with_again_from q xs)) ≡ (is_of r x || has_access r xs)
    by_run true rest = λ i. ap (λ (o : RunNo). o.0 == r) (again_run x) i || has_again r xs i
    by_run false rest = λ i. is_of r x || rest i

has_with : (r : ℕ) (first : Option RunNo) (xs : List Access) → has_access r (with_again first xs) ≡ has_access r xs
has_with r None xs = refl
has_with r (Some q) xs = has_from r q.0 xs

-- the first of them waits
waits_from : (q : ℕ) (xs : List Access) → has_access q xs ≡ true → some_acquired (from_run q xs) ≡ false → status_of q (with_again_from q xs) ≡ Some Scheduled
waits_from q [] there unused = absurd (cc)
waits_from q (x ∷ xs) there unused = by_run (is_of q x) refl there unused (waits_from q xs)
  where
    by_run : (b : Bool) → is_of q x ≡ b → (b || has_access q xs) ≡ true → some_acquired (if b then (x ∷ xs) else from_run q xs) ≡ false → (has_access q xs ≡ true → some_acquired (from_run q xs) ≡ false → status_of q (with_again_from q xs) ≡ Some Scheduled)
        → status_of q (if b then (waits_again x ∷ map waits_again xs) else (x ∷ with_again_from q xs)) ≡ Some Scheduled
    by_run true e there unused rest =
        (λ i. option_map (λ (y : Access). y.status) (if (ap (λ (o : RunNo). o.0 == q) (again_run x) ∙ e) i then Some (waits_again x) else access_of q (map waits_again xs)))
        ∙ ap (λ t. Some t) (again_waits x (or_parts (is_acquired x.status) (some_acquired xs) unused).0)
    by_run false e there unused rest = (λ i. option_map (λ (y : Access). y.status) (if e i then Some x else access_of q (with_again_from q xs))) ∙ rest there unused

-- the run that is found has an access
found_has : (xs : List Access) (is : List Item) (q : RunNo) → first_with_access xs is ≡ Some q → has_access q.0 xs ≡ true
found_has xs [] q found = absurd (cc)
found_has xs (Ran r ∷ is) q found = by_access (has_access r.0 xs) refl found (found_has xs is q)
  where
    by_access : (b : Bool) → has_access r.0 xs ≡ b → (if b then Some r else first_with_access xs is) ≡ Some q → (first_with_access xs is ≡ Some q → has_access q.0 xs ≡ true) → has_access q.0 xs ≡ true
    by_access true e found rest = let same_run : r ≡ q = ap (λ o. unwrap_or o r) found in ap (λ (o : RunNo). has_access o.0 xs) (sym same_run) ∙ e
    by_access false e found rest = rest found
found_has xs (Failed d k ∷ is) q found = found_has xs is q found
found_has xs (Back d k ∷ is) q found = found_has xs is q found

-- the run may be scheduled in front of the first of them
pub record MayStand (r : ℕ) (first : Option RunNo) (s : LineageState) : Type 0 where
  pub none : has_access r (rescheduled first s).accesses ≡ false
  pub room : 0 < (rescheduled first s).room
  pub waits : ForSome first (λ q. status_of q.0 (rescheduled first s).accesses ≡ Some Scheduled)

pub may_stand : (r : ℕ) (back : List Item) (s : LineageState) → IsNewOn r back s → MayStand r (first_with_access s.accesses back) s
may_stand r back s new = record {
  none = has_with r (first_with_access s.accesses back) s.accesses ∙ new.none;
  room = new.room;
  waits = λ q at. ap (λ o. status_of q.0 (with_again o s.accesses)) at ∙ waits_from q.0 s.accesses (found_has s.accesses back q at) (sym (ap (λ o. some_acquired (accesses_from o s.accesses)) at) ∙ new.waits);
}
