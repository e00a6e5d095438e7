-- The accesses of a run that is placed, command after command.
use Rattle.window_order.proofs.Prelude.{Access, Back, Bool, Command, Failed, ForSome, IsNewOn, Item, LineageState, List, None, Option, Ran, RunNo, Scheduled, Some, [], accesses_at, among_more, ap, arith, common_steps, device_no, differ, drop, drop_all, drop_more, eqb-true, false, first_with_access, get_or, get_or-set_other, get_or-set_same, has_access, if◌then◌else◌, is_among, is_on, is_some, length, length-set, lineage_at, list_any, list_any-append, nat_lt, no_lineage, option_or, option_to_list, or_left, refl, rescheduled, run_no, scheduled, slice_get, status_of, subst, sym, take, take-append-drop, true, with_lineage, ℕ, ◌+◌, ◌<◌, ◌==◌, ◌||◌, ◌∙◌, ◌∷◌, ◌≡◌, ◌≤◌}
use Rattle.history_book.specs.declared.planned_uses.PlannedUse.{PlannedUse}
use Rattle.home_types.proofs.Cited.{contains_insert}
use Rattle.home_types.specs.DeviceSets.{Devices}
use Rattle.std.proofs.Math.Bool.{or-false, or-true}
use Rattle.std.proofs.lemmas.Option.{same_Some, slice_get-get_or, slice_get_within}
use Rattle.std.specs.FinSet as set
use Rattle.std.specs.Ordering.{nat_cmp}
use Rattle.window_order.proofs.AgainAccesses.{MayStand, may_stand}
use Rattle.window_order.proofs.NotedAnswers.{lineage_set}
use Rattle.window_order.proofs.TableSteps.{with_both}
use Rattle.window_order.specs.OrderStates.{scheduled_so}

-- after so many commands their devices are done, and the run has its access there
pub record IsScheduledTo (k : ℕ) (commands : List Command) (given : List (Option PlannedUse)) (r : ℕ) (back : List Item) (done : Devices) (old new : List LineageState) : Type 0 where
  pub devices : length new ≡ length old
  pub done_are : (d : ℕ) → set.contains done d ≡ is_among d k commands
  pub each : (d : ℕ) → lineage_at new d ≡ (if is_among d k commands then scheduled_so r back (get_or given d None) (lineage_at old d) else lineage_at old d)

-- before the first command none is done
pub schedules_start : (commands : List Command) (given : List (Option PlannedUse)) (r : ℕ) (back : List Item) (done : Devices) (old : List LineageState) → done ≡ set.empty → IsScheduledTo 0 commands given r back done old old
schedules_start commands given r back done old empty = record { devices = refl; done_are = λ d. ap (λ (s : Devices). set.contains s d) empty ∙ set.contains-empty nat_cmp d; each = λ d. refl }

-- a command is one on its device
pub on_command : (k : ℕ) (commands : List Command) (e : Command) → k < length commands → list_any (is_on (get_or commands k e).device.0) commands ≡ true
on_command k commands e within =
    sym (ap (list_any (is_on d)) (take-append-drop (k + 1) commands)) ∙ list_any-append (is_on d) (take (k + 1) commands) (drop (k + 1) commands)
    ∙ or_left (is_among d (k + 1) commands) (list_any (is_on d) (drop (k + 1) commands)) (among_more d k commands e within ∙ self (is_among d k commands) d)
  where
    d : ℕ
    d = (get_or commands k e).device.0

    self : (x : Bool) (y : ℕ) → (x || (y == y)) ≡ true
    self x y = grind (arith, common_steps)

-- where the device of a command has had one before, it is as after one more
among_again : (k : ℕ) (commands : List Command) (e : Command) → k < length commands → is_among (get_or commands k e).device.0 k commands ≡ true → (d : ℕ) → is_among d (k + 1) commands ≡ is_among d k commands
among_again k commands e within again d = among_more d k commands e within ∙ by_device (c.device.0 == d) refl
  where
    c : Command
    c = get_or commands k e

    by_device : (b : Bool) → (c.device.0 == d) ≡ b → (is_among d k commands || b) ≡ is_among d k commands
    by_device true h = or-true (is_among d k commands) ∙ sym (ap (λ x. is_among x k commands) (sym (eqb-true c.device.0 d h)) ∙ again)
    by_device false h = or-false (is_among d k commands)

-- the device of a command is done with it
done_next : (k : ℕ) (commands : List Command) (e : Command) (done : Devices) → k < length commands → ((d : ℕ) → set.contains done d ≡ is_among d k commands) → (d : ℕ)
    → set.contains (set.insert done (get_or commands k e).device.0) d ≡ is_among d (k + 1) commands
done_next k commands e done within same d =
    contains_insert done c.device.0 d ∙ ap (λ b. (d == c.device.0) || b) (same d) ∙ turned (d == c.device.0) (is_among d k commands) ∙ ap (λ b. is_among d k commands || b) (both_ways d c.device.0) ∙ sym (among_more d k commands e within)
  where
    c : Command
    c = get_or commands k e

    turned : (x y : Bool) → (x || y) ≡ (y || x)
    turned true y = sym (or-true y)
    turned false y = sym (or-false y)

    both_ways : (x y : ℕ) → (x == y) ≡ (y == x)
    both_ways x y = grind (arith, common_steps)

-- its lineage is as it was
pub unused_same : (k d : ℕ) (commands : List Command) (given : List (Option PlannedUse)) (r : ℕ) (back : List Item) (done : Devices)
    (old new : List LineageState) → IsScheduledTo k commands given r back done old new → is_among d k commands ≡ false → lineage_at new d ≡ lineage_at old d
unused_same k d commands given r back done old new so none = so.each d ∙ (λ i. if none i then scheduled_so r back (get_or given d None) (lineage_at old d) else lineage_at old d)

-- once those behind its place wait the run may be scheduled on the device of the next command
pub record MaySchedule (r d : ℕ) (first : Option RunNo) (table : List LineageState) : Type 0 where
  pub none : has_access r (accesses_at table d) ≡ false
  pub waits : ForSome first (λ q. status_of q.0 (accesses_at table d) ≡ Some Scheduled)

pub may_schedule : (k : ℕ) (commands : List Command) (given : List (Option PlannedUse)) (r : ℕ) (back : List Item) (done : Devices) (old new after : List LineageState) (e : Command) (first : Option RunNo)
    → IsScheduledTo k commands given r back done old new → ((x : Command) → (get_or commands k x).device.0 < length old) → is_among (get_or commands k e).device.0 k commands ≡ false
    → IsNewOn r back (lineage_at old (get_or commands k e).device.0) → first ≡ first_with_access (accesses_at new (get_or commands k e).device.0) back → after ≡ with_lineage new (get_or commands k e).device.0 (rescheduled first) → MaySchedule r (get_or commands k e).device.0 first after
may_schedule k commands given r back done old new after e first so homed off is_new named waiting = record {
  none = ap (λ (s : LineageState). has_access r s.accesses) here ∙ stands.none;
  waits = subst (λ (s : LineageState). ForSome first (λ q. status_of q.0 s.accesses ≡ Some Scheduled)) (sym here) stands.waits;
}
  where
    d : ℕ
    d = (get_or commands k e).device.0

    there : d < length old
    there = homed e

    now : lineage_at new d ≡ lineage_at old d
    now = unused_same k d commands given r back done old new so off

    here : lineage_at after d ≡ rescheduled first (lineage_at new d)
    here = ap (λ (t : List LineageState). lineage_at t d) waiting ∙ lineage_set new d (rescheduled first) (omega (arith, there, so.devices))

    stands : MayStand r first (lineage_at new d)
    stands = subst (λ o. MayStand r o (lineage_at new d)) (sym named) (may_stand r back (lineage_at new d) (subst (IsNewOn r back) (sym now) is_new))

-- the run has its access on the device of the next command
pub schedules : (k : ℕ) (commands : List Command) (given : List (Option PlannedUse)) (r : ℕ) (back : List Item) (done : Devices) (old new : List LineageState) (e : Command) (used : PlannedUse)
    → IsScheduledTo k commands given r back done old new → k < length commands → ((x : Command) → (get_or commands k x).device.0 < length old) → is_among (get_or commands k e).device.0 k commands ≡ false → get_or given (get_or commands k e).device.0 None ≡ Some used
    → IsScheduledTo (k + 1) commands given r back (set.insert done (get_or commands k e).device.0) old
    (with_lineage (with_lineage new (get_or commands k e).device.0 (rescheduled (first_with_access (lineage_at new (get_or commands k e).device.0).accesses back))) (get_or commands k e).device.0
    (scheduled (first_with_access (lineage_at new (get_or commands k e).device.0).accesses back) (record { run = run_no r; status = Scheduled; view = None; wrote = None; from = used.from; to = used.to })))
schedules k commands given r back done old new e used so within homed off has = subst (IsScheduledTo (k + 1) commands given r back (set.insert done c.device.0) old) (sym (with_both new c.device.0 (rescheduled first) (scheduled first access) (omega (arith, there, so.devices)))) (record {
  devices = length-set new c.device.0 (change (lineage_at new c.device.0)) ∙ so.devices;
  done_are = done_next k commands e done within so.done_are;
  each = λ d. each_at d (c.device.0 == d) refl;
})
  where
    c : Command
    c = get_or commands k e

    there : c.device.0 < length old
    there = homed e

    access : Access
    access = record { run = run_no r; status = Scheduled; view = None; wrote = None; from = used.from; to = used.to }

    first : Option RunNo
    first = first_with_access (lineage_at new c.device.0).accesses back

    change : LineageState → LineageState
    change s = scheduled first access (rescheduled first s)

    among : (d : ℕ) (b : Bool) → (c.device.0 == d) ≡ b → is_among d (k + 1) commands ≡ (is_among d k commands || b)
    among d b h = among_more d k commands e within ∙ ap (λ x. is_among d k commands || x) h

    first_is : lineage_at new c.device.0 ≡ lineage_at old c.device.0
    first_is = unused_same k c.device.0 commands given r back done old new so off

    each_at : (d : ℕ) (b : Bool) → (c.device.0 == d) ≡ b → lineage_at (with_lineage new c.device.0 change) d ≡ (if is_among d (k + 1) commands then scheduled_so r back (get_or given d None) (lineage_at old d) else lineage_at old d)
    each_at d true h =
        ap (lineage_at (with_lineage new c.device.0 change)) (sym (eqb-true c.device.0 d h))
        ∙ get_or-set_same new c.device.0 (change (lineage_at new c.device.0)) no_lineage (omega (arith, there, so.devices))
        ∙ ap (scheduled_so r back (Some used)) first_is
        ∙ ap (λ o. scheduled_so r back o (lineage_at old c.device.0)) (sym has)
        ∙ ap (λ x. scheduled_so r back (get_or given x None) (lineage_at old x)) (eqb-true c.device.0 d h)
        ∙ (λ i. if sym (among d true h ∙ or-true (is_among d k commands)) i then scheduled_so r back (get_or given d None) (lineage_at old d) else lineage_at old d)
    each_at d false h =
        get_or-set_other new c.device.0 d (change (lineage_at new c.device.0)) no_lineage (differ c.device.0 d h)
        ∙ so.each d
        ∙ (λ i. if sym (among d false h ∙ or-false (is_among d k commands)) i then scheduled_so r back (get_or given d None) (lineage_at old d) else lineage_at old d)

-- .. or no use of it is planned
pub schedules_none : (k : ℕ) (commands : List Command) (given : List (Option PlannedUse)) (r : ℕ) (back : List Item) (done : Devices) (old new : List LineageState) (e : Command)
    → IsScheduledTo k commands given r back done old new → k < length commands → is_among (get_or commands k e).device.0 k commands ≡ false → get_or given (get_or commands k e).device.0 None ≡ None → IsScheduledTo (k + 1) commands given r back (set.insert done (get_or commands k e).device.0) old new
schedules_none k commands given r back done old new e so within off none = record {
  devices = so.devices;
  done_are = done_next k commands e done within so.done_are;
  each = λ d. each_at d (c.device.0 == d) refl;
}
  where
    c : Command
    c = get_or commands k e

    among : (d : ℕ) (b : Bool) → (c.device.0 == d) ≡ b → is_among d (k + 1) commands ≡ (is_among d k commands || b)
    among d b h = among_more d k commands e within ∙ ap (λ x. is_among d k commands || x) h

    as_given : (d : ℕ) → (c.device.0 == d) ≡ true → lineage_at old d ≡ scheduled_so r back (get_or given d None) (lineage_at old d)
    as_given d h = ap (λ o. scheduled_so r back o (lineage_at old d)) (sym (ap (λ x. get_or given x None) (sym (eqb-true c.device.0 d h)) ∙ none))

    each_at : (d : ℕ) (b : Bool) → (c.device.0 == d) ≡ b → lineage_at new d ≡ (if is_among d (k + 1) commands then scheduled_so r back (get_or given d None) (lineage_at old d) else lineage_at old d)
    each_at d true h =
        ap (lineage_at new) (sym (eqb-true c.device.0 d h)) ∙ unused_same k c.device.0 commands given r back done old new so off ∙ ap (lineage_at old) (eqb-true c.device.0 d h) ∙ as_given d h
        ∙ (λ i. if sym (among d true h ∙ or-true (is_among d k commands)) i then scheduled_so r back (get_or given d None) (lineage_at old d) else lineage_at old d)
    each_at d false h = so.each d ∙ (λ i. if sym (among d false h ∙ or-false (is_among d k commands)) i then scheduled_so r back (get_or given d None) (lineage_at old d) else lineage_at old d)

-- .. or it is done already
pub schedules_again : (k : ℕ) (commands : List Command) (given : List (Option PlannedUse)) (r : ℕ) (back : List Item) (done : Devices) (old new : List LineageState) (e : Command)
    → IsScheduledTo k commands given r back done old new → k < length commands → is_among (get_or commands k e).device.0 k commands ≡ true → IsScheduledTo (k + 1) commands given r back done old new
schedules_again k commands given r back done old new e so within again = record {
  devices = so.devices;
  done_are = λ d. so.done_are d ∙ sym (among_again k commands e within again d);
  each = λ d. so.each d ∙ (λ i. if sym (among_again k commands e within again d) i then scheduled_so r back (get_or given d None) (lineage_at old d) else lineage_at old d);
}

-- past the end there is no item
beyond : (items : List Item) (k : ℕ) → slice_get items k ≡ None → length items ≤ k
beyond items k h = by_order (nat_lt k (length items)) refl
  where
    inside : k < length items → length items ≤ k
    inside lt = absurd (let clash : ◌≡◌ {A = Option Item} None (Some (get_or items k (Failed (device_no 0) 0))) = sym h ∙ slice_get-get_or items k (Failed (device_no 0) 0) lt in cc)

    by_order : (b : Bool) → nat_lt k (length items) ≡ b → length items ≤ k
    by_order true e = inside (grind (arith, common_steps))
    by_order false e = grind (arith, common_steps)

-- the item of the place, and those behind it
first_next : (accesses : List Access) (items : List Item) (k : ℕ) → first_with_access accesses (drop k items) ≡ option_or (first_with_access accesses (option_to_list (slice_get items k))) (first_with_access accesses (drop (k + 1) items))
first_next accesses items k = by_item (slice_get items k) refl
  where
    one : (x : Item) (is : List Item) → first_with_access accesses (x ∷ is) ≡ option_or (first_with_access accesses (x ∷ [])) (first_with_access accesses is)
    one (Ran r) is = by_access (has_access r.0 accesses)
      where
        by_access : (b : Bool) → (if b then Some r else first_with_access accesses is) ≡ option_or (if b then Some r else None) (first_with_access accesses is)
        by_access true = refl
        by_access false = refl
    one (Failed d n) is = refl
    one (Back d n) is = refl

    by_item : (o : Option Item) → slice_get items k ≡ o → first_with_access accesses (drop k items) ≡ option_or (first_with_access accesses (option_to_list o)) (first_with_access accesses (drop (k + 1) items))
    by_item None h = ap (first_with_access accesses) (drop_all k items (beyond items k h) ∙ sym (drop_all (k + 1) items (let over = beyond items k h in omega (arith, over))))
    by_item (Some x) h =
        let within : k < length items = slice_get_within items k x h in
        let here : get_or items k x ≡ x = same_Some (get_or items k x) x (sym (slice_get-get_or items k x within) ∙ h) in
        ap (first_with_access accesses) (drop_more items k x within ∙ ap (λ y. y ∷ drop (k + 1) items) here) ∙ one x (drop (k + 1) items)

-- the run that was found there is the first, and where none was the search goes on
pub found_first : (accesses : List Access) (items : List Item) (k : ℕ) (found : Option RunNo) → found ≡ first_with_access accesses (option_to_list (slice_get items k)) → is_some found ≡ true → found ≡ first_with_access accesses (drop k items)
found_first accesses items k found is some = by_found found is some ∙ sym (first_next accesses items k)
  where
    by_found : (o : Option RunNo) → o ≡ first_with_access accesses (option_to_list (slice_get items k)) → is_some o ≡ true → o ≡ option_or (first_with_access accesses (option_to_list (slice_get items k))) (first_with_access accesses (drop (k + 1) items))
    by_found None h e = absurd (cc)
    by_found (Some x) h e = ap (λ o. option_or o (first_with_access accesses (drop (k + 1) items))) h

pub found_none : (accesses : List Access) (items : List Item) (k : ℕ) (found : Option RunNo) → found ≡ first_with_access accesses (option_to_list (slice_get items k)) → is_some found ≡ false → first_with_access accesses (drop (k + 1) items) ≡ first_with_access accesses (drop k items)
found_none accesses items k found is none = by_found found is none ∙ sym (first_next accesses items k)
  where
    by_found : (o : Option RunNo) → o ≡ first_with_access accesses (option_to_list (slice_get items k)) → is_some o ≡ false → first_with_access accesses
        (drop (k + 1) items) ≡ option_or (first_with_access accesses (option_to_list (slice_get items k))) (first_with_access accesses (drop (k + 1) items))
    by_found None h e = ap (λ o. option_or o (first_with_access accesses (drop (k + 1) items))) h
    by_found (Some x) h e = absurd (cc)
