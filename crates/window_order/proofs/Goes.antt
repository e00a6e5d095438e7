-- A run that waits for nothing may have the grip of its next command's device.
use Rattle.window_order.proofs.Prelude.{Aborted, Back, Bool, Committed, Cut, CutAt, End, Failed, Grip, Grips, Item, Lacks, List, None, Option, OrderEntry, OrderIsKept, PlacedAt, Ran, Reading, RunNo, Setting, Some, Usage, WalkHolds, WalkState, Write, [], after_usage, and_right, any_run, ap, arith, at_device, before, behind_wait, both_ways, commands_of, common_steps, cond, cons_option, cut, device_record, did, effective_write, entries, eq-eqb, eqb-true, false, find, fold, fold-append, has_effect, has_entries, has_pending, has_used_device, held_by, holds_device, holds_grip, if◌then◌else◌, inl, inr, is_abort, is_command_out, is_committed, is_committing, is_device, is_doomed, is_free, is_live, is_none, is_ran, is_seen_down, is_some, is_undone, last_in_effect, last_some, list_any, list_any-append, live_before, live_runs, ne_eqb, not, of_run, option_map, option_map_or, option_or, or_left, or_parts, or_right, pends, point, refl, rest, run_no, run_state, some_is, stage_is_open, stage_of, stands_in, subst, sym, take_while, take_while-cons, touches, true, untouched_behind, unwrap_or, usage, used_at, uses_device, walk_end, walk_start, window_of, write_of, ℕ, ◌&&◌, ◌++◌, ◌==◌, ◌||◌, ◌∙◌, ◌∷◌, ◌≡◌, ◌⊎◌}
use Rattle.window_order.proofs.Firsts.{below_home, none_seen}
use Rattle.window_order.proofs.ReadFacts.{IsRead, rest_drop, view_from}
use Rattle.window_order.proofs.StandingValues.{writer_on_line}

-- The part before a run

pub before_cut : (r : ℕ) (front back : List Item) → Lacks r front → before r (front ++ Ran (run_no r) ∷ back) ≡ front
unfolding Lacks
before_cut r [] back lacks = take_while-cons (λ i. not (is_ran r i)) (Ran (run_no r)) back ∙ ap (λ b. cond (not b) (Ran (run_no r) ∷ take_while (λ i. not (is_ran r i)) back) []) (eq-eqb r r refl)
before_cut r (Ran q ∷ front) back lacks =
    take_while-cons (λ i. not (is_ran r i)) (Ran q) (front ++ Ran (run_no r) ∷ back)
    ∙ (λ i. cond (not (ne_eqb q.0 r lacks.0 i)) (Ran q ∷ before_cut r front back lacks.1 i) [])
before_cut r (Failed e k ∷ front) back lacks = take_while-cons (λ i. not (is_ran r i)) (Failed e k) (front ++ Ran (run_no r) ∷ back) ∙ ap (λ xs. Failed e k ∷ xs) (before_cut r front back lacks)
before_cut r (Back e k ∷ front) back lacks = take_while-cons (λ i. not (is_ran r i)) (Back e k) (front ++ Ran (run_no r) ∷ back) ∙ ap (λ xs. Back e k ∷ xs) (before_cut r front back lacks)

-- what stands in the front of a line stands in it
in_front : (p : Item → Bool) (front back : List Item) (x : Item) → list_any p front ≡ true → list_any p (front ++ x ∷ back) ≡ true
in_front p front back x h = list_any-append p front (x ∷ back) ∙ ap (λ b. b || list_any p (x ∷ back)) h

-- the runs of a part of the line
abbrev pub StandIn : Reading → List Item → Type 0
StandIn n part = (x : ℕ) → list_any (is_ran x) part ≡ true → stands_in (n.run x) ≡ true

pub front_stands : (w : Setting) (n : Reading) (r : ℕ) (cut : CutAt r n.line) → IsRead w n → StandIn n cut.front
front_stands w n r cut read x h = sym (read.standing.line x) ∙ ap (list_any (is_ran x)) cut.at ∙ in_front (is_ran x) cut.front cut.back (Ran (run_no r)) h

-- a run that stands in the line is live or committed
pub stands_committed : (n : Reading) (x : ℕ) → stands_in (n.run x) ≡ true → is_live n x ≡ false → is_committed n x ≡ true
stands_committed n x stands dead = at_ (n.run x).placed (n.run x).ended stands dead
  where
    at_ : (p : Option PlacedAt) (e : Option End) → (is_some p && not (unwrap_or (option_map is_abort e) false)) ≡ true → (is_some p && is_none e) ≡ false → unwrap_or (option_map is_committing e) false ≡ true
    at_ None e h k = absurd (cc)
    at_ (Some p) None h k = absurd (cc)
    at_ (Some p) (Some Committed) h k = refl
    at_ (Some p) (Some (Aborted c)) h k = absurd (cc)

tail_stands : (n : Reading) (i : Item) (is : List Item) → StandIn n (i ∷ is) → StandIn n is
tail_stands n i is stands x h = stands x (or_right (is_ran x i) (list_any (is_ran x) is) h)

head_stands : (n : Reading) (q : RunNo) (is : List Item) → StandIn n (Ran q ∷ is) → stands_in (n.run q.0) ≡ true
head_stands n q is stands = stands q.0 (or_left (q.0 == q.0) (list_any (is_ran q.0) is) (eq-eqb q.0 q.0 refl))

-- what no live run of the part passes
none_found : (p : ℕ → Bool) (x : ℕ) (xs : List ℕ) → find p (x ∷ xs) ≡ None → (p x ≡ false) × (find p xs ≡ None)
none_found p x xs none = at_ (p x) refl none
  where
    at_ : (b : Bool) → p x ≡ b → cond b (Some x) (find p xs) ≡ None → (p x ≡ false) × (find p xs ≡ None)
    at_ true e h = absurd (cc)
    at_ false e h = (e, h)

pub found_live : (n : Reading) (p : ℕ → Bool) (part : List Item) → find p (live_runs n part) ≡ None → (x : ℕ) → list_any (is_ran x) part ≡ true → is_live n x ≡ true → p x ≡ false
found_live n p [] none x stands live = absurd (cc)
found_live n p (Ran q ∷ is) none x stands live = at_ (λ h. found_live n p is h x) (is_live n q.0) refl none (q.0 == x) refl
  where
    tail : (a b : Bool) → a ≡ false → (a || b) ≡ true → b ≡ true
    tail a b h k = grind (arith, common_steps)

    at_ : (find p (live_runs n is) ≡ None → list_any (is_ran x) is ≡ true → is_live n x ≡ true → p x ≡ false) → (b : Bool) → is_live n q.0 ≡ b → find p (cons_option (if b then Some q.0 else None) (live_runs n is)) ≡ None → (c : Bool) → (q.0 == x) ≡ c → p x ≡ false
    at_ ih true e h true here = sym (ap p (eqb-true q.0 x here)) ∙ (none_found p q.0 (live_runs n is) h).0
    at_ ih false e h true here = absurd (both_ways (is_live n x) (sym (ap (is_live n) (eqb-true q.0 x here)) ∙ e) live)
    at_ ih true e h false here = ih (none_found p q.0 (live_runs n is) h).1 (tail (q.0 == x) (list_any (is_ran x) is) here stands) live
    at_ ih false e h false here = ih h (tail (q.0 == x) (list_any (is_ran x) is) here stands) live
found_live n p (Failed d k ∷ is) none x stands live = found_live n p is none x stands live
found_live n p (Back d k ∷ is) none x stands live = found_live n p is none x stands live

-- No run before it has a command left

-- a run that does not hold the device has none left there
none_left_there : (w : Setting) (n : Reading) (g : Grips) (held : ℕ → ℕ) (d x : ℕ) → stands_in (n.run x) ≡ true → (is_live n x ≡ true → holds_device (point w n g) x d ≡ false) → at_device w.kinds (window_of (point w n g) held).states d has_pending x ≡ false
none_left_there w n g held d x stands none = at_ (is_live n x) refl
  where
    left : uses_device d (rest (run_state (point w n g) x)) ≡ pends w n x d
    left = ap (uses_device d) (rest_drop (commands_of w.runs x) (n.run x).answers)

    closed : (u y z : Bool) → (u && stage_is_open (stage_of true y z)) ≡ false
    closed u y z = grind (arith, common_steps)

    off : (u c x y p e : Bool) → y ≡ p → (true && (if x then e else p)) ≡ false → (u && stage_is_open (stage_of c x y)) ≡ false
    off u c x y p e h k = grind (arith, common_steps)

    live_off : (l x p e : Bool) → l ≡ true → (l && (if x then e else p)) ≡ false → (true && (if x then e else p)) ≡ false
    live_off l x p e h k = grind (arith, common_steps)

    at_ : (b : Bool) → is_live n x ≡ b → at_device w.kinds (window_of (point w n g) held).states d has_pending x ≡ false
    at_ true live =
        off (uses_device d (commands_of w.runs x)) (is_committed n x) (is_doomed n x) (uses_device d (rest (run_state (point w n g) x))) (pends w n x d)
        (touches w.runs x d && has_effect n g x d) left
        (live_off (is_live n x) (is_doomed n x) (pends w n x d) (touches w.runs x d && has_effect n g x d) live (none live))
    at_ false dead =
        ap (λ c. uses_device d (commands_of w.runs x) && stage_is_open (stage_of c (is_doomed n x) (uses_device d (rest (run_state (point w n g) x)))))
        (stands_committed n x stands dead) ∙ closed (uses_device d (commands_of w.runs x)) (is_doomed n x) (uses_device d (rest (run_state (point w n g) x)))

none_pending : (w : Setting) (n : Reading) (g : Grips) (held : ℕ → ℕ) (d : ℕ) (part : List Item) → StandIn n part
    → ((x : ℕ) → list_any (is_ran x) part ≡ true → is_live n x ≡ true → holds_device (point w n g) x d ≡ false)
    → any_run (at_device w.kinds (window_of (point w n g) held).states d has_pending) part ≡ false
unfolding any_run
none_pending w n g held d [] stands none = refl
none_pending w n g held d (Ran q ∷ is) stands none =
    λ i. none_left_there w n g held d q.0 (head_stands n q is stands) (none q.0 (or_left (q.0 == q.0) (list_any (is_ran q.0) is) (eq-eqb q.0 q.0 refl))) i
    || none_pending w n g held d is (tail_stands n (Ran q) is stands) (λ x h. none x (or_right (is_ran x (Ran q)) (list_any (is_ran x) is) h)) i
none_pending w n g held d (Failed e k ∷ is) stands none = none_pending w n g held d is stands none
none_pending w n g held d (Back e k ∷ is) stands none = none_pending w n g held d is stands none

pub none_before : (w : Setting) (n : Reading) (g : Grips) (held : ℕ → ℕ) (r d : ℕ) (cut : CutAt r n.line) → IsRead w n → behind_wait (point w n g) r d ≡ None → any_run (at_device w.kinds (window_of (point w n g) held).states d has_pending) cut.front ≡ false
none_before w n g held r d cut read none =
    none_pending w n g held d cut.front (front_stands w n r cut read) (found_live n (λ x. holds_device (point w n g) x d) cut.front
    (sym (ap (λ l. find (λ x. holds_device (point w n g) x d) (live_runs n l)) (ap (before r) cut.at ∙ before_cut r cut.front cut.back cut.before)) ∙ none))

-- No grip of the device is out

pub none_hold : (w : Setting) (n : Reading) (g : Grips) (held : ℕ → ℕ) (d : ℕ) (line : List Item) → g d ≡ None → any_run (at_device w.kinds (window_of (point w n g) held).states d holds_grip) line ≡ false
unfolding any_run
none_hold w n g held d [] home = refl
none_hold w n g held d (Ran q ∷ is) home = λ i. free i || none_hold w n g held d is home i
  where
    free : at_device w.kinds (window_of (point w n g) held).states d holds_grip q.0 ≡ false
    free = ap (λ (o : Option Grip). uses_device d (commands_of w.runs q.0) && not (is_free (held_by w q.0 o))) home ∙ and_right (uses_device d (commands_of w.runs q.0)) false refl
none_hold w n g held d (Failed e k ∷ is) home = none_hold w n g held d is home
none_hold w n g held d (Back e k ∷ is) home = none_hold w n g held d is home

-- It reads no live write

-- behind an open run no run has an answer
pub open_behind : (w : Setting) (n : Reading) (g : Grips) (held : ℕ → ℕ) (d r : ℕ) (cut : CutAt r n.line) → IsRead w n → OrderIsKept (point w n g) held → is_device w d ≡ true → touches w.runs r d ≡ true → stage_is_open (usage w.kinds (run_state (point w n g) r) d).stage ≡ true
    → list_any (of_run (λ q. did n q d)) cut.back ≡ false
open_behind w n g held d r at read kept device used pending =
    none_seen w n g held d at.back read (sym (has_entries w.kinds (window_of (point w n g) held).states d has_used_device at.back) ∙ untouched_behind (after_usage (walk_end z a) u) b (opened (walk_end z a) u pending) parts.rest)
  where
    z : WalkState
    z = walk_start (device_record w.kinds (window_of (point w n g) held) d).first_up (device_record w.kinds (window_of (point w n g) held) d).first

    u : Usage
    u = usage w.kinds (run_state (point w n g) r) d

    a : List OrderEntry
    a = entries w.kinds (window_of (point w n g) held).states d at.front

    b : List OrderEntry
    b = entries w.kinds (window_of (point w n g) held).states d at.back

    parts : Cut z a u b
    parts = cut z a u b (subst (λ l. WalkHolds z l) (ap (entries w.kinds (window_of (point w n g) held).states d) at.at ∙ used_at w.kinds (window_of (point w n g) held).states d r at.front at.back used) (kept.window.devices d (below_home w d device)).walk)

    opened : (s : WalkState) (c : Usage) → stage_is_open c.stage ≡ true → ((after_usage s c).opened || is_command_out (after_usage s c).out) ≡ true
    opened s c h = grind (arith, common_steps)

no_write : (w : Setting) (n : Reading) (d q : ℕ) → IsRead w n → did n q d ≡ false → ((n.run q).on d).wrote ≡ None
no_write w n d q read none = at_ ((n.run q).on d).wrote refl
  where
    at_ : (o : Option ℕ) → ((n.run q).on d).wrote ≡ o → ((n.run q).on d).wrote ≡ None
    at_ None e = e
    at_ (Some v) e = absurd (both_ways (did n q d) none ((read.shaped q).wrote d (ap is_some e)))

unwritten : (n : Reading) (g : Grips) (d q : ℕ) → ((n.run q).on d).wrote ≡ None → write_of n g d (Ran (run_no q)) ≡ None
unwritten n g d q none = ap (λ o. if is_undone n g q d then None else option_map (λ v. record { run = q; value = v }) o) none ∙ at_ (is_undone n g q d)
  where
    at_ : (b : Bool) → (if b then None else option_map {T = ℕ} {U = Write} (λ v. record { run = q; value = v }) None) ≡ None
    at_ true = refl
    at_ false = refl

-- what is not written behind does not change the effective write
none_written : (w : Setting) (n : Reading) (g : Grips) (d : ℕ) (is : List Item) (best : Option Write) → IsRead w n → list_any (of_run (λ q. did n q d)) is ≡ false → fold (λ b x. option_or (write_of n g d x) b) best is ≡ best
none_written w n g d [] best read none = refl
none_written w n g d (Ran q ∷ is) best read none = let parts = or_parts (did n q.0 d) (list_any (of_run (λ x. did n x d)) is) none in
    ap (λ o. fold (λ b x. option_or (write_of n g d x) b) (option_or o best) is) (unwritten n g d q.0 (no_write w n d q.0 read parts.0)) ∙ none_written w n g d is best read parts.1
none_written w n g d (Failed e k ∷ is) best read none = none_written w n g d is best read none
none_written w n g d (Back e k ∷ is) best read none = none_written w n g d is best read none

-- a run with a write stands in the line
writer_stands : (n : Reading) (g : Grips) (d : ℕ) (is : List Item) (best : Option Write) (e : Write) → fold (λ b x. option_or (write_of n g d x) b) best is ≡ Some e → (best ≡ Some e) ⊎ (list_any (is_ran e.run) is ≡ true)
writer_stands n g d [] best e at = inl at
writer_stands n g d (Ran q ∷ is) best e at = after (writer_stands n g d is (option_or (write_of n g d (Ran q)) best) e at)
  where
    self : (x y : ℕ) (b : Bool) → x ≡ y → ((x == y) || b) ≡ true
    self x y b h = grind (arith, common_steps)

    made : (b : Bool) (v : Option ℕ) → option_or (if b then None else option_map (λ k. record { run = q.0; value = k }) v) best ≡ Some e → (best ≡ Some e) ⊎ (q.0 ≡ e.run)
    made true v h = inl h
    made false None h = inl h
    made false (Some k) h = inr (ap (λ (x : Write). x.run) (some_is (record { run = q.0; value = k }) e h))

    after : (option_or (write_of n g d (Ran q)) best ≡ Some e) ⊎ (list_any (is_ran e.run) is ≡ true) → (best ≡ Some e) ⊎ (list_any (is_ran e.run) (Ran q ∷ is) ≡ true)
    after (inr h) = inr (or_right (q.0 == e.run) (list_any (is_ran e.run) is) h)
    after (inl h) = elim (made (is_undone n g q.0 d) ((n.run q.0).on d).wrote h) [ inl x ↦ inl x | inr x ↦ inr (self q.0 e.run (list_any (is_ran e.run) is) x) ]
writer_stands n g d (Failed x k ∷ is) best e at = writer_stands n g d is best e at
writer_stands n g d (Back x k ∷ is) best e at = writer_stands n g d is best e at

-- where nothing is written from the run on, and no live run before it has the effective write, the effective write before it is a committed run's
pub clean_before : (w : Setting) (n : Reading) (g : Grips) (held : ℕ → ℕ) (r d : ℕ) (cut : CutAt r n.line) → IsRead w n → list_any (of_run (λ q. did n q d)) cut.back ≡ false → ((n.run r).on d).wrote ≡ None → find (λ x. has_effect n g x d) (live_before n r) ≡ None
    → option_map_or (λ q. ((window_of (point w n g) held).states q).committed) (last_in_effect w.kinds (window_of (point w n g) held).states d None cut.front) true ≡ true
clean_before w n g held r d cut read unseen own none =
    ap (λ o. option_map_or (λ q. is_committed n q) o true) (writer_on_line w n g d cut.front read) ∙ at_ (last_some (write_of n g d) cut.front) refl
  where
    whole : effective_write n g d ≡ last_some (write_of n g d) cut.front
    whole =
        ap (last_some (write_of n g d)) cut.at ∙ fold-append (λ b x. option_or (write_of n g d x) b) None cut.front (Ran (run_no r) ∷ cut.back)
        ∙ ap (λ o. fold (λ b x. option_or (write_of n g d x) b) (option_or o (last_some (write_of n g d) cut.front)) cut.back) (unwritten n g d r own) ∙ none_written w n g d cut.back (last_some (write_of n g d) cut.front) read unseen

    none_there : find (λ x. has_effect n g x d) (live_runs n cut.front) ≡ None
    none_there = sym (ap (λ l. find (λ x. has_effect n g x d) (live_runs n l)) (ap (before r) cut.at ∙ before_cut r cut.front cut.back cut.before)) ∙ none

    settled : (e : Write) → last_some (write_of n g d) cut.front ≡ Some e → list_any (is_ran e.run) cut.front ≡ true → (b : Bool) → is_live n e.run ≡ b → is_committed n e.run ≡ true
    settled e at stands true live = absurd (both_ways (has_effect n g e.run d) (found_live n (λ x. has_effect n g x d) cut.front none_there e.run stands live) (ap (λ o. unwrap_or (option_map (λ x. x == e.run) (option_map (λ (y : Write). y.run) o)) false) (whole ∙ at) ∙ eq-eqb e.run e.run refl))
    settled e at stands false dead = stands_committed n e.run (front_stands w n r cut read e.run stands) dead

    stands : (e : Write) → (None ≡ Some e) ⊎ (list_any (is_ran e.run) cut.front ≡ true) → list_any (is_ran e.run) cut.front ≡ true
    stands e (inl h) = absurd (cc)
    stands e (inr h) = h

    at_ : (o : Option Write) → last_some (write_of n g d) cut.front ≡ o → option_map_or (λ q. is_committed n q) (option_map (λ e. e.run) o) true ≡ true
    at_ None e = refl
    at_ (Some x) e = settled x e (stands x (writer_stands n g d cut.front None x e)) (is_live n x.run) refl

-- How it sees the device

pub view_up : (v : Option Bool) → unwrap_or (option_map not v) false ≡ false → is_seen_down (option_map view_from v) ≡ false
view_up None h = refl
view_up (Some true) h = refl
view_up (Some false) h = absurd (cc)
