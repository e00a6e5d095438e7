-- The items of a line with what each has touched, step by step.
use Rattle.window_order.proofs.Prelude.{Aborted, Answer, Arrived, Back, Bool, Cause, Command, Commands, Committed, Did, Doomed, End, Ended, Failed, Grip, Grips, GripsFit, Item, List, Mark, MarksAreKept, None, OfRun, OnDevice, Option, Placed, PlacedAt, Planned, Ran, Reading, Setting, Some, Undid, Undoes, [], aborted, and_right, answered, ap, ap₂, arith, command_at, common_steps, cond, device_no, did, entry, eq-eqb, eqb-false, eqb-true, false, filter, grips_command, has_touched, if◌then◌else◌, is_abort, is_access, is_command, is_live, is_none, is_ran, is_run, is_some, kind_at, line_empty, line_inserted, line_removed, line_retold, line_settling, line_touching, list_any, marks_without, may_follow, no_grips, not, nothing_read, option_map, option_or, point, put, put_keeps, put_other, put_same, refl, run_comes, run_no, settling, split_at, stands, subst, sym, touching, true, unwrap_or, view_by, with_item, with_placed, ℕ, ◌&&◌, ◌==◌, ◌||◌, ◌∙◌, ◌∷◌, ◌≡◌, ◌≢◌}
use Rattle.lock_leasing.specs.Standings.{has_ended, item_has_touched}
use Rattle.serial_line.specs.Ties.{IsLineOf}
use Rattle.window_order.proofs.AnsweredTables.{answered_run}
use Rattle.window_order.proofs.Grips.{HoldsNone}
use Rattle.window_order.proofs.ReadFacts.{IsRead}
use Rattle.window_order.proofs.Steps.{IsOut, unplaced_holds}

pub marks_begin : (w : Setting) → MarksAreKept (nothing_read w) no_grips []
marks_begin w = line_empty (item_has_touched (nothing_read w) no_grips) (has_ended (nothing_read w))

-- where the line, what each run has touched and which have ended stay
pub marks_same : (n m : Reading) (g f : Grips) (marks : List Mark) → m.line ≡ n.line → ((r d : ℕ) → has_touched m f r d ≡ has_touched n g r d) → ((r : ℕ) → has_ended m r ≡ has_ended n r) → MarksAreKept n g marks → MarksAreKept m f marks
marks_same n m g f marks line same ends kept = subst (λ l. IsLineOf l (item_has_touched m f) (has_ended m) marks) (sym line) (line_retold kept (λ i d there. each i d) (λ r there. sym (ends r)))
  where
    each : (i : Item) (d : ℕ) → item_has_touched n g i d ≡ item_has_touched m f i d
    each (Ran r) d = sym (same r.0 d)
    each (Failed e k) d = refl
    each (Back e k) d = refl

-- a run arrives
pub marks_arrived : (w : Setting) (n : Reading) (g : Grips) (r m : ℕ) (marks : List Mark) → MarksAreKept n g marks → MarksAreKept (entry w n (Arrived (run_no r) m)) g marks
marks_arrived w n g r m marks kept = marks_same n (entry w n (Arrived (run_no r) m)) g g marks refl (λ q d. ap (λ b. b || grips_command g q d) (put_keeps (λ o. is_some (o.on d).view) n.run r _ refl q)) (put_keeps (λ o. is_some o.ended) n.run r _ refl) kept

-- a run commits
pub marks_committed : (w : Setting) (n : Reading) (g : Grips) (r : ℕ) (marks : List Mark) → MarksAreKept n g marks → MarksAreKept (entry w n (Ended (run_no r) Committed)) g (settling r marks)
marks_committed w n g r marks kept = line_settling r touches also
  where
    next : Reading
    next = entry w n (Ended (run_no r) Committed)

    touches : IsLineOf n.line (item_has_touched next g) (has_ended n) marks
    touches = line_retold kept (λ i d there. each i d) (λ q there. refl)
      where
        each : (i : Item) (d : ℕ) → item_has_touched n g i d ≡ item_has_touched next g i d
        each (Ran q) d = sym (ap (λ b. b || grips_command g q.0 d) (put_keeps (λ o. is_some (o.on d).view) n.run r _ refl q.0))
        each (Failed e k) d = refl
        each (Back e k) d = refl

    also : (q : ℕ) → has_ended next q ≡ ((q == r) || has_ended n q)
    also q = at_ (q == r)
      where
        new : OfRun
        new = record (n.run r) { ended = Some Committed }

        at_ : (b : Bool) → is_some (if b then new else n.run q).ended ≡ (b || has_ended n q)
        at_ true = refl
        at_ false = refl

-- a run is placed: it has touched nothing
pub marks_placed : (w : Setting) (n : Reading) (g : Grips) (r at m : ℕ) (planned : List Planned) (marks : List Mark) → IsRead w n → GripsFit (point w n g) → may_follow w n (Placed (run_no r) at m) ≡ true → MarksAreKept n g marks
    → MarksAreKept (with_placed n (run_no r) at m planned (split_at n.line at)) g (with_item at (Ran (run_no r)) marks)
marks_placed w n g r at m planned marks read fit may kept = line_inserted at (Ran (run_no r)) told (run_comes (item_has_touched next g) (run_no r) untouched) lives
  where
    next : Reading
    next = with_placed n (run_no r) at m planned (split_at n.line at)

    new : OfRun
    new = record (n.run r) { placed = Some (record { place = at; moment = m; stamp = n.size }); planned = planned }

    same : (q d : ℕ) → has_touched next g q d ≡ has_touched n g q d
    same q d = ap (λ b. b || grips_command g q d) (put_keeps (λ o. is_some (o.on d).view) n.run r new refl q)

    ends : (q : ℕ) → has_ended next q ≡ has_ended n q
    ends q = put_keeps (λ o. is_some o.ended) n.run r new refl q

    told : IsLineOf n.line (item_has_touched next g) (has_ended next) marks
    told = line_retold kept (λ i d there. each i d) (λ q there. sym (ends q))
      where
        each : (i : Item) (d : ℕ) → item_has_touched n g i d ≡ item_has_touched next g i d
        each (Ran q) d = sym (same q.0 d)
        each (Failed e k) d = refl
        each (Back e k) d = refl

    none : is_none (n.run r).placed ≡ true
    none = grind (arith, common_steps)

    run : is_run w.runs r ≡ true
    run = grind (arith, common_steps)

    unplaced : (p : Option PlacedAt) (b : Bool) → is_none p ≡ true → (is_some p && b) ≡ false
    unplaced None b h = refl
    unplaced (Some x) b h = absurd (cc)

    holds : HoldsNone g r
    holds = unplaced_holds w n g r run (unplaced (n.run r).placed (is_none (n.run r).ended) none) fit

    ungripped : (d : ℕ) → grips_command g r d ≡ false
    ungripped d = at_ (g d) refl
      where
        by_maker : (grip : Grip) → g d ≡ Some grip → (b : Bool) → (grip.maker == r) ≡ b → (b && is_command grip.purpose) ≡ false
        by_maker grip e true own = absurd (holds d grip.purpose (e ∙ (λ i. Some (record { maker = eqb-true grip.maker r own i; purpose = grip.purpose }))))
        by_maker grip e false own = refl

        at_ : (o : Option Grip) → g d ≡ o → unwrap_or (option_map (λ p. (p.maker == r) && is_command p.purpose) o) false ≡ false
        at_ None e = refl
        at_ (Some grip) e = by_maker grip e (grip.maker == r) refl

    lives : has_ended next r ≡ false
    lives = ends r ∙ ap is_some ((read.shaped r).going none)

    untouched : (d : ℕ) → item_has_touched next g (Ran (run_no r)) d ≡ false
    untouched d = same r d ∙ (λ i. is_some ((read.shaped r).clear none d i).view || ungripped d i)

-- a command of the run goes out on the device: it has touched it from then on
pub marks_out : (n : Reading) (g : Grips) (r d k : ℕ) (marks : List Mark) → g d ≡ None → MarksAreKept n g marks → MarksAreKept n (put g d (Some (record { maker = r; purpose = Commands k }))) (touching r d marks)
marks_out n g r d k marks home kept = line_touching r d kept also
  where
    after : Grips
    after = put g d (Some (record { maker = r; purpose = Commands k }))

    here : (x q : ℕ) (b : Bool) → (b || ((x == q) && true)) ≡ (((q == x) && true) || (b || false))
    here x q b = grind (arith, common_steps)

    there : (x y : Bool) → y ≡ ((x && false) || y)
    there x y = grind (arith, common_steps)

    ran : (q e : ℕ) (b : Bool) → (e == d) ≡ b → (did n q e || unwrap_or (option_map (λ p. (p.maker == q) && is_command p.purpose) (if b then Some (record { maker = r; purpose = Commands k }) else g e)) false) ≡ (((q == r) && b) || has_touched n g q e)
    ran q e true at = here r q (did n q e) ∙ (λ i. ((q == r) && true) || (did n q e || unwrap_or (option_map (λ p. (p.maker == q) && is_command p.purpose) (sym (ap g (eqb-true e d at) ∙ home) i)) false))
    ran q e false at = there (q == r) (has_touched n g q e)

    also : (i : Item) (e : ℕ) → item_has_touched n after i e ≡ ((is_ran r i && (e == d)) || item_has_touched n g i e)
    also (Ran q) e = ran q.0 e (e == d) refl
    also (Failed x j) e = refl
    also (Back x j) e = refl

-- a command that was out is answered: its run has touched the device as before
pub marks_answered : (w : Setting) (n : Reading) (g : Grips) (d r k : ℕ) (a : Answer) (marks : List Mark) → is_access a ≡ true → IsOut w n d r k → g d ≡ Some (record { maker = r; purpose = Commands k }) → MarksAreKept n g marks → MarksAreKept (entry w n (Did (run_no r) k a)) (put g d None) marks
marks_answered w n g d r k a marks access out at kept = marks_same n (entry w n (Did (run_no r) k a)) g (put g d None) marks refl same (put_keeps (λ o. is_some o.ended) n.run r _ refl) kept
  where
    next : Reading
    next = entry w n (Did (run_no r) k a)

    swapped : (x y : ℕ) → (x == y) ≡ false → (y == x) ≡ false
    swapped x y h = grind (arith, common_steps)

    some_view : (v : Option Bool) → is_some (option_or v (view_by a)) ≡ true
    some_view (Some u) = refl
    some_view None = access

    c : Command
    c = command_at w.runs r k

    new : OfRun
    new = answered_run w n r k a

    own : next.run r ≡ new
    own = put_same n.run r new

    on_device : OnDevice
    on_device = answered (kind_at w.kinds c.device.0) c (is_some (n.run r).doomed) (n.run r).register a ((n.run r).on c.device.0)

    -- on its device the run has an answer
    has_answered : did next r d ≡ true
    has_answered = ap (λ (o : OfRun). is_some (o.on d).view) own ∙ ap (λ x. is_some (new.on x).view) out.device ∙ ap (λ (x : OnDevice). is_some x.view) (put_same (n.run r).on c.device.0 on_device) ∙ some_view ((n.run r).on c.device.0).view

    elsewhere : (e : ℕ) → e ≢ d → did next r e ≡ did n r e
    elsewhere e ne = ap (λ (o : OfRun). is_some (o.on e).view) own ∙ ap (λ (x : OnDevice). is_some x.view) (put_other (n.run r).on c.device.0 on_device e (λ h. ne (h ∙ sym out.device)))

    true_or : (x y z : Bool) → x ≡ true → z ≡ true → (x || false) ≡ (y || (z && true))
    true_or x y z h j = grind (arith, common_steps)

    off : (x y : Bool) → y ≡ false → (x || false) ≡ (x || (y && true))
    off x y h = grind (arith, common_steps)

    -- what the grip says before and after
    gripped : (q e : ℕ) (b : Bool) → (e == d) ≡ b → grips_command (put g d None) q e ≡ unwrap_or (option_map (λ p. (p.maker == q) && is_command p.purpose) (if b then None else g e)) false
    gripped q e b h = ap (λ x. unwrap_or (option_map (λ p. (p.maker == q) && is_command p.purpose) (if x then None else g e)) false) h

    was : (q e : ℕ) → (e == d) ≡ true → grips_command g q e ≡ ((r == q) && true)
    was q e h = ap (λ o. unwrap_or (option_map (λ p. (p.maker == q) && is_command p.purpose) o) false) (ap g (eqb-true e d h) ∙ at)

    others : (q e : ℕ) → q ≢ r → did next q e ≡ did n q e
    others q e ne = ap (λ (o : OfRun). is_some (o.on e).view) (put_other n.run r new q ne)

    same : (q e : ℕ) → has_touched next (put g d None) q e ≡ has_touched n g q e
    same q e = by_run (q == r) refl (e == d) refl
      where
        by_run : (x : Bool) → (q == r) ≡ x → (b : Bool) → (e == d) ≡ b → has_touched next (put g d None) q e ≡ has_touched n g q e
        by_run true mine true here =
            (λ i. did next q e || gripped q e true here i) ∙ true_or (did next q e) (did n q e) (r == q) (ap₂ (did next) (eqb-true q r mine) (eqb-true e d here) ∙ has_answered) (ap (λ x. r == x) (eqb-true q r mine) ∙ eq-eqb r r refl)
            ∙ (λ i. did n q e || sym (was q e here) i)
        by_run true mine false there = (λ i. (ap (λ x. did next x e) (eqb-true q r mine) ∙ elsewhere e (eqb-false e d there) ∙ ap (λ x. did n x e) (sym (eqb-true q r mine))) i || gripped q e false there i)
        by_run false other true here =
            (λ i. others q e (eqb-false q r other) i || gripped q e true here i) ∙ off (did n q e) (r == q) (swapped q r other) ∙ (λ i. did n q e || sym (was q e here) i)
        by_run false other false there = (λ i. others q e (eqb-false q r other) i || gripped q e false there i)

-- A doomed run

-- a run is doomed
pub marks_doomed : (w : Setting) (n : Reading) (g : Grips) (r : ℕ) (cause : Cause) (marks : List Mark) → MarksAreKept n g marks → MarksAreKept (entry w n (Doomed (run_no r) cause)) g marks
marks_doomed w n g r cause marks kept = marks_same n (entry w n (Doomed (run_no r) cause)) g g marks refl (λ q d. ap (λ b. b || grips_command g q d) (put_keeps (λ o. is_some (o.on d).view) n.run r _ refl q)) (put_keeps (λ o. is_some o.ended) n.run r _ refl) kept

-- a device goes out for an undo, which is no touch, or comes home from one
pub marks_undo_out : (n : Reading) (g : Grips) (r d v : ℕ) (marks : List Mark) → g d ≡ None → MarksAreKept n g marks → MarksAreKept n (put g d (Some (record { maker = r; purpose = Undoes v }))) marks
marks_undo_out n g r d v marks home kept =
    marks_same n n g (put g d (Some (record { maker = r; purpose = Undoes v }))) marks refl
    (λ q e. ap (λ b. did n q e || b) (put_keeps (λ o. unwrap_or (option_map (λ p. (p.maker == q) && is_command p.purpose) o) false) g d _
    (none q ∙ sym (ap (λ o. unwrap_or (option_map (λ p. (p.maker == q) && is_command p.purpose) o) false) home)) e)) (λ q. refl) kept
  where
    none : (q : ℕ) → ((r == q) && false) ≡ false
    none q = and_right (r == q) false refl

pub marks_undo_home : (n : Reading) (g : Grips) (r d v : ℕ) (marks : List Mark) → g d ≡ Some (record { maker = r; purpose = Undoes v }) → MarksAreKept n g marks → MarksAreKept n (put g d None) marks
marks_undo_home n g r d v marks out kept =
    marks_same n n g (put g d None) marks refl
    (λ q e. ap (λ b. did n q e || b) (put_keeps (λ o. unwrap_or (option_map (λ p. (p.maker == q) && is_command p.purpose) o) false) g d None
    (sym (ap (λ o. unwrap_or (option_map (λ p. (p.maker == q) && is_command p.purpose) o) false) out ∙ and_right (r == q) false refl)) e)) (λ q. refl) kept

-- a run is undone on a device
pub marks_undone : (w : Setting) (n : Reading) (g : Grips) (r d : ℕ) (drove : Bool) (marks : List Mark) → MarksAreKept n g marks → MarksAreKept (entry w n (Undid (run_no r) (device_no d) drove)) g marks
marks_undone w n g r d drove marks kept =
    marks_same n (entry w n (Undid (run_no r) (device_no d) drove)) g g marks refl
    (λ q e. ap (λ b. b || grips_command g q e) (put_keeps (λ o. is_some (o.on e).view) n.run r _ (put_keeps (λ x. is_some x.view) (n.run r).on d _ refl e) q))
    (put_keeps (λ o. is_some o.ended) n.run r _ refl) kept

-- a run is aborted: its mark leaves
pub marks_aborted : (w : Setting) (n : Reading) (g : Grips) (r : ℕ) (cause : Cause) (marks : List Mark) → MarksAreKept n g marks → MarksAreKept (entry w n (Ended (run_no r) (Aborted cause))) g (marks_without r marks)
marks_aborted w n g r cause marks kept = line_retold (line_removed r kept) (λ i d there. each i d) (λ q there. sym (ends q (gone n.line q there)))
  where
    next : Reading
    next = entry w n (Ended (run_no r) (Aborted cause))

    each : (i : Item) (d : ℕ) → item_has_touched n g i d ≡ item_has_touched next g i d
    each (Ran q) d = sym (ap (λ b. b || grips_command g q.0 d) (put_keeps (λ o. is_some (o.on d).view) n.run r _ refl q.0))
    each (Failed e k) d = refl
    each (Back e k) d = refl

    -- it is another run that is left
    gone : (is : List Item) (q : ℕ) → list_any (is_ran q) (filter (λ i. not (is_ran r i)) is) ≡ true → (q == r) ≡ false
    gone [] q there = absurd (cc)
    gone (i ∷ is) q there = one (is_ran r i) refl (is_ran q i) refl (gone is q) there
      where
        other : (j : Item) → is_ran r j ≡ false → is_ran q j ≡ true → (q == r) ≡ false
        other (Ran x) e f = grind (arith, common_steps)
        other (Failed d k) e f = absurd (cc)
        other (Back d k) e f = absurd (cc)

        one : (b : Bool) → is_ran r i ≡ b → (c : Bool) → is_ran q i ≡ c → (list_any (is_ran q) (filter (λ j. not (is_ran r j)) is) ≡ true → (q == r) ≡ false)
            → list_any (is_ran q) (cond (not b) (i ∷ filter (λ j. not (is_ran r j)) is) (filter (λ j. not (is_ran r j)) is)) ≡ true → (q == r) ≡ false
        one true e c f rest h = rest h
        one false e true f rest h = other i e f
        one false e false f rest h = rest (sym (ap (λ x. x || list_any (is_ran q) (filter (λ j. not (is_ran r j)) is)) f) ∙ h)

    ends : (q : ℕ) → (q == r) ≡ false → has_ended next q ≡ has_ended n q
    ends q other = ap (λ (o : OfRun). is_some o.ended) (put_other n.run r _ q (eqb-false q r other))

-- What the line asks for

pub run_stands : (n : Reading) (g : Grips) (r : ℕ) (marks : List Mark) → MarksAreKept n g marks → stands (Ran (run_no r)) marks ≡ list_any (is_ran r) n.line
run_stands n g r marks kept = ap (list_any (is_ran r)) kept.items

-- a live run stands in it
pub live_stands : (w : Setting) (n : Reading) (g : Grips) (r : ℕ) (marks : List Mark) → IsRead w n → is_live n r ≡ true → MarksAreKept n g marks → stands (Ran (run_no r)) marks ≡ true
live_stands w n g r marks read live kept = run_stands n g r marks kept ∙ read.standing.line r ∙ in_line (is_some (n.run r).placed) (is_none (n.run r).ended) (aborted (n.run r)) live (unended (n.run r).ended)
  where
    unended : (e : Option End) → is_none e ≡ true → unwrap_or (option_map is_abort e) false ≡ false
    unended None h = refl
    unended (Some x) h = absurd (cc)

    in_line : (p e a : Bool) → (p && e) ≡ true → (e ≡ true → a ≡ false) → (p && not a) ≡ true
    in_line true true a h k = ap (λ x. true && not x) (k refl)
    in_line true false a h k = absurd (cc)
    in_line false e a h k = absurd (cc)

-- one that is not placed does not
pub unplaced_absent : (w : Setting) (n : Reading) (g : Grips) (r : ℕ) (marks : List Mark) → IsRead w n → is_none (n.run r).placed ≡ true → MarksAreKept n g marks → stands (Ran (run_no r)) marks ≡ false
unplaced_absent w n g r marks read none kept = run_stands n g r marks kept ∙ read.standing.line r ∙ unplaced (n.run r).placed (not (aborted (n.run r))) none
  where
    unplaced : (p : Option PlacedAt) (b : Bool) → is_none p ≡ true → (is_some p && b) ≡ false
    unplaced None b h = refl
    unplaced (Some x) b h = absurd (cc)
