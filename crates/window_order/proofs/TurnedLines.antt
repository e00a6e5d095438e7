-- The items of a line with what each has touched, where a device fails or comes back, is answered for with no call, or is probed.
use Rattle.window_order.proofs.Prelude.{Answer, Back, Bool, Command, Commands, DeviceNo, Did, Failed, Fell, Grips, Item, List, Mark, MarksAreKept, None, OfRun, OnDevice, Option, Probes, Ran, Reading, Rose, Setting, Some, [], answered, ap, arith, before_first, before_none, command_at, common_steps, did, entry, false, find, grips_command, if◌then◌else◌, is_access, is_doomed, is_item, is_live, is_ran, is_some, is_weak, kind_at, length, length-map, line_inserted, line_retold, line_touching, list_any, live_runs, not, of_run, option_or, pends, put, put_keeps, put_other, put_same, refl, run_no, stands, subst, sym, touching, true, untouched, up_to_first, view_by, with_item, ℕ, ◌&&◌, ◌+◌, ◌==◌, ◌||◌, ◌∙◌, ◌∷◌, ◌≡◌, ◌≢◌, ◌≤◌}
use Rattle.home_types.proofs.Cited.{contains_insert}
use Rattle.lock_leasing.proofs.Cited.{put_at}
use Rattle.lock_leasing.specs.Standings.{has_ended, item_has_touched}
use Rattle.serial_line.specs.Ties.{IsLineOf, TouchesAs}
use Rattle.std.specs.FinSet as set
use Rattle.std.specs.Ordering.{nat_cmp}
use Rattle.window_order.proofs.EventPlaces.{awaits_there}
use Rattle.window_order.proofs.GripWords.{probe_home_grip, probe_out_grip}
use Rattle.window_order.proofs.ReadFacts.{IsRead}
use Rattle.window_order.proofs.Steps.{IsOut}
use Rattle.window_order.proofs.TouchedLines.{marks_answered, marks_same}

-- The place of an event

-- the place of the device's event: before the first run that is open there and has done nothing there, else at the end
abbrev pub event_place_of : Setting → Reading → ℕ → ℕ
event_place_of w n d = up_to_first (of_run (awaits_there w n d)) n.line

-- Where the event stands

live_awaits : (w : Setting) (n : Reading) (d q : ℕ) → awaits_there w n d q ≡ true → is_live n q ≡ true
live_awaits w n d q awaiting = lives (is_weak w.mode) (is_live n q) (is_doomed n q) (pends w n q d) (did n q d) awaiting
  where
    lives : (a l x p v : Bool) → (not a && (l && not x && p) && not v) ≡ true → l ≡ true
    lives a l x p v h = grind (arith, common_steps)

-- before that run, ..
pub event_before : (w : Setting) (n : Reading) (d r : ℕ) → find (awaits_there w n d) (live_runs n n.line) ≡ Some r → event_place_of w n d ≡ up_to_first (is_ran r) n.line
event_before w n d r some = before_first n (awaits_there w n d) (live_awaits w n d) r n.line some

-- .. and at the end of the line where there is none
pub event_last : (w : Setting) (n : Reading) (d : ℕ) → find (awaits_there w n d) (live_runs n n.line) ≡ None → event_place_of w n d ≡ length n.line
event_last w n d none = before_none n (awaits_there w n d) (live_awaits w n d) n.line none

-- an event has touched its device as it comes
event_touches : (touched : Item → ℕ → Bool) (x : Item) (e : DeviceNo) → (untouched x).touched ≡ set.insert set.empty e.0 → ((d : ℕ) → touched x d ≡ (e.0 == d)) → TouchesAs touched (untouched x)
event_touches touched x e own tells d = ap (λ s. set.contains s d) own ∙ contains_insert set.empty e.0 d ∙ ap (λ b. (d == e.0) || b) (set.contains-empty nat_cmp d) ∙ turned d e.0 ∙ sym (tells d)
  where
    turned : (y z : ℕ) → ((y == z) || false) ≡ (z == y)
    turned y z = grind (arith, common_steps)

-- the runs have touched what they had
same_runs : (n m : Reading) (g : Grips) (marks : List Mark) → m.run ≡ n.run → MarksAreKept n g marks → IsLineOf n.line (item_has_touched m g) (has_ended m) marks
same_runs n m g marks run kept = line_retold kept (λ i d there. each i d) (λ q there. λ i. is_some ((sym run i) q).ended)
  where
    each : (i : Item) (d : ℕ) → item_has_touched n g i d ≡ item_has_touched m g i d
    each (Ran q) d = λ i. is_some (((sym run i) q.0).on d).view || grips_command g q.0 d
    each (Failed e k) d = refl
    each (Back e k) d = refl

-- a device fails
pub marks_fell : (w : Setting) (n : Reading) (g : Grips) (d : DeviceNo) (marks : List Mark) → MarksAreKept n g marks → MarksAreKept (entry w n (Fell d)) g (with_item (event_place_of w n d.0) (Failed d (n.fell d.0 + 1)) marks)
marks_fell w n g d marks kept =
    subst (λ l. IsLineOf l (item_has_touched (entry w n (Fell d)) g) (has_ended (entry w n (Fell d))) (with_item (event_place_of w n d.0) x marks)) (sym (put_at (of_run (awaits_there w n d.0)) x n.line))
    (line_inserted (event_place_of w n d.0) x (same_runs n (entry w n (Fell d)) g marks refl kept) (event_touches (item_has_touched (entry w n (Fell d)) g) x d refl (λ e. refl)) refl)
  where
    x : Item
    x = Failed d (n.fell d.0 + 1)

-- .. or comes back
pub marks_rose : (w : Setting) (n : Reading) (g : Grips) (d : DeviceNo) (marks : List Mark) → MarksAreKept n g marks → MarksAreKept (entry w n (Rose d)) g (with_item (event_place_of w n d.0) (Back d (n.rose d.0 + 1)) marks)
marks_rose w n g d marks kept =
    subst (λ l. IsLineOf l (item_has_touched (entry w n (Rose d)) g) (has_ended (entry w n (Rose d))) (with_item (event_place_of w n d.0) x marks)) (sym (put_at (of_run (awaits_there w n d.0)) x n.line))
    (line_inserted (event_place_of w n d.0) x (same_runs n (entry w n (Rose d)) g marks refl kept) (event_touches (item_has_touched (entry w n (Rose d)) g) x d refl (λ e. refl)) refl)
  where
    x : Item
    x = Back d (n.rose d.0 + 1)

-- the device fails at a command that is out: its run has touched it as before
pub marks_died : (w : Setting) (n : Reading) (g : Grips) (d r k : ℕ) (e : DeviceNo) (a : Answer) (marks : List Mark) → is_access a ≡ true → IsOut w n d r k → g d ≡ Some (record { maker = r; purpose = Commands k }) → MarksAreKept n g marks
    → MarksAreKept (entry w (entry w n (Fell e)) (Did (run_no r) k a)) (put g d None) (with_item (event_place_of w n e.0) (Failed e (n.fell e.0 + 1)) marks)
marks_died w n g d r k e a marks access out at kept =
    marks_answered w (entry w n (Fell e)) g d r k a (with_item (event_place_of w n e.0) (Failed e (n.fell e.0 + 1)) marks) access
    (record { live = out.live; number = out.number; more = out.more; device = out.device; guard = out.guard }) at (marks_fell w n g e marks kept)

-- What the line asks for, where an event is put in

-- its place is one of the line, or the end, ..
pub event_within : (w : Setting) (n : Reading) (g : Grips) (d : ℕ) (marks : List Mark) → MarksAreKept n g marks → event_place_of w n d ≤ length marks
event_within w n g d marks kept = subst (λ k. event_place_of w n d ≤ k) (ap length (sym kept.items) ∙ length-map marks (λ m. m.item)) (first_within (of_run (awaits_there w n d)) n.line)
  where
    first_within : (t : Item → Bool) (line : List Item) → up_to_first t line ≤ length line
    first_within t [] = omega arith
    first_within t (i ∷ is) = by_test (t i) (first_within t is)
      where
        by_test : (b : Bool) → up_to_first t is ≤ length is → (if b then 0 else up_to_first t is + 1) ≤ length (i ∷ is)
        by_test true h = omega arith
        by_test false h = omega (arith, h)

-- .. and the device's next failure, or restart, does not stand there yet
pub failure_absent : (w : Setting) (n : Reading) (g : Grips) (d : DeviceNo) (marks : List Mark) → IsRead w n → MarksAreKept n g marks → stands (Failed d (n.fell d.0 + 1)) marks ≡ false
failure_absent w n g d marks read kept = ap (list_any (is_item (Failed d (n.fell d.0 + 1)))) kept.items ∙ read.numbered.failures d.0 (n.fell d.0 + 1) (omega arith)

pub restart_absent : (w : Setting) (n : Reading) (g : Grips) (d : DeviceNo) (marks : List Mark) → IsRead w n → MarksAreKept n g marks → stands (Back d (n.rose d.0 + 1)) marks ≡ false
restart_absent w n g d marks read kept = ap (list_any (is_item (Back d (n.rose d.0 + 1)))) kept.items ∙ read.numbered.restarts d.0 (n.rose d.0 + 1) (omega arith)

-- An answer with no call

-- the run touches the device of its command by the answer
pub marks_told : (w : Setting) (n : Reading) (g : Grips) (r k : ℕ) (a : Answer) (marks : List Mark) → is_access a ≡ true → MarksAreKept n g marks → MarksAreKept (entry w n (Did (run_no r) k a)) g (touching r (command_at w.runs r k).device.0 marks)
marks_told w n g r k a marks access kept = line_touching r d ends also
  where
    c : Command
    c = command_at w.runs r k

    d : ℕ
    d = c.device.0

    next : Reading
    next = entry w n (Did (run_no r) k a)

    on_device : OnDevice
    on_device = answered (kind_at w.kinds d) c (is_some (n.run r).doomed) (n.run r).register a ((n.run r).on d)

    equal : (y z : ℕ) → (y == z) ≡ true → y ≡ z
    equal y z h = grind (arith, common_steps)

    differ : (y z : ℕ) → (y == z) ≡ false → y ≢ z
    differ y z h = grind (arith, common_steps)

    some_view : (v : Option Bool) → is_some (option_or v (view_by a)) ≡ true
    some_view (Some u) = refl
    some_view None = access

    own : (e : ℕ) → did next r e ≡ is_some (put (n.run r).on d on_device e).view
    own e = ap (λ (o : OfRun). is_some (o.on e).view) (put_same n.run r _)

    tells : (x y b : Bool) (z : Bool) → x ≡ (z || b) → (x || y) ≡ ((true && z) || (b || y))
    tells x y b z h = grind (arith, common_steps)

    stays : (x y b z : Bool) → x ≡ b → (x || y) ≡ ((false && z) || (b || y))
    stays x y b z h = grind (arith, common_steps)

    own_told : (e : ℕ) (b : Bool) → (e == d) ≡ b → is_some (if b then on_device else (n.run r).on e).view ≡ (b || did n r e)
    own_told e true h = some_view ((n.run r).on d).view
    own_told e false h = refl

    ran : (q e : ℕ) (b : Bool) → (q == r) ≡ b → (did next q e || grips_command g q e) ≡ ((b && (e == d)) || (did n q e || grips_command g q e))
    ran q e true h = tells (did next q e) (grips_command g q e) (did n q e) (e == d) (ap (λ y. did next y e) (equal q r h) ∙ own e ∙ own_told e (e == d) refl ∙ ap (λ y. (e == d) || did n y e) (sym (equal q r h)))
    ran q e false h = stays (did next q e) (grips_command g q e) (did n q e) (e == d) (ap (λ (o : OfRun). is_some (o.on e).view) (put_other n.run r _ q (differ q r h)))

    ends : IsLineOf n.line (item_has_touched n g) (has_ended next) marks
    ends = line_retold kept (λ i e there. refl) (λ q there. sym (put_keeps (λ o. is_some o.ended) n.run r _ refl q))

    also : (i : Item) (e : ℕ) → item_has_touched next g i e ≡ ((is_ran r i && (e == d)) || item_has_touched n g i e)
    also (Ran q) e = ran q.0 e (q.0 == r) refl
    also (Failed y j) e = refl
    also (Back y j) e = refl

-- A probe

-- it is no touch that a device goes out for a probe, ..
pub marks_probe_out : (n : Reading) (g : Grips) (d m : ℕ) (v : Option ℕ) (marks : List Mark) → g d ≡ None → MarksAreKept n g marks → MarksAreKept n (put g d (Some (record { maker = m; purpose = Probes v }))) marks
marks_probe_out n g d m v marks home kept = marks_same n n g (put g d (Some (record { maker = m; purpose = Probes v }))) marks refl (λ q e. ap (λ b. did n q e || b) (probe_out_grip g d m v home e q).command) (λ q. refl) kept

-- .. and that it comes home from one
pub marks_probe_home : (n : Reading) (g : Grips) (d m : ℕ) (v : Option ℕ) (marks : List Mark) → g d ≡ Some (record { maker = m; purpose = Probes v }) → MarksAreKept n g marks → MarksAreKept n (put g d None) marks
marks_probe_home n g d m v marks out kept = marks_same n n g (put g d None) marks refl (λ q e. ap (λ b. did n q e || b) (probe_home_grip g d m v out e q).command) (λ q. refl) kept
