-- A device fails or comes back, and the lineage table is kept: it is counted so, and the accesses stay.
use Rattle.window_order.proofs.Prelude.{Access, Answer, Back, Bool, ChangesEach, Commands, DeviceNo, Did, Failed, Fell, Grips, Item, LineageIsKept, LineageState, List, None, Option, OrderIsKept, Probes, Ran, Reading, Rose, Setting, Some, TableIsKept, Undid, Undoes, [], access_read, accesses_along, answered_change, any_put_before, ap, commits_write, committed_write, counted_up, device_no, entry, false, fold, if◌then◌else◌, is_access, list_any, not, of_run, option_or, point, put, put_before, refl, run_no, stand_at, subst, sym, true, turned_change, unwrap_or, uses, ℕ, ◌&&◌, ◌==◌, ◌||◌, ◌∙◌, ◌∷◌, ◌≡◌}
use Rattle.window_order.proofs.EventPlaces.{awaits_there}
use Rattle.window_order.proofs.GrippedTables.{undid_kept}
use Rattle.window_order.proofs.ReadFacts.{IsRead}
use Rattle.window_order.proofs.TableSteps.{answered_each, changed_table, same_table}
use Rattle.window_order.proofs.TableFrames.{access_gripped, lineage_same, may_gripped, uses_same}
use Rattle.window_order.proofs.GripWords.{SameGrip, probe_home_grip, probe_out_grip}

-- An event in the line

-- it has no access
event_skipped : (p c : ℕ → Bool) (f : ℕ → Access) (x : Item) (is : List Item) → of_run (λ q. true) x ≡ false → accesses_along p c f (x ∷ is) ≡ accesses_along p c f is
event_skipped p c f (Ran r) is event = absurd (cc)
event_skipped p c f (Failed e k) is event = refl
event_skipped p c f (Back e k) is event = refl

accesses_put : (p c : ℕ → Bool) (f : ℕ → Access) (t : Item → Bool) (x : Item) (is : List Item) → ((q : ℕ → Bool) → of_run q x ≡ false) → accesses_along p c f (put_before t x is) ≡ accesses_along p c f is
accesses_put p c f t x [] event = event_skipped p c f x [] (event (λ q. true))
accesses_put p c f t x (i ∷ is) event = by_test (t i) i (accesses_put p c f t x is event)
  where
    covers_same : list_any (of_run c) (put_before t x is) ≡ list_any (of_run c) is
    covers_same = any_put_before (of_run c) t x is ∙ ap (λ b. b || list_any (of_run c) is) (event c)

    by_test : (b : Bool) (j : Item) → accesses_along p c f (put_before t x is) ≡ accesses_along p c f is → accesses_along p c f (if b then x ∷ j ∷ is else j ∷ put_before t x is) ≡ accesses_along p c f (j ∷ is)
    by_test true j rest = event_skipped p c f x (j ∷ is) (event (λ q. true))
    by_test false (Ran r) rest = λ i. if p r.0 && not (covers_same i) then (f r.0 ∷ rest i) else rest i
    by_test false (Failed e k) rest = rest
    by_test false (Back e k) rest = rest

-- .. and writes nothing
last_put : {B : Type 0} (f : Item → Option B) (t : Item → Bool) (x : Item) (best : Option B) (is : List Item) → f x ≡ None → fold (λ b y. option_or (f y) b) best (put_before t x is) ≡ fold (λ b y. option_or (f y) b) best is
last_put f t x best [] none = ap (λ o. option_or o best) none
last_put {B} f t x best (i ∷ is) none = by_test (t i) (last_put f t x (option_or (f i) best) is none)
  where
    by_test : (b : Bool) → fold (λ o y. option_or (f y) o) (option_or (f i) best) (put_before t x is) ≡ fold (λ o y. option_or (f y) o) (option_or (f i) best)
        is → fold (λ o y. option_or (f y) o) best (if b then x ∷ i ∷ is else i ∷ put_before t x is) ≡ fold (λ o y. option_or (f y) o) (option_or (f i) best) is
    by_test true rest = ap (λ o. fold (λ q y. option_or (f y) q) (option_or (f i) (option_or o best)) is) none
    by_test false rest = rest

no_write : (n : Reading) (d : ℕ) (x : Item) → of_run (λ q. true) x ≡ false → committed_write n d x ≡ None
no_write n d (Ran r) event = absurd (cc)
no_write n d (Failed e k) event = refl
no_write n d (Back e k) event = refl

-- The lineages

-- the device's event comes: the runs stay, and it is counted so
pub record CountsSo (n m : Reading) (d : ℕ) (up : Bool) : Type 0 where
  pub item : Item
  pub event : (p : ℕ → Bool) → of_run p item ≡ false
  pub before : Item → Bool
  pub line : m.line ≡ put_before before item n.line
  pub runs : m.run ≡ n.run
  pub counted : m.up ≡ put n.up d up

pub turned_kept : (w : Setting) (n m : Reading) (g : Grips) (d : ℕ) (up : Bool) → CountsSo n m d up → (e : ℕ) (s : LineageState) → LineageIsKept (point w n g) e s → LineageIsKept (point w m g) e (turned_change d up e s)
turned_kept w n m g d up turn e s kept = subst (λ f. LineageIsKept (point w (record m { run = f }) g) e (turned_change d up e s)) (sym turn.runs) (by_device (e == d) refl)
  where
    mid : Reading
    mid = record m { run = n.run }

    counted_so : (u : Bool) → u ≡ m.up e → LineageIsKept (point w mid g) e (counted_up u s)
    counted_so u is = record {
      passed = kept.passed;
      may_pass = kept.may_pass;
      committed =
          kept.committed
          ∙ sym (ap (λ l. unwrap_or (fold (λ b y. option_or (committed_write n e y) b) None l) (stand_at w.first e).value) turn.line
          ∙ ap (λ o. unwrap_or o (stand_at w.first e).value) (last_put (committed_write n e) turn.before turn.item None n.line (no_write n e turn.item (turn.event (λ q. true)))));
      accesses =
          kept.accesses
          ∙ sym (ap (accesses_along (uses w n e) (commits_write n e) (access_read (point w n g) kept.passed e)) turn.line
          ∙ accesses_put (uses w n e) (commits_write n e) (access_read (point w n g) kept.passed e) turn.before turn.item n.line turn.event);
      room = kept.room;
      up = is;
    }

    by_device : (b : Bool) → (e == d) ≡ b → LineageIsKept (point w mid g) e (if b then counted_up up s else s)
    by_device true here = counted_so up (sym (ap (λ f. f e) turn.counted ∙ ap (λ b. if b then up else n.up e) here))
    by_device false there = counted_so s.up (kept.up ∙ sym (ap (λ f. f e) turn.counted ∙ ap (λ b. if b then up else n.up e) there))

-- The table

fell_counts : (w : Setting) (n : Reading) (d : DeviceNo) → CountsSo n (entry w n (Fell d)) d.0 false
fell_counts w n d = record { item = Failed d _; event = λ p. refl; before = of_run (awaits_there w n d.0); line = refl; runs = refl; counted = refl }

-- a device fails
pub fell_table : (w : Setting) (n : Reading) (g : Grips) (d : DeviceNo) (old new : List LineageState) → ChangesEach (turned_change d.0 false) old new → TableIsKept (point w n g) old → TableIsKept (point w (entry w n (Fell d)) g) new
fell_table w n g d old new changes kept = changed_table w n (entry w n (Fell d)) g g (turned_change d.0 false) old new (turned_kept w n (entry w n (Fell d)) g d.0 false (fell_counts w n d)) changes kept

-- .. or comes back
pub rose_table : (w : Setting) (n : Reading) (g : Grips) (d : DeviceNo) (old new : List LineageState) → ChangesEach (turned_change d.0 true) old new → TableIsKept (point w n g) old → TableIsKept (point w (entry w n (Rose d)) g) new
rose_table w n g d old new changes kept = changed_table w n (entry w n (Rose d)) g g (turned_change d.0 true) old new
    (turned_kept w n (entry w n (Rose d)) g d.0 true (record { item = Back d _; event = λ p. refl; before = of_run (awaits_there w n d.0); line = refl; runs = refl; counted = refl })) changes kept

-- it fails at a command that is out, which is answered: the order is that before both entries
pub died_table : (w : Setting) (n : Reading) (g : Grips) (held : ℕ → ℕ) (d r k : ℕ) (f : DeviceNo) (a : Answer) (old new : List LineageState) → is_access a ≡ true → IsRead w n → OrderIsKept (point w n g) held → g d ≡ Some (record { maker = r; purpose = Commands k })
    → ChangesEach (λ e s. turned_change f.0 false e (answered_change w n r k a e s)) old new → TableIsKept (point w n g) old → TableIsKept (point w (entry w (entry w n (Fell f)) (Did (run_no r) k a)) (put g d None)) new
died_table w n g held d r k f a old new access read order at changes kept = changed_table w n next g (put g d None) (λ e s. turned_change f.0 false e (answered_change w n r k a e s)) old new
    (λ e s own. turned_kept w (entry w n (Did (run_no r) k a)) next (put g d None) f.0 false
    (record { item = Failed f _; event = λ p. refl; before = of_run (awaits_there w n f.0); line = refl; runs = refl; counted = refl }) e
    (answered_change w n r k a e s) (answered_each w n g held d r k a access read order at e s own)) changes kept
  where
    next : Reading
    next = entry w (entry w n (Fell f)) (Did (run_no r) k a)

-- .. or at an undo, whose write left the table as it went out
pub undo_died_table : (w : Setting) (n : Reading) (g : Grips) (d r v : ℕ) (drove : Bool) (old new : List LineageState) → g d ≡ Some (record { maker = r; purpose = Undoes v }) → ChangesEach (turned_change d false) old new → TableIsKept (point w n g) old
    → TableIsKept (point w (entry w (entry w n (Fell (device_no d))) (Undid (run_no r) (device_no d) drove)) (put g d None)) new
undo_died_table w n g d r v drove old new at changes kept = changed_table w n next g (put g d None) (turned_change d false) old new
    (λ e s own. turned_kept w (entry w n (Undid (run_no r) (device_no d) drove)) next (put g d None) d false
    (record { item = Failed (device_no d) _; event = λ p. refl; before = of_run (awaits_there w n d); line = refl; runs = refl; counted = refl }) e s
    (undid_kept w n g d r v drove at e s own)) changes kept
  where
    next : Reading
    next = entry w (entry w n (Fell (device_no d))) (Undid (run_no r) (device_no d) drove)

-- A probe goes out, and comes home

-- the table stays where the grips say the same of each run
regripped_table : (w : Setting) (n : Reading) (g h : Grips) (table : List LineageState) → ((d q : ℕ) → SameGrip g h d q) → TableIsKept (point w n g) table → TableIsKept (point w n h) table
regripped_table w n g h table same kept = same_table w n n g h table (λ d s own. lineage_same w n n g h d s (uses_same w n g h d (λ q may. may_gripped g h d q (n.run q) (same d q).command ∙ may)) own (λ q. access_gripped w g h own.passed d q (n.run q) (same d q))) kept

pub probe_out_table : (w : Setting) (n : Reading) (g : Grips) (d m : ℕ) (v : Option ℕ) (table : List LineageState) → g d ≡ None → TableIsKept (point w n g) table → TableIsKept (point w n (put g d (Some (record { maker = m; purpose = Probes v })))) table
probe_out_table w n g d m v table at kept = regripped_table w n g (put g d (Some (record { maker = m; purpose = Probes v }))) table (probe_out_grip g d m v at) kept

pub probe_home_table : (w : Setting) (n : Reading) (g : Grips) (d m : ℕ) (v : Option ℕ) (table : List LineageState) → g d ≡ Some (record { maker = m; purpose = Probes v }) → TableIsKept (point w n g) table → TableIsKept (point w n (put g d None)) table
probe_home_table w n g d m v table at kept = regripped_table w n g (put g d None) table (probe_home_grip g d m v at) kept
