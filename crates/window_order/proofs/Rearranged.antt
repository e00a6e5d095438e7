-- A line whose items stand in another order, each device's own ones in theirs, keeps the order of a window, its table and what its reading says.
use Rattle.window_order.proofs.Prelude.{Access, Back, Bool, DeviceInvariant, Failed, Failure, Grips, IsTrue, Item, LineageIsKept, LineageState, List, None, Occurred, Option, OrderEntry, OrderIsKept, Ran, Reading, Restart, Setting, Some, TableIsKept, Used, [], access_read, accesses_along, accesses_read, ap, arith, commits_write, committed_write, common_steps, cond, count_by, did, did_touches, entries, entry_if, entry_of, false, filter, filter_map, firsts_of_line, if◌then◌else◌, in_order, is_committed, is_doomed, is_item_on, is_late, is_live, is_ran, is_some, last_filter, last_some, length, lineage_at, list_any, marks_of_line, nat_lt, not, of_run, part, passed_by, point, probe_of, refl, run_no, run_state, sees_up, stand_at, subst, sym, touches, true, unwrap_or, usage, uses, window_of, with_order_entry, ℕ, ◌&&◌, ◌<◌, ◌==◌, ◌||◌, ◌∙◌, ◌∷◌, ◌≡◌}
use Rattle.device_order.specs.LineOrders.{EventsAreHomed}
use Rattle.window_order.proofs.ReadFacts.{IsRead}
use Rattle.window_order.proofs.Grips.{fits_same}
use Rattle.window_order.proofs.HistoryOrder.{if_kept, is_marked, kept_items, same_items, same_marks}

-- the same items stand in both lines, and those of each device in the same order
pub record HasSameParts (w : Setting) (line next : List Item) : Type 0 where
  pub some : (p : Item → Bool) → list_any p next ≡ list_any p line
  pub many : (p : Item → Bool) → count_by p next ≡ count_by p line
  pub parts : (d : ℕ) → part w d next ≡ part w d line

-- The reading

pub read_kept : (w : Setting) (n : Reading) (next : List Item) → HasSameParts w n.line next → IsRead w n → IsRead w (in_order n next)
read_kept w n next same read = record {
  shaped = read.shaped;
  standing = record { line = λ q. same.some _ ∙ read.standing.line q; begun = read.standing.begun };
  once = λ q. same.many _ ∙ read.once q;
  logged = record { firsts = read.logged.firsts; lasts = read.logged.lasts; events = read.logged.events };
  summarized = read.summarized;
  closed = read.closed;
  numbered = record { failures = λ d k more. same.some _ ∙ read.numbered.failures d k more; restarts = λ d k more. same.some _ ∙ read.numbered.restarts d k more };
}

-- a run has no access to a device that it does not use
pub unused : (w : Setting) (n : Reading) (r d : ℕ) → IsRead w n → touches w.runs r d ≡ false → did n r d ≡ false
unused w n r d read off = by_did (did n r d) refl
  where
    by_did : (b : Bool) → did n r d ≡ b → did n r d ≡ false
    by_did true e = absurd (let both : true ≡ false = sym (did_touches w n r d read.shaped e) ∙ off in cc)
    by_did false e = e

unwritten : (w : Setting) (n : Reading) (r d : ℕ) → IsRead w n → touches w.runs r d ≡ false → is_some ((n.run r).on d).wrote ≡ false
unwritten w n r d read off = at_ (is_some ((n.run r).on d).wrote) refl
  where
    clash : false ≡ true → ⊥
    clash h = cc

    at_ : (b : Bool) → is_some ((n.run r).on d).wrote ≡ b → b ≡ false
    at_ true e = absurd (clash (sym (unused w n r d read off) ∙ (read.shaped r).wrote d e))
    at_ false e = refl

none_of : (o : Option ℕ) → is_some o ≡ false → o ≡ None
none_of None e = refl
none_of (Some x) e = absurd cc

-- what is told of a device's own items is told of its part of the line

mapped_part : {B : Type 0} (w : Setting) (d : ℕ) (f : Item → Option B) (line : List Item) → ((i : Item) → is_item_on w.runs d i ≡ false → f i ≡ None) → filter_map f (part w d line) ≡ filter_map f line
mapped_part w d f [] off = refl
mapped_part {B = B} w d f (i ∷ is) off = at_ (is_item_on w.runs d i) refl (mapped_part w d f is off)
  where
    joined : Option B → List B → List B
    joined None ys = ys
    joined (Some y) ys = y ∷ ys

    head : (j : Item) (js : List Item) → filter_map f (j ∷ js) ≡ joined (f j) (filter_map f js)
    head j js = by_one (f j) refl
      where
        by_one : (o : Option B) → f j ≡ o → filter_map f (j ∷ js) ≡ joined (f j) (filter_map f js)
        by_one None e = grind (arith, common_steps)
        by_one (Some y) e = grind (arith, common_steps)

    at_ : (b : Bool) → is_item_on w.runs d i ≡ b → filter_map f (part w d is) ≡ filter_map f is → filter_map f (cond (is_item_on w.runs d i) (i ∷ part w d is) (part w d is)) ≡ filter_map f (i ∷ is)
    at_ true e rest = (λ k. filter_map f (cond (e k) (i ∷ part w d is) (part w d is))) ∙ head i (part w d is) ∙ ap (joined (f i)) rest ∙ sym (head i is)
    at_ false e rest = (λ k. filter_map f (cond (e k) (i ∷ part w d is) (part w d is))) ∙ rest ∙ sym (head i is ∙ ap (λ o. joined o (filter_map f is)) (off i e))

filtered_part : (w : Setting) (d : ℕ) (p : Item → Bool) (line : List Item) → ((i : Item) → is_item_on w.runs d i ≡ false → p i ≡ false) → filter p (part w d line) ≡ filter p line
filtered_part w d p line off = kept_items p (part w d line) ∙ mapped_part w d (if_kept p) line (λ i e. ap (λ b. if b then Some i else None) (off i e)) ∙ sym (kept_items p line)

-- The order on each device

abbrev first_told : Reading → ℕ → Item → Option ℕ
first_told n d (Ran r) = if did n r.0 d then Some r.0 else None
first_told n d (Failed e k) = None
first_told n d (Back e k) = None

entries_part : (w : Setting) (n : Reading) (g : Grips) (held : ℕ → ℕ) (d : ℕ) (line : List Item) → entries w.kinds (window_of (point w n g) held).states d (part w d line) ≡ entries w.kinds (window_of (point w n g) held).states d line
unfolding entries
entries_part w n g held d [] = refl
entries_part w n g held d (i ∷ is) = by_item i (entries_part w n g held d is)
  where
    E : List Item → List OrderEntry
    E line = entries w.kinds (window_of (point w n g) held).states d line

    at_ : (i : Item) (x : OrderEntry) (b c : Bool) → b ≡ c → entry_of w.kinds (window_of (point w n g) held).states d i ≡ entry_if b x → E (part w d is) ≡ E is → E (cond b (i ∷ part w d is) (part w d is)) ≡ with_order_entry (entry_of w.kinds (window_of (point w n g) held).states d i) (E is)
    at_ i x b true e same rest = (λ k. E (cond (e k) (i ∷ part w d is) (part w d is))) ∙ ap (with_order_entry (entry_of w.kinds (window_of (point w n g) held).states d i)) rest
    at_ i x b false e same rest = (λ k. E (cond (e k) (i ∷ part w d is) (part w d is))) ∙ rest ∙ sym (ap (λ o. with_order_entry o (E is)) (same ∙ ap (λ c. entry_if c x) e))

    by_item : (i : Item) → E (part w d is) ≡ E is → E (cond (is_item_on w.runs d i) (i ∷ part w d is) (part w d is)) ≡ with_order_entry (entry_of w.kinds (window_of (point w n g) held).states d i) (E is)
    by_item (Ran r) rest = at_ (Ran r) (Used (usage w.kinds (run_state (point w n g) r.0) d)) (touches w.runs r.0 d) (touches w.runs r.0 d) refl refl rest
    by_item (Failed e k) rest = at_ (Failed e k) (Occurred Failure) (e.0 == d) (e.0 == d) refl refl rest
    by_item (Back e k) rest = at_ (Back e k) (Occurred Restart) (e.0 == d) (e.0 == d) refl refl rest

-- an event of no device of the home
abbrev astray : ℕ → Item → Bool
astray size (Ran r) = false
astray size (Failed e k) = not (nat_lt e.0 size)
astray size (Back e k) = not (nat_lt e.0 size)

none_astray : (size : ℕ) (line : List Item) → EventsAreHomed size line → list_any (astray size) line ≡ false
unfolding EventsAreHomed
none_astray size [] homed = refl
none_astray size (Ran r ∷ is) homed = none_astray size is homed
none_astray size (Failed e k ∷ is) homed = let one : not (nat_lt e.0 size) ≡ false = here e.0 homed.0 in λ i. one i || none_astray size is homed.1 i
  where
    here : (d : ℕ) → d < size → not (nat_lt d size) ≡ false
    here d h = grind (arith, common_steps)
none_astray size (Back e k ∷ is) homed = let one : not (nat_lt e.0 size) ≡ false = here e.0 homed.0 in λ i. one i || none_astray size is homed.1 i
  where
    here : (d : ℕ) → d < size → not (nat_lt d size) ≡ false
    here d h = grind (arith, common_steps)

all_homed : (size : ℕ) (line : List Item) → list_any (astray size) line ≡ false → EventsAreHomed size line
unfolding EventsAreHomed
all_homed size [] none = tt
all_homed size (Ran r ∷ is) none = all_homed size is none
all_homed size (Failed e k ∷ is) none = (here e.0 (list_any (astray size) is) none, all_homed size is (last (not (nat_lt e.0 size)) (list_any (astray size) is) none))
  where
    here : (d : ℕ) (b : Bool) → (not (nat_lt d size) || b) ≡ false → d < size
    here d b h = grind (arith, common_steps)

    last : (a b : Bool) → (a || b) ≡ false → b ≡ false
    last a b h = grind (arith, common_steps)
all_homed size (Back e k ∷ is) none = (here e.0 (list_any (astray size) is) none, all_homed size is (last (not (nat_lt e.0 size)) (list_any (astray size) is) none))
  where
    here : (d : ℕ) (b : Bool) → (not (nat_lt d size) || b) ≡ false → d < size
    here d b h = grind (arith, common_steps)

    last : (a b : Bool) → (a || b) ≡ false → b ≡ false
    last a b h = grind (arith, common_steps)

pub order_kept : (w : Setting) (n : Reading) (g : Grips) (held : ℕ → ℕ) (next : List Item) → IsRead w n → HasSameParts w n.line next → OrderIsKept (point w n g) held → OrderIsKept (point w (in_order n next) g) held
order_kept w n g held next read same kept = record {
  grips = fits_same w n (in_order n next) g (λ q d k. refl) (λ q d. refl) kept.grips;
  window = record {
    devices = λ d below. subst DeviceInvariant (λ i. record { order = sym (order d) i; first_up = (stand_at w.first d).up; first = (stand_at w.first d).value; up = n.up d; held = held d; probe = probe_of (g d) }) (kept.window.devices d below);
    runs = kept.window.runs;
    commands = kept.window.commands;
    events = all_homed (length w.first) next (same.some (astray (length w.first)) ∙ none_astray (length w.first) n.line kept.window.events);
  };
  history = λ d. record {
    runs = firsts d ∙ (kept.history d).runs ∙ same_marks _ _ (n.log d) (λ q i. if sym (same.some (is_ran q)) i then Some q else None) (λ e. refl) (λ q. refl);
    events = marks d ∙ (kept.history d).events ∙ same_marks _ _ (n.log d) (λ q i. if sym (same.some (is_ran q)) i && not (is_late n q d) then Some (Ran (run_no q)) else None) (λ e. refl) (λ q. refl);
    spans = λ q facts. (kept.history d).spans q (subst (λ b. IsTrue (b && not (is_doomed n q) && sees_up n q d)) (same.some (is_ran q)) facts);
  };
}
  where
    order : (d : ℕ) → entries w.kinds (window_of (point w n g) held).states d next ≡ entries w.kinds (window_of (point w n g) held).states d n.line
    order d = sym (entries_part w n g held d next) ∙ ap (entries w.kinds (window_of (point w n g) held).states d) (same.parts d) ∙ entries_part w n g held d n.line

    firsts : (d : ℕ) → firsts_of_line (in_order n next) d ≡ firsts_of_line n d
    firsts d = sym (as_told next) ∙ sym (mapped_part w d (first_told n d) next (off d)) ∙ ap (filter_map (first_told n d)) (same.parts d) ∙ mapped_part w d (first_told n d) n.line (off d) ∙ as_told n.line
      where
        as_told : (line : List Item) → filter_map (first_told n d) line ≡ firsts_of_line (in_order n line) d
        as_told line = same_items _ _ line (λ r. refl) (λ e k. refl) (λ e k. refl)

        off : (d : ℕ) (i : Item) → is_item_on w.runs d i ≡ false → first_told n d i ≡ None
        off d (Ran q) e = ap (λ b. if b then Some q.0 else None) (unused w n q.0 d read e)
        off d (Failed e k) h = refl
        off d (Back e k) h = refl

    marks : (d : ℕ) → marks_of_line (in_order n next) d ≡ marks_of_line n d
    marks d = sym (filtered_part w d (is_marked n d) next (off d)) ∙ ap (filter (is_marked n d)) (same.parts d) ∙ filtered_part w d (is_marked n d) n.line (off d)
      where
        off : (d : ℕ) (i : Item) → is_item_on w.runs d i ≡ false → is_marked n d i ≡ false
        off d (Ran q) e = ap (λ b. b && not (is_late n q.0 d)) (unused w n q.0 d read e)
        off d (Failed e k) h = λ i. h i || false
        off d (Back e k) h = λ i. h i || false

-- The table

accesses_part : (w : Setting) (d : ℕ) (p c : ℕ → Bool) (f : ℕ → Access) (line : List Item) → ((r : ℕ) → touches w.runs r d ≡ false → p r ≡ false) → ((r : ℕ) → touches w.runs r d ≡ false → c r ≡ false) → accesses_along p c f (part w d line) ≡ accesses_along p c f line
accesses_part w d p c f [] off none = refl
accesses_part w d p c f (Ran r ∷ is) off none = at_ (touches w.runs r.0 d) refl (accesses_part w d p c f is off none)
  where
    covered : (js : List Item) → list_any (of_run c) (part w d js) ≡ list_any (of_run c) js
    covered [] = refl
    covered (Ran q ∷ js) = by_test (touches w.runs q.0 d) refl (covered js)
      where
        by_test : (b : Bool) → touches w.runs q.0 d ≡ b → list_any (of_run c) (part w d js) ≡ list_any (of_run c) js → list_any (of_run c) (cond (touches w.runs q.0 d) (Ran q ∷ part w d js) (part w d js)) ≡ (c q.0 || list_any (of_run c) js)
        by_test true e rest = (λ k. list_any (of_run c) (cond (e k) (Ran q ∷ part w d js) (part w d js))) ∙ ap (λ b. c q.0 || b) rest
        by_test false e rest = (λ k. list_any (of_run c) (cond (e k) (Ran q ∷ part w d js) (part w d js))) ∙ rest ∙ sym (ap (λ b. b || list_any (of_run c) js) (none q.0 e))
    covered (Failed e k ∷ js) = by_test (e.0 == d) (covered js)
      where
        by_test : (b : Bool) → list_any (of_run c) (part w d js) ≡ list_any (of_run c) js → list_any (of_run c) (cond b (Failed e k ∷ part w d js) (part w d js)) ≡ list_any (of_run c) js
        by_test true rest = rest
        by_test false rest = rest
    covered (Back e k ∷ js) = by_test (e.0 == d) (covered js)
      where
        by_test : (b : Bool) → list_any (of_run c) (part w d js) ≡ list_any (of_run c) js → list_any (of_run c) (cond b (Back e k ∷ part w d js) (part w d js)) ≡ list_any (of_run c) js
        by_test true rest = rest
        by_test false rest = rest

    A : List Item → List Access
    A js = accesses_along p c f js

    at_ : (b : Bool) → touches w.runs r.0 d ≡ b → A (part w d is) ≡ A is → A (cond (touches w.runs r.0 d) (Ran r ∷ part w d is) (part w d is)) ≡ (if p r.0 && not (list_any (of_run c) is) then (f r.0 ∷ A is) else A is)
    at_ true e rest = (λ k. A (cond (e k) (Ran r ∷ part w d is) (part w d is))) ∙ (λ k. if p r.0 && not (covered is k) then (f r.0 ∷ rest k) else rest k)
    at_ false e rest = (λ k. A (cond (e k) (Ran r ∷ part w d is) (part w d is))) ∙ rest ∙ sym (ap (λ b. if b && not (list_any (of_run c) is) then (f r.0 ∷ A is) else A is) (off r.0 e))
accesses_part w d p c f (Failed e k ∷ is) off none = at_ (e.0 == d) (accesses_part w d p c f is off none)
  where
    at_ : (b : Bool) → accesses_along p c f (part w d is) ≡ accesses_along p c f is → accesses_along p c f (cond b (Failed e k ∷ part w d is) (part w d is)) ≡ accesses_along p c f is
    at_ true rest = rest
    at_ false rest = rest
accesses_part w d p c f (Back e k ∷ is) off none = at_ (e.0 == d) (accesses_part w d p c f is off none)
  where
    at_ : (b : Bool) → accesses_along p c f (part w d is) ≡ accesses_along p c f is → accesses_along p c f (cond b (Back e k ∷ part w d is) (part w d is)) ≡ accesses_along p c f is
    at_ true rest = rest
    at_ false rest = rest

lineage_kept : (w : Setting) (n : Reading) (g : Grips) (d : ℕ) (next : List Item) (s : LineageState) → IsRead w n → HasSameParts w n.line next → LineageIsKept (point w n g) d s → LineageIsKept (point w (in_order n next) g) d s
lineage_kept w n g d next s read same kept = record {
  passed = kept.passed;
  may_pass = kept.may_pass;
  committed = kept.committed ∙ ap (λ o. unwrap_or o (stand_at w.first d).value) (sym values);
  accesses = kept.accesses ∙ sym accesses;
  room = kept.room;
  up = kept.up;
}
  where
    off : (r : ℕ) → touches w.runs r d ≡ false → uses w n d r ≡ false
    off r e = by_use (is_live n r) (touches w.runs r d) (not (passed_by w n r d)) e
      where
        by_use : (a b c : Bool) → b ≡ false → (a && b && c) ≡ false
        by_use a b c h = grind (arith, common_steps)

    none : (r : ℕ) → touches w.runs r d ≡ false → commits_write n d r ≡ false
    none r e = ap (λ b. is_committed n r && b) (unwritten w n r d read e) ∙ neither (is_committed n r)
      where
        neither : (a : Bool) → (a && false) ≡ false
        neither true = refl
        neither false = refl

    accesses : accesses_read (point w (in_order n next) g) kept.passed d next ≡ accesses_read (point w n g) kept.passed d n.line
    accesses =
        sym (accesses_part w d (uses w n d) (commits_write n d) (access_read (point w n g) kept.passed d) next off none) ∙ ap (accesses_along (uses w n d) (commits_write n d) (access_read (point w n g) kept.passed d)) (same.parts d)
        ∙ accesses_part w d (uses w n d) (commits_write n d) (access_read (point w n g) kept.passed d) n.line off none

    silent : (i : Item) → is_item_on w.runs d i ≡ false → committed_write n d i ≡ None
    silent (Ran r) e = ap (λ o. if is_committed n r.0 then o else None) (none_of ((n.run r.0).on d).wrote (unwritten w n r.0 d read e)) ∙ either (is_committed n r.0)
      where
        nothing : Option ℕ
        nothing = None

        either : (b : Bool) → (if b then nothing else nothing) ≡ nothing
        either true = refl
        either false = refl
    silent (Failed e k) h = refl
    silent (Back e k) h = refl

    values : last_some (committed_write n d) next ≡ last_some (committed_write n d) n.line
    values = sym (last_filter (committed_write n d) (is_item_on w.runs d) next None silent) ∙ ap (last_some (committed_write n d)) (same.parts d) ∙ last_filter (committed_write n d) (is_item_on w.runs d) n.line None silent

pub table_kept : (w : Setting) (n : Reading) (g : Grips) (next : List Item) (table : List LineageState) → IsRead w n → HasSameParts w n.line next → TableIsKept (point w n g) table → TableIsKept (point w (in_order n next) g) table
table_kept w n g next table read same kept = record { devices = kept.devices; each = λ d below. lineage_kept w n g d next (lineage_at table d) read same (kept.each d below) }
