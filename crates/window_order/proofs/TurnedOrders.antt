-- A device fails or comes back, and no run that counts is left that sees it up and has more to do there: first accesses and events stay in history order.
use Rattle.window_order.proofs.Prelude.{Back, Bool, CutAt, Event, EventCut, Failed, Grips, InHistoryOrder, Item, List, None, Option, OrderIsKept, Probes, Ran, Reading, Setting, Some, Undoes, [], any_run, ap, arith, at_device, commands_of, common_steps, cond, device_no, device_record, drop, drop_all, entries, eq-eqb, eqb-true, event_cut, false, find, has, has_entries, held_by, holds_command, if◌then◌else◌, is_committed, is_device, is_doomed, is_event_on, is_in_line, is_late, is_live, is_on, is_open, is_ran, is_some, is_weak, length, list_any, list_any-append, live_runs, lost_by, not, of_run, one_spans, or_parts, pends, point, probe_of, refl, restart_loses_none, run_no, run_state, sees_up, some_is, spans_up, sym, touches, true, two_places, undo_loses_none, unwrap_or, usage, view_of, window_of, with_event, ℕ, ◌&&◌, ◌++◌, ◌==◌, ◌||◌, ◌∙◌, ◌∷◌, ◌≡◌, ◌≢◌}
use Rattle.window_order.proofs.EventHistory.{EventComes, event_history, passing_history}
use Rattle.window_order.proofs.EventPlaces.{event_calm, event_place, line_stands, spans_same}
use Rattle.window_order.proofs.Firsts.{below_home, device_order_at}
use Rattle.window_order.proofs.Goes.{found_live, stands_committed}
use Rattle.window_order.proofs.Grips.{held_own}
use Rattle.window_order.proofs.ReadFacts.{IsRead}

-- the device's event comes, and no other run than one that is doomed by it sees the device up with more to do there
pub record Turns (w : Setting) (n m : Reading) (d : ℕ) (x : Item) : Type 0 where
  pub event : (p : ℕ → Bool) → of_run p x ≡ false
  pub of_device : (e : ℕ) → is_event_on e x ≡ (d == e)
  pub line : m.line ≡ with_event w n (device_no d) x
  pub here : m.log d ≡ n.log d ++ Event x ∷ []
  pub there : (e : ℕ) → e ≢ d → m.log e ≡ n.log e
  pub view : (q e : ℕ) → view_of m q e ≡ view_of n q e
  pub late : (q e : ℕ) → is_late m q e ≡ is_late n q e
  pub doomed : (q : ℕ) → is_doomed m q ≡ false → is_doomed n q ≡ false
  pub none_spans : (q : ℕ) → is_in_line n q ≡ true → is_doomed m q ≡ false → (is_open w n q d && sees_up n q d) ≡ false

-- a run of the line that sees the device up, and of which no command there is open, has none left there
none_left : (w : Setting) (n : Reading) (q d : ℕ) → IsRead w n → is_in_line n q ≡ true → is_doomed n q ≡ false → sees_up n q d ≡ true → (is_open w n q d && sees_up n q d) ≡ false → pends w n q d ≡ false
none_left w n q d read stands sound up closed = by_live (is_live n q) refl
  where
    off : (l x p u : Bool) → l ≡ true → x ≡ false → u ≡ true → ((l && not x && p) && u) ≡ false → p ≡ false
    off l x p u h k e f = grind (arith, common_steps)

    by_live : (b : Bool) → is_live n q ≡ b → pends w n q d ≡ false
    by_live true live = off (is_live n q) (is_doomed n q) (pends w n q d) (sees_up n q d) live sound up closed
    by_live false dead =
        let committed : is_committed n q ≡ true = stands_committed n q (line_stands w n read q stands) dead in
        ap (λ k. list_any (is_on d) (drop k (commands_of w.runs q))) ((read.shaped q).whole committed) ∙ ap (list_any (is_on d)) (drop_all (length (commands_of w.runs q)) (commands_of w.runs q) (omega arith))

pub turned_history : (w : Setting) (n m : Reading) (g : Grips) (held : ℕ → ℕ) (d : ℕ) (x : Item) → IsRead w n → is_weak w.mode ≡ false → is_device w d ≡ true → OrderIsKept (point w n g) held → Turns w n m d x → (e : ℕ) → InHistoryOrder m e
turned_history w n m g held d x read strong device kept turn e = two_places (λ y. InHistoryOrder n y → InHistoryOrder m y) e d at_it elsewhere (kept.history e)
  where
    c : EventCut w.kinds (window_of (point w n g) held).states d x n.line
    c = event_cut w.kinds (window_of (point w n g) held).states d x n.line

    comes : (y : ℕ) → EventComes n m y x c.front c.back
    comes y = record {
      event = turn.event;
      was = c.whole;
      line = turn.line ∙ event_place w n g held d x read strong ∙ c.with_it;
      view = λ q. turn.view q y;
      late = λ q. turn.late q y;
      doomed = turn.doomed;
    }

    unlike : (y z : ℕ) → y ≢ z → (z == y) ≡ false
    unlike y z h = grind (arith, common_steps)

    seen : (v : Option Bool) → unwrap_or v false ≡ true → is_some v ≡ true
    seen None h = absurd (cc)
    seen (Some b) h = refl

    at_it : InHistoryOrder n d → InHistoryOrder m d
    at_it h = event_history n m d x c.front c.back (comes d) (turn.of_device d ∙ eq-eqb d d refl) turn.here (event_calm w n g held d x c read kept device)
        (λ q stands sound up. read.closed q d (seen (view_of n q d) up) (none_left w n q d read stands (turn.doomed q sound) up (turn.none_spans q stands sound)) (Event x ∷ [])) h

    elsewhere : e ≢ d → InHistoryOrder n e → InHistoryOrder m e
    elsewhere ne h = passing_history n m e x c.front c.back (comes e) (turn.of_device e ∙ unlike e d ne) (turn.there e ne) h

-- Who sees the device up

-- of which no run of a part of the line is
any_none : (p : ℕ → Bool) (q : ℕ) (is : List Item) → any_run p is ≡ false → list_any (is_ran q) is ≡ true → p q ≡ false
unfolding any_run
any_none p q [] none stands = absurd (cc)
any_none p q (Ran r ∷ is) none stands = at_ (any_none p q is) (r.0 == q) refl
  where
    tail : (a b : Bool) → a ≡ false → (a || b) ≡ true → b ≡ true
    tail a b h k = grind (arith, common_steps)

    at_ : (any_run p is ≡ false → list_any (is_ran q) is ≡ true → p q ≡ false) → (b : Bool) → (r.0 == q) ≡ b → p q ≡ false
    at_ ih true e = sym (ap p (eqb-true r.0 q e)) ∙ (or_parts (p r.0) (any_run p is) none).0
    at_ ih false e = ih (or_parts (p r.0) (any_run p is) none).1 (tail (r.0 == q) (list_any (is_ran q) is) e stands)
any_none p q (Failed e k ∷ is) none stands = any_none p q is none stands
any_none p q (Back e k ∷ is) none stands = any_none p q is none stands

-- where none of the order does, no run of the line does
order_spans_none : (w : Setting) (n : Reading) (g : Grips) (held : ℕ → ℕ) (d : ℕ) → IsRead w n → any_run (at_device w.kinds (window_of (point w n g) held).states d spans_up) n.line ≡ false → (q : ℕ) → is_in_line n q ≡ true → (is_open w n q d && sees_up n q d) ≡ false
order_spans_none w n g held d read none q stands = sym (spans_same w n g held d q read (line_stands w n read q stands)) ∙ any_none (at_device w.kinds (window_of (point w n g) held).states d spans_up) q n.line none stands

-- while a command of a run is out on the device, no other run does
pub out_spans_none : (w : Setting) (n : Reading) (g : Grips) (held : ℕ → ℕ) (d r : ℕ) (cut : CutAt r n.line) → IsRead w n → OrderIsKept (point w n g) held
    → is_device w d ≡ true → touches w.runs r d ≡ true → (spans_up (usage w.kinds (run_state (point w n g) r) d) || holds_command (held_by w r (g d))) ≡ true
    → (q : ℕ) → is_in_line n q ≡ true → q ≢ r → (is_open w n q d && sees_up n q d) ≡ false
out_spans_none w n g held d r cut read kept device used out q stands ne =
    sym (spans_same w n g held d q read (line_stands w n read q stands))
    ∙ in_part (list_any (is_ran q) cut.front) refl (either (list_any (is_ran q) cut.front) (list_any (is_ran q) (Ran (run_no r) ∷ cut.back)) (sym (list_any-append (is_ran q) cut.front (Ran (run_no r) ∷ cut.back)) ∙ sym (ap (list_any (is_ran q)) cut.at) ∙ stands))
  where
    none : (has spans_up (entries w.kinds (window_of (point w n g) held).states d cut.front) ≡ false) × (has spans_up (entries w.kinds (window_of (point w n g) held).states d cut.back) ≡ false)
    none =
        one_spans (device_record w.kinds (window_of (point w n g) held) d) (entries w.kinds (window_of (point w n g) held).states d cut.front)
        (entries w.kinds (window_of (point w n g) held).states d cut.back) (usage w.kinds (run_state (point w n g) r) d) (kept.window.devices d (below_home w d device))
        (device_order_at w n g held d r cut used) out

    either : (a b : Bool) → (a || b) ≡ true → a ≡ false → b ≡ true
    either a b h k = grind (arith, common_steps)

    tail : (x y : ℕ) (b : Bool) → y ≢ x → ((x == y) || b) ≡ true → b ≡ true
    tail x y b h k = grind (arith, common_steps)

    in_part : (b : Bool) → list_any (is_ran q) cut.front ≡ b → (list_any (is_ran q) cut.front ≡ false → list_any (is_ran q) (Ran (run_no r) ∷ cut.back) ≡ true) → at_device w.kinds (window_of (point w n g) held).states d spans_up q ≡ false
    in_part true there later = any_none (at_device w.kinds (window_of (point w n g) held).states d spans_up) q cut.front (sym (has_entries w.kinds (window_of (point w n g) held).states d spans_up cut.front) ∙ none.0) there
    in_part false there later = any_none (at_device w.kinds (window_of (point w n g) held).states d spans_up) q cut.back (sym (has_entries w.kinds (window_of (point w n g) held).states d spans_up cut.back) ∙ none.1) (tail r q (list_any (is_ran q) cut.back) ne (later there))

-- no run sees up a device that a probe restores, ..
pub restored_spans_none : (w : Setting) (n : Reading) (g : Grips) (held : ℕ → ℕ) (d m v : ℕ) → IsRead w n → OrderIsKept (point w n g) held → is_device w d
    ≡ true → g d ≡ Some (record { maker = m; purpose = Probes (Some v) }) → (q : ℕ) → is_in_line n q ≡ true → (is_open w n q d && sees_up n q d) ≡ false
restored_spans_none w n g held d m v read kept device out =
    order_spans_none w n g held d read (sym (has_entries w.kinds (window_of (point w n g) held).states d spans_up n.line)
    ∙ restart_loses_none (device_record w.kinds (window_of (point w n g) held) d) v (kept.window.devices d (below_home w d device)) (ap probe_of out))

-- .. or an undo drives
pub undone_spans_none : (w : Setting) (n : Reading) (g : Grips) (held : ℕ → ℕ) (d r v : ℕ) (cut : CutAt r n.line) → IsRead w n → OrderIsKept (point w n g) held
    → is_device w d ≡ true → touches w.runs r d ≡ true → g d ≡ Some (record { maker = r; purpose = Undoes v }) → (q : ℕ) → is_in_line n q ≡ true
    → (is_open w n q d && sees_up n q d) ≡ false
undone_spans_none w n g held d r v cut read kept device used out = order_spans_none w n g held d read
    (sym (has_entries w.kinds (window_of (point w n g) held).states d spans_up n.line)
    ∙ undo_loses_none (device_record w.kinds (window_of (point w n g) held) d) (entries w.kinds (window_of (point w n g) held).states d cut.front)
    (entries w.kinds (window_of (point w n g) held).states d cut.back) (usage w.kinds (run_state (point w n g) r) d) v (kept.window.devices d (below_home w d device))
    (device_order_at w n g held d r cut used) (ap (held_by w r) out ∙ held_own w r (Undoes v)))

-- The run that is lost

-- where the rule names none, no run of the line sees the device up with more to do there
pub none_lost : (w : Setting) (n : Reading) (d : ℕ) → is_weak w.mode ≡ false → lost_by w n d ≡ None → (q : ℕ) → is_in_line n q ≡ true → (is_open w n q d && sees_up n q d) ≡ false
none_lost w n d strong none q stands = by_live (is_live n q) refl
  where
    found : find (λ x. is_open w n x d && sees_up n x d) (live_runs n n.line) ≡ None
    found = sym (ap (λ b. if b then None else find (λ x. is_open w n x d && sees_up n x d) (live_runs n n.line)) strong) ∙ none

    dead : (l x p u : Bool) → l ≡ false → ((l && not x && p) && u) ≡ false
    dead l x p u h = grind (arith, common_steps)

    by_live : (b : Bool) → is_live n q ≡ b → (is_open w n q d && sees_up n q d) ≡ false
    by_live true live = found_live n (λ x. is_open w n x d && sees_up n x d) n.line found q stands live
    by_live false ended = dead (is_live n q) (is_doomed n q) (pends w n q d) (sees_up n q d) ended

-- the one that it names does
pub one_lost : (w : Setting) (n : Reading) (d r : ℕ) → is_weak w.mode ≡ false → lost_by w n d ≡ Some r → (is_open w n r d && sees_up n r d) ≡ true
one_lost w n d r strong some = found_so (live_runs n n.line) (sym (ap (λ b. if b then None else find (λ x. is_open w n x d && sees_up n x d) (live_runs n n.line)) strong) ∙ some)
  where
    found_so : (xs : List ℕ) → find (λ x. is_open w n x d && sees_up n x d) xs ≡ Some r → (is_open w n r d && sees_up n r d) ≡ true
    found_so [] h = absurd (cc)
    found_so (x ∷ xs) h = at_ (found_so xs) (is_open w n x d && sees_up n x d) refl h
      where
        at_ : (find (λ y. is_open w n y d && sees_up n y d) xs ≡ Some r → (is_open w n r d && sees_up n r d) ≡ true) → (b : Bool) → (is_open w n x d && sees_up n x d) ≡ b → cond b (Some x) (find (λ y. is_open w n y d && sees_up n y d) xs) ≡ Some r → (is_open w n r d && sees_up n r d) ≡ true
        at_ ih true e k = ap (λ y. is_open w n y d && sees_up n y d) (sym (some_is x r k)) ∙ e
        at_ ih false e k = ih k
