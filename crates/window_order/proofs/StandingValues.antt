-- Where a device stands: at its standing value, where it is home and up, and where a command's grip of it is out.
use Rattle.window_order.proofs.Prelude.{Back, Bool, Command, Commands, Failed, Failure, Grip, Grips, IsTrue, Item, List, None, Occurred, OfRun, Option, OrderIsKept, Probes, Purpose, Ran, Reading, Restart, Setting, Some, Undoes, Usage, Used, Write, [], ap, arith, asks_next, asks_on, at_device, both_ways, commands_of, common_steps, device_record, effect, effective, effective_write, entries, entry_if, false, fold, grips_command, has_written, held_by, holds_grip, if◌then◌else◌, is_command, is_device, is_free, is_in_effect, is_live, is_none, is_on, is_ran, is_some, is_undone, is_weak, last_in_effect, last_some, list_any, next_of, not, option_map, option_or, or_right, point, probe_of, refl, run_state, slice_get, stand_at, stand_line, standing_value, standing_value_on, stands_in, subst, suc, sym, touches, true, unwrap_or, usage, walk_start, window_of, with_order_entry, write_of, written_or_first, zero, ℕ, ◌&&◌, ◌==◌, ◌||◌, ◌∙◌, ◌∷◌, ◌≡◌}
use Rattle.device_order.proofs.Cited.{stands}
use Rattle.device_order.specs.Claims.{StandsAt, value_in_effect}
use Rattle.window_order.proofs.PromisedWords.{device_below, effect_held, none_has, written_touches}
use Rattle.window_order.proofs.ReadFacts.{IsRead}

-- the value of a write, if there is one, else the first one
abbrev pub value_of : Option Write → ℕ → ℕ
value_of b first = unwrap_or (option_map (λ e. e.value) b) first

-- one run further along the line
use_value : (u : Usage) (o : Option Usage) (b : Option Write) (r first : ℕ) (v : Option ℕ) (x : Bool) → u.wrote ≡ v → is_in_effect u ≡ (is_some v && not x) → written_or_first o first ≡ value_of b first
    → written_or_first (if is_in_effect u then Some u else o) first ≡ value_of (option_or (if x then None else option_map (λ k. record { run = r; value = k }) v) b) first
use_value u o b r first None true e f h = ap (λ y. written_or_first (if y then Some u else o) first) f ∙ h
use_value u o b r first None false e f h = ap (λ y. written_or_first (if y then Some u else o) first) f ∙ h
use_value u o b r first (Some k) true e f h = ap (λ y. written_or_first (if y then Some u else o) first) f ∙ h
use_value u o b r first (Some k) false e f h = ap (λ y. written_or_first (if y then Some u else o) first) f ∙ ap (λ y. unwrap_or y first) e

-- the effective write along a line has the value that is in effect along the entries that the line makes
value_along : (w : Setting) (n : Reading) (g : Grips) (d first : ℕ) (o : Option Usage) (b : Option Write) (line : List Item) → IsRead w n → written_or_first o first ≡ value_of b first
    → written_or_first (effective o (entries w.kinds (λ r. run_state (point w n g) r) d line)) first ≡ value_of (fold (λ best x. option_or (write_of n g d x) best) b line) first
unfolding entries effective
value_along w n g d first o b [] s h = h
value_along w n g d first o b (Ran r ∷ is) s h = at_ (λ o c k. value_along w n g d first o c is s k) (touches w.runs r.0 d) refl
  where
    u : Usage
    u = usage w.kinds (run_state (point w n g) r.0) d

    later : Option Write
    later = option_or (write_of n g d (Ran r)) b

    no_write : (v : Option ℕ) (x : Bool) → is_some v ≡ false → option_or (if x then None else option_map (λ k. record { run = r.0; value = k }) v) b ≡ b
    no_write None true e = refl
    no_write None false e = refl
    no_write (Some k) x e = absurd (cc)

    unused : (y : Bool) → has_written n r.0 d ≡ y → touches w.runs r.0 d ≡ false → y ≡ false
    unused true e f = absurd (both_ways (touches w.runs r.0 d) f (written_touches w n r.0 d s e))
    unused false e f = refl

    at_ : ((p : Option Usage) (c : Option Write) → written_or_first p first ≡ value_of c first → written_or_first
        (effective p (entries w.kinds (λ q. run_state (point w n g) q) d is)) first ≡ value_of (fold (λ best i. option_or (write_of n g d i) best) c is) first)
        → (x : Bool) → touches w.runs r.0 d ≡ x
        → written_or_first (effective o (with_order_entry (entry_if x (Used u)) (entries w.kinds (λ q. run_state (point w n g) q) d is))) first
        ≡ value_of (fold (λ best i. option_or (write_of n g d i) best) later is) first
    at_ ih true e = ih (if is_in_effect u then Some u else o) later (use_value u o b r.0 first ((n.run r.0).on d).wrote (is_undone n g r.0 d) ((s.summarized r.0).wrote d) (effect_held w n g r.0 d s) h)
    at_ ih false e = ih o later (h ∙ ap (λ z. value_of z first) (sym (no_write ((n.run r.0).on d).wrote (is_undone n g r.0 d) (unused (has_written n r.0 d) refl e))))
value_along w n g d first o b (Failed e k ∷ is) s h = at_ (λ o c k. value_along w n g d first o c is s k) (e.0 == d)
  where
    at_ : ((p : Option Usage) (c : Option Write) → written_or_first p first ≡ value_of c first → written_or_first
        (effective p (entries w.kinds (λ q. run_state (point w n g) q) d is)) first ≡ value_of (fold (λ best i. option_or (write_of n g d i) best) c is) first)
        → (x : Bool) → written_or_first (effective o (with_order_entry (entry_if x (Occurred Failure)) (entries w.kinds (λ q. run_state (point w n g) q) d is))) first
        ≡ value_of (fold (λ best i. option_or (write_of n g d i) best) b is) first
    at_ ih true = ih o b h
    at_ ih false = ih o b h
value_along w n g d first o b (Back e k ∷ is) s h = at_ (λ o c k. value_along w n g d first o c is s k) (e.0 == d)
  where
    at_ : ((p : Option Usage) (c : Option Write) → written_or_first p first ≡ value_of c first → written_or_first
        (effective p (entries w.kinds (λ q. run_state (point w n g) q) d is)) first ≡ value_of (fold (λ best i. option_or (write_of n g d i) best) c is) first)
        → (x : Bool) → written_or_first (effective o (with_order_entry (entry_if x (Occurred Restart)) (entries w.kinds (λ q. run_state (point w n g) q) d is))) first
        ≡ value_of (fold (λ best i. option_or (write_of n g d i) best) b is) first
    at_ ih true = ih o b h
    at_ ih false = ih o b h

-- the standing value of a device is that of its order
pub standing_same : (w : Setting) (n : Reading) (g : Grips) (held : ℕ → ℕ) (d : ℕ) → IsRead w n → is_weak w.mode ≡ false → value_in_effect (device_record w.kinds (window_of (point w n g) held) d) ≡ standing_value (point w n g) d
standing_same w n g held d s weak =
    value_along w n g d (stand_at w.first d).value None None n.line s refl
    ∙ sym (ap (λ b. if b then n.last d else value_of (effective_write n g d) (stand_at w.first d).value) weak)

-- a device that is home and up stands at its standing value
pub stands_home : (w : Setting) (n : Reading) (g : Grips) (held : ℕ → ℕ) (d : ℕ) → IsRead w n → OrderIsKept (point w n g) held → is_weak w.mode ≡ false → is_device w d ≡ true → g d ≡ None → n.up d ≡ true → held d ≡ standing_value (point w n g) d
stands_home w n g held d s o weak device home up =
    let at_value : StandsAt (device_record w.kinds (window_of (point w n g) held) d) (value_in_effect (device_record w.kinds (window_of (point w n g) held) d)) = stands (device_record w.kinds (window_of (point w n g) held) d) (o.window.devices d (device_below w d device)) in
    at_value.home (record { free = none_has w.kinds (λ r. run_state (point w n g) r) d holds_grip n.line (λ r. ap (λ x. not (is_free (held_by w r x))) home); unprobed = ap (λ x. probe_of x) home }) up ∙ standing_same w n g held d s weak

-- a run that is live stands in the line
pub live_stands : (w : Setting) (n : Reading) (r : ℕ) → IsRead w n → is_live n r ≡ true → list_any (is_ran r) n.line ≡ true
live_stands w n r s live = s.standing.line r ∙ stands_so (n.run r) live
  where
    stands_so : (o : OfRun) → (is_some o.placed && is_none o.ended) ≡ true → stands_in o ≡ true
    stands_so o h = grind (arith, common_steps)

pub record ActsOn (w : Setting) (n : Reading) (r d : ℕ) : Type 0 where
  pub live : is_live n r ≡ true
  pub uses : touches w.runs r d ≡ true

-- a run that has out the grip of a command is live and uses the device
pub acts_on : (w : Setting) (n : Reading) (g : Grips) (held : ℕ → ℕ) (r d : ℕ) → OrderIsKept (point w n g) held → grips_command g r d ≡ true → ActsOn w n r d
acts_on w n g held r d o h = by (g d) refl h
  where
    used : (cs : List Command) (k : ℕ) → unwrap_or (option_map (is_on d) (slice_get cs k)) false ≡ true → list_any (is_on d) cs ≡ true
    used [] k e = absurd (cc)
    used (c ∷ cs) zero e = ap (λ b. b || list_any (is_on d) cs) e
    used (c ∷ cs) (suc k) e = ap (λ b. is_on d c || b) (used cs k e) ∙ or_right (is_on d c) true refl

    may : (k : ℕ) → IsTrue (is_live n r && asks_on w n r d && (k == next_of n r)) → ActsOn w n r d
    may k e = record { live = grind (arith, common_steps); uses = used (commands_of w.runs r) (next_of n r) (asks_next w n r d (grind (arith, common_steps))) }

    of : (m : ℕ) (p : Purpose) → g d ≡ Some (record { maker = m; purpose = p }) → ((m == r) && is_command p) ≡ true → ActsOn w n r d
    of m (Commands k) e x = may k (o.grips.runs.commands d r k (subst (λ y. g d ≡ Some (record { maker = y; purpose = Commands k })) (same (m == r) refl x) e))
      where
        same : (b : Bool) → (m == r) ≡ b → (b && true) ≡ true → m ≡ r
        same b f y = grind (arith, common_steps)
    of m (Undoes v) e x = absurd (never (m == r) x)
      where
        never : (b : Bool) → (b && false) ≡ true → ⊥
        never b y = grind (arith, common_steps)
    of m (Probes v) e x = absurd (never (m == r) x)
      where
        never : (b : Bool) → (b && false) ≡ true → ⊥
        never b y = grind (arith, common_steps)

    by : (x : Option Grip) → g d ≡ x → unwrap_or (option_map (λ p. (p.maker == r) && is_command p.purpose) x) false ≡ true → ActsOn w n r d
    by None e x = absurd (cc)
    by (Some p) e x = of p.maker p.purpose e x

-- the value at which a line has a device is that of the line's last write in effect, ..
pub standing_on_line : (w : Setting) (n : Reading) (g : Grips) (d first : ℕ) (line : List Item) → IsRead w n → standing_value_on w.kinds (λ r. run_state (point w n g) r) d first line ≡ value_of (last_some (write_of n g d) line) first
standing_on_line w n g d first line s =
    sym (stand_line w.kinds (λ r. run_state (point w n g) r) d first true line)
    ∙ (effect (walk_start true first) first None (entries w.kinds (λ r. run_state (point w n g) r) d line) (record { stand = refl; settled = refl })).stand
    ∙ value_along w n g d first None None line s refl

writer_along : (w : Setting) (n : Reading) (g : Grips) (d : ℕ) (o : Option ℕ) (b : Option Write) (line : List Item) → IsRead w n → o ≡ option_map (λ e. e.run) b
    → last_in_effect w.kinds (λ r. run_state (point w n g) r) d o line ≡ option_map (λ e. e.run) (fold (λ best x. option_or (write_of n g d x) best) b line)
unfolding last_in_effect
writer_along w n g d o b [] s h = h
writer_along w n g d o b (Ran r ∷ is) s h = writer_along w n g d (if at_device w.kinds (λ q. run_state (point w n g) q) d is_in_effect r.0 then Some r.0 else o) (option_or (write_of n g d (Ran r)) b) is s
    (ap (λ x. if (touches w.runs r.0 d && x) then Some r.0 else o) (effect_held w n g r.0 d s) ∙ by ((n.run r.0).on d).wrote (is_undone n g r.0 d) (touches w.runs r.0 d) (λ e. written_touches w n r.0 d s e))
  where
    by : (v : Option ℕ) (x y : Bool) → (is_some v ≡ true → y ≡ true) → (if (y && (is_some v && not x)) then Some r.0 else o) ≡ option_map (λ e. e.run) (option_or (if x then None else option_map (λ k. record { run = r.0; value = k }) v) b)
    by None true true k = h
    by None true false k = h
    by None false true k = h
    by None false false k = h
    by (Some v) true true k = h
    by (Some v) true false k = h
    by (Some v) false true k = refl
    by (Some v) false false k = absurd (no (k refl))
      where
        no : false ≡ true → ⊥
        no e = grind (arith, common_steps)
writer_along w n g d o b (Failed e k ∷ is) s h = writer_along w n g d o b is s h
writer_along w n g d o b (Back e k ∷ is) s h = writer_along w n g d o b is s h

-- .. and its effective writer has made that write
pub writer_on_line : (w : Setting) (n : Reading) (g : Grips) (d : ℕ) (line : List Item) → IsRead w n → last_in_effect w.kinds (λ r. run_state (point w n g) r) d None line ≡ option_map (λ e. e.run) (last_some (write_of n g d) line)
writer_on_line w n g d line s = writer_along w n g d None None line s refl
