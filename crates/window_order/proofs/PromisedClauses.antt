-- The promises on live writes and open runs, along the line.
use Rattle.window_order.proofs.Prelude.{Answer, AreHomed, Back, Bool, Command, Failed, Grips, HasLiveWriteAt, IsCovered, IsPendingAt, Item, List, None, Option, OrderIsKept, Ran, Reading, Setting, Some, [], ap, append_assoc, ap₂, arith, both_ways, commands_of, common_steps, covers, did, did_touches, drop, false, grips_command, grips_undo, has_live_write, has_read_first, has_touched, has_used_device, has_written, is_committed, is_covered, is_doomed, is_live, is_on, is_some, is_touched, is_undone, length, list_any, list_any-append, live_writes_are_covered, next_of, not, not-true, open_runs_are_last, opens, option_map, or_right, pends, point, read_covered, refl, remaining, run_no, run_state, suc, sym, touches, true, untouched_after, usage, uses_device, window_of, zero, ℕ, ◌&&◌, ◌++◌, ◌<◌, ◌||◌, ◌∙◌, ◌∷◌, ◌≡◌}
use Rattle.window_order.proofs.PromisedWords.{command_held, written_touches}
use Rattle.window_order.proofs.ReadFacts.{IsRead, view_from}
use Rattle.window_order.proofs.StandingValues.{acts_on}

record Parts (x y z : Bool) : Type 0 where
  first : x ≡ true
  second : y ≡ true
  third : z ≡ true

parts : (x y z : Bool) → (x && y && z) ≡ true → Parts x y z
parts x y z h = record { first = grind (arith, common_steps); second = grind (arith, common_steps); third = grind (arith, common_steps) }

-- Devices of the home

-- a command of a routine on the home's devices is on one of them
homed_use : (k d : ℕ) (cs : List Command) → AreHomed k cs → uses_device d cs ≡ true → d < k
unfolding AreHomed
homed_use k d [] a h = absurd (cc)
homed_use k d (c ∷ cs) a h = at_ (λ e. homed_use k d cs a.1 e) (is_on d c) refl h
  where
    same : is_on d c ≡ true → c.device.0 < k → d < k
    same e lt = grind (arith, common_steps)

    at_ : (list_any (is_on d) cs ≡ true → d < k) → (b : Bool) → is_on d c ≡ b → (b || list_any (is_on d) cs) ≡ true → d < k
    at_ ih true e h = same e a.0
    at_ ih false e h = ih h

pub touched_device : (w : Setting) (n : Reading) (g : Grips) (held : ℕ → ℕ) (r d : ℕ) → OrderIsKept (point w n g) held → touches w.runs r d ≡ true → d < length w.first
touched_device w n g held r d o h = homed_use (length w.first) d (commands_of w.runs r) (o.window.runs r).homed h

-- the commands without an answer are those from the next one on
pub remaining_from : (cs : List Command) (xs : List Answer) → remaining cs xs ≡ drop (length xs) cs
unfolding remaining
remaining_from [] [] = refl
remaining_from [] (a ∷ xs) = refl
remaining_from (c ∷ cs) [] = refl
remaining_from (c ∷ cs) (a ∷ xs) = remaining_from cs xs

pub pending_rest : (w : Setting) (n : Reading) (g : Grips) (r d : ℕ) → uses_device d (remaining (commands_of w.runs r) (n.run r).answers) ≡ pends w n r d
pending_rest w n g r d = ap (uses_device d) (remaining_from (commands_of w.runs r) (n.run r).answers)

-- a run with a command pending on a device uses it
any_dropped : (d k : ℕ) (cs : List Command) → list_any (is_on d) (drop k cs) ≡ true → list_any (is_on d) cs ≡ true
any_dropped d zero cs h = h
any_dropped d (suc k) [] h = h
any_dropped d (suc k) (c ∷ cs) h = ap (λ b. is_on d c || b) (any_dropped d k cs h) ∙ or_right (is_on d c) true refl

-- Touches

-- a run touched a device where its use there says so
pub touched_held : (w : Setting) (n : Reading) (g : Grips) (r d : ℕ) → IsRead w n → has_used_device (usage w.kinds (run_state (point w n g) r) d) ≡ has_touched n g r d
touched_held w n g r d s = ap₂ (λ x y. x || y) (ap is_some ((s.summarized r).view d) ∙ seen ((n.run r).on d).view) (command_held w g r d)
  where
    seen : (v : Option Bool) → is_some (option_map view_from v) ≡ is_some v
    seen None = refl
    seen (Some b) = refl

-- .. and it uses what it touched
pub touched_touches : (w : Setting) (n : Reading) (g : Grips) (held : ℕ → ℕ) (r d : ℕ) → IsRead w n → OrderIsKept (point w n g) held → has_touched n g r d ≡ true → touches w.runs r d ≡ true
touched_touches w n g held r d s o h = by (did n r d) refl h
  where
    by : (b : Bool) → did n r d ≡ b → (b || grips_command g r d) ≡ true → touches w.runs r d ≡ true
    by true e h = did_touches w n r d s.shaped e
    by false e h = (acts_on w n g held r d o h).uses

-- Live writes

-- a part of a line is covered where before each first read in it a committed run wrote
covered_part : (n : Reading) (d : ℕ) (part : List Item) → ((m rest : List Item) (j : Item) → part ≡ m ++ j ∷ rest → has_read_first n d j ≡ true → list_any (covers n d) m ≡ true) → is_covered n d part ≡ true
covered_part n d [] h = refl
covered_part n d (i ∷ is) h = at_ (λ e. covered_part n d is e) (has_read_first n d i) (covers n d i) refl refl
  where
    first : has_read_first n d i ≡ true → false ≡ true
    first e = h [] is i refl e

    later : covers n d i ≡ false → (m rest : List Item) (j : Item) → is ≡ m ++ j ∷ rest → has_read_first n d j ≡ true → list_any (covers n d) m ≡ true
    later f m rest j e x = sym (ap (λ b. b || list_any (covers n d) m) f) ∙ h (i ∷ m) rest j (ap (λ l. i ∷ l) e) x

    at_ : (((m rest : List Item) (j : Item) → is ≡ m ++ j ∷ rest → has_read_first n d j ≡ true → list_any (covers n d) m ≡ true) → is_covered n d is ≡ true) → (x y : Bool) → has_read_first n d i ≡ x → covers n d i ≡ y → (not x && (y || is_covered n d is)) ≡ true
    at_ ih true y e f = absurd (both_ways false refl (first e))
    at_ ih false true e f = refl
    at_ ih false false e f = ih (later f)

-- a part that holds a committed write is covered by it
cover_found : (w : Setting) (n : Reading) (g : Grips) (d : ℕ) (part : List Item) → IsRead w n → IsCovered w.kinds (λ r. run_state (point w n g) r) d part → list_any (covers n d) part ≡ true
cover_found w n g d part s c =
    ap (list_any (covers n d)) c.at ∙ list_any-append (covers n d) c.front (Ran (run_no c.run) ∷ c.back)
    ∙ ap (λ b. list_any (covers n d) c.front || (b || list_any (covers n d) c.back)) (ap₂ (λ x y. x && y) c.committed (ap is_some (sym ((s.summarized c.run).wrote d)) ∙ c.wrote))
    ∙ or_right (list_any (covers n d) c.front) true refl

live_not_committed : (n : Reading) (r : ℕ) → is_live n r ≡ true → is_committed n r ≡ false
live_not_committed n r h = grind (arith, common_steps)

-- a live write is covered behind it
write_covered : (w : Setting) (n : Reading) (g : Grips) (held : ℕ → ℕ) (d : ℕ) (front is : List Item) (i : Item) → IsRead w n → OrderIsKept (point w n g) held → n.line ≡ front ++ i ∷ is → has_live_write n g d i ≡ true → is_covered n d is ≡ true
write_covered w n g held d front is (Ran r) s o at h = covered_part n d is each
  where
    whole : Parts (is_live n r.0) (has_written n r.0 d) (not (is_undone n g r.0 d))
    whole = parts (is_live n r.0) (has_written n r.0 d) (not (is_undone n g r.0 d)) h

    kept : ((n.run r.0).on d).undid ≡ false
    kept = by ((n.run r.0).on d).undid (grips_undo g r.0 d) whole.third
      where
        by : (x y : Bool) → not (x || y) ≡ true → x ≡ false
        by x y e = grind (arith, common_steps)

    writes : HasLiveWriteAt w.kinds (window_of (point w n g) held) d r.0
    writes = record { live = live_not_committed n r.0 whole.first; wrote = ap is_some ((s.summarized r.0).wrote d) ∙ whole.second; kept = kept }

    each : (m rest : List Item) (j : Item) → is ≡ m ++ j ∷ rest → has_read_first n d j ≡ true → list_any (covers n d) m ≡ true
    each m rest (Ran q) e x =
        cover_found w n g d m s
        (read_covered w.kinds (window_of (point w n g) held) d r.0 q.0 (record { front = front; between = m; back = rest; at = at ∙ ap (λ l. front ++ Ran r ∷ l) e })
        o.window (touched_device w n g held r.0 d o (written_touches w n r.0 d s whole.second)) writes (ap is_some ((s.summarized q.0).read d) ∙ x))
    each m rest (Failed e k) a x = absurd (cc)
    each m rest (Back e k) a x = absurd (cc)
write_covered w n g held d front is (Failed e k) s o at h = absurd (cc)
write_covered w n g held d front is (Back e k) s o at h = absurd (cc)

-- .. and so is each live write of the line
covered_along : (w : Setting) (n : Reading) (g : Grips) (held : ℕ → ℕ) (d : ℕ) (front part : List Item) → IsRead w n → OrderIsKept (point w n g) held → n.line ≡ front ++ part → live_writes_are_covered n g d part ≡ true
covered_along w n g held d front [] s o at = refl
covered_along w n g held d front (i ∷ is) s o at = ap₂ (λ x y. x && y) (at_ (has_live_write n g d i) refl) (covered_along w n g held d (front ++ i ∷ []) is s o (at ∙ sym (append_assoc front (i ∷ []) is)))
  where
    at_ : (b : Bool) → has_live_write n g d i ≡ b → (not b || is_covered n d is) ≡ true
    at_ true e = write_covered w n g held d front is i s o at e
    at_ false e = refl

pub live_writes_covered : (w : Setting) (n : Reading) (g : Grips) (held : ℕ → ℕ) (d : ℕ) → IsRead w n → OrderIsKept (point w n g) held → live_writes_are_covered n g d n.line ≡ true
live_writes_covered w n g held d s o = covered_along w n g held d [] n.line s o refl

-- Open runs

-- no item of a part is so where none is at any place of it
none_of : (p : Item → Bool) (part : List Item) → ((m rest : List Item) (j : Item) → part ≡ m ++ j ∷ rest → p j ≡ false) → list_any p part ≡ false
none_of p [] h = refl
none_of p (i ∷ is) h = ap₂ (λ x y. x || y) (h [] is i refl) (none_of p is (λ m rest j e. h (i ∷ m) rest j (ap (λ l. i ∷ l) e)))

-- behind an open run no run has touched its device
open_last : (w : Setting) (n : Reading) (g : Grips) (held : ℕ → ℕ) (d : ℕ) (front is : List Item) (i : Item) → IsRead w n → OrderIsKept (point w n g) held → n.line ≡ front ++ i ∷ is → opens w n d i ≡ true → list_any (is_touched n g d) is ≡ false
open_last w n g held d front is (Ran r) s o at h = none_of (is_touched n g d) is each
  where
    whole : Parts (is_live n r.0) (not (is_doomed n r.0)) (pends w n r.0 d)
    whole = parts (is_live n r.0) (not (is_doomed n r.0)) (pends w n r.0 d) h

    pending : IsPendingAt (window_of (point w n g) held) d r.0
    pending = record { live = live_not_committed n r.0 whole.first; counts = not-true (is_doomed n r.0) whole.second; left = pending_rest w n g r.0 d ∙ whole.third }

    each : (m rest : List Item) (j : Item) → is ≡ m ++ j ∷ rest → is_touched n g d j ≡ false
    each m rest (Ran q) e = by (has_touched n g q.0 d) refl
      where
        by : (b : Bool) → has_touched n g q.0 d ≡ b → b ≡ false
        by true x =
            sym x ∙ sym (touched_held w n g q.0 d s) ∙ untouched_after w.kinds (window_of (point w n g) held) d r.0 q.0
            (record { front = front; between = m; back = rest; at = at ∙ ap (λ l. front ++ Ran r ∷ l) e }) o.window
            (touched_device w n g held r.0 d o (any_dropped d (next_of n r.0) (commands_of w.runs r.0) whole.third)) pending
            (touched_touches w n g held q.0 d s o x)
        by false x = refl
    each m rest (Failed e k) a = refl
    each m rest (Back e k) a = refl
open_last w n g held d front is (Failed e k) s o at h = absurd (cc)
open_last w n g held d front is (Back e k) s o at h = absurd (cc)

last_along : (w : Setting) (n : Reading) (g : Grips) (held : ℕ → ℕ) (d : ℕ) (front part : List Item) → IsRead w n → OrderIsKept (point w n g) held → n.line ≡ front ++ part → open_runs_are_last (point w n g) d part ≡ true
last_along w n g held d front [] s o at = refl
last_along w n g held d front (i ∷ is) s o at = ap₂ (λ x y. x && y) (at_ (opens w n d i) refl) (last_along w n g held d (front ++ i ∷ []) is s o (at ∙ sym (append_assoc front (i ∷ []) is)))
  where
    at_ : (b : Bool) → opens w n d i ≡ b → (not b || not (list_any (is_touched n g d) is)) ≡ true
    at_ true e = ap not (open_last w n g held d front is i s o at e)
    at_ false e = refl

pub open_runs_last : (w : Setting) (n : Reading) (g : Grips) (held : ℕ → ℕ) (d : ℕ) → IsRead w n → OrderIsKept (point w n g) held → open_runs_are_last (point w n g) d n.line ≡ true
open_runs_last w n g held d s o = last_along w n g held d [] n.line s o refl
