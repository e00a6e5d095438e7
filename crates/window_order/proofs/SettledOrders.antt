-- The committed runs and the events of the line are a serial execution.
use Rattle.window_order.proofs.Prelude.{Back, Bool, Failed, Failure, Grips, Item, List, None, Occurred, Option, OrderIsKept, OrderIsSerial, Ran, Reading, Restart, Setting, SettledAgree, Some, Usage, Used, WalkState, [], after_usage, answers_in, ap, arith, both_ways, committed_home, committed_value, committed_write, entries, entry_if, executed, ext_get_or, false, filter, fold, has_written, if_written, if◌then◌else◌, is_committed, is_doomed, is_settled, is_some, length, nowhere, option_or, order_serial, point, refl, rest, run_state, settled_items, stage_is_committed, stage_of, stand_at, sym, touches, true, unwrap_or, usage, uses_device, walk_end, walk_start, window_of, with_order_entry, ℕ, ◌&&◌, ◌<◌, ◌==◌, ◌∙◌, ◌∷◌, ◌≡◌}
use Rattle.device_order.specs.LineOrders.{serial_order, served}
use Rattle.home_types.specs.declared.worlds.Stand.{Stand}
use Rattle.std.proofs.lemmas.List.FromFn.{get_or-map-range_with_len, length-map-range_with_len}
use Rattle.window_order.proofs.PromisedWords.{written_touches}
use Rattle.window_order.proofs.ReadFacts.{IsRead}

-- the settled items are the serial order of the line, ..
settled_order : (w : Setting) (n : Reading) (g : Grips) (line : List Item) → filter (is_settled n) line ≡ serial_order (λ r. run_state (point w n g) r) line
unfolding serial_order
settled_order w n g [] = refl
settled_order w n g (Ran r ∷ is) = ap (λ l. if is_committed n r.0 then Ran r ∷ l else l) (settled_order w n g is)
settled_order w n g (Failed d k ∷ is) = ap (λ l. Failed d k ∷ l) (settled_order w n g is)
settled_order w n g (Back d k ∷ is) = ap (λ l. Back d k ∷ l) (settled_order w n g is)

-- .. and they answered what is served there
settled_answers : (w : Setting) (n : Reading) (g : Grips) (line : List Item) → answers_in n (filter (is_settled n) line) ≡ served (λ r. run_state (point w n g) r) line
unfolding served
settled_answers w n g [] = refl
settled_answers w n g (Ran r ∷ is) = at_ (settled_answers w n g is) (is_committed n r.0)
  where
    at_ : answers_in n (filter (is_settled n) is) ≡ served (λ q. run_state (point w n g) q) is → (b : Bool)
        → answers_in n (if b then Ran r ∷ filter (is_settled n) is else filter (is_settled n) is) ≡ (if b then record { run = r; answers = (n.run r.0).answers } ∷ served (λ q. run_state (point w n g) q) is else served (λ q. run_state (point w n g) q) is)
    at_ e true = ap (λ l. record { run = r; answers = (n.run r.0).answers } ∷ l) e
    at_ e false = e
settled_answers w n g (Failed d k ∷ is) = settled_answers w n g is
settled_answers w n g (Back d k ∷ is) = settled_answers w n g is

-- one run further along the line
use_value : (u : Usage) (s : WalkState) (b : Option ℕ) (first : ℕ) (v : Option ℕ) (c x y : Bool) → u.wrote ≡ v → u.stage ≡ stage_of c x y → s.value ≡ unwrap_or b first
    → (after_usage s u).value ≡ unwrap_or (option_or (if c then v else None) b) first
use_value u s b first v c x y e f h = ap (λ o. if_written (is_some o && stage_is_committed u.stage) o s.value) e ∙ ap (λ z. if_written (is_some v && stage_is_committed z) v s.value) f ∙ by v c x y
  where
    by : (v : Option ℕ) (c x y : Bool) → if_written (is_some v && stage_is_committed (stage_of c x y)) v s.value ≡ unwrap_or (option_or (if c then v else None) b) first
    by None true x y = h
    by None false x y = h
    by (Some k) true x y = refl
    by (Some k) false true true = h
    by (Some k) false true false = h
    by (Some k) false false true = h
    by (Some k) false false false = h

-- the walk along the entries that a line makes ends with the value of its last committed write
pub value_along : (w : Setting) (n : Reading) (g : Grips) (d first : ℕ) (z : WalkState) (b : Option ℕ) (line : List Item) → IsRead w n → z.value ≡ unwrap_or b first
    → (walk_end z (entries w.kinds (λ r. run_state (point w n g) r) d line)).value ≡ unwrap_or (fold (λ best x. option_or (committed_write n d x) best) b line) first
unfolding entries walk_end
value_along w n g d first z b [] s h = h
value_along w n g d first z b (Ran r ∷ is) s h = at_ (λ t c k. value_along w n g d first t c is s k) (touches w.runs r.0 d) refl
  where
    u : Usage
    u = usage w.kinds (run_state (point w n g) r.0) d

    unused : (y : Bool) → has_written n r.0 d ≡ y → touches w.runs r.0 d ≡ false → y ≡ false
    unused true e f = absurd (both_ways (touches w.runs r.0 d) f (written_touches w n r.0 d s e))
    unused false e f = refl

    no_write : (v : Option ℕ) (x : Bool) → is_some v ≡ false → option_or (if x then v else None) b ≡ b
    no_write None true e = refl
    no_write None false e = refl
    no_write (Some k) x e = absurd (cc)

    at_ : ((t : WalkState) (c : Option ℕ) → t.value ≡ unwrap_or c first → (walk_end t (entries w.kinds (λ q. run_state (point w n g) q) d is)).value ≡ unwrap_or (fold (λ best x. option_or (committed_write n d x) best) c is) first) → (x : Bool) → touches w.runs r.0 d ≡ x
        → (walk_end z (with_order_entry (entry_if x (Used u)) (entries w.kinds (λ q. run_state (point w n g) q) d is))).value ≡ unwrap_or (fold (λ best i. option_or (committed_write n d i) best) (option_or (committed_write n d (Ran r)) b) is) first
    at_ ih true e = ih (after_usage z u) (option_or (committed_write n d (Ran r)) b) (use_value u z b first ((n.run r.0).on d).wrote (is_committed n r.0) (is_doomed n r.0) (uses_device d (rest (run_state (point w n g) r.0))) ((s.summarized r.0).wrote d) refl h)
    at_ ih false e = ih z (option_or (committed_write n d (Ran r)) b) (h ∙ ap (λ x. unwrap_or x first) (sym (no_write ((n.run r.0).on d).wrote (is_committed n r.0) (unused (has_written n r.0 d) refl e))))
value_along w n g d first z b (Failed e k ∷ is) s h = at_ (λ t c x. value_along w n g d first t c is s x) (e.0 == d)
  where
    at_ : ((t : WalkState) (c : Option ℕ) → t.value ≡ unwrap_or c first → (walk_end t (entries w.kinds (λ q. run_state (point w n g) q) d is)).value ≡ unwrap_or (fold (λ best x. option_or (committed_write n d x) best) c is) first) → (x : Bool)
        → (walk_end z (with_order_entry (entry_if x (Occurred Failure)) (entries w.kinds (λ q. run_state (point w n g) q) d is))).value ≡ unwrap_or (fold (λ best i. option_or (committed_write n d i) best) b is) first
    at_ ih true = ih (record z { up = false }) b h
    at_ ih false = ih z b h
value_along w n g d first z b (Back e k ∷ is) s h = at_ (λ t c x. value_along w n g d first t c is s x) (e.0 == d)
  where
    at_ : ((t : WalkState) (c : Option ℕ) → t.value ≡ unwrap_or c first → (walk_end t (entries w.kinds (λ q. run_state (point w n g) q) d is)).value ≡ unwrap_or (fold (λ best x. option_or (committed_write n d x) best) c is) first) → (x : Bool)
        → (walk_end z (with_order_entry (entry_if x (Occurred Restart)) (entries w.kinds (λ q. run_state (point w n g) q) d is))).value ≡ unwrap_or (fold (λ best i. option_or (committed_write n d i) best) b is) first
    at_ ih true = ih (record z { up = true }) b h
    at_ ih false = ih z b h

-- a home is the list of its stands
pub same_home : (one other : List Stand) → length one ≡ length other → ((d : ℕ) → d < length one → stand_at one d ≡ stand_at other d) → one ≡ other
same_home one other sizes each = ext_get_or nowhere one other sizes each

-- executed from the first state, the settled items agree with the history
pub settled_agree : (w : Setting) (n : Reading) (g : Grips) (held : ℕ → ℕ) → IsRead w n → OrderIsKept (point w n g) held → SettledAgree w n
settled_agree w n g held s o =
    let order : settled_items n ≡ serial_order (λ r. run_state (point w n g) r) n.line = settled_order w n g n.line in
    let serial : OrderIsSerial w.kinds (window_of (point w n g) held) = order_serial w.kinds (window_of (point w n g) held) o.window in
    record {
      applies = ap (λ l. (executed w l).refused) order ∙ serial.refused;
      answers = ap (λ l. (executed w l).answers) order ∙ serial.answers ∙ sym (settled_answers w n g n.line);
      home = same_home (executed w (settled_items n)).home (committed_home w n) (size order serial ∙ sym (length-map-range_with_len stand 0 (length w.first))) (λ d within. at_device order serial d (below (length (executed w (settled_items n)).home) (length w.first) d within (size order serial)));
    }
  where
    stand : ℕ → Stand
    stand d = record { value = committed_value w n d; up = n.up d }

    below : (a b d : ℕ) → d < a → a ≡ b → d < b
    below a b d lt e = omega (arith, lt, e)

    size : settled_items n ≡ serial_order (λ r. run_state (point w n g) r) n.line → OrderIsSerial w.kinds (window_of (point w n g) held) → length (executed w (settled_items n)).home ≡ length w.first
    size order serial = ap (λ l. length (executed w l).home) order ∙ serial.size

    at_device : settled_items n ≡ serial_order (λ r. run_state (point w n g) r) n.line → OrderIsSerial w.kinds (window_of (point w n g) held) → (d : ℕ) → d < length w.first → stand_at (executed w (settled_items n)).home d ≡ stand_at (committed_home w n) d
    at_device order serial d lt =
        ap (λ l. stand_at (executed w l).home d) order ∙ serial.stands d lt
        ∙ ap (λ v. record { value = v; up = n.up d }) (value_along w n g d (stand_at w.first d).value (walk_start (stand_at w.first d).up (stand_at w.first d).value) None n.line s refl)
        ∙ sym (get_or-map-range_with_len stand 0 (length w.first) d d nowhere lt (omega arith))
