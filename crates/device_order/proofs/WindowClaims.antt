-- What the invariant of a window says of its order.
use Rattle.device_order.proofs.Prelude.{Back, Bool, DeviceInvariant, DeviceSummary, Failed, Failure, HasLiveWriteAt, Home, IsAllAnswered, IsCovered, IsPendingAt, Item, Kind, LineIsSerial, LineIsWhole, List, Occurred, Option, OrderIsSerial, OutFits, Ran, Restart, RunInvariant, RunState, RunStates, Stand, StandsBefore, Unprobed, Usage, UsageFits, Used, WalkHolds, WalkState, WindowInvariant, WindowModel, [], after_usage, all_committed, and_parts, ap, arith, blank, both_ways, common_steps, device_record, device_summary, entries, entry_if, false, has, has_committed_write, has_pending, has_used_device, if◌then◌else◌, is_some, length, not, refl, rest, run_no, serial_execution, serial_order, stage_is_committed, stage_of, stand_at, subst, sym, true, unanswered, usage, uses_device, walk_end, walk_start, walked_value, with_order_entry, ℕ, ◌&&◌, ◌++◌, ◌<◌, ◌==◌, ◌||◌, ◌∙◌, ◌∷◌, ◌≡◌}
use Rattle.device_order.proofs.Claims.{covered, pending}
use Rattle.device_order.proofs.LineEntries.{used_at, uses_rest}
use Rattle.device_order.proofs.Paired.{unused_there}
use Rattle.device_order.proofs.SerialLines.{line_serial}

whole : (kinds : List Kind) (n : ℕ) (l : RunState) → RunInvariant kinds n l → l.committed ≡ true → IsAllAnswered kinds n l
whole kinds n l i c = record { all = (i.whole c).1; fit = i.fit (i.whole c).0; none_fails = i.none_fails (i.whole c).0; homed = i.homed }

-- the order of a window is a serial execution
pub order_serial : (kinds : List Kind) (s : WindowModel) → WindowInvariant kinds s → OrderIsSerial kinds s
order_serial kinds s o =
    let z : ℕ → WalkState = λ d. walk_start (stand_at s.first d).up (stand_at s.first d).value in
    let r : LineIsSerial kinds s.runs s.states (record { home = s.first; answers = []; refused = false }) z s.line =
    line_serial kinds s.runs s.states (record { home = s.first; answers = []; refused = false }) z s.line o.commands refl (λ d lt. refl) (λ d lt. (o.devices d lt).walk) o.events (λ r c. whole kinds (length s.first) (s.states r) (o.runs r) c) in
    record {
      refused = r.refused;
      answers = r.answers;
      size = r.size;
      stands = λ d lt. r.stands d lt ∙ ap (λ u. record { value = walked_value kinds s d; up = u }) (o.devices d lt).ends.same;
    }

-- a run that read or wrote a device uses it
used_if : (kinds : List Kind) (l : RunState) (d : ℕ) (f : DeviceSummary → Bool) → f unanswered ≡ false → f (device_summary kinds l d) ≡ true → uses_device d l.commands ≡ true
used_if kinds l d f n h = at_ (uses_device d l.commands) refl
  where
    clash : (x y : Bool) → x ≡ false → x ≡ y → y ≡ true → ⊥
    clash x y a b c = grind (arith, common_steps)

    at_ : (b : Bool) → uses_device d l.commands ≡ b → uses_device d l.commands ≡ true
    at_ true e = e
    at_ false e = absurd (clash (f unanswered) (f (device_summary kinds l d)) n (ap f (sym (unused_there kinds blank l.commands l.answers d e))) h)

two_at : (kinds : List Kind) (states : RunStates) (d x w : ℕ) (line a m b : List Item) → line ≡ a ++ Ran (run_no x) ∷ (m ++ Ran (run_no w) ∷ b) → uses_device d (states x).commands ≡ true → uses_device d (states w).commands ≡ true
    → entries kinds states d line ≡ entries kinds states d a ++ Used (usage kinds (states x) d) ∷ (entries kinds states d m ++ Used (usage kinds (states w) d) ∷ entries kinds states d b)
two_at kinds states d x w line a m b e u v =
    ap (entries kinds states d) e ∙ used_at kinds states d x a (m ++ Ran (run_no w) ∷ b) u ∙ ap (λ l. entries kinds states d a ++ Used (usage kinds (states x) d) ∷ l) (used_at kinds states d w m b v)

-- a live run with a command left on a device: no run behind it touched the device
pub untouched_after : (kinds : List Kind) (s : WindowModel) (d x w : ℕ) (p : StandsBefore x w s.line) → WindowInvariant kinds s → d < length s.first → IsPendingAt s d x → uses_device d (s.states w).commands ≡ true → has_used_device (usage kinds (s.states w) d) ≡ false
untouched_after kinds s d x w p o lt q u =
    let v : uses_device d (s.states x).commands ≡ true = used (uses_device d (s.states x).commands) refl in
    pending (device_record kinds s d) (entries kinds s.states d p.front) (entries kinds s.states d p.between) (entries kinds s.states d p.back)
    (usage kinds (s.states x) d) (usage kinds (s.states w) d) (o.devices d lt) (two_at kinds s.states d x w s.line p.front p.between p.back p.at v u)
    (open_ (s.states x).committed (s.states x).doomed (uses_device d (rest (s.states x))) q.live q.counts q.left)
  where
    open_ : (b c p : Bool) → b ≡ false → c ≡ false → p ≡ true → has_pending (record (usage kinds (s.states x) d) { stage = stage_of b c p }) ≡ true
    open_ b c p e f g = grind (arith, common_steps)

    used : (y : Bool) → uses_device d (s.states x).commands ≡ y → uses_device d (s.states x).commands ≡ true
    used true e = e
    used false e = absurd (both_ways (uses_device d (rest (s.states x))) (uses_rest d (s.states x).commands (s.states x).answers e) q.left)

-- a committed write among the entries is one of the line
covering : (kinds : List Kind) (states : RunStates) (d : ℕ) (m : List Item) → has has_committed_write (entries kinds states d m) ≡ true → IsCovered kinds states d m
unfolding entries has
covering kinds states d [] h = absurd (no h)
  where
    no : false ≡ true → ⊥
    no h = grind (arith, common_steps)
covering kinds states d (Failed e n ∷ m) h = at_ (covering kinds states d m) (e.0 == d) h
  where
    more : IsCovered kinds states d m → IsCovered kinds states d (Failed e n ∷ m)
    more c = record { run = c.run; front = Failed e n ∷ c.front; back = c.back; at = ap (λ l. Failed e n ∷ l) c.at; committed = c.committed; wrote = c.wrote }

    at_ : (has has_committed_write (entries kinds states d m) ≡ true → IsCovered kinds states d m) → (b : Bool) → has has_committed_write (with_order_entry (entry_if b (Occurred Failure)) (entries kinds states d m)) ≡ true → IsCovered kinds states d (Failed e n ∷ m)
    at_ ih true h = more (ih h)
    at_ ih false h = more (ih h)
covering kinds states d (Back e n ∷ m) h = at_ (covering kinds states d m) (e.0 == d) h
  where
    more : IsCovered kinds states d m → IsCovered kinds states d (Back e n ∷ m)
    more c = record { run = c.run; front = Back e n ∷ c.front; back = c.back; at = ap (λ l. Back e n ∷ l) c.at; committed = c.committed; wrote = c.wrote }

    at_ : (has has_committed_write (entries kinds states d m) ≡ true → IsCovered kinds states d m) → (b : Bool) → has has_committed_write (with_order_entry (entry_if b (Occurred Restart)) (entries kinds states d m)) ≡ true → IsCovered kinds states d (Back e n ∷ m)
    at_ ih true h = more (ih h)
    at_ ih false h = more (ih h)
covering kinds states d (Ran r ∷ m) h = at_ (covering kinds states d m) (uses_device d (states r.0).commands) h
  where
    more : IsCovered kinds states d m → IsCovered kinds states d (Ran r ∷ m)
    more c = record { run = c.run; front = Ran r ∷ c.front; back = c.back; at = ap (λ l. Ran r ∷ l) c.at; committed = c.committed; wrote = c.wrote }

    here : (b k p : Bool) (o : Option ℕ) → (is_some o && stage_is_committed (stage_of b k p)) ≡ true → (b ≡ true) × (is_some o ≡ true)
    here b k p o h = (grind (arith, common_steps), grind (arith, common_steps))

    tail : (x y : Bool) → x ≡ false → (x || y) ≡ true → y ≡ true
    tail x y e h = grind (arith, common_steps)

    one : (has has_committed_write (entries kinds states d m) ≡ true → IsCovered kinds states d m)
        → (has_committed_write (usage kinds (states r.0) d) || has has_committed_write (entries kinds states d m)) ≡ true
        → (b : Bool) → has_committed_write (usage kinds (states r.0) d) ≡ b → IsCovered kinds states d (Ran r ∷ m)
    one ih h true e = let p = here (states r.0).committed (states r.0).doomed (uses_device d (rest (states r.0))) (device_summary kinds (states r.0) d).wrote e in record { run = r.0; front = []; back = m; at = refl; committed = p.0; wrote = p.1 }
    one ih h false e = more (ih (tail (has_committed_write (usage kinds (states r.0) d)) (has has_committed_write (entries kinds states d m)) e h))

    at_ : (has has_committed_write (entries kinds states d m) ≡ true → IsCovered kinds states d m) → (b : Bool) → has has_committed_write (with_order_entry (entry_if b (Used (usage kinds (states r.0) d))) (entries kinds states d m)) ≡ true → IsCovered kinds states d (Ran r ∷ m)
    at_ ih true h = one ih h (has_committed_write (usage kinds (states r.0) d)) refl
    at_ ih false h = more (ih h)

-- a read behind a live write that is not undone stands behind a committed write between
pub read_covered : (kinds : List Kind) (s : WindowModel) (d x w : ℕ) (p : StandsBefore x w s.line) → WindowInvariant kinds s → d < length s.first → HasLiveWriteAt kinds s d x → is_some (device_summary kinds (s.states w) d).read ≡ true → IsCovered kinds s.states d p.between
read_covered kinds s d x w p o lt q r =
    let u : uses_device d (s.states x).commands ≡ true = used_if kinds (s.states x) d (λ (t : DeviceSummary). is_some t.wrote) refl q.wrote in
    let v : uses_device d (s.states w).commands ≡ true = used_if kinds (s.states w) d (λ (t : DeviceSummary). is_some t.read) refl r in
    covering kinds s.states d p.between
    (covered (device_record kinds s d) (entries kinds s.states d p.front) (entries kinds s.states d p.between) (entries kinds s.states d p.back)
    (usage kinds (s.states x) d) (usage kinds (s.states w) d) (o.devices d lt) (two_at kinds s.states d x w s.line p.front p.between p.back p.at u v)
    (exposed (s.states x).committed (s.states x).doomed (uses_device d (rest (s.states x))) ((s.states x).undid d) (device_summary kinds (s.states x) d).wrote q.live q.kept q.wrote) r)
  where
    exposed : (b k p y : Bool) (o : Option ℕ) → b ≡ false → y ≡ false → is_some o ≡ true → (is_some o && not y && not (stage_is_committed (stage_of b k p))) ≡ true
    exposed b k p y o e f g = grind (arith, common_steps)

-- where each run of the line has committed: the order is the line, ..
pub order_all : (states : RunStates) (is : List Item) → all_committed states is ≡ true → serial_order states is ≡ is
unfolding serial_order all_committed
order_all states [] h = refl
order_all states (Ran r ∷ is) h = ap (λ b. if b then Ran r ∷ serial_order states is else serial_order states is) (and_parts (states r.0).committed (all_committed states is) h).0 ∙ ap (λ l. Ran r ∷ l) (order_all states is (and_parts (states r.0).committed (all_committed states is) h).1)
order_all states (Failed e n ∷ is) h = ap (λ l. Failed e n ∷ l) (order_all states is h)
order_all states (Back e n ∷ is) h = ap (λ l. Back e n ∷ l) (order_all states is h)

pub record Settles (z : WalkState) : Type 0 where
  pub stand : z.stand ≡ z.value
  pub out : z.out ≡ Home

-- .. no grip is out, and the standing value is the committed one
settles : (kinds : List Kind) (states : RunStates) (d : ℕ) (z : WalkState) (is : List Item) → all_committed states is ≡ true → Settles z → WalkHolds z (entries kinds states d is) → Settles (walk_end z (entries kinds states d is))
unfolding entries all_committed WalkHolds walk_end
settles kinds states d z [] h g k = g
settles kinds states d z (Failed e n ∷ is) h g k = at_ (λ z g k. settles kinds states d z is h g k) (e.0 == d) k
  where
    at_ : ((z : WalkState) → Settles z → WalkHolds z (entries kinds states d is) → Settles (walk_end z (entries kinds states d is)))
        → (b : Bool) → WalkHolds z (with_order_entry (entry_if b (Occurred Failure)) (entries kinds states d is))
        → Settles (walk_end z (with_order_entry (entry_if b (Occurred Failure)) (entries kinds states d is)))
    at_ ih true k = ih (record z { up = false }) (record { stand = g.stand; out = g.out }) k.1
    at_ ih false k = ih z g k
settles kinds states d z (Back e n ∷ is) h g k = at_ (λ z g k. settles kinds states d z is h g k) (e.0 == d) k
  where
    at_ : ((z : WalkState) → Settles z → WalkHolds z (entries kinds states d is) → Settles (walk_end z (entries kinds states d is)))
        → (b : Bool) → WalkHolds z (with_order_entry (entry_if b (Occurred Restart)) (entries kinds states d is))
        → Settles (walk_end z (with_order_entry (entry_if b (Occurred Restart)) (entries kinds states d is)))
    at_ ih true k = ih (record z { up = true }) (record { stand = g.stand; out = g.out }) k.1
    at_ ih false k = ih z g k
settles kinds states d z (Ran r ∷ is) h g k = at_ (λ z g k. settles kinds states d z is (and_parts (states r.0).committed (all_committed states is) h).1 g k) (uses_device d (states r.0).commands) k
  where
    of : (b k p : Bool) → b ≡ true → stage_of b k p ≡ stage_of true false false
    of b k p h = grind (arith, common_steps)

    one : (z : WalkState) (c : Usage) → c.stage ≡ stage_of true false false → UsageFits z c → Settles z → Settles (after_usage z c)
    one z c h f g = grind (arith, common_steps)

    at_ : ((z : WalkState) → Settles z → WalkHolds z (entries kinds states d is) → Settles (walk_end z (entries kinds states d is)))
        → (b : Bool) → WalkHolds z (with_order_entry (entry_if b (Used (usage kinds (states r.0) d))) (entries kinds states d is))
        → Settles (walk_end z (with_order_entry (entry_if b (Used (usage kinds (states r.0) d))) (entries kinds states d is)))
    at_ ih true k = ih (after_usage z (usage kinds (states r.0) d)) (one z (usage kinds (states r.0) d) (of (states r.0).committed (states r.0).doomed (uses_device d (rest (states r.0))) (and_parts (states r.0).committed (all_committed states is) h).0) k.0 g) k.1
    at_ ih false k = ih z g k

-- .. so a device that is home and up stands where the serial execution leaves it
stands_last : (kinds : List Kind) (s : WindowModel) (d : ℕ) → WindowInvariant kinds s → d < length s.first → all_committed s.states s.line ≡ true → s.probe d ≡ Unprobed → s.up d ≡ true → s.held d ≡ walked_value kinds s d
stands_last kinds s d o lt h q u =
    let i : DeviceInvariant (device_record kinds s d) = o.devices d lt in
    let z : WalkState = walk_start (stand_at s.first d).up (stand_at s.first d).value in
    let e : Settles (walk_end z (entries kinds s.states d s.line)) = settles kinds s.states d z s.line h (record { stand = refl; out = refl }) i.walk in
    let f : OutFits Home Unprobed (walk_end z (entries kinds s.states d s.line)) (s.up d) (s.held d) =
    subst (λ p. OutFits Home p (walk_end z (entries kinds s.states d s.line)) (s.up d) (s.held d)) q
    (subst (λ x. OutFits x (s.probe d) (walk_end z (entries kinds s.states d s.line)) (s.up d) (s.held d)) e.out i.ends.out) in
    f u ∙ e.stand

pub window_ends_so : (kinds : List Kind) (s : WindowModel) → WindowInvariant kinds s → all_committed s.states s.line ≡ true → LineIsWhole kinds s
window_ends_so kinds s o h =
    let e : serial_order s.states s.line ≡ s.line = order_all s.states s.line h in
    let p : OrderIsSerial kinds s = order_serial kinds s o in
    let there : (d : ℕ) → d < length s.first → stand_at (serial_execution s.runs kinds s.first s.line).home d ≡ record { value = walked_value kinds s d; up = s.up d } =
    λ d lt. ap (λ l. stand_at (serial_execution s.runs kinds s.first l).home d) (sym e) ∙ p.stands d lt in
    record {
      refused = ap (λ l. (serial_execution s.runs kinds s.first l).refused) (sym e) ∙ p.refused;
      answers = ap (λ l. (serial_execution s.runs kinds s.first l).answers) (sym e) ∙ p.answers;
      size = ap (λ l. length (serial_execution s.runs kinds s.first l).home) (sym e) ∙ p.size;
      up = λ d lt. ap (λ (x : Stand). x.up) (there d lt);
      stands = λ d lt q u. ap (λ (x : Stand). x.value) (there d lt) ∙ sym (stands_last kinds s d o lt h q u);
    }
