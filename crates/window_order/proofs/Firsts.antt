-- A run's first answer on a device is the newest there, and so it keeps the order of the history.
use Rattle.window_order.proofs.Prelude.{Answer, Back, Bool, Command, CutAt, Did, Failed, First, Grips, InHistoryOrder, Item, Last, List, None, OfRun, OnDevice, Option, OrderIsKept, Ran, Reading, Setting, Some, Used, [], alone_behind, answered, any_run, ap, arith, at_device, awaits_first, calm_entries, command_at, commands_of, common_steps, device_record, device_summary, did, did_touches, entries, entry, false, has_entries, has_used_device, held_by, holds_command, is_access, is_calm_line, is_device, is_doomed, is_first_mark, is_late, is_none, is_some, kind_at, length, list_any, ltb-true, more_if, not, of_run, option_map, option_or, or_parts, point, put, put_keeps, put_other, put_same, refl, register_after, run_no, run_state, sym, touches, touches_from, true, two_places, usage, used_at, uses_device, view_by, view_of, waits_calm, window_of, ℕ, ◌&&◌, ◌++◌, ◌+◌, ◌<◌, ◌==◌, ◌||◌, ◌∙◌, ◌∷◌, ◌≡◌, ◌≢◌}
use Rattle.window_order.proofs.HistoryOrder.{first_history, is_marked, last_history, same_history}
use Rattle.window_order.proofs.ReadFacts.{IsRead, view_from}

pub below_home : (w : Setting) (d : ℕ) → is_device w d ≡ true → d < length w.first
below_home w d h = ltb-true d (length w.first) h

pub seen_view : (v : Option Bool) → is_some (option_map view_from v) ≡ is_some v
seen_view None = refl
seen_view (Some b) = refl

-- a run that has not touched a device has no answer there
pub untouched_unseen : (w : Setting) (n : Reading) (g : Grips) (held : ℕ → ℕ) (d q : ℕ) → IsRead w n → at_device w.kinds (window_of (point w n g) held).states d has_used_device q ≡ false → did n q d ≡ false
untouched_unseen w n g held d q read none = at_ (did n q d) refl
  where
    view : is_some (device_summary w.kinds (run_state (point w n g) q) d).view ≡ did n q d
    view = ap is_some ((read.summarized q).view d) ∙ seen_view (view_of n q d)

    clash : (u v c x : Bool) → u ≡ true → v ≡ x → x ≡ true → (u && (v || c)) ≡ false → ⊥
    clash u v c x h k e f = grind (arith, common_steps)

    at_ : (b : Bool) → did n q d ≡ b → did n q d ≡ false
    at_ true e = absurd (clash (uses_device d (commands_of w.runs q)) (is_some (device_summary w.kinds (run_state (point w n g) q) d).view) (holds_command (held_by w q (g d))) (did n q d) (did_touches w n q d read.shaped e) view e none)
    at_ false e = e

pub none_seen : (w : Setting) (n : Reading) (g : Grips) (held : ℕ → ℕ) (d : ℕ) (is : List Item) → IsRead w n → any_run (at_device w.kinds (window_of (point w n g) held).states d has_used_device) is ≡ false → list_any (of_run (λ q. did n q d)) is ≡ false
unfolding any_run
none_seen w n g held d [] read none = refl
none_seen w n g held d (Ran q ∷ is) read none =
    let parts = or_parts (at_device w.kinds (window_of (point w n g) held).states d has_used_device q.0)
    (any_run (at_device w.kinds (window_of (point w n g) held).states d has_used_device) is) none in
    λ i. untouched_unseen w n g held d q.0 read parts.0 i || none_seen w n g held d is read parts.1 i
none_seen w n g held d (Failed e k ∷ is) read none = none_seen w n g held d is read none
none_seen w n g held d (Back e k ∷ is) read none = none_seen w n g held d is read none

pub none_marked : (w : Setting) (n : Reading) (g : Grips) (held : ℕ → ℕ) (d : ℕ) (is : List Item) → IsRead w n → is_calm_line w.kinds (window_of (point w n g) held).states d is ≡ true → list_any (is_marked n d) is ≡ false
unfolding is_calm_line
none_marked w n g held d [] read calm = refl
none_marked w n g held d (Ran q ∷ is) read calm =
    let parts = split (at_device w.kinds (window_of (point w n g) held).states d has_used_device q.0) (is_calm_line w.kinds (window_of (point w n g) held).states d is) calm in
    λ i. (false || (untouched_unseen w n g held d q.0 read parts.0 i && not (is_late n q.0 d))) || none_marked w n g held d is read parts.1 i
  where
    split : (a b : Bool) → (not a && b) ≡ true → (a ≡ false) × (b ≡ true)
    split a b h = (grind (arith, common_steps), grind (arith, common_steps))
none_marked w n g held d (Failed e k ∷ is) read calm = let parts = split (e.0 == d) (is_calm_line w.kinds (window_of (point w n g) held).states d is) calm in λ i. (parts.0 i || false) || none_marked w n g held d is read parts.1 i
  where
    split : (a b : Bool) → (not a && b) ≡ true → (a ≡ false) × (b ≡ true)
    split a b h = (grind (arith, common_steps), grind (arith, common_steps))
none_marked w n g held d (Back e k ∷ is) read calm = let parts = split (e.0 == d) (is_calm_line w.kinds (window_of (point w n g) held).states d is) calm in λ i. (parts.0 i || false) || none_marked w n g held d is read parts.1 i
  where
    split : (a b : Bool) → (not a && b) ≡ true → (a ≡ false) × (b ≡ true)
    split a b h = (grind (arith, common_steps), grind (arith, common_steps))

pub device_order_at : (w : Setting) (n : Reading) (g : Grips) (held : ℕ → ℕ) (d r : ℕ) (cut : CutAt r n.line) → touches w.runs r d ≡ true
    → (device_record w.kinds (window_of (point w n g) held) d).order ≡ entries w.kinds (window_of (point w n g) held).states d cut.front ++ Used (usage w.kinds (run_state (point w n g) r) d) ∷ entries w.kinds (window_of (point w n g) held).states d cut.back
device_order_at w n g held d r cut used = ap (entries w.kinds (window_of (point w n g) held).states d) cut.at ∙ used_at w.kinds (window_of (point w n g) held).states d r cut.front cut.back used

-- behind a run whose command is out on the device no run has an answer there
pub unseen_behind : (w : Setting) (n : Reading) (g : Grips) (held : ℕ → ℕ) (d r : ℕ) (cut : CutAt r n.line) → IsRead w n → OrderIsKept (point w n g) held → is_device w d ≡ true → touches w.runs r d ≡ true → holds_command (held_by w r (g d)) ≡ true
    → list_any (of_run (λ q. did n q d)) cut.back ≡ false
unseen_behind w n g held d r cut read kept device used out =
    none_seen w n g held d cut.back read
    (sym (has_entries w.kinds (window_of (point w n g) held).states d has_used_device cut.back)
    ∙ alone_behind (device_record w.kinds (window_of (point w n g) held) d) (entries w.kinds (window_of (point w n g) held).states d cut.front)
    (entries w.kinds (window_of (point w n g) held).states d cut.back) (usage w.kinds (run_state (point w n g) r) d) (kept.window.devices d (below_home w d device))
    (device_order_at w n g held d r cut used) out)

-- behind one whose first answer is still to come, and will count, nothing has happened on the device
pub calm_behind : (w : Setting) (n : Reading) (g : Grips) (held : ℕ → ℕ) (d r : ℕ) (cut : CutAt r n.line) → IsRead w n → OrderIsKept (point w n g) held → is_device w d ≡ true → touches w.runs r d ≡ true → awaits_first (usage w.kinds (run_state (point w n g) r) d) ≡ true
    → list_any (is_marked n d) cut.back ≡ false
calm_behind w n g held d r cut read kept device used awaits =
    none_marked w n g held d cut.back read
    (sym (calm_entries w.kinds (window_of (point w n g) held).states d cut.back)
    ∙ waits_calm (device_record w.kinds (window_of (point w n g) held) d) (entries w.kinds (window_of (point w n g) held).states d cut.front)
    (entries w.kinds (window_of (point w n g) held).states d cut.back) (usage w.kinds (run_state (point w n g) r) d) (kept.window.devices d (below_home w d device))
    (device_order_at w n g held d r cut used) awaits)

-- An answer

some_view : (v : Option Bool) (a : Answer) → is_access a ≡ true → is_some (option_or v (view_by a)) ≡ true
some_view (Some u) a access = refl
some_view None a access = access

-- a later answer changes no view
pub same_view : (v : Option Bool) (a : Answer) → is_none v ≡ false → option_or v (view_by a) ≡ v
same_view None a h = absurd (cc)
same_view (Some u) a h = refl

-- what stands behind a run whose first answer on the device comes
pub record IsNewest (n : Reading) (d r : ℕ) (back : List Item) : Type 0 where
  pub unseen : did n r d ≡ false → list_any (of_run (λ q. did n q d)) back ≡ false
  pub calm : did n r d ≡ false → is_doomed n r ≡ false → list_any (is_marked n d) back ≡ false

-- an answer of a run keeps the order of the history, where the log of its device has the run's first answer exactly if there was one
pub logged_did_history : (w : Setting) (n : Reading) (r k : ℕ) (a : Answer) (cut : CutAt r n.line) → is_access a ≡ true → list_any (is_first_mark r) (n.log (command_at w.runs r k).device.0) ≡ did n r (command_at w.runs r k).device.0 → IsNewest n (command_at w.runs r k).device.0 r cut.back
    → (e : ℕ) → InHistoryOrder n e → InHistoryOrder (entry w n (Did (run_no r) k a)) e
logged_did_history w n r k a cut access logged newest e = two_places (λ x. InHistoryOrder n x → InHistoryOrder next x) e d at_device_of elsewhere
  where
    c : Command
    c = command_at w.runs r k

    d : ℕ
    d = c.device.0

    old : OfRun
    old = n.run r

    on_device : OnDevice
    on_device = answered (kind_at w.kinds d) c (is_some old.doomed) old.register a (old.on d)

    new : OfRun
    new = record old { answers = old.answers ++ a ∷ []; register = register_after c.job a old.register; answered_doomed = old.answered_doomed || is_some old.doomed; on = put old.on d on_device }

    next : Reading
    next = entry w n (Did (run_no r) k a)

    own : (next.run r).on d ≡ on_device
    own = ap (λ o. o.on d) (put_same n.run r new) ∙ put_same old.on d on_device

    sound : (q : ℕ) → is_doomed next q ≡ false → is_doomed n q ≡ false
    sound q h = sym (put_keeps (λ o. is_some o.doomed) n.run r new refl q) ∙ h

    elsewhere : e ≢ d → InHistoryOrder n e → InHistoryOrder next e
    elsewhere ne = same_history n next e (record { line = refl; view = λ q. ap (λ x. x.view) (there q); late = λ q. ap (λ x. x.late) (there q); doomed = sound }) (put_other n.log d _ e ne)
      where
        there : (q : ℕ) → (next.run q).on e ≡ (n.run q).on e
        there q = put_keeps (λ o. o.on e) n.run r new (put_other old.on d on_device e ne) q

    last : Bool
    last = not (touches_from w.runs r d (k + 1))

    first : Bool
    first = is_access a && is_none (old.on d).view

    -- the log without the mark of a last answer
    mid : Reading
    mid = record next { log = λ x. more_if first (First r) (n.log d) }

    at_last : (b : Bool) → last ≡ b → InHistoryOrder mid d → InHistoryOrder next d
    at_last true is = last_history mid next d r (record { line = refl; view = λ q. refl; late = λ q. refl; doomed = λ q h. h }) (put_same n.log d _ ∙ ap (λ b. more_if b (Last r) (more_if first (First r) (n.log d))) is)
    at_last false is = same_history mid next d (record { line = refl; view = λ q. refl; late = λ q. refl; doomed = λ q h. h }) (put_same n.log d _ ∙ ap (λ b. more_if b (Last r) (more_if first (First r) (n.log d))) is)

    at_first : (b : Bool) → is_none (old.on d).view ≡ b → InHistoryOrder n d → InHistoryOrder mid d
    at_first true none = first_history n mid d r (record {
      cut = cut;
      line = refl;
      log = λ i. more_if (access i && none i) (First r) (n.log d);
      view = λ q ne. ap (λ o. (o.on d).view) (put_other n.run r new q ne);
      late = λ q ne. ap (λ o. (o.on d).late) (put_other n.run r new q ne);
      doomed = sound;
      was = was;
      is = ap (λ x. is_some x.view) own ∙ some_view (old.on d).view a access;
      unlogged = logged ∙ was;
      behind = newest.unseen was;
      calm = λ late. newest.calm was (counts (old.on d).late (is_some old.doomed) (is_access a) (is_none (old.on d).view) access none (sym (ap (λ x. x.late) own) ∙ late));
    })
      where
        unsome : (v : Option Bool) → is_none v ≡ true → is_some v ≡ false
        unsome None h = refl
        unsome (Some b) h = absurd (cc)

        was : did n r d ≡ false
        was = unsome (old.on d).view none

        counts : (l x y z : Bool) → y ≡ true → z ≡ true → (l || (x && y && z)) ≡ false → x ≡ false
        counts l x y z h f e = grind (arith, common_steps)
    at_first false some = same_history n mid d (record { line = refl; view = λ q. put_keeps (λ o. (o.on d).view) n.run r new view q; late = λ q. put_keeps (λ o. (o.on d).late) n.run r new late q; doomed = sound }) (λ i. more_if (access i && some i) (First r) (n.log d))
      where
        view : (new.on d).view ≡ (old.on d).view
        view = ap (λ x. x.view) (put_same old.on d on_device) ∙ same_view (old.on d).view a some

        kept : (l x y z : Bool) → z ≡ false → (l || (x && y && z)) ≡ l
        kept l x y z h = grind (arith, common_steps)

        late : (new.on d).late ≡ (old.on d).late
        late = ap (λ x. x.late) (put_same old.on d on_device) ∙ kept (old.on d).late (is_some old.doomed) (is_access a) (is_none (old.on d).view) some

    at_device_of : InHistoryOrder n d → InHistoryOrder next d
    at_device_of h = at_last last refl (at_first (is_none (old.on d).view) refl h)

-- .. as it does after a well-formed history
pub did_history : (w : Setting) (n : Reading) (r k : ℕ) (a : Answer) (cut : CutAt r n.line) → is_access a ≡ true → IsRead w n → IsNewest n (command_at w.runs r k).device.0 r cut.back → (e : ℕ) → InHistoryOrder n e → InHistoryOrder (entry w n (Did (run_no r) k a)) e
did_history w n r k a cut access read newest e = logged_did_history w n r k a cut access (read.logged.firsts r (command_at w.runs r k).device.0) newest e
