-- Where the event of a device stands in the line, and what that means for the runs around it.
use Rattle.window_order.proofs.Prelude.{Back, Bool, ChangesInPlace, CutAt, EventCut, Failed, Grips, Item, Lacks, List, None, Option, OrderIsKept, Ran, Reading, Setting, Some, [], ap, arith, at_device, both_ways, calm_entries, commands_of, common_steps, device_no, device_record, device_summary, did, did_touches, entries, eq-eqb, false, held_by, if◌then◌else◌, inl, inr, is_calm_line, is_committed, is_device, is_doomed, is_live, is_open, is_ran, is_some, is_up, is_weak, line_with_event, list_any, not, of_run, option_map, or_left, or_right, pends, point, put_before, refl, rest, run_no, run_state, sees_up, spans_up, stage_is_open, stage_of, stands_in, subst, sym, touches, true, unwrap_or, usage, used_at, uses_device, uses_rest, view_of, waits_at, waits_calm, window_of, with_event, with_event_in, ℕ, ◌&&◌, ◌++◌, ◌==◌, ◌||◌, ◌∙◌, ◌∷◌, ◌≡◌, ◌≢◌, ◌⊎◌}
use Rattle.window_order.proofs.Firsts.{below_home, none_marked, seen_view}
use Rattle.window_order.proofs.Goes.{StandIn, stands_committed}
use Rattle.window_order.proofs.Grips.{in_place}
use Rattle.window_order.proofs.HistoryOrder.{is_marked}
use Rattle.window_order.proofs.ReadFacts.{IsRead, rest_drop, view_from}
use Rattle.window_order.proofs.Runs.{live_uncommitted}

-- The place

-- the run is open on the device, and has done nothing there
abbrev pub awaits_there : Setting → Reading → ℕ → ℕ → Bool
awaits_there w n d r = not (is_weak w.mode) && is_open w n r d && not (did n r d)

-- of a run that stands in the line, a window says so too
awaits_same : (w : Setting) (n : Reading) (g : Grips) (held : ℕ → ℕ) (d q : ℕ) → IsRead w n → is_weak w.mode ≡ false → stands_in (n.run q) ≡ true → awaits_there w n d q ≡ waits_at w.kinds (window_of (point w n g) held).states d (Ran (run_no q))
awaits_same w n g held d q read strong stands = by_live (is_live n q) refl
  where
    left : uses_device d (rest (run_state (point w n g) q)) ≡ pends w n q d
    left = ap (uses_device d) (rest_drop (commands_of w.runs q) (n.run q).answers)

    seen : is_some (device_summary w.kinds (run_state (point w n g) q) d).view ≡ did n q d
    seen = ap is_some ((read.summarized q).view d) ∙ seen_view (view_of n q d)

    alike : (k l c x p u v s : Bool) → k ≡ false → l ≡ not c → u ≡ p → s ≡ v → (not k && (l && not x && p) && not v) ≡ (not c && not x && u && not s)
    alike k l c x p u v s h e f i = grind (arith, common_steps)

    by_live : (b : Bool) → is_live n q ≡ b → awaits_there w n d q ≡ waits_at w.kinds (window_of (point w n g) held).states d (Ran (run_no q))
    by_live true live =
        alike (is_weak w.mode) (is_live n q) (is_committed n q) (is_doomed n q) (pends w n q d) (uses_device d (rest (run_state (point w n g) q))) (did n q d)
        (is_some (device_summary w.kinds (run_state (point w n g) q) d).view) strong (live ∙ sym (ap not (live_uncommitted n q live))) left seen
    by_live false dead =
        alike (is_weak w.mode) (is_live n q) (is_committed n q) (is_doomed n q) (pends w n q d) (uses_device d (rest (run_state (point w n g) q))) (did n q d)
        (is_some (device_summary w.kinds (run_state (point w n g) q) d).view) strong (dead ∙ sym (ap not (stands_committed n q stands dead))) left seen

pub line_stands : (w : Setting) (n : Reading) → IsRead w n → StandIn n n.line
line_stands w n read x h = sym (read.standing.line x) ∙ h

event_on_part : (w : Setting) (n : Reading) (g : Grips) (held : ℕ → ℕ) (d : ℕ) (x : Item) (part : List Item) → IsRead w n → is_weak w.mode ≡ false → StandIn n part → put_before (of_run (awaits_there w n d)) x part ≡ line_with_event w.kinds (window_of (point w n g) held).states d x part
unfolding line_with_event
event_on_part w n g held d x [] read strong stands = refl
event_on_part w n g held d x (Ran q ∷ is) read strong stands =
    λ i. if awaits_same w n g held d q.0 read strong (stands q.0 (or_left (q.0 == q.0) (list_any (is_ran q.0) is) (eq-eqb q.0 q.0 refl))) i then x ∷ Ran q ∷ is else Ran q ∷ event_on_part w n g held d x is read strong (λ y h. stands y (or_right (q.0 == y) (list_any (is_ran y) is) h)) i
event_on_part w n g held d x (Failed e k ∷ is) read strong stands = ap (λ xs. Failed e k ∷ xs) (event_on_part w n g held d x is read strong stands)
event_on_part w n g held d x (Back e k ∷ is) read strong stands = ap (λ xs. Back e k ∷ xs) (event_on_part w n g held d x is read strong stands)

-- the place that the history gives an event is the one that the window's order gives it
pub event_place : (w : Setting) (n : Reading) (g : Grips) (held : ℕ → ℕ) (d : ℕ) (x : Item) → IsRead w n → is_weak w.mode ≡ false → with_event w n (device_no d) x ≡ line_with_event w.kinds (window_of (point w n g) held).states d x n.line
event_place w n g held d x read strong = event_on_part w n g held d x n.line read strong (line_stands w n read)

-- What stands behind it

-- nothing has happened on the device behind the place of its event
pub event_calm : (w : Setting) (n : Reading) (g : Grips) (held : ℕ → ℕ) (d : ℕ) (x : Item) (c : EventCut w.kinds (window_of (point w n g) held).states d x n.line) → IsRead w n → OrderIsKept (point w n g) held → is_device w d ≡ true → list_any (is_marked n d) c.back ≡ false
event_calm w n g held d x c read kept device = elim c.head [ inl none ↦ ap (list_any (is_marked n d)) none | inr e ↦ ap (list_any (is_marked n d)) e.2 ∙ behind e.0 e.1 (c.whole ∙ ap (λ l. c.front ++ l) e.2) e.3 ]
  where
    left_used : (q : ℕ) (b : Bool) → touches w.runs q d ≡ b → uses_device d (rest (run_state (point w n g) q)) ≡ true → touches w.runs q d ≡ true
    left_used q true e left = e
    left_used q false e left = absurd (both_ways (uses_device d (rest (run_state (point w n g) q))) (uses_rest d (commands_of w.runs q) (n.run q).answers e) left)

    parts : (c x u s : Bool) → (not c && not x && u && not s) ≡ true → (u ≡ true) × (s ≡ false)
    parts c x u s h = (grind (arith, common_steps), grind (arith, common_steps))

    awaits : (c x u s : Bool) → (not c && not x && u && not s) ≡ true → (stage_is_open (stage_of c x u) && not s) ≡ true
    awaits c x u s h = grind (arith, common_steps)

    own : (q : ℕ) → is_some (device_summary w.kinds (run_state (point w n g) q) d).view ≡ false → is_marked n d (Ran (run_no q)) ≡ false
    own q none = off (did n q d) _ (sym (ap is_some ((read.summarized q).view d) ∙ seen_view (view_of n q d)) ∙ none)
      where
        off : (a b : Bool) → a ≡ false → (false || (a && b)) ≡ false
        off a b h = grind (arith, common_steps)

    behind : (q : ℕ) (rest' : List Item) → n.line ≡ c.front ++ Ran (run_no q) ∷ rest' → waits_at w.kinds (window_of (point w n g) held).states d (Ran (run_no q)) ≡ true → list_any (is_marked n d) (Ran (run_no q) ∷ rest') ≡ false
    behind q rest' at waits =
        let own_parts = parts (is_committed n q) (is_doomed n q) (uses_device d (rest (run_state (point w n g) q))) (is_some (device_summary w.kinds (run_state (point w n g) q) d).view) waits in
        let used : touches w.runs q d ≡ true = left_used q (touches w.runs q d) refl own_parts.0 in
        let calm : is_calm_line w.kinds (window_of (point w n g) held).states d rest' ≡ true = sym (calm_entries w.kinds (window_of (point w n g) held).states d rest')
        ∙ waits_calm (device_record w.kinds (window_of (point w n g) held) d) (entries w.kinds (window_of (point w n g) held).states d c.front)
        (entries w.kinds (window_of (point w n g) held).states d rest') (usage w.kinds (run_state (point w n g) q) d)
        (kept.window.devices d (below_home w d device))
        (ap (entries w.kinds (window_of (point w n g) held).states d) at ∙ used_at w.kinds (window_of (point w n g) held).states d q c.front rest' used)
        (awaits (is_committed n q) (is_doomed n q) (uses_device d (rest (run_state (point w n g) q)))
        (is_some (device_summary w.kinds (run_state (point w n g) q) d).view) waits) in
        λ i. own q own_parts.1 i || none_marked w n g held d rest' read calm i

-- The run whose device it is

-- a run of the line stands before the event or behind it
pub record CutWith (t : Item → Bool) (x : Item) (line : List Item) (r : ℕ) (old : CutAt r line) : Type 0 where
  pub new : CutAt r (put_before t x line)
  pub back : (new.back ≡ old.back) ⊎ ((t (Ran (run_no r)) ≡ false) × (new.back ≡ put_before t x old.back))

lacks_event : (t : Item → Bool) (x : Item) (r : ℕ) (is : List Item) → ((p : ℕ → Bool) → of_run p x ≡ false) → Lacks r is → Lacks r (put_before t x is)
unfolding Lacks
lacks_event t (Ran q) r is event lacks = absurd (clash (event (λ y. true)))
  where
    clash : true ≡ false → ⊥
    clash h = grind (arith, common_steps)
lacks_event t (Failed e k) r [] event lacks = tt
lacks_event t (Failed e k) r (i ∷ is) event lacks = at_ (t i) i lacks (λ h. lacks_event t (Failed e k) r is event h)
  where
    at_ : (b : Bool) (j : Item) → Lacks r (j ∷ is) → (Lacks r is → Lacks r (put_before t (Failed e k) is)) → Lacks r (if b then Failed e k ∷ j ∷ is else j ∷ put_before t (Failed e k) is)
    at_ true j h ih = h
    at_ false (Ran q) h ih = (h.0, ih h.1)
    at_ false (Failed y m) h ih = ih h
    at_ false (Back y m) h ih = ih h
lacks_event t (Back e k) r [] event lacks = tt
lacks_event t (Back e k) r (i ∷ is) event lacks = at_ (t i) i lacks (λ h. lacks_event t (Back e k) r is event h)
  where
    at_ : (b : Bool) (j : Item) → Lacks r (j ∷ is) → (Lacks r is → Lacks r (put_before t (Back e k) is)) → Lacks r (if b then Back e k ∷ j ∷ is else j ∷ put_before t (Back e k) is)
    at_ true j h ih = h
    at_ false (Ran q) h ih = (h.0, ih h.1)
    at_ false (Failed y m) h ih = ih h
    at_ false (Back y m) h ih = ih h

-- what is put before a run leaves what stands behind it
put_in_two : (t : Item → Bool) (x : Item) (front back : List Item) (i : Item)
    → ((front₂ : List Item) × (put_before t x (front ++ i ∷ back) ≡ front₂ ++ i ∷ back) × (front₂ ≡ put_before t x front)) ⊎ ((t i ≡ false) × (put_before t x (front ++ i ∷ back) ≡ front ++ i ∷ put_before t x back))
put_in_two t x [] back i = at_ (t i) refl
  where
    at_ : (b : Bool) → t i ≡ b → ((front₂ : List Item) × ((if b then x ∷ i ∷ back else i ∷ put_before t x back) ≡ front₂ ++ i ∷ back) × (front₂ ≡ x ∷ [])) ⊎ ((t i ≡ false) × ((if b then x ∷ i ∷ back else i ∷ put_before t x back) ≡ i ∷ put_before t x back))
    at_ true e = inl (x ∷ [], refl, refl)
    at_ false e = inr (e, refl)
put_in_two t x (j ∷ front) back i = at_ (t j) (put_in_two t x front back i)
  where
    at_ : (b : Bool) → ((front₂ : List Item) × (put_before t x (front ++ i ∷ back) ≡ front₂ ++ i ∷ back) × (front₂ ≡ put_before t x front)) ⊎ ((t i ≡ false) × (put_before t x (front ++ i ∷ back) ≡ front ++ i ∷ put_before t x back))
        → ((front₂ : List Item) × ((if b then x ∷ j ∷ (front ++ i ∷ back) else j ∷ put_before t x (front ++ i ∷ back)) ≡ front₂ ++ i ∷ back) × (front₂ ≡ (if b then x ∷ j ∷ front else j ∷ put_before t x front)))
        ⊎ ((t i ≡ false) × ((if b then x ∷ j ∷ (front ++ i ∷ back) else j ∷ put_before t x (front ++ i ∷ back)) ≡ j ∷ front ++ i ∷ put_before t x back))
    at_ true ih = inl (x ∷ j ∷ front, refl, refl)
    at_ false (inl s) = inl (j ∷ s.0, ap (λ l. j ∷ l) s.1, ap (λ l. j ∷ l) s.2)
    at_ false (inr s) = inr (s.0, ap (λ l. j ∷ l) s.1)

pub cut_with : (t : Item → Bool) (x : Item) (line : List Item) (r : ℕ) (old : CutAt r line) → ((p : ℕ → Bool) → of_run p x ≡ false) → CutWith t x line r old
cut_with t x line r old event = elim (put_in_two t x old.front old.back (Ran (run_no r))) [ inl s ↦ before s.0 s.1 s.2 | inr s ↦ behind s.0 s.1 ]
  where
    before : (front₂ : List Item) → put_before t x (old.front ++ Ran (run_no r) ∷ old.back) ≡ front₂ ++ Ran (run_no r) ∷ old.back → front₂ ≡ put_before t x old.front → CutWith t x line r old
    before front₂ at is = record {
      new = record { front = front₂; back = old.back; at = ap (put_before t x) old.at ∙ at; before = subst (Lacks r) (sym is) (lacks_event t x r old.front event old.before); behind = old.behind };
      back = inl refl;
    }

    behind : t (Ran (run_no r)) ≡ false → put_before t x (old.front ++ Ran (run_no r) ∷ old.back) ≡ old.front ++ Ran (run_no r) ∷ put_before t x old.back → CutWith t x line r old
    behind off at = record {
      new = record { front = old.front; back = put_before t x old.back; at = ap (put_before t x) old.at ∙ at; before = old.before; behind = lacks_event t x r old.back event old.behind };
      back = inr (off, refl);
    }

-- .. and so the run changes in its place in the line with the event
pub event_window : (w : Setting) (n m : Reading) (g h : Grips) (held after : ℕ → ℕ) (d r : ℕ) (x : Item) → CutAt r n.line → IsRead w n → is_weak w.mode ≡ false → ((p : ℕ → Bool) → of_run p x ≡ false) → m.line ≡ with_event w n (device_no d) x → ((q : ℕ) → q ≢ r → m.run q ≡ n.run q)
    → ((q e : ℕ) → q ≢ r → held_by w q (h e) ≡ held_by w q (g e)) → ChangesInPlace (with_event_in w.kinds (window_of (point w n g) held) d x) (window_of (point w m h) after) r
event_window w n m g h held after d r x cut read strong event line others grips = in_place w (record n { line = line_with_event w.kinds (window_of (point w n g) held).states d x n.line }) m g h held after r
    (record { front = with_it.front; back = with_it.back; at = sym (event_place w n g held d x read strong) ∙ with_it.at; before = with_it.before; behind = with_it.behind }) (line ∙ event_place w n g held d x read strong) others grips
  where
    with_it : CutAt r (put_before (of_run (awaits_there w n d)) x n.line)
    with_it = (cut_with (of_run (awaits_there w n d)) x n.line r cut event).new

-- Runs that see the device up

-- of a run that stands in the line, a window says that it spans an event there
pub spans_same : (w : Setting) (n : Reading) (g : Grips) (held : ℕ → ℕ) (d q : ℕ) → IsRead w n → stands_in (n.run q) ≡ true → at_device w.kinds (window_of (point w n g) held).states d spans_up q ≡ (is_open w n q d && sees_up n q d)
spans_same w n g held d q read stands = by_live (is_live n q) refl
  where
    left : uses_device d (rest (run_state (point w n g) q)) ≡ pends w n q d
    left = ap (uses_device d) (rest_drop (commands_of w.runs q) (n.run q).answers)

    up_view : (v : Option Bool) → is_up (option_map view_from v) ≡ unwrap_or v false
    up_view None = refl
    up_view (Some true) = refl
    up_view (Some false) = refl

    seen : is_up (device_summary w.kinds (run_state (point w n g) q) d).view ≡ sees_up n q d
    seen = ap is_up ((read.summarized q).view d) ∙ up_view (view_of n q d)

    viewed : (v : Option Bool) → unwrap_or v false ≡ true → is_some v ≡ true
    viewed None h = absurd (cc)
    viewed (Some b) h = refl

    used : sees_up n q d ≡ true → touches w.runs q d ≡ true
    used h = did_touches w n q d read.shaped (viewed (view_of n q d) h)

    alike : (t l c x p u v s : Bool) → l ≡ not c → u ≡ p → s ≡ v → (v ≡ true → t ≡ true) → (t && (stage_is_open (stage_of c x u) && s)) ≡ ((l && not x && p) && v)
    alike t l c x p u true s e f i used = grind (arith, common_steps)
    alike t l c x p u false s e f i used = grind (arith, common_steps)

    by_live : (b : Bool) → is_live n q ≡ b → at_device w.kinds (window_of (point w n g) held).states d spans_up q ≡ (is_open w n q d && sees_up n q d)
    by_live true live =
        alike (touches w.runs q d) (is_live n q) (is_committed n q) (is_doomed n q) (pends w n q d) (uses_device d (rest (run_state (point w n g) q)))
        (sees_up n q d) (is_up (device_summary w.kinds (run_state (point w n g) q) d).view) (live ∙ sym (ap not (live_uncommitted n q live))) left seen used
    by_live false dead =
        alike (touches w.runs q d) (is_live n q) (is_committed n q) (is_doomed n q) (pends w n q d) (uses_device d (rest (run_state (point w n g) q))) (sees_up n q d)
        (is_up (device_summary w.kinds (run_state (point w n g) q) d).view) (dead ∙ sym (ap not (stands_committed n q stands dead))) left seen used
