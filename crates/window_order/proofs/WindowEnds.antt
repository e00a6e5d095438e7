-- The end of a window, where no run is live: its line is a serial order for its history, and its last state agrees with the serial execution of the line.
use Rattle.window_order.proofs.Prelude.{Aborted, Arrived, Back, Bool, Commands, Committed, Did, Doomed, End, Ended, Entry, Event, Failed, Fell, First, Grip, Grips, IsTrue, Item, Last, List, LogMark, None, OfRun, Option, OrderIsKept, Placed, PlacedAt, Probes, Purpose, Ran, Reading, Rose, Setting, SettledAgree, Some, Undid, Undoes, Write, [], answers_in, ap, arith, both_ways, command_at, committed_home, committed_value, committed_write, common_steps, cond, cons_option, count_by, did, effective_write, entry, eq-eqb, events_of, executed, false, filter, filter_map, fold, grips_undo, if◌then◌else◌, is_abort, is_access, is_committed, is_committing, is_event_on, is_in_line, is_late, is_live, is_none, is_ran, is_run, is_settled, is_some, is_undo, is_undone, is_weak, length, list_all, list_all-append, list_any, more_if, not, nothing_read, nowhere, of_run, option_map, option_or, or_left, or_right, point, put_all, reading, refl, settled_items, stand_at, standing_value, stands_in, subst, sym, touches_from, true, unwrap_or, write_of, ℕ, ◌&&◌, ◌++◌, ◌+◌, ◌<◌, ◌==◌, ◌||◌, ◌∙◌, ◌∷◌, ◌≡◌}
use Rattle.home_types.specs.declared.worlds.Stand.{Stand}
use Rattle.std.proofs.lemmas.List.FromFn.{get_or-map-range_with_len, length-map-range_with_len}
use Rattle.window_order.proofs.ReadFacts.{IsRead}
use Rattle.window_order.proofs.SettledOrders.{same_home, settled_agree}

abbrev pub NoneIsLive : Reading → Type 0
NoneIsLive n = (r : ℕ) → is_live n r ≡ false

-- no run is live where each run of the window has ended
pub none_is_live : (w : Setting) (n : Reading) → IsRead w n → ((r : ℕ) → is_run w.runs r ≡ true → is_some (n.run r).ended ≡ true) → NoneIsLive n
none_is_live w n s ended r = by (n.run r).placed (n.run r).ended (λ e. ended r ((s.shaped r).known ((s.shaped r).arrived e)))
  where
    by : (p : Option PlacedAt) (e : Option End) → (is_some p ≡ true → is_some e ≡ true) → (is_some p && is_none e) ≡ false
    by None e h = refl
    by (Some p) None h = sym (h refl)
    by (Some p) (Some e) h = refl

-- where no run is live, a run stands in the line exactly where it is committed
stands_committed : (o : OfRun) → (is_some o.placed || is_none o.ended) ≡ true → (is_some o.placed && is_none o.ended) ≡ false → stands_in o ≡ unwrap_or (option_map is_committing o.ended) false
stands_committed o begun over = by (is_some o.placed) o.ended begun over
  where
    by : (p : Bool) (e : Option End) → (p || is_none e) ≡ true → (p && is_none e) ≡ false → (p && not (unwrap_or (option_map is_abort e) false)) ≡ unwrap_or (option_map is_committing e) false
    by true None b c = absurd (cc)
    by true (Some Committed) b c = refl
    by true (Some (Aborted k)) b c = refl
    by false None b c = refl
    by false (Some Committed) b c = absurd (cc)
    by false (Some (Aborted k)) b c = refl

pub line_committed : (w : Setting) (n : Reading) (r : ℕ) → IsRead w n → NoneIsLive n → list_any (is_ran r) n.line ≡ true → is_committed n r ≡ true
line_committed w n r s over h = sym (stands_committed (n.run r) (s.standing.begun r) (over r)) ∙ sym (s.standing.line r) ∙ h

-- a run stands in the line once where it is committed, else not
pub order_runs : (w : Setting) (n : Reading) → IsRead w n → NoneIsLive n → (r : ℕ) → count_by (is_ran r) n.line ≡ (if is_committed n r then 1 else 0)
order_runs w n s over r = s.once r ∙ ap (λ b. cond b 1 0) (stands_committed (n.run r) (s.standing.begun r) (over r))

-- Events

-- the mark of an event is one of the device
abbrev pub is_mark_on : ℕ → LogMark → Bool
is_mark_on d (First r) = true
is_mark_on d (Event i) = is_event_on d i
is_mark_on d (Last r) = true

-- each event of a device's log is one of the device
abbrev pub LogsOwnEvents : Reading → Type 0
LogsOwnEvents n = (d : ℕ) → list_all (is_mark_on d) (n.log d) ≡ true

events_more : (d : ℕ) (b : Bool) (m : LogMark) (marks : List LogMark) → is_mark_on d m ≡ true → list_all (is_mark_on d) marks ≡ true → list_all (is_mark_on d) (more_if b m marks) ≡ true
events_more d true m marks own h = list_all-append (is_mark_on d) marks (m ∷ []) ∙ grind (arith, common_steps)
events_more d false m marks own h = h

own_step : (w : Setting) (n : Reading) (e : Entry) → LogsOwnEvents n → LogsOwnEvents (entry w n e)
own_step w n (Arrived r m) s = s
own_step w n (Placed r at m) s = s
own_step w n (Did r c a) s =
    put_all (λ d marks. list_all (is_mark_on d) marks ≡ true) n.log (command_at w.runs r.0 c).device.0 _ s
    (events_more (command_at w.runs r.0 c).device.0 (not (touches_from w.runs r.0 (command_at w.runs r.0 c).device.0 (c + 1))) (Last r.0) _ refl
    (events_more (command_at w.runs r.0 c).device.0 (is_access a && is_none ((n.run r.0).on (command_at w.runs r.0 c).device.0).view) (First r.0) (n.log (command_at w.runs r.0 c).device.0) refl (s (command_at w.runs r.0 c).device.0)))
own_step w n (Undid r d drove) s = s
own_step w n (Fell d) s = put_all (λ e marks. list_all (is_mark_on e) marks ≡ true) n.log d.0 (n.log d.0 ++ Event (Failed d (n.fell d.0 + 1)) ∷ []) s (events_more d.0 true (Event (Failed d (n.fell d.0 + 1))) (n.log d.0) (eq-eqb d.0 d.0 refl) (s d.0))
own_step w n (Rose d) s = put_all (λ e marks. list_all (is_mark_on e) marks ≡ true) n.log d.0 (n.log d.0 ++ Event (Back d (n.rose d.0 + 1)) ∷ []) s (events_more d.0 true (Event (Back d (n.rose d.0 + 1))) (n.log d.0) (eq-eqb d.0 d.0 refl) (s d.0))
own_step w n (Doomed r cause) s = s
own_step w n (Ended r e) s = s

own_from : (w : Setting) (n : Reading) (h : List Entry) → LogsOwnEvents n → LogsOwnEvents (fold (entry w) n h)
own_from w n [] s = s
own_from w n (e ∷ h) s = own_from w (entry w n e) h (own_step w n e s)

pub logs_own_events : (w : Setting) (h : List Entry) → LogsOwnEvents (reading w h)
logs_own_events w h = own_from w (nothing_read w) h (λ d. refl)

abbrev mark_in : Reading → ℕ → LogMark → Option Item
mark_in n d (First r) = if is_in_line n r && not (is_late n r d) then Some (Ran (record { 0 = r })) else None
mark_in n d (Event i) = Some i
mark_in n d (Last r) = None

-- the events among the items of which a wider test holds are the events
filter_twice : {A : Type 0} (p q : A → Bool) (xs : List A) → filter p (filter (λ x. p x || q x) xs) ≡ filter p xs
filter_twice p q [] = refl
filter_twice p q (x ∷ xs) = at_ (filter_twice p q xs) (p x) (q x) refl
  where
    at_ : filter p (filter (λ y. p y || q y) xs) ≡ filter p xs → (a b : Bool) → p x ≡ a → filter p (cond (a || b) (x ∷ filter (λ y. p y || q y) xs) (filter (λ y. p y || q y) xs)) ≡ cond a (x ∷ filter p xs) (filter p xs)
    at_ ih true b e = ap (λ a. cond a (x ∷ filter p (filter (λ y. p y || q y) xs)) (filter p (filter (λ y. p y || q y) xs))) e ∙ ap (λ l. x ∷ l) ih
    at_ ih false true e = ap (λ a. cond a (x ∷ filter p (filter (λ y. p y || q y) xs)) (filter p (filter (λ y. p y || q y) xs))) e ∙ ih
    at_ ih false false e = ih

-- the events among the marks that the line has are those of the log
marked_events : (n : Reading) (d : ℕ) (marks : List LogMark) → list_all (is_mark_on d) marks ≡ true → filter (is_event_on d) (filter_map (mark_in n d) marks) ≡ events_of marks
marked_events n d [] h = refl
marked_events n d (First r ∷ ms) h = at_ (is_in_line n r && not (is_late n r d)) (marked_events n d ms h)
  where
    at_ : (b : Bool) → filter (is_event_on d) (filter_map (mark_in n d) ms) ≡ events_of ms → filter (is_event_on d) (cons_option (if b then Some (Ran (record { 0 = r })) else None) (filter_map (mark_in n d) ms)) ≡ events_of ms
    at_ true e = e
    at_ false e = e
marked_events n d (Event i ∷ ms) h = at_ (λ e. marked_events n d ms e) (is_event_on d i) refl h
  where
    at_ : (list_all (is_mark_on d) ms ≡ true → filter (is_event_on d) (filter_map (mark_in n d) ms) ≡ events_of ms) → (b : Bool) → is_event_on d i ≡ b → (b && list_all (is_mark_on d) ms) ≡ true → filter (is_event_on d) (i ∷ filter_map (mark_in n d) ms) ≡ i ∷ events_of ms
    at_ ih true e g = ap (λ a. cond a (i ∷ filter (is_event_on d) (filter_map (mark_in n d) ms)) (filter (is_event_on d) (filter_map (mark_in n d) ms))) e ∙ ap (λ l. i ∷ l) (ih g)
    at_ ih false e g = absurd (cc)
marked_events n d (Last r ∷ ms) h = marked_events n d ms h

-- the events of a device in the line are those of its log, in the same order
pub order_events : (w : Setting) (n : Reading) (g : Grips) (held : ℕ → ℕ) → OrderIsKept (point w n g) held → LogsOwnEvents n → (d : ℕ) → filter (is_event_on d) n.line ≡ events_of (n.log d)
order_events w n g held o own d =
    sym (filter_twice (is_event_on d) (of_run (λ r. did n r d && not (is_late n r d))) n.line)
    ∙ ap (filter (is_event_on d)) (o.history d).events
    ∙ marked_events n d (n.log d) (own d)

-- Agreement

all_settled : (n : Reading) (line : List Item) → ((r : ℕ) → list_any (is_ran r) line ≡ true → is_committed n r ≡ true) → filter (is_settled n) line ≡ line
all_settled n [] h = refl
all_settled n (Ran r ∷ is) h = ap (λ b. cond b (Ran r ∷ filter (is_settled n) is) (filter (is_settled n) is)) (h r.0 (or_left (r.0 == r.0) (list_any (is_ran r.0) is) (eq-eqb r.0 r.0 refl))) ∙ ap (λ l. Ran r ∷ l) (all_settled n is (λ q e. h q (or_right (r.0 == q) (list_any (is_ran q) is) e)))
all_settled n (Failed d k ∷ is) h = ap (λ l. Failed d k ∷ l) (all_settled n is h)
all_settled n (Back d k ∷ is) h = ap (λ l. Back d k ∷ l) (all_settled n is h)

-- a run that has out the grip of an undo is live
undo_live : (w : Setting) (n : Reading) (g : Grips) (held : ℕ → ℕ) (r d : ℕ) → OrderIsKept (point w n g) held → grips_undo g r d ≡ true → is_live n r ≡ true
undo_live w n g held r d o h = by (g d) refl h
  where
    never : (b : Bool) → (b && false) ≡ true → ⊥
    never b y = grind (arith, common_steps)

    same : (m : ℕ) → ((m == r) && true) ≡ true → m ≡ r
    same m y = grind (arith, common_steps)

    first : (a b c e : Bool) → IsTrue (a && b && c && e) → a ≡ true
    first a b c e y = grind (arith, common_steps)

    of : (m : ℕ) (p : Purpose) → g d ≡ Some (record { maker = m; purpose = p }) → ((m == r) && is_undo p) ≡ true → is_live n r ≡ true
    of m (Commands k) e x = absurd (never (m == r) x)
    of m (Undoes v) e x = first _ _ _ _ (o.grips.runs.undos d r v (subst (λ y. g d ≡ Some (record { maker = y; purpose = Undoes v })) (same m x) e))
    of m (Probes v) e x = absurd (never (m == r) x)

    by : (x : Option Grip) → g d ≡ x → unwrap_or (option_map (λ p. (p.maker == r) && is_undo p.purpose) x) false ≡ true → is_live n r ≡ true
    by None e x = absurd (cc)
    by (Some p) e x = of p.maker p.purpose e x

-- a committed run is not undone
not_undone : (w : Setting) (n : Reading) (g : Grips) (held : ℕ → ℕ) (r d : ℕ) → IsRead w n → OrderIsKept (point w n g) held → NoneIsLive n → is_committed n r ≡ true → is_undone n g r d ≡ false
not_undone w n g held r d s o over c = by ((n.run r).on d).undid (grips_undo g r d) refl refl
  where
    sound : (b : Bool) → is_some (n.run r).doomed ≡ b → b ≡ false
    sound b e = sym e ∙ ap is_some ((s.shaped r).commits c)

    by : (x y : Bool) → ((n.run r).on d).undid ≡ x → grips_undo g r d ≡ y → (x || y) ≡ false
    by true y e f = absurd (both_ways (is_some (n.run r).doomed) (sound (is_some (n.run r).doomed) refl) ((s.shaped r).undone d e))
    by false true e f = absurd (both_ways (is_live n r) (over r) (undo_live w n g held r d o f))
    by false false e f = refl

-- the last committed write is the effective one
last_writes : (n : Reading) (g : Grips) (d : ℕ) (b : Option Write) (c : Option ℕ) (line : List Item) → ((r : ℕ) → list_any (is_ran r) line ≡ true → is_committed n r ≡ true) → ((r : ℕ) → is_committed n r ≡ true → is_undone n g r d ≡ false)
    → option_map (λ e. e.value) b ≡ c → option_map (λ e. e.value) (fold (λ best x. option_or (write_of n g d x) best) b line) ≡ fold (λ best x. option_or (committed_write n d x) best) c line
last_writes n g d b c [] h k e = e
last_writes n g d b c (Ran r ∷ is) h k e =
    last_writes n g d (option_or (write_of n g d (Ran r)) b) (option_or (committed_write n d (Ran r)) c) is
    (λ q y. h q (or_right (r.0 == q) (list_any (is_ran q) is) y)) k (step (is_undone n g r.0 d) (is_committed n r.0) ((n.run r.0).on d).wrote (k r.0 here) here)
  where
    here : is_committed n r.0 ≡ true
    here = h r.0 (or_left (r.0 == r.0) (list_any (is_ran r.0) is) (eq-eqb r.0 r.0 refl))

    step : (x y : Bool) (v : Option ℕ) → x ≡ false → y ≡ true → option_map (λ e. e.value) (option_or (if x then None else option_map (λ v. record { run = r.0; value = v }) v) b) ≡ option_or (if y then v else None) c
    step false true None p q = e
    step false true (Some v) p q = refl
    step true y v p q = absurd (cc)
    step false false v p q = absurd (cc)
last_writes n g d b c (Failed x k ∷ is) h m e = last_writes n g d b c is h m e
last_writes n g d b c (Back x k ∷ is) h m e = last_writes n g d b c is h m e

-- the standing value of a device is its committed one
pub standing_committed : (w : Setting) (n : Reading) (g : Grips) (held : ℕ → ℕ) (d : ℕ) → IsRead w n → OrderIsKept (point w n g) held → is_weak w.mode ≡ false → NoneIsLive n → standing_value (point w n g) d ≡ committed_value w n d
standing_committed w n g held d s o weak over =
    ap (λ b. if b then n.last d else unwrap_or (option_map (λ e. e.value) (effective_write n g d)) (stand_at w.first d).value) weak
    ∙ ap (λ v. unwrap_or v (stand_at w.first d).value) (last_writes n g d None None n.line (λ r h. line_committed w n r s over h) (λ r c. not_undone w n g held r d s o over c) refl)

-- the line, executed run after run from the first state, gives what the history and the last state say
pub record AgreesAtEnd (w : Setting) (n : Reading) (last : List Stand) : Type 0 where
  pub applies : (executed w n.line).refused ≡ false
  pub answers : (executed w n.line).answers ≡ answers_in n n.line
  pub home : (executed w n.line).home ≡ last
  pub counted : (d : ℕ) → d < length w.first → (stand_at last d).up ≡ n.up d

-- it does where each device is left at its standing value, up or down as it is counted
pub agrees_at_end : (w : Setting) (n : Reading) (g : Grips) (held : ℕ → ℕ) (last : List Stand) → IsRead w n → OrderIsKept (point w n g) held → is_weak w.mode ≡ false → NoneIsLive n → length last ≡ length w.first
    → ((d : ℕ) → d < length w.first → stand_at last d ≡ record { value = standing_value (point w n g) d; up = n.up d }) → AgreesAtEnd w n last
agrees_at_end w n g held last s o weak over size each =
    let all : settled_items n ≡ n.line = all_settled n n.line (λ r h. line_committed w n r s over h) in
    let agree : SettledAgree w n = settled_agree w n g held s o in
    record {
      applies = ap (λ l. (executed w l).refused) (sym all) ∙ agree.applies;
      answers = ap (λ l. (executed w l).answers) (sym all) ∙ agree.answers ∙ ap (answers_in n) all;
      home = ap (λ l. (executed w l).home) (sym all) ∙ agree.home ∙ same_home (committed_home w n) last (whole ∙ sym size) (λ d within. at_device d (below (length (committed_home w n)) (length w.first) d within whole));
      counted = λ d lt. ap (λ x. x.up) (each d lt);
    }
  where
    stand : ℕ → Stand
    stand d = record { value = committed_value w n d; up = n.up d }

    whole : length (committed_home w n) ≡ length w.first
    whole = length-map-range_with_len stand 0 (length w.first)

    below : (a b d : ℕ) → d < a → a ≡ b → d < b
    below a b d lt e = omega (arith, lt, e)

    at_device : (d : ℕ) → d < length w.first → stand_at (committed_home w n) d ≡ stand_at last d
    at_device d lt =
        get_or-map-range_with_len stand 0 (length w.first) d d nowhere lt (omega arith)
        ∙ ap (λ v. record { value = v; up = n.up d }) (sym (standing_committed w n g held d s o weak over))
        ∙ sym (each d lt)
