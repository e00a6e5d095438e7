-- The answer Down keeps the order of a window: where the device fails at a command that is out, and where it is given with no call.
use Rattle.window_order.proofs.Prelude.{Answer, Bool, Cause, ChangesInPlace, Command, Commands, CutAt, Did, Doomed, Event, Failed, Fell, First, Grips, InHistoryOrder, Item, Last, List, None, OfRun, OnDevice, Option, OrderIsKept, Ran, Reading, Reads, Setting, Some, Writes, [], access_died, and_right, answered, any_put_before, ap, arith, both_ways, command_at, commands_of, common_steps, did, drop, entry, eqb-false, eqb-true, fails, false, held_by, holds, holds_command, if◌then◌else◌, inl, inr, is_access, is_device, is_doomed, is_event_on, is_first_mark, is_in_line, is_late, is_live, is_none, is_open, is_some, is_weak, kind_at, list_any, list_any-append, more_if, next_of, not, of_run, or_right, pends, point, probe_of, put, put_before, put_keeps, put_other, put_same, reads, refl, run_no, sees_up, subst, sym, touches, touches_from, true, unwrap_or, view_of, window_of, with_event, with_event_in, ℕ, ◌&&◌, ◌+◌, ◌==◌, ◌||◌, ◌∙◌, ◌∷◌, ◌≡◌, ◌≢◌, ◌⊎◌}
use Rattle.home_types.specs.declared.commands.Answer.TheVariants.{Down}
use Rattle.window_order.proofs.EventPlaces.{CutWith, awaits_there, cut_with, event_window}
use Rattle.window_order.proofs.Firsts.{IsNewest, logged_did_history, same_view, seen_view}
use Rattle.window_order.proofs.Grips.{held_other, held_own}
use Rattle.window_order.proofs.HistoryOrder.{is_marked, same_history}
use Rattle.window_order.proofs.ReadFacts.{IsRead}
use Rattle.window_order.proofs.Rollbacks.{doomed_history, doomed_of, gets_and_doomed, sound_before}
use Rattle.window_order.proofs.Representing.{gripped_pends}
use Rattle.window_order.proofs.GripWords.{own_command}
use Rattle.window_order.proofs.AnsweredTables.{pending_touches}
use Rattle.window_order.proofs.Runs.{cut_live, live_run, live_uncommitted}
use Rattle.window_order.proofs.Steps.{IsOut, gets_answer, home_fits, out_is, out_newest}
use Rattle.window_order.proofs.TurnedOrders.{Turns, out_spans_none, turned_history}

-- A later answer, and a doom

-- an answer of a run that has one on the device changes neither its view there nor whether that came late
pub later_keeps : (w : Setting) (n : Reading) (r k : ℕ) (a : Answer) → did n r (command_at w.runs r k).device.0 ≡ true → (q e : ℕ) → (view_of (entry w n (Did (run_no r) k a)) q e ≡ view_of n q e) × (is_late (entry w n (Did (run_no r) k a)) q e ≡ is_late n q e)
later_keeps w n r k a has q e = (
  put_keeps (λ o. (o.on e).view) n.run r _ (put_keeps (λ x. x.view) old.on d on_device (same_view (old.on d).view a some) e) q,
  put_keeps (λ o. (o.on e).late) n.run r _
      (put_keeps (λ x. x.late) old.on d on_device (kept (old.on d).late (is_some old.doomed) (is_access a) (is_none (old.on d).view) some) e) q,
)
  where
    c : Command
    c = command_at w.runs r k

    d : ℕ
    d = c.device.0

    old : OfRun
    old = n.run r

    on_device : OnDevice
    on_device = answered (kind_at w.kinds d) c (is_some old.doomed) old.register a (old.on d)

    none : (v : Option Bool) → is_some v ≡ true → is_none v ≡ false
    none None h = absurd (cc)
    none (Some b) h = refl

    some : is_none (old.on d).view ≡ false
    some = none (old.on d).view has

    kept : (l x y z : Bool) → z ≡ false → (l || (x && y && z)) ≡ l
    kept l x y z h = grind (arith, common_steps)

-- a run that has an answer on the device may be doomed before its next one there as well as behind it
doom_first : (w : Setting) (n : Reading) (r k : ℕ) (a : Answer) (cause : Cause) → did n r (command_at w.runs r k).device.0 ≡ true
    → (e : ℕ) → InHistoryOrder (entry w (entry w n (Doomed (run_no r) cause)) (Did (run_no r) k a)) e → InHistoryOrder (entry w (entry w n (Did (run_no r) k a)) (Doomed (run_no r) cause)) e
doom_first w n r k a cause has e = same_history other next e (record {
  line = refl;
  view = λ q. put_keeps (λ o. (o.on e).view) answered_.run r _ refl q ∙ (later_keeps w n r k a has q e).0 ∙ sym (put_keeps (λ o. (o.on e).view) n.run r _ refl q) ∙ sym (later_keeps w doomed_ r k a has_too q e).0;
  late = λ q. put_keeps (λ o. (o.on e).late) answered_.run r _ refl q ∙ (later_keeps w n r k a has q e).1 ∙ sym (put_keeps (λ o. (o.on e).late) n.run r _ refl q) ∙ sym (later_keeps w doomed_ r k a has_too q e).1;
  doomed = λ q h. put_keeps (λ o. is_some o.doomed) doomed_.run r _ refl q ∙ by_run q (q == r) refl h;
}) (λ i. put n.log d (more_if (not (touches_from w.runs r d (k + 1))) (Last r) (more_if (is_access a && sym (put_keeps (λ o. is_none (o.on d).view) n.run r (doomed_of (n.run r) cause) refl r) i) (First r) (n.log d))) e)
  where
    d : ℕ
    d = (command_at w.runs r k).device.0

    doomed_ : Reading
    doomed_ = entry w n (Doomed (run_no r) cause)

    answered_ : Reading
    answered_ = entry w n (Did (run_no r) k a)

    other : Reading
    other = entry w doomed_ (Did (run_no r) k a)

    next : Reading
    next = entry w answered_ (Doomed (run_no r) cause)

    has_too : did doomed_ r d ≡ true
    has_too = put_keeps (λ o. is_some (o.on d).view) n.run r _ refl r ∙ has

    by_run : (q : ℕ) (b : Bool) → (q == r) ≡ b → is_some (if b then doomed_of (answered_.run r) cause else answered_.run q).doomed ≡ false → is_doomed doomed_ q ≡ false
    by_run q true e h = absurd (cc)
    by_run q false e h = ap (λ x. is_some (if x then doomed_of (n.run r) cause else n.run q).doomed) e ∙ sym (put_keeps (λ o. is_some o.doomed) n.run r _ refl q) ∙ h

-- The device fails at a command that is out

-- what is known where the command of this number is out on its device
record IsCalled (w : Setting) (n : Reading) (g : Grips) (held : ℕ → ℕ) (r k : ℕ) : Type 0 where
  read : IsRead w n
  strong : is_weak w.mode ≡ false
  at : g (command_at w.runs r k).device.0 ≡ Some (record { maker = r; purpose = Commands k })
  out : IsOut w n (command_at w.runs r k).device.0 r k
  kept : OrderIsKept (point w n g) held

-- the failure as it comes into the line
abbrev failure_of : Setting → Reading → ℕ → ℕ → Item
failure_of w n r k = Failed (command_at w.runs r k).device (n.fell (command_at w.runs r k).device.0 + 1)

called_device : (w : Setting) (n : Reading) (g : Grips) (held : ℕ → ℕ) (r k : ℕ) → IsCalled w n g held r k → is_device w (command_at w.runs r k).device.0 ≡ true
called_device w n g held r k s = s.kept.grips.homed (command_at w.runs r k).device.0 (ap is_some s.at)

called_pends : (w : Setting) (n : Reading) (g : Grips) (held : ℕ → ℕ) (r k : ℕ) → IsCalled w n g held r k → pends w n r (command_at w.runs r k).device.0 ≡ true
called_pends w n g held r k s = gripped_pends w n g r (command_at w.runs r k).device.0 s.kept.grips (own_command g (command_at w.runs r k).device.0 r (Commands k) s.at)

called_touches : (w : Setting) (n : Reading) (g : Grips) (held : ℕ → ℕ) (r k : ℕ) → IsCalled w n g held r k → touches w.runs r (command_at w.runs r k).device.0 ≡ true
called_touches w n g held r k s = pending_touches (command_at w.runs r k).device.0 (commands_of w.runs r) (next_of n r) (called_pends w n g held r k s)

called_command : (w : Setting) (n : Reading) (g : Grips) (held : ℕ → ℕ) (r k : ℕ) → IsCalled w n g held r k → holds_command (held_by w r (g (command_at w.runs r k).device.0)) ≡ true
called_command w n g held r k s = ap holds_command (ap (held_by w r) s.at ∙ held_own w r (Commands k)) ∙ by_job (reads (command_at w.runs r k).job)
  where
    by_job : (b : Bool) → holds_command (if b then Reads else Writes) ≡ true
    by_job true = refl
    by_job false = refl

called_cut : (w : Setting) (n : Reading) (g : Grips) (held : ℕ → ℕ) (r k : ℕ) → IsCalled w n g held r k → CutAt r n.line
called_cut w n g held r k s = cut_live w n r s.read s.out.live

-- the run in the line with the failure
failed_cut : (w : Setting) (n : Reading) (g : Grips) (held : ℕ → ℕ) (r k : ℕ) (s : IsCalled w n g held r k) → CutWith (of_run (awaits_there w n (command_at w.runs r k).device.0)) (failure_of w n r k) n.line r (called_cut w n g held r k s)
failed_cut w n g held r k s = cut_with (of_run (awaits_there w n (command_at w.runs r k).device.0)) (failure_of w n r k) n.line r (called_cut w n g held r k s) (λ p. refl)

-- behind it nothing has happened on the device still
failed_newest : (w : Setting) (n m : Reading) (g : Grips) (held : ℕ → ℕ) (r k : ℕ) (s : IsCalled w n g held r k) → Turns w n m (command_at w.runs r k).device.0 (failure_of w n r k) → IsNewest m (command_at w.runs r k).device.0 r (failed_cut w n g held r k s).new.back
failed_newest w n m g held r k s turn = by_place (failed_cut w n g held r k s).back
  where
    d : ℕ
    d = (command_at w.runs r k).device.0

    x : Item
    x = failure_of w n r k

    t : Item → Bool
    t = of_run (awaits_there w n d)

    cut : CutAt r n.line
    cut = called_cut w n g held r k s

    back : List Item
    back = (failed_cut w n g held r k s).new.back

    old : IsNewest n d r cut.back
    old = out_newest w n g held d r k cut s.read s.kept s.at s.out

    unseen_same : (is : List Item) → list_any (of_run (λ q. did m q d)) is ≡ list_any (of_run (λ q. did n q d)) is
    unseen_same is i = list_any (of_run (λ q. is_some (turn.view q d i))) is

    marked_same : (is : List Item) → list_any (is_marked m d) is ≡ list_any (is_marked n d) is
    marked_same is i = list_any (λ y. is_event_on d y || of_run (λ q. is_some (turn.view q d i) && not (turn.late q d i)) y) is

    unseen : did m r d ≡ false → did n r d ≡ false
    unseen none = sym (ap is_some (turn.view r d)) ∙ none

    waits : (a l y p v : Bool) → a ≡ false → l ≡ true → y ≡ false → p ≡ true → v ≡ false → (not a && (l && not y && p) && not v) ≡ true
    waits a l y p v h j e f z = grind (arith, common_steps)

    by_place : (back ≡ cut.back) ⊎ ((t (Ran (run_no r)) ≡ false) × (back ≡ put_before t x cut.back)) → IsNewest m d r back
    by_place (inl same) = record {
      unseen = λ none. ap (list_any (of_run (λ q. did m q d))) same ∙ unseen_same cut.back ∙ old.unseen (unseen none);
      calm = λ none sound. ap (list_any (is_marked m d)) same ∙ marked_same cut.back ∙ old.calm (unseen none) (turn.doomed r sound);
    }
    by_place (inr behind) = record {
      unseen = λ none. unseen_same back ∙ ap (list_any (of_run (λ q. did n q d))) behind.1 ∙ any_put_before (of_run (λ q. did n q d)) t x cut.back ∙ old.unseen (unseen none);
      calm = λ none sound. absurd (both_ways (awaits_there w n d r) behind.0 (waits (is_weak w.mode) (is_live n r) (is_doomed n r) (pends w n r d) (did n r d) s.strong s.out.live (turn.doomed r sound) (called_pends w n g held r k s) (unseen none)));
    }

-- the answer keeps the order of the history, where the failure did
failed_history : (w : Setting) (n m : Reading) (g : Grips) (held : ℕ → ℕ) (r k : ℕ) (s : IsCalled w n g held r k) → Turns w n m (command_at w.runs r k).device.0 (failure_of w n r k) → (e : ℕ) → InHistoryOrder (entry w m (Did (run_no r) k Down)) e
failed_history w n m g held r k s turn e =
    logged_did_history w m r k Down (record { front = with_it.front; back = with_it.back; at = turn.line ∙ with_it.at; before = with_it.before; behind = with_it.behind }) refl logs (failed_newest w n m g held r k s turn) e
    (turned_history w n m g held d (failure_of w n r k) s.read s.strong (called_device w n g held r k s) s.kept turn e)
  where
    d : ℕ
    d = (command_at w.runs r k).device.0

    with_it : CutAt r (put_before (of_run (awaits_there w n d)) (failure_of w n r k) n.line)
    with_it = (failed_cut w n g held r k s).new

    no_more : (b : Bool) → (b || (false || false)) ≡ b
    no_more true = refl
    no_more false = refl

    logs : list_any (is_first_mark r) (m.log d) ≡ did m r d
    logs = ap (list_any (is_first_mark r)) turn.here ∙ list_any-append (is_first_mark r) (n.log d) (Event (failure_of w n r k) ∷ []) ∙ no_more (list_any (is_first_mark r) (n.log d)) ∙ s.read.logged.firsts r d ∙ sym (ap is_some (turn.view r d))

-- the failure alone, where the run did not see the device up or is doomed ..
falls : (w : Setting) (n : Reading) (g : Grips) (held : ℕ → ℕ) (r k : ℕ) (s : IsCalled w n g held r k) → (did n r (command_at w.runs r k).device.0 ≡ true → is_doomed n r ≡ true) → Turns w n (entry w n (Fell (command_at w.runs r k).device)) (command_at w.runs r k).device.0 (failure_of w n r k)
falls w n g held r k s lost = record {
  event = λ p. refl;
  of_device = λ e. refl;
  line = refl;
  here = put_same n.log d _;
  there = λ e ne. put_other n.log d _ e ne;
  view = λ q e. refl;
  late = λ q e. refl;
  doomed = λ q h. h;
  none_spans = λ q stands sound. by_run q stands sound (q == r) refl;
}
  where
    d : ℕ
    d = (command_at w.runs r k).device.0

    blind : (v : Option Bool) → is_some v ≡ false → unwrap_or v false ≡ false
    blind None h = refl
    blind (Some b) h = absurd (cc)

    unseen : (b : Bool) → did n r d ≡ b → is_doomed n r ≡ false → did n r d ≡ false
    unseen true e sound = absurd (both_ways (is_doomed n r) sound (lost e))
    unseen false e sound = e

    by_run : (q : ℕ) → is_in_line n q ≡ true → is_doomed n q ≡ false → (b : Bool) → (q == r) ≡ b → (is_open w n q d && sees_up n q d) ≡ false
    by_run q stands sound true own = ap (λ y. is_open w n y d && sees_up n y d) (eqb-true q r own) ∙ and_right (is_open w n r d) (sees_up n r d) (blind (view_of n r d) (unseen (did n r d) refl (ap (is_doomed n) (sym (eqb-true q r own)) ∙ sound)))
    by_run q stands sound false other = out_spans_none w n g held d r (called_cut w n g held r k s) s.read s.kept (called_device w n g held r k s) (called_touches w n g held r k s) (or_right _ _ (called_command w n g held r k s)) q stands (eqb-false q r other)

-- .. or with its doom
falls_doomed : (w : Setting) (n : Reading) (g : Grips) (held : ℕ → ℕ) (r k : ℕ) (s : IsCalled w n g held r k) (cause : Cause) → Turns w n (entry w (entry w n (Fell (command_at w.runs r k).device)) (Doomed (run_no r) cause)) (command_at w.runs r k).device.0 (failure_of w n r k)
falls_doomed w n g held r k s cause = record {
  event = λ p. refl;
  of_device = λ e. refl;
  line = refl;
  here = put_same n.log d _;
  there = λ e ne. put_other n.log d _ e ne;
  view = λ q e. put_keeps (λ o. (o.on e).view) n.run r _ refl q;
  late = λ q e. put_keeps (λ o. (o.on e).late) n.run r _ refl q;
  doomed = λ q h. sound_before w (entry w n (Fell (command_at w.runs r k).device)) r cause q h;
  none_spans = λ q stands sound. out_spans_none w n g held d r (called_cut w n g held r k s) s.read s.kept (called_device w n g held r k s) (called_touches w n g held r k s) (or_right _ _ (called_command w n g held r k s)) q stands (λ own. doomed_now q own sound);
}
  where
    d : ℕ
    d = (command_at w.runs r k).device.0

    doomed_now : (q : ℕ) → q ≡ r → is_doomed (entry w (entry w n (Fell (command_at w.runs r k).device)) (Doomed (run_no r) cause)) q ≡ false → ⊥
    doomed_now q own sound = clash (sym (ap (λ (o : OfRun). is_some o.doomed) (put_same n.run r (doomed_of (n.run r) cause))) ∙ ap (is_doomed (entry w (entry w n (Fell (command_at w.runs r k).device)) (Doomed (run_no r) cause))) (sym own) ∙ sound)
      where
        clash : true ≡ false → ⊥
        clash h = grind (arith, common_steps)

-- the window, with the failure in its line
failed_window : (w : Setting) (n m : Reading) (g : Grips) (held after : ℕ → ℕ) (r k : ℕ) (s : IsCalled w n g held r k) → m.line ≡ with_event w n (command_at w.runs r k).device (failure_of w n r k) → ((q : ℕ) → q ≢ r → m.run q ≡ n.run q)
    → ChangesInPlace (with_event_in w.kinds (window_of (point w n g) held) (command_at w.runs r k).device.0 (failure_of w n r k)) (window_of (point w m (put g (command_at w.runs r k).device.0 None)) after) r
failed_window w n m g held after r k s line others = event_window w n m g (put g (command_at w.runs r k).device.0 None) held after (command_at w.runs r k).device.0 r (failure_of w n r k) (called_cut w n g held r k s) s.read s.strong (λ p. refl) line others
    (λ q e ne. put_keeps (held_by w q) g (command_at w.runs r k).device.0 None (sym (ap (held_by w q) s.at ∙ held_other w r q (Commands k) ne)) e)

-- the device fails at the command of a run that is not doomed by it
died_at : (w : Setting) (n : Reading) (g : Grips) (held after : ℕ → ℕ) (r k : ℕ) → IsCalled w n g held r k → (did n r (command_at w.runs r k).device.0 ≡ true → is_doomed n r ≡ true) → (fails (command_at w.runs r k) Down ≡ true → is_doomed n r ≡ true)
    → ((e : ℕ) → e ≢ (command_at w.runs r k).device.0 → after e ≡ held e) → OrderIsKept (point w (entry w (entry w n (Fell (command_at w.runs r k).device)) (Did (run_no r) k Down)) (put g (command_at w.runs r k).device.0 None)) after
died_at w n g held after r k s lost must still = record {
  grips = home_fits w n next g d r (Commands k) others (live_run w n r s.read s.out.live) s.at s.kept.grips;
  window = access_died w.kinds (window_of (point w n g) held) (window_of (point w next (put g d None)) after) r (n.fell d + 1) (command_at w.runs r k) (drop (next_of n r + 1) (commands_of w.runs r)) (is_doomed n r) (record {
    place = failed_window w n next g held after r k s refl others;
    answer = gets_answer w n g r k Down s.out.number s.out.more;
    guard = ap (holds (command_at w.runs r k).when) (s.read.summarized r).register ∙ s.out.guard;
    live = live_uncommitted n r s.out.live;
    out = called_command w n g held r k s;
    must = must;
    lost = λ seen. lost (sym (ap is_some ((s.read.summarized r).view d) ∙ seen_view (view_of n r d)) ∙ seen);
    up = put_same n.up d false;
    probe = ap probe_of (put_same g d None) ∙ sym (ap probe_of s.at);
    still = λ e ne. record { up = put_other n.up d false e ne; held = still e ne; probe = ap probe_of (put_other g d None e ne) };
  }) s.kept.window;
  history = failed_history w n (entry w n (Fell (command_at w.runs r k).device)) g held r k s (falls w n g held r k s lost);
}
  where
    d : ℕ
    d = (command_at w.runs r k).device.0

    next : Reading
    next = entry w (entry w n (Fell (command_at w.runs r k).device)) (Did (run_no r) k Down)

    others : (q : ℕ) → q ≢ r → next.run q ≡ n.run q
    others q ne = put_other n.run r _ q ne

-- .. and of one that is
died_doomed_at : (w : Setting) (n : Reading) (g : Grips) (held after : ℕ → ℕ) (r k : ℕ) (cause : Cause) → IsCalled w n g held r k → ((e : ℕ) → e ≢ (command_at w.runs r k).device.0 → after e ≡ held e)
    → OrderIsKept (point w (entry w (entry w (entry w n (Fell (command_at w.runs r k).device)) (Did (run_no r) k Down)) (Doomed (run_no r) cause)) (put g (command_at w.runs r k).device.0 None)) after
died_doomed_at w n g held after r k cause s still = record {
  grips = home_fits w n next g d r (Commands k) others (live_run w n r s.read s.out.live) s.at s.kept.grips;
  window = access_died w.kinds (window_of (point w n g) held) (window_of (point w next (put g d None)) after) r (n.fell d + 1) (command_at w.runs r k) (drop (next_of n r + 1) (commands_of w.runs r)) true (record {
    place = failed_window w n next g held after r k s refl others;
    answer = gets_and_doomed w n g r k Down cause s.out.number s.out.more;
    guard = ap (holds (command_at w.runs r k).when) (s.read.summarized r).register ∙ s.out.guard;
    live = live_uncommitted n r s.out.live;
    out = called_command w n g held r k s;
    must = λ fails'. refl;
    lost = λ seen. refl;
    up = put_same n.up d false;
    probe = ap probe_of (put_same g d None) ∙ sym (ap probe_of s.at);
    still = λ e ne. record { up = put_other n.up d false e ne; held = still e ne; probe = ap probe_of (put_other g d None e ne) };
  }) s.kept.window;
  history = λ e. by_view e (did n r d) refl;
}
  where
    d : ℕ
    d = (command_at w.runs r k).device.0

    fell : Reading
    fell = entry w n (Fell (command_at w.runs r k).device)

    did_ : Reading
    did_ = entry w fell (Did (run_no r) k Down)

    next : Reading
    next = entry w did_ (Doomed (run_no r) cause)

    others : (q : ℕ) → q ≢ r → next.run q ≡ n.run q
    others q ne = put_other did_.run r _ q ne ∙ put_other n.run r _ q ne

    by_view : (e : ℕ) (b : Bool) → did n r d ≡ b → InHistoryOrder next e
    by_view e true has = doom_first w fell r k Down cause has e (failed_history w n (entry w fell (Doomed (run_no r) cause)) g held r k s (falls_doomed w n g held r k s cause) e)
    by_view e false none = doomed_history w did_ r cause e (failed_history w n fell g held r k s (falls w n g held r k s (λ has. absurd (both_ways (did n r d) none has))) e)

-- the command of the run that is out on the device
called : (w : Setting) (n : Reading) (g : Grips) (held : ℕ → ℕ) (d r k : ℕ) → IsRead w n → is_weak w.mode ≡ false → g d ≡ Some (record { maker = r; purpose = Commands k }) → OrderIsKept (point w n g) held → IsCalled w n g held r k
called w n g held d r k read strong at kept =
    let out = out_is w n g d r k kept.grips at in
    record { read = read; strong = strong; at = subst (λ x. g x ≡ Some (record { maker = r; purpose = Commands k })) out.device at; out = subst (λ x. IsOut w n x r k) out.device out; kept = kept }

-- the device fails at a command, where its run is doomed already, or has no answer there and may miss it
pub died_kept : (w : Setting) (n : Reading) (g : Grips) (held after : ℕ → ℕ) (d r k : ℕ) → IsRead w n → is_weak w.mode ≡ false → g d ≡ Some (record { maker = r; purpose = Commands k }) → (did n r d ≡ true → is_doomed n r ≡ true) → (fails (command_at w.runs r k) Down ≡ true → is_doomed n r ≡ true)
    → ((e : ℕ) → e ≢ d → after e ≡ held e) → OrderIsKept (point w n g) held → OrderIsKept (point w (entry w (entry w n (Fell (command_at w.runs r k).device)) (Did (run_no r) k Down)) (put g d None)) after
died_kept w n g held after d r k read strong at lost must still kept =
    let device = (out_is w n g d r k kept.grips at).device in
    subst (λ x. OrderIsKept (point w (entry w (entry w n (Fell (command_at w.runs r k).device)) (Did (run_no r) k Down)) (put g x None)) after) (sym device)
    (died_at w n g held after r k (called w n g held d r k read strong at kept) (subst (λ x. did n r x ≡ true → is_doomed n r ≡ true) device lost) must (subst (λ x. (e : ℕ) → e ≢ x → after e ≡ held e) device still))

-- .. and where its run is doomed for it, for whatever cause
pub died_doomed_kept : (w : Setting) (n : Reading) (g : Grips) (held after : ℕ → ℕ) (d r k : ℕ) (cause : Cause) → IsRead w n → is_weak w.mode ≡ false → g d ≡ Some (record { maker = r; purpose = Commands k })
    → ((e : ℕ) → e ≢ d → after e ≡ held e) → OrderIsKept (point w n g) held → OrderIsKept (point w (entry w (entry w (entry w n (Fell (command_at w.runs r k).device)) (Did (run_no r) k Down)) (Doomed (run_no r) cause)) (put g d None)) after
died_doomed_kept w n g held after d r k cause read strong at still kept =
    let device = (out_is w n g d r k kept.grips at).device in
    subst (λ x. OrderIsKept (point w (entry w (entry w (entry w n (Fell (command_at w.runs r k).device)) (Did (run_no r) k Down)) (Doomed (run_no r) cause)) (put g x None)) after) (sym device)
    (died_doomed_at w n g held after r k cause (called w n g held d r k read strong at kept) (subst (λ x. (e : ℕ) → e ≢ x → after e ≡ held e) device still))
