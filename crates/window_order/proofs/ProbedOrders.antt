-- A probe keeps the order of a window, whether it works or dies, and an undo that dies.
use Rattle.window_order.proofs.Prelude.{Back, Bool, Cause, CutAt, Doomed, Failed, Fell, Free, Grip, Grips, GripsFit, Item, KeepsRuns, List, None, OfRun, Option, OrderIsKept, Probes, Ran, Reading, Rose, Setting, Some, Undid, Undoes, [], and_parts, any_run, ap, arith, at_device, common_steps, device_no, device_restarted, effective_write, entry, eq-eqb, false, has_written, held_by, if◌then◌else◌, is_device, is_doomed, is_in_line, is_live, is_open, is_out, is_ran, is_some, is_weak, list_any, lost_by, not, option_map, or_left, or_right, pends, point, probe_died, probe_died_under_run, probe_for_purpose, probe_found_down, probe_found_up, probe_of, probe_out, put, put_keeps, put_other, put_same, refl, run_no, run_state, sees_up, spans_up, stand_at, standing_value, standing_value_on, suc, sym, touches, true, undo_died, unwrap_or, usage, window_of, ℕ, ◌&&◌, ◌+◌, ◌==◌, ◌||◌, ◌∙◌, ◌∷◌, ◌≡◌, ◌≢◌}
use Rattle.device_order.specs.declared.records.Probe.TheVariants.{Asks, Restores}
use Rattle.window_order.proofs.EventPlaces.{event_place, event_window, line_stands, spans_same}
use Rattle.window_order.proofs.Firsts.{below_home}
use Rattle.window_order.proofs.Goes.{none_hold}
use Rattle.window_order.proofs.Grips.{fits_same, fits_with, fits_without, held_other, held_own, may_command, may_undo}
use Rattle.window_order.proofs.PromisedWords.{written_touches}
use Rattle.window_order.proofs.ReadFacts.{IsRead}
use Rattle.window_order.proofs.Rollbacks.{doomed_of, fits_doomed, none_out, sound_before, undone_elsewhere, undone_history, undone_there}
use Rattle.window_order.proofs.Runs.{cut_live, live_run, live_uncommitted, state_by}
use Rattle.window_order.proofs.StandingValues.{live_stands, standing_on_line}
use Rattle.window_order.proofs.Steps.{home_fits}
use Rattle.window_order.proofs.TurnedOrders.{Turns, none_lost, one_lost, out_spans_none, restored_spans_none, turned_history, undone_spans_none}

-- A device out for a probe is no run's

free : (b : Bool) → (if b then Free else Free) ≡ Free
free true = refl
free false = refl

-- the run holds nothing of a device that is out for a probe
probed_free : (w : Setting) (q m : ℕ) (v : Option ℕ) → held_by w q (Some (record { maker = m; purpose = Probes v })) ≡ Free
probed_free w q m v = free (m == q)

-- so the runs are the same when it goes out, and when it comes home
same_states : (w : Setting) (n m : Reading) (g h : Grips) (q : ℕ) → m.run q ≡ n.run q → ((e : ℕ) → held_by w q (h e) ≡ held_by w q (g e)) → run_state (point w m h) q ≡ run_state (point w n g) q
same_states w n m g h q run grip = λ i. record (state_by w g q (run i)) { grip = λ e. grip e i }

probe_taken : (w : Setting) (g : Grips) (d m : ℕ) (v : Option ℕ) → g d ≡ None → (q e : ℕ) → held_by w q (put g d (Some (record { maker = m; purpose = Probes v })) e) ≡ held_by w q (g e)
probe_taken w g d m v home q e = put_keeps (held_by w q) g d (Some (record { maker = m; purpose = Probes v })) (probed_free w q m v ∙ sym (ap (held_by w q) home)) e

probe_given : (w : Setting) (g : Grips) (d m : ℕ) (v : Option ℕ) → g d ≡ Some (record { maker = m; purpose = Probes v }) → (q e : ℕ) → held_by w q (put g d None e) ≡ held_by w q (g e)
probe_given w g d m v at q e = put_keeps (held_by w q) g d None (sym (ap (held_by w q) at ∙ probed_free w q m v)) e

-- no run changes, and no other device
probed_runs : (w : Setting) (n m : Reading) (g : Grips) (held after : ℕ → ℕ) (d maker : ℕ) (v : Option ℕ) → g d ≡ Some (record { maker = maker; purpose = Probes v }) → ((q : ℕ) → m.run q ≡ n.run q) → ((e : ℕ) → e ≢ d → m.up e ≡ n.up e) → ((e : ℕ) → e ≢ d → after e ≡ held e)
    → KeepsRuns (window_of (point w n g) held) (window_of (point w m (put g d None)) after) d
probed_runs w n m g held after d maker v at runs up still = record {
  states = λ q. same_states w n m g (put g d None) q (runs q) (probe_given w g d maker v at q);
  runs = refl;
  first = refl;
  still = λ e ne. record { up = up e ne; held = still e ne; probe = ap probe_of (put_other g d None e ne) };
}

-- A probe that brings no news

-- a probe of a device that is home goes out: it asks a device that is counted up, and restores the standing value of one that is counted down
pub probe_goes_kept : (w : Setting) (n : Reading) (g : Grips) (held : ℕ → ℕ) (d : ℕ) → IsRead w n → is_weak w.mode ≡ false → is_device w d ≡ true → is_out g d ≡ false → OrderIsKept (point w n g) held
    → OrderIsKept (point w n (put g d (Some (record { maker = 0; purpose = Probes (if n.up d then None else Some (standing_value (point w n g) d)) })))) held
probe_goes_kept w n g held d read strong device in' kept = record {
  grips = fits_with w n g d 0 (Probes v) device refl (λ q e. absurd (no_run q e)) kept.grips;
  window = probe_out w.kinds (window_of (point w n g) held) (window_of (point w n (put g d (Some new))) held) d (record {
    keeps = record {
      states = λ q. same_states w n n g (put g d (Some new)) q refl (probe_taken w g d 0 v home q);
      runs = refl;
      first = refl;
      still = λ e ne. record { up = refl; held = refl; probe = ap probe_of (put_other g d (Some new) e ne) };
    };
    line = refl;
    home = record { free = none_hold w n g held d n.line home; unprobed = ap probe_of home };
    up = refl;
    held = refl;
    probe = ap probe_of (put_same g d (Some new)) ∙ by_up (n.up d);
  }) kept.window;
  history = kept.history;
}
  where
    v : Option ℕ
    v = if n.up d then None else Some (standing_value (point w n g) d)

    new : Grip
    new = record { maker = 0; purpose = Probes v }

    home : g d ≡ None
    home = none_out g d in'

    no_run : (q : ℕ) → 0 ≡ suc q → ⊥
    no_run q h = omega (arith, h)

    value : standing_value (point w n g) d ≡ standing_value_on w.kinds (window_of (point w n g) held).states d (stand_at w.first d).value n.line
    value = ap (λ b. if b then n.last d else standing_of) strong ∙ sym (standing_on_line w n g d (stand_at w.first d).value n.line read)
      where
        standing_of : ℕ
        standing_of = unwrap_or (option_map (λ e. e.value) (effective_write n g d)) (stand_at w.first d).value

    by_up : (b : Bool) → probe_for_purpose (Probes (if b then None else Some (standing_value (point w n g) d))) ≡ (if b then Asks else Restores (standing_value_on w.kinds (window_of (point w n g) held).states d (stand_at w.first d).value n.line))
    by_up true = refl
    by_up false = ap (λ x. Restores x) value

-- it finds the device up, as it is counted, ..
pub probe_worked_kept : (w : Setting) (n : Reading) (g : Grips) (held : ℕ → ℕ) (d m : ℕ) → g d ≡ Some (record { maker = m; purpose = Probes None }) → OrderIsKept (point w n g) held → OrderIsKept (point w n (put g d None)) held
probe_worked_kept w n g held d m at kept = record {
  grips = fits_without w n g d kept.grips;
  window = probe_found_up w.kinds (window_of (point w n g) held) (window_of (point w n (put g d None)) held) d (record {
    keeps = probed_runs w n n g held held d m None at (λ q. refl) (λ e ne. refl) (λ e ne. refl);
    line = refl;
    out = ap probe_of at;
    up = refl;
    held = refl;
    probe = ap probe_of (put_same g d None);
  }) kept.window;
  history = kept.history;
}

-- .. or down, as it is counted
pub probe_missed_kept : (w : Setting) (n : Reading) (g : Grips) (held after : ℕ → ℕ) (d m v : ℕ) → g d ≡ Some (record { maker = m; purpose = Probes (Some v) }) → ((e : ℕ) → e ≢ d → after e ≡ held e) → OrderIsKept (point w n g) held → OrderIsKept (point w n (put g d None)) after
probe_missed_kept w n g held after d m v at still kept = record {
  grips = fits_without w n g d kept.grips;
  window = probe_found_down w.kinds (window_of (point w n g) held) (window_of (point w n (put g d None)) after) d v (record {
    keeps = probed_runs w n n g held after d m (Some v) at (λ q. refl) (λ e ne. refl) still;
    line = refl;
    out = ap probe_of at;
    up = refl;
    probe = ap probe_of (put_same g d None);
  }) kept.window;
  history = kept.history;
}

-- An event

-- a failure and a restart as the entry has them
fell_turns : (w : Setting) (n : Reading) (d : ℕ) → ((q : ℕ) → is_in_line n q ≡ true → (is_open w n q d && sees_up n q d) ≡ false) → Turns w n (entry w n (Fell (device_no d))) d (Failed (device_no d) (n.fell d + 1))
fell_turns w n d none = record {
  event = λ p. refl;
  of_device = λ e. refl;
  line = refl;
  here = put_same n.log d _;
  there = λ e ne. put_other n.log d _ e ne;
  view = λ q e. refl;
  late = λ q e. refl;
  doomed = λ q h. h;
  none_spans = λ q stands sound. none q stands;
}

rose_turns : (w : Setting) (n : Reading) (d : ℕ) → ((q : ℕ) → is_in_line n q ≡ true → (is_open w n q d && sees_up n q d) ≡ false) → Turns w n (entry w n (Rose (device_no d))) d (Back (device_no d) (n.rose d + 1))
rose_turns w n d none = record {
  event = λ p. refl;
  of_device = λ e. refl;
  line = refl;
  here = put_same n.log d _;
  there = λ e ne. put_other n.log d _ e ne;
  view = λ q e. refl;
  late = λ q e. refl;
  doomed = λ q h. h;
  none_spans = λ q stands sound. none q stands;
}

fits_probed : (w : Setting) (n m : Reading) (g : Grips) (d : ℕ) → m.run ≡ n.run → GripsFit (point w n g) → GripsFit (point w m (put g d None))
fits_probed w n m g d run f = fits_without w m g d (fits_same w n m g (λ q e k i. may_command w q e k (run i q)) (λ q e i. may_undo e (run i q)) f)

-- where a run of the line says so of none, the window does
none_any : (p : ℕ → Bool) (line : List Item) → ((q : ℕ) → list_any (is_ran q) line ≡ true → p q ≡ false) → any_run p line ≡ false
unfolding any_run
none_any p [] none = refl
none_any p (Ran r ∷ is) none = λ i. none r.0 (or_left (r.0 == r.0) (list_any (is_ran r.0) is) (eq-eqb r.0 r.0 refl)) i || none_any p is (λ q h. none q (or_right (r.0 == q) (list_any (is_ran q) is) h)) i
none_any p (Failed e k ∷ is) none = none_any p is none
none_any p (Back e k ∷ is) none = none_any p is none

-- a device that is asked has failed, and no run is lost by it
pub probe_died_kept : (w : Setting) (n : Reading) (g : Grips) (held after : ℕ → ℕ) (d m : ℕ) → IsRead w n → is_weak w.mode ≡ false → g d ≡ Some (record { maker = m; purpose = Probes None }) → lost_by w n d ≡ None → ((e : ℕ) → e ≢ d → after e ≡ held e) → OrderIsKept (point w n g) held
    → OrderIsKept (point w (entry w n (Fell (device_no d))) (put g d None)) after
probe_died_kept w n g held after d m read strong at none still kept = record {
  grips = fits_probed w n next g d refl kept.grips;
  window = probe_died w.kinds (window_of (point w n g) held) (window_of (point w next (put g d None)) after) d (n.fell d + 1) (record {
    keeps = probed_runs w n next g held after d m None at (λ q. refl) (λ e ne. put_other n.up d false e ne) still;
    homed = below_home w d device;
    line = event_place w n g held d (Failed (device_no d) (n.fell d + 1)) read strong;
    out = ap probe_of at;
    none = none_any (at_device w.kinds (window_of (point w n g) held).states d spans_up) n.line (λ q stands. spans_same w n g held d q read (line_stands w n read q stands) ∙ none_lost w n d strong none q stands);
    up = put_same n.up d false;
    probe = ap probe_of (put_same g d None);
  }) kept.window;
  history = turned_history w n next g held d (Failed (device_no d) (n.fell d + 1)) read strong device kept (fell_turns w n d (none_lost w n d strong none));
}
  where
    next : Reading
    next = entry w n (Fell (device_no d))

    device : is_device w d ≡ true
    device = kept.grips.homed d (ap is_some at)

-- .. and the run that the rule names is, and is doomed for it
pub probe_died_doomed_kept : (w : Setting) (n : Reading) (g : Grips) (held after : ℕ → ℕ) (d m r : ℕ) (cause : Cause) → IsRead w n → is_weak w.mode ≡ false
    → g d ≡ Some (record { maker = m; purpose = Probes None }) → lost_by w n d ≡ Some r → ((e : ℕ) → e ≢ d → after e ≡ held e) → OrderIsKept (point w n g) held
    → OrderIsKept (point w (entry w (entry w n (Fell (device_no d))) (Doomed (run_no r) cause)) (put g d None)) after
probe_died_doomed_kept w n g held after d m r cause read strong at lost still kept = record {
  grips = fits_without w next g d (fits_doomed w fell g r cause (fits_same w n fell g (λ q e k. refl) (λ q e. refl) kept.grips));
  window = probe_died_under_run w.kinds (window_of (point w n g) held) (window_of (point w next (put g d None)) after) r d (n.fell d + 1) (record {
    place = event_window w n next g (put g d None) held after d r (Failed (device_no d) (n.fell d + 1)) cut read strong (λ p. refl) refl others (λ q e ne. probe_given w g d m None at q e);
    keeps = record { commands = refl; answers = ap (λ o. o.answers) own; undid = λ e. ap (λ o. (o.on e).undid) own; grip = probe_given w g d m None at r };
    homed = below_home w d device;
    spans = spans;
    out = ap probe_of at;
    committed = ap (λ (o : OfRun). (state_by w g r o).committed) own ∙ live_uncommitted n r live;
    doomed = ap (λ o. is_some o.doomed) own;
    up = put_same n.up d false;
    probe = ap probe_of (put_same g d None);
    still = λ e ne. record { up = put_other n.up d false e ne; held = still e ne; probe = ap probe_of (put_other g d None e ne) };
  }) kept.window;
  history = turned_history w n next g held d (Failed (device_no d) (n.fell d + 1)) read strong device kept (record {
    event = λ p. refl;
    of_device = λ e. refl;
    line = refl;
    here = put_same n.log d _;
    there = λ e ne. put_other n.log d _ e ne;
    view = λ q e. put_keeps (λ o. (o.on e).view) n.run r _ refl q;
    late = λ q e. put_keeps (λ o. (o.on e).late) n.run r _ refl q;
    doomed = λ q h. sound_before w fell r cause q h;
    none_spans = λ q stands sound. out_spans_none w n g held d r cut read kept device used (or_left _ _ (and_parts (touches w.runs r d) (spans_up (usage w.kinds (run_state (point w n g) r) d)) spans).1) q stands (λ own'. doomed_now q own' sound);
  });
}
  where
    fell : Reading
    fell = entry w n (Fell (device_no d))

    next : Reading
    next = entry w fell (Doomed (run_no r) cause)

    own : next.run r ≡ doomed_of (n.run r) cause
    own = put_same n.run r (doomed_of (n.run r) cause)

    others : (q : ℕ) → q ≢ r → next.run q ≡ n.run q
    others q ne = put_other n.run r _ q ne

    device : is_device w d ≡ true
    device = kept.grips.homed d (ap is_some at)

    sees : (is_open w n r d && sees_up n r d) ≡ true
    sees = one_lost w n d r strong lost

    lives : (l x p u : Bool) → ((l && not x && p) && u) ≡ true → l ≡ true
    lives l x p u h = grind (arith, common_steps)

    live : is_live n r ≡ true
    live = lives (is_live n r) (is_doomed n r) (pends w n r d) (sees_up n r d) sees

    cut : CutAt r n.line
    cut = cut_live w n r read live

    spans : at_device w.kinds (window_of (point w n g) held).states d spans_up r ≡ true
    spans = spans_same w n g held d r read (line_stands w n read r (live_stands w n r read live)) ∙ sees

    used : touches w.runs r d ≡ true
    used = (and_parts (touches w.runs r d) (spans_up (usage w.kinds (run_state (point w n g) r) d)) spans).0

    doomed_now : (q : ℕ) → q ≡ r → is_doomed next q ≡ false → ⊥
    doomed_now q same sound = clash (sym (ap (λ (o : OfRun). is_some o.doomed) own) ∙ ap (is_doomed next) (sym same) ∙ sound)
      where
        clash : true ≡ false → ⊥
        clash h = grind (arith, common_steps)

-- a device that was counted down is back, and stands at the value that the probe restored
pub restarted_kept : (w : Setting) (n : Reading) (g : Grips) (held : ℕ → ℕ) (d m v : ℕ) → IsRead w n → is_weak w.mode ≡ false
    → g d ≡ Some (record { maker = m; purpose = Probes (Some v) }) → OrderIsKept (point w n g) held
    → OrderIsKept (point w (entry w n (Rose (device_no d))) (put g d None)) (put held d v)
restarted_kept w n g held d m v read strong at kept = record {
  grips = fits_probed w n next g d refl kept.grips;
  window = device_restarted w.kinds (window_of (point w n g) held) (window_of (point w next (put g d None)) (put held d v)) d (n.rose d + 1) v (record {
    keeps = probed_runs w n next g held (put held d v) d m (Some v) at (λ q. refl) (λ e ne. put_other n.up d true e ne) (λ e ne. put_other held d v e ne);
    homed = below_home w d device;
    line = event_place w n g held d (Back (device_no d) (n.rose d + 1)) read strong;
    out = ap probe_of at;
    up = put_same n.up d true;
    held = put_same held d v;
    probe = ap probe_of (put_same g d None);
  }) kept.window;
  history = turned_history w n next g held d (Back (device_no d) (n.rose d + 1)) read strong device kept (rose_turns w n d (restored_spans_none w n g held d m v read kept device at));
}
  where
    next : Reading
    next = entry w n (Rose (device_no d))

    device : is_device w d ≡ true
    device = kept.grips.homed d (ap is_some at)

-- An undo that dies

-- the device fails at an undo: the write is dropped, and no run is lost
pub undo_died_kept : (w : Setting) (n : Reading) (g : Grips) (held after : ℕ → ℕ) (d r v : ℕ) → IsRead w n → is_weak w.mode ≡ false → g d ≡ Some (record { maker = r; purpose = Undoes v }) → ((e : ℕ) → e ≢ d → after e ≡ held e) → OrderIsKept (point w n g) held
    → OrderIsKept (point w (entry w (entry w n (Fell (device_no d))) (Undid (run_no r) (device_no d) false)) (put g d None)) after
undo_died_kept w n g held after d r v read strong at still kept = record {
  grips = home_fits w n next g d r (Undoes v) others (live_run w n r read may.0) at kept.grips;
  window = undo_died w.kinds (window_of (point w n g) held) (window_of (point w next (put g d None)) after) r d (n.fell d + 1) v (record {
    place = event_window w n next g (put g d None) held after d r (Failed (device_no d) (n.fell d + 1)) cut read strong (λ p. refl) refl others (λ q e ne. put_keeps (held_by w q) g d None (sym (ap (held_by w q) at ∙ held_other w r q (Undoes v) ne)) e);
    keeps = undone_elsewhere w n g (put g d None) r d false (λ e ne. ap (held_by w r) (put_other g d None e ne));
    homed = below_home w d device;
    used = used;
    out = ap (held_by w r) at ∙ held_own w r (Undoes v);
    undid = undone_there w n r d false;
    free = ap (held_by w r) (put_same g d None);
    up = put_same n.up d false;
    probe = ap probe_of (put_same g d None) ∙ sym (ap probe_of at);
    still = λ e ne. record { up = put_other n.up d false e ne; held = still e ne; probe = ap probe_of (put_other g d None e ne) };
  }) kept.window;
  history = λ e. undone_history w fell r d false e (turned_history w n fell g held d (Failed (device_no d) (n.fell d + 1)) read strong device kept (fell_turns w n d (undone_spans_none w n g held d r v cut read kept device used at)) e);
}
  where
    fell : Reading
    fell = entry w n (Fell (device_no d))

    next : Reading
    next = entry w fell (Undid (run_no r) (device_no d) false)

    others : (q : ℕ) → q ≢ r → next.run q ≡ n.run q
    others q ne = put_other n.run r _ q ne

    device : is_device w d ≡ true
    device = kept.grips.homed d (ap is_some at)

    parts : (a b c e : Bool) → (a && b && c && e) ≡ true → (a ≡ true) × (c ≡ true)
    parts a b c e h = (grind (arith, common_steps), grind (arith, common_steps))

    may : (is_live n r ≡ true) × (has_written n r d ≡ true)
    may = parts (is_live n r) (is_doomed n r) (has_written n r d) (not ((n.run r).on d).undid) (kept.grips.runs.undos d r v at)

    cut : CutAt r n.line
    cut = cut_live w n r read may.0

    used : touches w.runs r d ≡ true
    used = written_touches w n r d read may.1
