-- Each kind of change of a doomed run keeps the order of a window: it is doomed, undone device by device, and leaves.
use Rattle.window_order.proofs.Prelude.{Aborted, Answer, Back, Bool, Cause, Command, Commands, CutAt, Did, Doomed, Ended, Failed, Found, GetsAnswer, Grip, Grips, GripsFit, InHistoryOrder, Item, KeepsElsewhere, Lacks, List, MayUndo, None, OfRun, OnDevice, Option, OrderIsKept, Probes, Purpose, Ran, Reading, Reads, Setting, Some, Undid, Undoes, Writes, [], ap, arith, command_at, commands_of, common_steps, cond, device_no, device_numbers, devices_of, drop, each_found, effect_is, effective_writer_of, entry, eq-eqb, eqb-true, false, filter, find, grip_wait, has_effect, has_written, held_by, holds, if◌then◌else◌, is_cause_of, is_device, is_doomed, is_live, is_out, is_some, last_in_effect, last_some, length, may_follow, ne_eqb, next_of, next_undo_of, not, option_map, or_parts, own_devices, point, probe_of, put, put_keeps, put_other, put_same, read_answered, reads, refl, run_doomed, run_leaves_line, run_no, run_state, same_cause, stand_at, standing_value_on, subst, sym, touches, true, undo_answered, undo_dropped, undo_out, unwrap_or, value_without, window_of, without, write_of, ℕ, ◌&&◌, ◌++◌, ◌+◌, ◌<◌, ◌==◌, ◌||◌, ◌∙◌, ◌∷◌, ◌≡◌, ◌≢◌}
use Rattle.device_order.specs.declared.records.HeldGrip.TheVariants.{Undoes as HeldToUndo}
use Rattle.history_book.specs.declared.entries.Cause.TheVariants.{Refuted}
use Rattle.window_order.proofs.Firsts.{did_history}
use Rattle.window_order.proofs.Goes.{none_hold}
use Rattle.window_order.proofs.Grips.{HoldsNone, MayGrip, all_may, fits_from, fits_other, fits_with, held_none, held_other, held_own, holds_none, in_place, may_command, may_undo, none_in}
use Rattle.window_order.proofs.HistoryOrder.{left_history, same_history}
use Rattle.window_order.proofs.PromisedWords.{written_touches}
use Rattle.window_order.proofs.ReadFacts.{IsRead}
use Rattle.window_order.proofs.Runs.{cut_live, live_run, live_uncommitted, state_by, uses_homed}
use Rattle.window_order.proofs.StandingValues.{standing_on_line, writer_on_line}
use Rattle.window_order.proofs.Steps.{IsOut, gets_answer, home_fits, out_is, out_newest}

-- A run is doomed

-- what is known of a run after its doom
abbrev pub doomed_of : OfRun → Cause → OfRun
doomed_of o cause = record o { doomed = Some cause }

-- the grips that may be out may be out after a doom: a command's is out as before, and an undo's is that of a doomed run
pub fits_doomed : (w : Setting) (n : Reading) (g : Grips) (r : ℕ) (cause : Cause) → GripsFit (point w n g) → GripsFit (point w (entry w n (Doomed (run_no r) cause)) g)
fits_doomed w n g r cause f = fits_from w next g f.homed (λ d q p at. still d q p at) f.runs.one
  where
    next : Reading
    next = entry w n (Doomed (run_no r) cause)

    new : OfRun
    new = doomed_of (n.run r) cause

    surely : (a b c e : Bool) → (a && b && c && e) ≡ true → (a && true && c && e) ≡ true
    surely a b c e h = grind (arith, common_steps)

    undoes : (d q v : ℕ) → may_undo d (n.run q) ≡ true → (b : Bool) → (q == r) ≡ b → may_undo d (if b then new else n.run q) ≡ true
    undoes d q v may true e = let own : may_undo d (n.run r) ≡ true = subst (λ x. may_undo d (n.run x) ≡ true) (eqb-true q r e) may in surely (is_live n r) (is_doomed n r) (has_written n r d) (not ((n.run r).on d).undid) own
    undoes d q v may false e = may

    still : (d q : ℕ) (p : Purpose) → g d ≡ Some (record { maker = q; purpose = p }) → MayGrip w next d q p
    still d q (Commands k) at = put_keeps (may_command w q d k) n.run r new refl q ∙ all_may w n g f d q (Commands k) at
    still d q (Undoes v) at = undoes d q v (all_may w n g f d q (Undoes v) at) (q == r) refl
    still d q (Probes v) at = all_may w n g f d q (Probes v) at

-- no doom is taken back
pub sound_before : (w : Setting) (n : Reading) (r : ℕ) (cause : Cause) (q : ℕ) → is_doomed (entry w n (Doomed (run_no r) cause)) q ≡ false → is_doomed n q ≡ false
sound_before w n r cause q h = at_ (q == r) h
  where
    at_ : (b : Bool) → is_some (if b then doomed_of (n.run r) cause else n.run q).doomed ≡ false → is_doomed n q ≡ false
    at_ true h = absurd (cc)
    at_ false h = h

-- a doom keeps the order of the history
pub doomed_history : (w : Setting) (n : Reading) (r : ℕ) (cause : Cause) (e : ℕ) → InHistoryOrder n e → InHistoryOrder (entry w n (Doomed (run_no r) cause)) e
doomed_history w n r cause e = same_history n (entry w n (Doomed (run_no r) cause)) e (record {
  line = refl;
  view = λ q. put_keeps (λ o. (o.on e).view) n.run r _ refl q;
  late = λ q. put_keeps (λ o. (o.on e).late) n.run r _ refl q;
  doomed = λ q h. sound_before w n r cause q h;
}) refl

-- a live run is doomed, whatever it holds
pub doomed_kept : (w : Setting) (n : Reading) (g : Grips) (held : ℕ → ℕ) (r : ℕ) (cause : Cause) → IsRead w n → is_live n r ≡ true → OrderIsKept (point w n g) held → OrderIsKept (point w (entry w n (Doomed (run_no r) cause)) g) held
doomed_kept w n g held r cause read live kept = record {
  grips = fits_doomed w n g r cause kept.grips;
  window = run_doomed w.kinds (window_of (point w n g) held) (window_of (point w next g) held) r (record {
    place = in_place w n next g g held held r (cut_live w n r read live) refl (λ q ne. put_other n.run r new q ne) (λ q e ne. refl);
    keeps = record { commands = refl; answers = ap (λ o. o.answers) own; undid = λ d. ap (λ o. (o.on d).undid) own; grip = λ d. refl };
    live = live_uncommitted n r live;
    committed = put_keeps (λ o. (state_by w g r o).committed) n.run r new refl r ∙ live_uncommitted n r live;
    doomed = ap (λ o. is_some o.doomed) own;
    still = λ d. record { up = refl; held = refl; probe = refl };
  }) kept.window;
  history = λ d. doomed_history w n r cause d (kept.history d);
}
  where
    next : Reading
    next = entry w n (Doomed (run_no r) cause)

    new : OfRun
    new = doomed_of (n.run r) cause

    own : next.run r ≡ new
    own = put_same n.run r new

-- A must command finds another value, and its run is doomed

-- the run gets its answer, is doomed, and its grip comes home
pub gets_and_doomed : (w : Setting) (n : Reading) (g : Grips) (r k : ℕ) (answer : Answer) (cause : Cause) → k ≡ next_of n r → length (n.run r).answers < length (commands_of w.runs r)
    → GetsAnswer (run_state (point w n g) r) (run_state (point w (entry w (entry w n (Did (run_no r) k answer)) (Doomed (run_no r) cause)) (put g (command_at w.runs r k).device.0 None)) r) (command_at w.runs r k) (drop (next_of n r + 1) (commands_of w.runs r)) answer true
gets_and_doomed w n g r k answer cause number more = record {
  next = a.next;
  commands = refl;
  answers = ap (λ o. o.answers) own ∙ a.answers;
  committed = ap (λ (o : OfRun). (state_by w h r o).committed) own ∙ a.committed;
  doomed = ap (λ o. is_some o.doomed) own ∙ or_true (is_doomed n r);
  undid = λ e. ap (λ o. (o.on e).undid) own ∙ a.undid e;
  grip = a.grip;
  free = a.free;
}
  where
    h : Grips
    h = put g (command_at w.runs r k).device.0 None

    did : Reading
    did = entry w n (Did (run_no r) k answer)

    a : GetsAnswer (run_state (point w n g) r) (run_state (point w did h) r) (command_at w.runs r k) (drop (next_of n r + 1) (commands_of w.runs r)) answer (is_doomed n r)
    a = gets_answer w n g r k answer number more

    own : (entry w did (Doomed (run_no r) cause)).run r ≡ doomed_of (did.run r) cause
    own = put_same did.run r (doomed_of (did.run r) cause)

    or_true : (b : Bool) → true ≡ (b || true)
    or_true true = refl
    or_true false = refl

refuted_at : (w : Setting) (n : Reading) (g : Grips) (held : ℕ → ℕ) (r k : ℕ) (cause : Cause) → IsRead w n
    → g (command_at w.runs r k).device.0 ≡ Some (record { maker = r; purpose = Commands k }) → reads (command_at w.runs r k).job ≡ true
    → IsOut w n (command_at w.runs r k).device.0 r k → OrderIsKept (point w n g) held
    → OrderIsKept (point w (entry w (entry w n (Did (run_no r) k (Found (held (command_at w.runs r k).device.0)))) (Doomed (run_no r) cause)) (put g (command_at w.runs r k).device.0 None)) held
refuted_at w n g held r k cause read at reading out kept = record {
  grips = home_fits w n next g d r (Commands k) others (live_run w n r read out.live) at kept.grips;
  window = read_answered w.kinds (window_of (point w n g) held) (window_of (point w next (put g d None)) held) r c (drop (next_of n r + 1) (commands_of w.runs r)) x true (record {
    place = in_place w n next g (put g d None) held held r cut refl others (λ q e ne. put_keeps (held_by w q) g d None (sym (ap (held_by w q) at ∙ held_other w r q (Commands k) ne)) e);
    answer = gets_and_doomed w n g r k (Found x) cause out.number out.more;
    guard = ap (holds c.when) (read.summarized r).register ∙ out.guard;
    live = live_uncommitted n r out.live;
    out = ap (held_by w r) at ∙ held_own w r (Commands k) ∙ ap (λ b. if b then Reads else Writes) reading;
    job = reading;
    refutes = λ fails'. refl;
    found = refl;
    still = λ e. record { up = refl; held = refl; probe = put_keeps probe_of g d None (sym (ap probe_of at)) e };
  }) kept.window;
  history = λ e. doomed_history w did r cause e (did_history w n r k (Found x) cut refl read (out_newest w n g held d r k cut read kept at out) e (kept.history e));
}
  where
    c : Command
    c = command_at w.runs r k

    d : ℕ
    d = c.device.0

    x : ℕ
    x = held d

    did : Reading
    did = entry w n (Did (run_no r) k (Found x))

    next : Reading
    next = entry w did (Doomed (run_no r) cause)

    others : (q : ℕ) → q ≢ r → next.run q ≡ n.run q
    others q ne = put_other did.run r _ q ne ∙ put_other n.run r _ q ne

    cut : CutAt r n.line
    cut = cut_live w n r read out.live

-- a read is answered with the value at which its device stands, and its run is doomed
pub refuted_kept : (w : Setting) (n : Reading) (g : Grips) (held : ℕ → ℕ) (d r k : ℕ) → IsRead w n → g d ≡ Some (record { maker = r; purpose = Commands k }) → reads (command_at w.runs r k).job ≡ true → OrderIsKept (point w n g) held
    → OrderIsKept (point w (entry w (entry w n (Did (run_no r) k (Found (held d)))) (Doomed (run_no r) (Refuted k (held d)))) (put g d None)) held
refuted_kept w n g held d r k read at reading kept =
    let out = out_is w n g d r k kept.grips at in
    subst (λ y. OrderIsKept (point w (entry w (entry w n (Did (run_no r) k (Found (held y)))) (Doomed (run_no r) (Refuted k (held y)))) (put g y None)) held) (sym out.device)
    (refuted_at w n g held r k (Refuted k (held (command_at w.runs r k).device.0)) read (subst (λ y. g y ≡ Some (record { maker = r; purpose = Commands k })) out.device at) reading (subst (λ y. IsOut w n y r k) out.device out) kept)

-- The undo of a doomed run

-- what stands in a line but for a run that it lacks is all of it
lacking : (r : ℕ) (is : List Item) → Lacks r is → without r is ≡ is
unfolding Lacks
lacking r [] lacks = refl
lacking r (Ran q ∷ is) lacks = ap (λ b. cond (not b) (Ran q ∷ without r is) (without r is)) (ne_eqb q.0 r lacks.0) ∙ ap (λ xs. Ran q ∷ xs) (lacking r is lacks.1)
lacking r (Failed e k ∷ is) lacks = ap (λ xs. Failed e k ∷ xs) (lacking r is lacks)
lacking r (Back e k ∷ is) lacks = ap (λ xs. Back e k ∷ xs) (lacking r is lacks)

-- a line that is cut at a run, without the run
pub without_cut : (r : ℕ) (front back : List Item) → Lacks r front → Lacks r back → without r (front ++ Ran (run_no r) ∷ back) ≡ front ++ back
unfolding Lacks
without_cut r [] back before behind = ap (λ b. cond (not b) (Ran (run_no r) ∷ without r back) (without r back)) (eq-eqb r r refl) ∙ lacking r back behind
without_cut r (Ran q ∷ front) back before behind =
    ap (λ b. cond (not b) (Ran q ∷ without r (front ++ Ran (run_no r) ∷ back)) (without r (front ++ Ran (run_no r) ∷ back))) (ne_eqb q.0 r before.0) ∙ ap (λ xs. Ran q ∷ xs) (without_cut r front back before.1 behind)
without_cut r (Failed e k ∷ front) back before behind = ap (λ xs. Failed e k ∷ xs) (without_cut r front back before behind)
without_cut r (Back e k ∷ front) back before behind = ap (λ xs. Back e k ∷ xs) (without_cut r front back before behind)

-- the run is to be undone on this device: it wrote it, is not undone there, and its write is the effective one
record IsNextUndo (w : Setting) (n : Reading) (g : Grips) (r d : ℕ) : Type 0 where
  device : is_device w d ≡ true
  wrote : has_written n r d ≡ true
  kept : ((n.run r).on d).undid ≡ false
  effective : effective_writer_of n g d ≡ Some r

next_undo : (w : Setting) (n : Reading) (g : Grips) (r d : ℕ) → next_undo_of (point w n g) r ≡ Some d → IsNextUndo w n g r d
next_undo w n g r d at = record { device = found.0.0; wrote = (effect_is n g r d found.1).0; kept = (or_parts ((n.run r).on d).undid _ (effect_is n g r d found.1).1).0; effective = of (effective_writer_of n g d) found.1 }
  where
    found : ((is_device w d ≡ true) × (touches w.runs r d ≡ true)) × (has_effect n g r d ≡ true)
    found = each_found (λ e. (is_device w e ≡ true) × (touches w.runs r e ≡ true)) (has_effect n g r) (devices_of w r) d (own_devices w r) at

    of : (o : Option ℕ) → unwrap_or (option_map (λ x. x == r) o) false ≡ true → o ≡ Some r
    of None h = absurd (cc)
    of (Some x) h = ap (λ y. Some y) (eqb-true x r h)

-- the run may be undone on the device, which is home
may_be_undone : (w : Setting) (n : Reading) (g : Grips) (held : ℕ → ℕ) (r d : ℕ) → IsRead w n → is_live n r ≡ true → is_doomed n r ≡ true → effective_writer_of n g d ≡ Some r → g d ≡ None → MayUndo w.kinds (window_of (point w n g) held) r d
may_be_undone w n g held r d read live doomed effective home = record {
  live = live_uncommitted n r live;
  doomed = doomed;
  effective = writer_on_line w n g d n.line read ∙ effective;
  home = record { free = none_hold w n g held d n.line home; unprobed = ap probe_of home };
}

pub none_out : (g : Grips) (d : ℕ) → is_out g d ≡ false → g d ≡ None
none_out g d in' = at_ (g d) in'
  where
    at_ : (o : Option Grip) → is_some o ≡ false → o ≡ None
    at_ None h = refl
    at_ (Some x) h = absurd (cc)

-- the undo goes out: it drives the value at which the device would stand without the run
pub undo_goes_kept : (w : Setting) (n : Reading) (g : Grips) (held : ℕ → ℕ) (r d : ℕ) → IsRead w n → is_live n r ≡ true → is_doomed n r ≡ true → grip_wait w g r ≡ None → next_undo_of (point w n g) r ≡ Some d → is_out g d ≡ false → n.up d ≡ true → OrderIsKept (point w n g) held
    → OrderIsKept (point w n (put g d (Some (record { maker = r; purpose = Undoes (value_without (point w n g) r d) })))) held
undo_goes_kept w n g held r d read live doomed free next in' up kept = record {
  grips = fits_with w n g d r (Undoes v) undo.device may (λ q e. holds_none w g r kept.grips.homed free) kept.grips;
  window = undo_out w.kinds (window_of (point w n g) held) (window_of (point w n (put g d (Some new))) held) r d (record {
    place = in_place w n n g (put g d (Some new)) held held r cut refl (λ q ne. refl) (λ q e ne. put_keeps (held_by w q) g d (Some new) (held_other w r q (Undoes v) ne ∙ sym (ap (held_by w q) home)) e);
    keeps = record { commands = refl; answers = refl; committed = refl; doomed = refl; undid = λ e ne. refl; grip = λ e ne. ap (held_by w r) (put_other g d (Some new) e ne) };
    may = may_be_undone w n g held r d read live doomed undo.effective home;
    up = up;
    undid = refl;
    out = ap (held_by w r) (put_same g d (Some new)) ∙ held_own w r (Undoes v) ∙ ap (λ x. HeldToUndo x) (sym value);
    still = λ e. record { up = refl; held = refl; probe = put_keeps probe_of g d (Some new) (sym (ap probe_of home)) e };
  }) kept.window;
  history = kept.history;
}
  where
    v : ℕ
    v = value_without (point w n g) r d

    new : Grip
    new = record { maker = r; purpose = Undoes v }

    undo : IsNextUndo w n g r d
    undo = next_undo w n g r d next

    cut : CutAt r n.line
    cut = cut_live w n r read live

    home : g d ≡ None
    home = none_out g d in'

    all : (a b c e : Bool) → a ≡ true → b ≡ true → c ≡ true → e ≡ false → (a && b && c && not e) ≡ true
    all a b c e h k i j = grind (arith, common_steps)

    may : may_undo d (n.run r) ≡ true
    may = all (is_live n r) (is_doomed n r) (has_written n r d) ((n.run r).on d).undid live doomed undo.wrote undo.kept

    value : standing_value_on w.kinds (window_of (point w n g) held).states d (stand_at w.first d).value (cut.front ++ cut.back) ≡ v
    value =
        standing_on_line w n g d (stand_at w.first d).value (cut.front ++ cut.back) read
        ∙ (λ i. unwrap_or (option_map (λ e. e.value) (last_some (write_of n g d) (sym (ap (without r) cut.at ∙ without_cut r cut.front cut.back cut.before cut.behind) i))) (stand_at w.first d).value)

-- a run that is undone on a device keeps all else
pub undone_elsewhere : (w : Setting) (n : Reading) (g h : Grips) (r d : ℕ) (drove : Bool) → ((e : ℕ) → e ≢ d → held_by w r (h e) ≡ held_by w r (g e)) → KeepsElsewhere (run_state (point w n g) r) (run_state (point w (entry w n (Undid (run_no r) (device_no d) drove)) h) r) d
undone_elsewhere w n g h r d drove grips = record {
  commands = refl;
  answers = ap (λ o. o.answers) own;
  committed = ap (λ (o : OfRun). (state_by w h r o).committed) own;
  doomed = ap (λ o. is_some o.doomed) own;
  undid = λ e ne. ap (λ o. (o.on e).undid) own ∙ ap (λ x. x.undid) (put_other (n.run r).on d on_device e ne);
  grip = grips;
}
  where
    on_device : OnDevice
    on_device = record ((n.run r).on d) { undid = true }

    own : (entry w n (Undid (run_no r) (device_no d) drove)).run r ≡ record (n.run r) { on = put (n.run r).on d on_device }
    own = put_same n.run r _

pub undone_there : (w : Setting) (n : Reading) (r d : ℕ) (drove : Bool) → (((entry w n (Undid (run_no r) (device_no d) drove)).run r).on d).undid ≡ true
undone_there w n r d drove = ap (λ o. (o.on d).undid) (put_same n.run r _) ∙ ap (λ x. x.undid) (put_same (n.run r).on d (record ((n.run r).on d) { undid = true }))

-- it stays where it stood among the first accesses and events
pub undone_history : (w : Setting) (n : Reading) (r d : ℕ) (drove : Bool) (e : ℕ) → InHistoryOrder n e → InHistoryOrder (entry w n (Undid (run_no r) (device_no d) drove)) e
undone_history w n r d drove e = same_history n (entry w n (Undid (run_no r) (device_no d) drove)) e (record {
  line = refl;
  view = λ q. put_keeps (λ o. (o.on e).view) n.run r _ (put_keeps (λ x. x.view) (n.run r).on d _ refl e) q;
  late = λ q. put_keeps (λ o. (o.on e).late) n.run r _ (put_keeps (λ x. x.late) (n.run r).on d _ refl e) q;
  doomed = λ q h. sym (put_keeps (λ o. is_some o.doomed) n.run r _ refl q) ∙ h;
}) refl

-- an undo that was out is answered: the device stands at its value
pub undone_kept : (w : Setting) (n : Reading) (g : Grips) (held : ℕ → ℕ) (r d v : ℕ) → IsRead w n → g d ≡ Some (record { maker = r; purpose = Undoes v }) → OrderIsKept (point w n g) held → OrderIsKept (point w (entry w n (Undid (run_no r) (device_no d) true)) (put g d None)) (put held d v)
undone_kept w n g held r d v read at kept = record {
  grips = home_fits w n next g d r (Undoes v) (λ q ne. put_other n.run r _ q ne) (live_run w n r read may.0) at kept.grips;
  window = undo_answered w.kinds (window_of (point w n g) held) (window_of (point w next (put g d None)) (put held d v)) r d v (record {
    place = in_place w n next g (put g d None) held (put held d v) r (cut_live w n r read may.0) refl (λ q ne. put_other n.run r _ q ne) (λ q e ne. put_keeps (held_by w q) g d None (sym (ap (held_by w q) at ∙ held_other w r q (Undoes v) ne)) e);
    keeps = undone_elsewhere w n g (put g d None) r d true (λ e ne. ap (held_by w r) (put_other g d None e ne));
    used = written_touches w n r d read may.1;
    out = ap (held_by w r) at ∙ held_own w r (Undoes v);
    undid = undone_there w n r d true;
    free = ap (held_by w r) (put_same g d None);
    up = refl;
    held = put_same held d v;
    probe = ap probe_of (put_same g d None) ∙ sym (ap probe_of at);
    still = λ e ne. record { up = refl; held = put_other held d v e ne; probe = ap probe_of (put_other g d None e ne) };
  }) kept.window;
  history = λ e. undone_history w n r d true e (kept.history e);
}
  where
    next : Reading
    next = entry w n (Undid (run_no r) (device_no d) true)

    parts : (a b c e : Bool) → (a && b && c && e) ≡ true → (a ≡ true) × (c ≡ true)
    parts a b c e h = (grind (arith, common_steps), grind (arith, common_steps))

    may : (is_live n r ≡ true) × (has_written n r d ≡ true)
    may = parts (is_live n r) (is_doomed n r) (has_written n r d) (not ((n.run r).on d).undid) (kept.grips.runs.undos d r v at)

-- the undo on a device that is counted down is dropped
pub dropped_kept : (w : Setting) (n : Reading) (g : Grips) (held : ℕ → ℕ) (r d : ℕ) → IsRead w n → is_live n r ≡ true → is_doomed n r ≡ true → grip_wait w g r ≡ None → next_undo_of (point w n g) r ≡ Some d → is_out g d ≡ false → n.up d ≡ false → OrderIsKept (point w n g) held
    → OrderIsKept (point w (entry w n (Undid (run_no r) (device_no d) false)) g) held
dropped_kept w n g held r d read live doomed free next_is in' down kept = record {
  grips = fits_other w n next g r (λ q ne. put_other n.run r _ q ne) (holds_none w g r kept.grips.homed free) kept.grips;
  window = undo_dropped w.kinds (window_of (point w n g) held) (window_of (point w next g) held) r d (record {
    place = in_place w n next g g held held r (cut_live w n r read live) refl (λ q ne. put_other n.run r _ q ne) (λ q e ne. refl);
    keeps = undone_elsewhere w n g g r d false (λ e ne. refl);
    may = may_be_undone w n g held r d read live doomed (next_undo w n g r d next_is).effective (none_out g d in');
    down = down;
    undid = undone_there w n r d false;
    grip = refl;
    still = λ e. record { up = refl; held = refl; probe = refl };
  }) kept.window;
  history = λ e. undone_history w n r d false e (kept.history e);
}
  where
    next : Reading
    next = entry w n (Undid (run_no r) (device_no d) false)

-- A doomed run leaves

-- what no value of the list passes that passes another test
none_of_both : (p q : ℕ → Bool) (xs : List ℕ) → find p (filter q xs) ≡ None → find (λ x. q x && p x) xs ≡ None
none_of_both p q [] none = refl
none_of_both p q (x ∷ xs) none = at_ (none_of_both p q xs) (q x) (p x) refl none
  where
    first : (b : Bool) → b ≡ p x → cond b (Some x) (find p (filter q xs)) ≡ None → (p x ≡ false) × (find p (filter q xs) ≡ None)
    first true e h = absurd (cc)
    first false e h = (sym e, h)

    at_ : (find p (filter q xs) ≡ None → find (λ y. q y && p y) xs ≡ None) → (a b : Bool) → p x ≡ b → find p (cond a (x ∷ filter q xs) (filter q xs)) ≡ None → cond (a && p x) (Some x) (find (λ y. q y && p y) xs) ≡ None
    at_ ih true b e h = let parts = first (p x) refl h in ap (λ c. cond c (Some x) (find (λ y. q y && p y) xs)) parts.0 ∙ ih parts.1
    at_ ih false b e h = ih h

-- a run that has no undo left has the effective write on none of its devices
no_effect : (w : Setting) (n : Reading) (g : Grips) (held : ℕ → ℕ) (r d : ℕ) → IsRead w n → OrderIsKept (point w n g) held → next_undo_of (point w n g) r ≡ None → touches w.runs r d ≡ true → last_in_effect w.kinds (window_of (point w n g) held).states d None n.line ≢ Some r
no_effect w n g held r d read kept none used writer =
    clash (touches w.runs r d) (has_effect n g r d) used effect
    (none_in (λ e. touches w.runs r e && has_effect n g r e) 0 (length w.first) d (none_of_both (has_effect n g r) (touches w.runs r) (device_numbers w) none)
    (omega arith) (below (uses_homed (length w.first) d (commands_of w.runs r) (kept.window.runs r).homed used)))
  where
    below : d < length w.first → d < 0 + length w.first
    below h = omega (arith, h)

    effect : has_effect n g r d ≡ true
    effect = ap (λ o. unwrap_or (option_map (λ x. x == r) o) false) (sym (writer_on_line w n g d n.line read) ∙ writer) ∙ eq-eqb r r refl

    clash : (a b : Bool) → a ≡ true → b ≡ true → (a && b) ≡ false → ⊥
    clash a b h k e = grind (arith, common_steps)

-- a doomed run that has nothing left to undo is aborted
pub aborts_kept : (w : Setting) (n : Reading) (g : Grips) (held : ℕ → ℕ) (r : ℕ) (cause : Cause) → IsRead w n → may_follow w n (Ended (run_no r) (Aborted cause)) ≡ true → grip_wait w g r ≡ None → next_undo_of (point w n g) r ≡ None → OrderIsKept (point w n g) held
    → OrderIsKept (point w (entry w n (Ended (run_no r) (Aborted cause))) g) held
aborts_kept w n g held r cause read may free none kept = record {
  grips = fits_other w n next g r (λ q ne. put_other n.run r new q ne) holds kept.grips;
  window = run_leaves_line w.kinds (window_of (point w n g) held) (window_of (point w next g) held) r (record {
    front = cut.front;
    back = cut.back;
    at = cut.at;
    line = ap (without r) cut.at ∙ without_cut r cut.front cut.back cut.before cut.behind;
    states = λ q. put_keeps (state_by w g q) n.run r new (same q) q;
    runs = refl;
    first = refl;
    live = live_uncommitted n r live;
    doomed = caused (n.run r).doomed cause by_cause;
    free = λ d used. held_none w g r d holds;
    undone = λ d used. no_effect w n g held r d read kept none used;
    still = λ d. record { up = refl; held = refl; probe = refl };
  }) kept.window;
  history = λ d. left_history n next d r (record {
    line = refl;
    log = refl;
    view = λ q. put_keeps (λ o. (o.on d).view) n.run r new refl q;
    late = λ q. put_keeps (λ o. (o.on d).late) n.run r new refl q;
    doomed = λ q h. sym (put_keeps (λ o. is_some o.doomed) n.run r new refl q) ∙ h;
    no_event = read.logged.events r d;
  }) (kept.history d);
}
  where
    next : Reading
    next = entry w n (Ended (run_no r) (Aborted cause))

    new : OfRun
    new = record (n.run r) { ended = Some (Aborted cause) }

    live : is_live n r ≡ true
    live = grind (arith, common_steps)

    by_cause : is_cause_of n r cause ≡ true
    by_cause = grind (arith, common_steps)

    caused : (o : Option Cause) (c : Cause) → unwrap_or (option_map (same_cause c) o) false ≡ true → is_some o ≡ true
    caused None c h = absurd (cc)
    caused (Some x) c h = refl

    holds : HoldsNone g r
    holds = holds_none w g r kept.grips.homed free

    cut : CutAt r n.line
    cut = cut_live w n r read live

    same : (q : ℕ) → state_by w g q new ≡ state_by w g q (n.run r)
    same q = λ i. record (state_by w g q (n.run r)) { committed = sym (live_uncommitted n r live) i }
