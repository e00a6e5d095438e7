-- Each kind of change keeps the order of a window.
use Rattle.window_order.proofs.Prelude.{Answer, AreHomed, Arrived, Bool, Cause, ChangesInPlace, Command, Commands, Committed, CutAt, Did, Ended, Fine, Found, GetsAnswer, Grip, Grips, GripsFit, IsClear, IsShaped, Lacks, List, None, OfRun, OnDevice, Option, OrderIsKept, Placed, PlacedAt, Planned, Probes, Purpose, Reading, Reads, Setting, Some, Undoes, WindowInvariant, Writes, [], aborted, answered, ap, arith, asks_guard, asks_next, asks_on, awaits_first, behind_wait, command_at, command_grip, command_out, commands_of, common_steps, cond, count_by, device_summary, did, dirty_wait, driven, drop, entry, fails, false, find, grip_wait, has_effect, held_by, holds, holds_command, if◌then◌else◌, is_calm_line, is_committed, is_committing, is_device, is_doomed, is_live, is_none, is_on, is_out, is_ran, is_run, is_seen_down, is_some, kind_at, length, live_before, may_follow, nat_lt, next_command, next_of, next_used, no_command, no_grips, not, nothing_read, option_map, point, probe_of, put, put_keeps, put_other, put_same, read_answered, reads, refl, register_after, rest, run_commits, run_no, run_placed, run_state, sees_down, slice_get, slice_index_or, some_is, split_at, stage_is_open, stage_of, stand_at, subst, suc, sym, take, take-append-drop, touches, true, unwrap_or, usage, uses_device, view_of, window_begins, window_of, with_placed, write_answered, zero, ℕ, ◌&&◌, ◌++◌, ◌+◌, ◌<◌, ◌==◌, ◌||◌, ◌∙◌, ◌∷◌, ◌≡◌, ◌≢◌}
use Rattle.window_order.proofs.ClearLines.{calm_place}
use Rattle.window_order.proofs.Firsts.{IsNewest, calm_behind, did_history, seen_view, unseen_behind}
use Rattle.window_order.proofs.Goes.{clean_before, none_before, none_hold, open_behind, view_up}
use Rattle.window_order.proofs.Grips.{HoldsNone, fits_other, fits_same, fits_with, fits_without, held_none, held_other, held_own, holds_none, in_place, may_command, may_undo, none_left}
use Rattle.window_order.proofs.HistoryOrder.{placed_history, same_history}
use Rattle.window_order.proofs.ReadFacts.{IsRead, rest_drop, rest_next}
use Rattle.window_order.proofs.Runs.{cut_live, four, lacks_parts, live_run, live_uncommitted, run_positive, state_by, three, uses_homed}

-- The start

homed_commands : (n : ℕ) (cs : List Command) → ((k : ℕ) (c : Command) → slice_get cs k ≡ Some c → nat_lt c.device.0 n ≡ true) → AreHomed n cs
unfolding AreHomed
homed_commands n [] homed = tt
homed_commands n (c ∷ cs) homed = (below c.device.0 n (homed 0 c refl), homed_commands n cs (λ k x at. homed (suc k) x at))
  where
    below : (d n : ℕ) → nat_lt d n ≡ true → d < n
    below d n h = grind (arith, common_steps)

pub starts_kept : (w : Setting) → ((r k : ℕ) (c : Command) → slice_get (commands_of w.runs r) k ≡ Some c → is_device w c.device.0 ≡ true) → OrderIsKept (point w (nothing_read w) no_grips) (λ d. (stand_at w.first d).value)
starts_kept w homed = record {
  grips = record {
    homed = λ d out. absurd (cc);
    runs = record { commands = λ d r k at. absurd (cc); undos = λ d r v at. absurd (cc); one = λ d e r p q at at'. absurd (cc) };
    probes = λ d r v at. absurd (cc);
  };
  window = window_begins w.kinds (window_of (point w (nothing_read w) no_grips) (λ d. (stand_at w.first d).value)) (record {
    line = refl;
    new = λ r. record { answers = refl; committed = refl; doomed = refl; undid = λ d. refl; grip = λ d. refl };
    commands = λ r. refl;
    homed = λ r. homed_commands (length w.first) (commands_of w.runs r) (homed r);
    up = λ d. refl;
    held = λ d. refl;
    probe = λ d. refl;
  });
  history = λ d. record { runs = refl; events = refl; spans = λ r facts. refl };
}

-- A run arrives

pub arrives_kept : (w : Setting) (n : Reading) (g : Grips) (held : ℕ → ℕ) (r m : ℕ) → IsRead w n → may_follow w n (Arrived (run_no r) m) ≡ true → OrderIsKept (point w n g) held → OrderIsKept (point w (entry w n (Arrived (run_no r) m)) g) held
arrives_kept w n g held r m read may kept = record {
  grips = fits_same w n (entry w n (Arrived (run_no r) m)) g (λ q d k. put_keeps (may_command w q d k) n.run r new refl q) (λ q d. put_keeps (may_undo d) n.run r new refl q) kept.grips;
  window = subst (WindowInvariant w.kinds) (λ i. record {
    runs = w.runs;
    first = w.first;
    line = n.line;
    states = λ q. sym (put_keeps (state_by w g q) n.run r new refl q) i;
    up = n.up;
    held = held;
    probe = λ d. (window_of (point w n g) held).probe d;
  }) kept.window;
  history = λ d. same_history n (entry w n (Arrived (run_no r) m)) d (record {
    line = refl;
    view = λ q. put_keeps (λ o. (o.on d).view) n.run r new refl q;
    late = λ q. put_keeps (λ o. (o.on d).late) n.run r new refl q;
    doomed = λ q h. sym (put_keeps (λ o. is_some o.doomed) n.run r new refl q) ∙ h;
  }) refl (kept.history d);
}
  where
    new : OfRun
    new = record (n.run r) { arrived = Some m }

-- A run is placed

pub unplaced_holds : (w : Setting) (n : Reading) (g : Grips) (r : ℕ) → is_run w.runs r ≡ true → is_live n r ≡ false → GripsFit (point w n g) → HoldsNone g r
unplaced_holds w n g r run dead f d (Commands k) at = clash (is_live n r) dead (three (is_live n r) (asks_on w n r d) (k == next_of n r) (f.runs.commands d r k at)).0
  where
    clash : (b : Bool) → b ≡ false → b ≡ true → ⊥
    clash b h k = grind (arith, common_steps)
unplaced_holds w n g r run dead f d (Undoes v) at = clash (is_live n r) dead (four (is_live n r) (is_doomed n r) (is_some ((n.run r).on d).wrote) (not ((n.run r).on d).undid) (f.runs.undos d r v at))
  where
    clash : (b : Bool) → b ≡ false → b ≡ true → ⊥
    clash b h k = grind (arith, common_steps)
unplaced_holds w n g r run dead f d (Probes v) at = clash (run_positive w r run) (f.probes d r v at)
  where
    clash : (p : ℕ) × (r ≡ suc p) → r ≡ 0 → ⊥
    clash p zero' = positive p.0 (sym p.1 ∙ zero')
      where
        positive : (p : ℕ) → suc p ≡ 0 → ⊥
        positive p h = omega (arith, h)

-- placed with no touch and no event of its devices behind it, it leaves the order
pub placed_at_kept : (w : Setting) (n : Reading) (g : Grips) (held : ℕ → ℕ) (r at m : ℕ) (planned : List Planned) → IsRead w n → may_follow w n (Placed (run_no r) at m) ≡ true
    → ((d : ℕ) → touches w.runs r d ≡ true → is_calm_line w.kinds (window_of (point w n g) held).states d (drop at n.line) ≡ true) → OrderIsKept (point w n g) held → OrderIsKept (point w (with_placed n (run_no r) at m planned (split_at n.line at)) g) held
placed_at_kept w n g held r at m planned read may calm kept = record {
  grips = fits_other w n next g r (λ q ne. put_other n.run r new q ne) holds kept.grips;
  window = run_placed w.kinds (window_of (point w n g) held) (window_of (point w next g) held) r (record {
    front = take at n.line;
    back = drop at n.line;
    at = sym (take-append-drop at n.line);
    line = refl;
    before = lacks.0;
    behind = lacks.1;
    runs = refl;
    first = refl;
    others = λ q ne. ap (state_by w g q) (put_other n.run r new q ne);
    commands = refl;
    new = record {
      answers = ap (λ o. o.answers) own ∙ shape.unanswered none;
      committed = ap (λ o. unwrap_or (option_map is_committing o.ended) false) own ∙ ap (λ e. unwrap_or (option_map is_committing e) false) (shape.going none);
      doomed = ap (λ o. is_some o.doomed) own ∙ ap is_some (shape.sound none);
      undid = λ d. ap (λ o. (o.on d).undid) own ∙ ap (λ x. x.undid) (shape.clear none d);
      grip = λ d. held_none w g r d holds;
    };
    calm = calm;
    still = λ d. record { up = refl; held = refl; probe = refl };
  }) kept.window;
  history = λ d. placed_history n next d r (take at n.line) (drop at n.line) (record {
    was = sym (take-append-drop at n.line);
    line = refl;
    log = refl;
    view = λ q. put_keeps (λ o. (o.on d).view) n.run r new refl q;
    late = λ q. put_keeps (λ o. (o.on d).late) n.run r new refl q;
    doomed = λ q h. sym (put_keeps (λ o. is_some o.doomed) n.run r new refl q) ∙ h;
    none = unseen d;
    unlogged = read.logged.firsts r d ∙ unseen d;
  }) (kept.history d);
}
  where
    next : Reading
    next = with_placed n (run_no r) at m planned (split_at n.line at)

    new : OfRun
    new = record (n.run r) { placed = Some (record { place = at; moment = m; stamp = n.size }); planned = planned }

    own : next.run r ≡ new
    own = put_same n.run r new

    shape : IsShaped w r (n.run r)
    shape = read.shaped r

    none : is_none (n.run r).placed ≡ true
    none = grind (arith, common_steps)

    run : is_run w.runs r ≡ true
    run = grind (arith, common_steps)

    unplaced : (p : Option PlacedAt) (b : Bool) → is_none p ≡ true → (is_some p && b) ≡ false
    unplaced None b h = refl
    unplaced (Some x) b h = absurd (cc)

    unseen : (d : ℕ) → did n r d ≡ false
    unseen d = ap (λ x. is_some x.view) (shape.clear none d)

    holds : HoldsNone g r
    holds = unplaced_holds w n g r run (unplaced (n.run r).placed (is_none (n.run r).ended) none) kept.grips

    lacks : Lacks r (take at n.line) × Lacks r (drop at n.line)
    lacks = lacks_parts r (take at n.line) (drop at n.line) (ap (count_by (is_ran r)) (take-append-drop at n.line) ∙ read.once r ∙ ap (λ b. cond b 1 0) (unplaced (n.run r).placed (not (aborted (n.run r))) none))

-- .. as it does where the place is clear
pub placed_kept : (w : Setting) (n : Reading) (g : Grips) (held : ℕ → ℕ) (r at m : ℕ) (planned : List Planned) → IsRead w n
    → may_follow w n (Placed (run_no r) at m) ≡ true → IsClear (point w n g) r at → OrderIsKept (point w n g) held
    → OrderIsKept (point w (with_placed n (run_no r) at m planned (split_at n.line at)) g) held
placed_kept w n g held r at m planned read may clear kept = placed_at_kept w n g held r at m planned read may (λ d used. calm_place w n g held r at d read clear (home d (uses_homed (length w.first) d (commands_of w.runs r) (kept.window.runs r).homed used)) used) kept
  where
    home : (d : ℕ) → d < length w.first → is_device w d ≡ true
    home d below = grind (arith, common_steps)

-- A run commits

pub commits_kept : (w : Setting) (n : Reading) (g : Grips) (held : ℕ → ℕ) (r : ℕ) → IsRead w n → may_follow w n (Ended (run_no r) Committed) ≡ true → grip_wait w g r ≡ None → OrderIsKept (point w n g) held → OrderIsKept (point w (entry w n (Ended (run_no r) Committed)) g) held
commits_kept w n g held r read may free kept = record {
  grips = fits_other w n next g r (λ q ne. put_other n.run r new q ne) (holds_none w g r kept.grips.homed free) kept.grips;
  window = run_commits w.kinds (window_of (point w n g) held) (window_of (point w next g) held) r (record {
    place = in_place w n next g g held held r (cut_live w n r read live) refl (λ q ne. put_other n.run r new q ne) (λ q e ne. refl);
    keeps = record { commands = refl; answers = ap (λ o. o.answers) own; undid = λ d. ap (λ o. (o.on d).undid) own; grip = λ d. refl };
    live = live_uncommitted n r live;
    counts = unsound (n.run r).doomed sound;
    done = rest_drop (commands_of w.runs r) (n.run r).answers ∙ ap (λ k. drop k (commands_of w.runs r)) all ∙ drop_all_commands (commands_of w.runs r);
    committed = ap (λ o. unwrap_or (option_map is_committing o.ended) false) own;
    doomed = ap (λ o. is_some o.doomed) own ∙ unsound (n.run r).doomed sound;
    still = λ d. record { up = refl; held = refl; probe = refl };
  }) kept.window;
  history = λ d. same_history n next d (record {
    line = refl;
    view = λ q. put_keeps (λ o. (o.on d).view) n.run r new refl q;
    late = λ q. put_keeps (λ o. (o.on d).late) n.run r new refl q;
    doomed = λ q h. sym (put_keeps (λ o. is_some o.doomed) n.run r new refl q) ∙ h;
  }) refl (kept.history d);
}
  where
    next : Reading
    next = entry w n (Ended (run_no r) Committed)

    new : OfRun
    new = record (n.run r) { ended = Some Committed }

    own : next.run r ≡ new
    own = put_same n.run r new

    live : is_live n r ≡ true
    live = grind (arith, common_steps)

    sound : not (is_doomed n r) ≡ true
    sound = grind (arith, common_steps)

    all : next_of n r ≡ length (commands_of w.runs r)
    all = grind (arith, common_steps)

    unsound : (c : Option Cause) → not (is_some c) ≡ true → is_some c ≡ false
    unsound None h = refl
    unsound (Some x) h = absurd (cc)

    drop_all_commands : (xs : List Command) → drop (length xs) xs ≡ []
    drop_all_commands [] = refl
    drop_all_commands (x ∷ xs) = drop_all_commands xs

-- A command that was out is answered

-- what is known of a command that is out
pub record IsOut (w : Setting) (n : Reading) (d r k : ℕ) : Type 0 where
  pub live : is_live n r ≡ true
  pub number : k ≡ next_of n r
  pub more : length (n.run r).answers < length (commands_of w.runs r)
  pub device : d ≡ (command_at w.runs r k).device.0
  pub guard : holds (command_at w.runs r k).when (n.run r).register ≡ true

next_at : (d : ℕ) (cs : List Command) (k : ℕ) → unwrap_or (option_map (is_on d) (slice_get cs k)) false ≡ true → (k < length cs) × (d ≡ (slice_index_or cs k no_command).device.0)
next_at d [] k h = absurd (cc)
next_at d (c ∷ cs) zero h = (omega arith, same c.device.0 d h)
  where
    same : (x y : ℕ) → (x == y) ≡ true → y ≡ x
    same x y h = grind (arith, common_steps)
next_at d (c ∷ cs) (suc k) h = let rest = next_at d cs k h in (omega (arith, rest.0), rest.1)

pub out_is : (w : Setting) (n : Reading) (g : Grips) (d r k : ℕ) → GripsFit (point w n g) → g d ≡ Some (record { maker = r; purpose = Commands k }) → IsOut w n d r k
out_is w n g d r k f at = record { live = parts.0; number = number; more = next.0; device = next.1 ∙ ap (λ x. (command_at w.runs r x).device.0) (sym number); guard = ap (λ x. holds (command_at w.runs r x).when (n.run r).register) number ∙ asks_guard w n r d parts.1 }
  where
    parts : (is_live n r ≡ true) × (asks_on w n r d ≡ true) × ((k == next_of n r) ≡ true)
    parts = three (is_live n r) (asks_on w n r d) (k == next_of n r) (f.runs.commands d r k at)

    same : (x y : ℕ) → (x == y) ≡ true → x ≡ y
    same x y h = grind (arith, common_steps)

    number : k ≡ next_of n r
    number = same k (next_of n r) parts.2

    next : (next_of n r < length (commands_of w.runs r)) × (d ≡ (command_at w.runs r (next_of n r)).device.0)
    next = next_at d (commands_of w.runs r) (next_of n r) (asks_next w n r d parts.1)

-- the run's next command, and those behind it
next_rest : (w : Setting) (n : Reading) (g : Grips) (r k : ℕ) → k ≡ next_of n r → length (n.run r).answers < length (commands_of w.runs r) → rest (run_state (point w n g) r) ≡ command_at w.runs r k ∷ drop (next_of n r + 1) (commands_of w.runs r)
next_rest w n g r k number more = rest_next (commands_of w.runs r) (n.run r).answers more ∙ ap (λ x. command_at w.runs r x ∷ drop (next_of n r + 1) (commands_of w.runs r)) (sym number)

-- the run gets an answer and its grip comes home: it is doomed where it was
pub gets_answer : (w : Setting) (n : Reading) (g : Grips) (r k : ℕ) (a : Answer) → k ≡ next_of n r → length (n.run r).answers < length (commands_of w.runs r)
    → GetsAnswer (run_state (point w n g) r) (run_state (point w (entry w n (Did (run_no r) k a)) (put g (command_at w.runs r k).device.0 None)) r) (command_at w.runs r k) (drop (next_of n r + 1) (commands_of w.runs r)) a (is_doomed n r)
gets_answer w n g r k a number more = record {
  next = next_rest w n g r k number more;
  commands = refl;
  answers = ap (λ o. o.answers) own;
  committed = ap (λ o. unwrap_or (option_map is_committing o.ended) false) own;
  doomed = ap (λ o. is_some o.doomed) own ∙ or_self (is_some old.doomed);
  undid = λ e. ap (λ o. (o.on e).undid) own ∙ put_keeps (λ x. x.undid) old.on d on_device refl e;
  grip = λ e ne. ap (held_by w r) (put_other g d None e ne);
  free = ap (held_by w r) (put_same g d None);
}
  where
    c : Command
    c = command_at w.runs r k

    d : ℕ
    d = c.device.0

    old : OfRun
    old = n.run r

    on_device : OnDevice
    on_device = answered (kind_at w.kinds d) c (is_some old.doomed) old.register a (old.on d)

    new : OfRun
    new = record old { answers = old.answers ++ a ∷ []; register = register_after c.job a old.register; answered_doomed = old.answered_doomed || is_some old.doomed; on = put old.on d on_device }

    own : (entry w n (Did (run_no r) k a)).run r ≡ new
    own = put_same n.run r new

    or_self : (b : Bool) → b ≡ (b || b)
    or_self true = refl
    or_self false = refl

-- .. in its place
pub answered_place : (w : Setting) (n : Reading) (g : Grips) (held after : ℕ → ℕ) (d r k : ℕ) (a : Answer) (p : Purpose) → CutAt r n.line
    → g d ≡ Some (record { maker = r; purpose = p })
    → ChangesInPlace (window_of (point w n g) held) (window_of (point w (entry w n (Did (run_no r) k a)) (put g d None)) after) r
answered_place w n g held after d r k a p cut at =
    in_place w n (entry w n (Did (run_no r) k a)) g (put g d None) held after r cut refl (λ q ne. put_other n.run r _ q ne) (λ q e ne. put_keeps (held_by w q) g d None (sym (ap (held_by w q) at ∙ held_other w r q p ne)) e)

-- a grip of a run comes home, and no other run changes
pub home_fits : (w : Setting) (n m : Reading) (g : Grips) (d r : ℕ) (p : Purpose) → ((q : ℕ) → q ≢ r → m.run q ≡ n.run q) → is_run w.runs r ≡ true → g d ≡ Some (record { maker = r; purpose = p }) → GripsFit (point w n g) → GripsFit (point w m (put g d None))
home_fits w n m g d r p others run at f = fits_other w n m (put g d None) r others none (fits_without w n g d f)
  where
    none : HoldsNone (put g d None) r
    none = let is = run_positive w r run in subst (HoldsNone (put g d None)) (sym is.1) (none_left w n g d is.0 p (at ∙ ap (λ x. Some (record { maker = x; purpose = p })) is.1) f)

-- nothing behind the run has happened on the device of its command that is out
pub out_newest : (w : Setting) (n : Reading) (g : Grips) (held : ℕ → ℕ) (d r k : ℕ) (cut : CutAt r n.line) → IsRead w n → OrderIsKept (point w n g) held → g d ≡ Some (record { maker = r; purpose = Commands k }) → IsOut w n d r k → IsNewest n d r cut.back
out_newest w n g held d r k cut read kept at out = record { unseen = λ none. unseen_behind w n g held d r cut read kept device used command; calm = λ none sound. calm_behind w n g held d r cut read kept device used (awaits none sound) }
  where
    c : Command
    c = command_at w.runs r k

    device : is_device w d ≡ true
    device = kept.grips.homed d (ap is_some at)

    left : rest (run_state (point w n g) r) ≡ c ∷ drop (next_of n r + 1) (commands_of w.runs r)
    left = next_rest w n g r k out.number out.more

    used : touches w.runs r d ≡ true
    used = subst (λ x. touches w.runs r x ≡ true) (sym out.device) (next_used (run_state (point w n g) r) c (drop (next_of n r + 1) (commands_of w.runs r)) left)

    reading_grip : (b : Bool) → holds_command (if b then Reads else Writes) ≡ true
    reading_grip true = refl
    reading_grip false = refl

    command : holds_command (held_by w r (g d)) ≡ true
    command = ap holds_command (ap (held_by w r) at ∙ held_own w r (Commands k)) ∙ reading_grip (reads c.job)

    pending : uses_device d (rest (run_state (point w n g) r)) ≡ true
    pending = ap (uses_device d) left ∙ self d c.device.0 (uses_device d (drop (next_of n r + 1) (commands_of w.runs r))) out.device
      where
        self : (x y : ℕ) (b : Bool) → x ≡ y → ((y == x) || b) ≡ true
        self x y b h = grind (arith, common_steps)

    open_first : (x y z v : Bool) → x ≡ false → y ≡ false → z ≡ true → v ≡ false → (stage_is_open (stage_of x y z) && not v) ≡ true
    open_first x y z v h k e f = grind (arith, common_steps)

    awaits : did n r d ≡ false → is_doomed n r ≡ false → awaits_first (usage w.kinds (run_state (point w n g) r) d) ≡ true
    awaits none sound =
        open_first (is_committed n r) (is_doomed n r) (uses_device d (rest (run_state (point w n g) r)))
        (is_some (device_summary w.kinds (run_state (point w n g) r) d).view) (live_uncommitted n r out.live) sound pending
        (ap is_some ((read.summarized r).view d) ∙ seen_view (view_of n r d) ∙ none)

wrote_at : (w : Setting) (n : Reading) (g : Grips) (held : ℕ → ℕ) (r k : ℕ) → IsRead w n
    → g (command_at w.runs r k).device.0 ≡ Some (record { maker = r; purpose = Commands k }) → reads (command_at w.runs r k).job ≡ false
    → IsOut w n (command_at w.runs r k).device.0 r k → OrderIsKept (point w n g) held
    → OrderIsKept (point w (entry w n (Did (run_no r) k Fine)) (put g (command_at w.runs r k).device.0 None)) (put held (command_at w.runs r k).device.0 (driven (kind_at w.kinds (command_at w.runs r k).device.0) (command_at w.runs r k).job (n.run r).register))
wrote_at w n g held r k read at writes out kept = record {
  grips = home_fits w n (entry w n (Did (run_no r) k Fine)) g d r (Commands k) (λ q ne. put_other n.run r _ q ne) (live_run w n r read out.live) at kept.grips;
  window = write_answered w.kinds (window_of (point w n g) held) (window_of (point w (entry w n (Did (run_no r) k Fine)) (put g d None)) (put held d v)) r c (drop (next_of n r + 1) (commands_of w.runs r)) (is_doomed n r) (record {
    place = answered_place w n g held (put held d v) d r k Fine (Commands k) cut at;
    answer = gets_answer w n g r k Fine out.number out.more;
    guard = ap (holds c.when) (read.summarized r).register ∙ out.guard;
    live = live_uncommitted n r out.live;
    out = ap (held_by w r) at ∙ held_own w r (Commands k) ∙ ap (λ b. if b then Reads else Writes) writes;
    job = writes;
    up = refl;
    held = put_same held d v ∙ sym (ap (driven (kind_at w.kinds d) c.job) (read.summarized r).register);
    probe = ap probe_of (put_same g d None) ∙ sym (ap probe_of at);
    still = λ e ne. record { up = refl; held = put_other held d v e ne; probe = ap probe_of (put_other g d None e ne) };
  }) kept.window;
  history = λ e. did_history w n r k Fine cut refl read (out_newest w n g held d r k cut read kept at out) e (kept.history e);
}
  where
    c : Command
    c = command_at w.runs r k

    d : ℕ
    d = c.device.0

    v : ℕ
    v = driven (kind_at w.kinds d) c.job (n.run r).register

    cut : CutAt r n.line
    cut = cut_live w n r read out.live

pub wrote_kept : (w : Setting) (n : Reading) (g : Grips) (held : ℕ → ℕ) (d r k : ℕ) → IsRead w n → g d ≡ Some (record { maker = r; purpose = Commands k }) → reads (command_at w.runs r k).job ≡ false → OrderIsKept (point w n g) held
    → OrderIsKept (point w (entry w n (Did (run_no r) k Fine)) (put g d None)) (put held d (driven (kind_at w.kinds d) (command_at w.runs r k).job (n.run r).register))
wrote_kept w n g held d r k read at writes kept =
    let out = out_is w n g d r k kept.grips at in
    subst (λ x. OrderIsKept (point w (entry w n (Did (run_no r) k Fine)) (put g x None)) (put held x (driven (kind_at w.kinds x) (command_at w.runs r k).job (n.run r).register))) (sym out.device)
    (wrote_at w n g held r k read (subst (λ x. g x ≡ Some (record { maker = r; purpose = Commands k })) out.device at) writes (subst (λ x. IsOut w n x r k) out.device out) kept)

found_at : (w : Setting) (n : Reading) (g : Grips) (held : ℕ → ℕ) (r k : ℕ) → IsRead w n → g (command_at w.runs r k).device.0 ≡ Some (record { maker = r; purpose = Commands k }) → reads (command_at w.runs r k).job ≡ true
    → (fails (command_at w.runs r k) (Found (held (command_at w.runs r k).device.0)) ≡ true → is_doomed n r ≡ true) → IsOut w n (command_at w.runs r k).device.0 r k → OrderIsKept (point w n g) held
    → OrderIsKept (point w (entry w n (Did (run_no r) k (Found (held (command_at w.runs r k).device.0)))) (put g (command_at w.runs r k).device.0 None)) held
found_at w n g held r k read at reading passes out kept = record {
  grips = home_fits w n (entry w n (Did (run_no r) k (Found x))) g d r (Commands k) (λ q ne. put_other n.run r _ q ne) (live_run w n r read out.live) at kept.grips;
  window = read_answered w.kinds (window_of (point w n g) held) (window_of (point w (entry w n (Did (run_no r) k (Found x))) (put g d None)) held) r c (drop (next_of n r + 1) (commands_of w.runs r)) x (is_doomed n r) (record {
    place = answered_place w n g held held d r k (Found x) (Commands k) cut at;
    answer = gets_answer w n g r k (Found x) out.number out.more;
    guard = ap (holds c.when) (read.summarized r).register ∙ out.guard;
    live = live_uncommitted n r out.live;
    out = ap (held_by w r) at ∙ held_own w r (Commands k) ∙ ap (λ b. if b then Reads else Writes) reading;
    job = reading;
    refutes = passes;
    found = refl;
    still = λ e. record { up = refl; held = refl; probe = put_keeps probe_of g d None (sym (ap probe_of at)) e };
  }) kept.window;
  history = λ e. did_history w n r k (Found x) cut refl read (out_newest w n g held d r k cut read kept at out) e (kept.history e);
}
  where
    c : Command
    c = command_at w.runs r k

    d : ℕ
    d = c.device.0

    x : ℕ
    x = held d

    cut : CutAt r n.line
    cut = cut_live w n r read out.live

-- a read is answered with the value at which its device stands, and where it fails its run is doomed already
pub found_kept : (w : Setting) (n : Reading) (g : Grips) (held : ℕ → ℕ) (d r k : ℕ) → IsRead w n → g d ≡ Some (record { maker = r; purpose = Commands k })
    → reads (command_at w.runs r k).job ≡ true → (fails (command_at w.runs r k) (Found (held d)) ≡ true → is_doomed n r ≡ true) → OrderIsKept (point w n g) held
    → OrderIsKept (point w (entry w n (Did (run_no r) k (Found (held d)))) (put g d None)) held
found_kept w n g held d r k read at reading passes kept =
    let out = out_is w n g d r k kept.grips at in
    subst (λ y. OrderIsKept (point w (entry w n (Did (run_no r) k (Found (held y)))) (put g y None)) held) (sym out.device)
    (found_at w n g held r k read (subst (λ y. g y ≡ Some (record { maker = r; purpose = Commands k })) out.device at) reading (subst (λ y. fails (command_at w.runs r k) (Found (held y)) ≡ true → is_doomed n r ≡ true) out.device passes) (subst (λ y. IsOut w n y r k) out.device out) kept)

-- A command goes out

pub next_is : (cs : List Command) (k : ℕ) (c : Command) → slice_get cs k ≡ Some c → (k < length cs) × (slice_index_or cs k no_command ≡ c)
next_is [] k c at = absurd (cc)
next_is (x ∷ cs) zero c at = (omega arith, some_is x c at)
next_is (x ∷ cs) (suc k) c at = let rest = next_is cs k c at in (omega (arith, rest.0), rest.1)

pub goes_kept : (w : Setting) (n : Reading) (g : Grips) (held : ℕ → ℕ) (r : ℕ) (c : Command) → IsRead w n → is_run w.runs r ≡ true → is_live n r ≡ true → (n.run r).doomed ≡ None → grip_wait w g r ≡ None → next_command w n r ≡ Some c → holds c.when (n.run r).register ≡ true
    → behind_wait (point w n g) r c.device.0 ≡ None → dirty_wait (point w n g) r c ≡ None → is_out g c.device.0 ≡ false → sees_down n r c.device.0 ≡ false → n.up c.device.0 ≡ true → is_device w c.device.0 ≡ true → OrderIsKept (point w n g) held
    → OrderIsKept (point w n (put g c.device.0 (Some (record { maker = r; purpose = Commands (next_of n r) })))) held
goes_kept w n g held r c read run live sound free next guard behind dirty in' sees up device kept = record {
  grips = fits_with w n g d r (Commands k) device may (λ q e. holds_none w g r kept.grips.homed free) kept.grips;
  window = command_out w.kinds (window_of (point w n g) held) (window_of (point w n (put g d (Some new))) held) r c later (record {
    place = in_place w n n g (put g d (Some new)) held held r cut refl (λ q ne. refl) (λ q e ne. put_keeps (held_by w q) g d (Some new) (held_other w r q (Commands k) ne ∙ sym (ap (held_by w q) home)) e);
    keeps = record { commands = refl; answers = refl; committed = refl; doomed = refl; undid = λ e ne. refl; grip = λ e ne. ap (held_by w r) (put_other g d (Some new) e ne) };
    next = left;
    live = live_uncommitted n r live;
    counts = ap is_some sound;
    undid = refl;
    out = ap (held_by w r) (put_same g d (Some new)) ∙ held_own w r (Commands k) ∙ ap (λ (x : Command). command_grip x.job) is.1;
    home = record { free = none_hold w n g held d n.line home; unprobed = ap probe_of home };
    up = up;
    view = ap is_seen_down ((read.summarized r).view d) ∙ view_up (view_of n r d) sees;
    none_before = none_before w n g held r d cut read behind;
    clean = λ reading none. clean_before w n g held r d cut read (open_behind w n g held d r cut read kept device used pending) (sym ((read.summarized r).wrote d) ∙ none) (sym (clear reading (sym ((read.summarized r).wrote d) ∙ none)) ∙ dirty);
    still = λ e. record { up = refl; held = refl; probe = put_keeps probe_of g d (Some new) (sym (ap probe_of home)) e };
  }) kept.window;
  history = kept.history;
}
  where
    d : ℕ
    d = c.device.0

    k : ℕ
    k = next_of n r

    new : Grip
    new = record { maker = r; purpose = Commands k }

    later : List Command
    later = drop (k + 1) (commands_of w.runs r)

    cut : CutAt r n.line
    cut = cut_live w n r read live

    is : (k < length (commands_of w.runs r)) × (command_at w.runs r k ≡ c)
    is = next_is (commands_of w.runs r) k c next

    left : rest (run_state (point w n g) r) ≡ c ∷ later
    left = rest_next (commands_of w.runs r) (n.run r).answers is.0 ∙ ap (λ x. x ∷ later) is.1

    used : touches w.runs r d ≡ true
    used = next_used (run_state (point w n g) r) c later left

    nothing : (o : Option Grip) → is_some o ≡ false → o ≡ None
    nothing None h = refl
    nothing (Some x) h = absurd (cc)

    home : g d ≡ None
    home = nothing (g d) in'

    self : (x : ℕ) (b : Bool) → ((x == x) || b) ≡ true
    self x b = grind (arith, common_steps)

    same : (x : ℕ) → (x == x) ≡ true
    same x = grind (arith, common_steps)

    may : may_command w r d k (n.run r) ≡ true
    may = λ i. live i && ((ap (λ o. unwrap_or (option_map (λ x. is_on d x && holds x.when (n.run r).register) o) false) next ∙ (λ j. same d j && guard j)) i) && same k i

    pending : stage_is_open (usage w.kinds (run_state (point w n g) r) d).stage ≡ true
    pending = λ i. stage_is_open (stage_of (live_uncommitted n r live i) (is_some (sound i)) ((ap (uses_device d) left ∙ self d (uses_device d later)) i))

    clear : reads c.job ≡ true → ((n.run r).on d).wrote ≡ None → dirty_wait (point w n g) r c ≡ find (λ x. has_effect n g x d) (live_before n r)
    clear reading none = λ i. if reading i && not (sees i) && not (is_some (none i)) then find (λ x. has_effect n g x d) (live_before n r) else None
