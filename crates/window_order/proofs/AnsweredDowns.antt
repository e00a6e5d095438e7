-- A command is answered Down with no call: its run sees the device down already, or the device is home and counted down. The order of the window is kept.
use Rattle.window_order.proofs.Prelude.{Bool, Cause, Command, CutAt, Did, Doomed, GetsAnswer, Grips, List, MayAnswerDown, None, Option, OrderIsKept, Reading, Setting, Some, ap, arith, behind_wait, both_ways, busy_wait, command_at, commands_of, common_steps, device_record, device_summary, down_answered, down_unseen, drop, entries, entry, eq-eqb, fails, false, grip_wait, holds, inl, inr, is_device, is_doomed, is_live, is_out, is_some, is_up, is_weak, next_command, next_of, next_used, not, option_map, or_left, point, probe_of, put, put_other, refl, rest, run_no, run_state, sees_down, stage_is_open, stage_of, subst, sym, touches, true, unwrap_or, usage, uses_device, view_of, window_of, ℕ, ◌&&◌, ◌+◌, ◌==◌, ◌||◌, ◌∙◌, ◌∷◌, ◌≡◌, ◌≢◌}
use Rattle.home_types.specs.declared.commands.Answer.TheVariants.{Down}
use Rattle.window_order.proofs.Firsts.{IsNewest, below_home, calm_behind, device_order_at, did_history, seen_view}
use Rattle.window_order.proofs.Goes.{none_before, none_hold, open_behind}
use Rattle.window_order.proofs.Grips.{HoldsNone, fits_other, held_none, holds_none, in_place}
use Rattle.window_order.proofs.ReadFacts.{IsRead, rest_next, view_from}
use Rattle.window_order.proofs.Rollbacks.{doomed_history, gets_and_doomed, none_out}
use Rattle.window_order.proofs.Runs.{cut_live, live_uncommitted}
use Rattle.window_order.proofs.Steps.{gets_answer, next_is}

-- what is known where the run's next command, which is this one, is so answered
pub record IsToldDown (w : Setting) (n : Reading) (g : Grips) (held : ℕ → ℕ) (r : ℕ) (c : Command) : Type 0 where
  pub read : IsRead w n
  pub strong : is_weak w.mode ≡ false
  pub live : is_live n r ≡ true
  pub sound : (n.run r).doomed ≡ None
  pub free : grip_wait w g r ≡ None
  pub next : next_command w n r ≡ Some c
  pub guard : holds c.when (n.run r).register ≡ true
  pub device : is_device w c.device.0 ≡ true
  pub behind : behind_wait (point w n g) r c.device.0 ≡ None
  pub busy : busy_wait (point w n g) r c.device.0 ≡ false
  pub down : (sees_down n r c.device.0 || not (n.up c.device.0)) ≡ true
  pub kept : OrderIsKept (point w n g) held

-- it is the command of the run's next number
pub told_next : (w : Setting) (n : Reading) (g : Grips) (held : ℕ → ℕ) (r : ℕ) (c : Command) → IsToldDown w n g held r c → IsToldDown w n g held r (command_at w.runs r (next_of n r))
told_next w n g held r c s = subst (IsToldDown w n g held r) (sym (next_is (commands_of w.runs r) (next_of n r) c s.next).1) s

-- the run holds no grip, and the command is the first of those that it has left
pub told_holds : (w : Setting) (n : Reading) (g : Grips) (held : ℕ → ℕ) (r : ℕ) (c : Command) → IsToldDown w n g held r c → HoldsNone g r
told_holds w n g held r c s = holds_none w g r s.kept.grips.homed s.free

pub told_left : (w : Setting) (n : Reading) (g : Grips) (held : ℕ → ℕ) (r : ℕ) (c : Command) → IsToldDown w n g held r c → rest (run_state (point w n g) r) ≡ c ∷ drop (next_of n r + 1) (commands_of w.runs r)
told_left w n g held r c s = let is = next_is (commands_of w.runs r) (next_of n r) c s.next in rest_next (commands_of w.runs r) (n.run r).answers is.0 ∙ ap (λ x. x ∷ drop (next_of n r + 1) (commands_of w.runs r)) is.1

pub told_touches : (w : Setting) (n : Reading) (g : Grips) (held : ℕ → ℕ) (r : ℕ) (c : Command) → IsToldDown w n g held r c → touches w.runs r c.device.0 ≡ true
told_touches w n g held r c s = next_used (run_state (point w n g) r) c (drop (next_of n r + 1) (commands_of w.runs r)) (told_left w n g held r c s)

-- it is open there
pub told_open : (w : Setting) (n : Reading) (g : Grips) (held : ℕ → ℕ) (r : ℕ) (c : Command) → IsToldDown w n g held r c → stage_is_open (usage w.kinds (run_state (point w n g) r) c.device.0).stage ≡ true
told_open w n g held r c s =
    λ i. stage_is_open (stage_of (live_uncommitted n r s.live i) (is_some (s.sound i)) ((ap (uses_device c.device.0) (told_left w n g held r c s)
    ∙ or_left (c.device.0 == c.device.0) (uses_device c.device.0 (drop (next_of n r + 1) (commands_of w.runs r))) (eq-eqb c.device.0 c.device.0 refl)) i))

-- the run sees the device down, or it is its first answer there and the device is home and counted down
told_may : (w : Setting) (n : Reading) (g : Grips) (held : ℕ → ℕ) (r : ℕ) (c : Command) (cut : CutAt r n.line) → IsToldDown w n g held r c → MayAnswerDown w.kinds (window_of (point w n g) held) c.device.0 cut.front (device_summary w.kinds (run_state (point w n g) r) c.device.0).view
told_may w n g held r c cut s = by_view (view_of n r d) refl
  where
    d : ℕ
    d = c.device.0

    is_down : (v : Option Bool) (u : Bool) → unwrap_or (option_map not v) false ≡ false → (unwrap_or (option_map not v) false || not u) ≡ true → u ≡ false
    is_down v u h k = grind (arith, common_steps)

    is_home : (a b o : Bool) → b ≡ false → ((a || not b) && o) ≡ false → o ≡ false
    is_home a b o h k = grind (arith, common_steps)

    off : (v : Option Bool) (o : Option Bool) → v ≡ o → unwrap_or (option_map not o) false ≡ false → unwrap_or (option_map not v) false ≡ false
    off v o e h = ap (λ x. unwrap_or (option_map not x) false) e ∙ h

    seen : (o : Option Bool) → view_of n r d ≡ o → (device_summary w.kinds (run_state (point w n g) r) d).view ≡ option_map view_from o
    seen o e = (s.read.summarized r).view d ∙ ap (option_map view_from) e

    counted : sees_down n r d ≡ false → n.up d ≡ false
    counted h = is_down (view_of n r d) (n.up d) h s.down

    unseen : sees_down n r d ≡ false → is_up (device_summary w.kinds (run_state (point w n g) r) d).view ≡ false
    unseen h =
        down_unseen (device_record w.kinds (window_of (point w n g) held) d) (entries w.kinds (window_of (point w n g) held).states d cut.front)
        (entries w.kinds (window_of (point w n g) held).states d cut.back) (usage w.kinds (run_state (point w n g) r) d)
        (s.kept.window.devices d (below_home w d s.device))
        (device_order_at w n g held d r cut (told_touches w n g held r c s)) (told_open w n g held r c s) (counted h)

    clash : true ≡ false → ⊥
    clash h = grind (arith, common_steps)

    by_view : (o : Option Bool) → view_of n r d ≡ o → MayAnswerDown w.kinds (window_of (point w n g) held) d cut.front (device_summary w.kinds (run_state (point w n g) r) d).view
    by_view (Some false) e = inl (seen (Some false) e)
    by_view (Some true) e = absurd (clash (sym (ap is_up (seen (Some true) e)) ∙ unseen (off (view_of n r d) (Some true) e refl)))
    by_view None e =
        let home : g d ≡ None = none_out g d (is_home (is_weak w.mode) (sees_down n r d) (is_out g d) (off (view_of n r d) None e refl) s.busy) in
        inr (seen None e, counted (off (view_of n r d) None e refl), record { free = none_hold w n g held d n.line home; unprobed = ap probe_of home }, none_before w n g held r d cut s.read s.behind)

told_newest : (w : Setting) (n : Reading) (g : Grips) (held : ℕ → ℕ) (r : ℕ) (c : Command) (cut : CutAt r n.line) → IsToldDown w n g held r c → IsNewest n c.device.0 r cut.back
told_newest w n g held r c cut s = record {
  unseen = λ none. open_behind w n g held c.device.0 r cut s.read s.kept s.device (told_touches w n g held r c s) (told_open w n g held r c s);
  calm = λ none sound. calm_behind w n g held c.device.0 r cut s.read s.kept s.device (told_touches w n g held r c s) (awaits _ _ (told_open w n g held r c s) (ap is_some ((s.read.summarized r).view c.device.0) ∙ seen_view (view_of n r c.device.0) ∙ none));
}
  where
    awaits : (a b : Bool) → a ≡ true → b ≡ false → (a && not b) ≡ true
    awaits a b h k = grind (arith, common_steps)

-- at the command of its next number
told_kept : (w : Setting) (n : Reading) (g : Grips) (held : ℕ → ℕ) (r : ℕ) → (s : IsToldDown w n g held r (command_at w.runs r (next_of n r))) → fails (command_at w.runs r (next_of n r)) Down ≡ false → OrderIsKept (point w (entry w n (Did (run_no r) (next_of n r) Down)) g) held
told_kept w n g held r s misses = record {
  grips = fits_other w n next g r others (told_holds w n g held r c s) s.kept.grips;
  window = down_answered w.kinds (window_of (point w n g) held) (window_of (point w next g) held) r c later false (record {
    place = in_place w n next g g held held r cut refl others (λ q e ne. refl);
    answer = gets;
    guard = ap (holds c.when) (s.read.summarized r).register ∙ s.guard;
    live = live_uncommitted n r s.live;
    counts = ap is_some s.sound;
    free = held_none w g r c.device.0 (told_holds w n g held r c s);
    must = λ h. absurd (both_ways (fails c Down) misses h);
    may = told_may w n g held r c cut s;
    still = λ e. record { up = refl; held = refl; probe = refl };
  }) s.kept.window;
  history = λ e. did_history w n r (next_of n r) Down cut refl s.read (told_newest w n g held r c cut s) e (s.kept.history e);
}
  where
    c : Command
    c = command_at w.runs r (next_of n r)

    later : List Command
    later = drop (next_of n r + 1) (commands_of w.runs r)

    next : Reading
    next = entry w n (Did (run_no r) (next_of n r) Down)

    others : (q : ℕ) → q ≢ r → next.run q ≡ n.run q
    others q ne = put_other n.run r _ q ne

    cut : CutAt r n.line
    cut = cut_live w n r s.read s.live

    answer : GetsAnswer (run_state (point w n g) r) (run_state (point w next (put g c.device.0 None)) r) c later Down (is_doomed n r)
    answer = gets_answer w n g r (next_of n r) Down refl (next_is (commands_of w.runs r) (next_of n r) c s.next).0

    gets : GetsAnswer (run_state (point w n g) r) (run_state (point w next g) r) c later Down false
    gets = record {
      next = answer.next;
      commands = refl;
      answers = answer.answers;
      committed = answer.committed;
      doomed = answer.doomed ∙ ap (λ b. is_doomed n r || b) (ap is_some s.sound);
      undid = answer.undid;
      grip = λ e ne. refl;
      free = held_none w g r c.device.0 (told_holds w n g held r c s);
    }

told_doomed_kept : (w : Setting) (n : Reading) (g : Grips) (held : ℕ → ℕ) (r : ℕ) (cause : Cause) → (s : IsToldDown w n g held r (command_at w.runs r (next_of n r))) → OrderIsKept (point w (entry w (entry w n (Did (run_no r) (next_of n r) Down)) (Doomed (run_no r) cause)) g) held
told_doomed_kept w n g held r cause s = record {
  grips = fits_other w n next g r others (told_holds w n g held r c s) s.kept.grips;
  window = down_answered w.kinds (window_of (point w n g) held) (window_of (point w next g) held) r c later true (record {
    place = in_place w n next g g held held r cut refl others (λ q e ne. refl);
    answer = gets;
    guard = ap (holds c.when) (s.read.summarized r).register ∙ s.guard;
    live = live_uncommitted n r s.live;
    counts = ap is_some s.sound;
    free = held_none w g r c.device.0 (told_holds w n g held r c s);
    must = λ h. refl;
    may = told_may w n g held r c cut s;
    still = λ e. record { up = refl; held = refl; probe = refl };
  }) s.kept.window;
  history = λ e. doomed_history w did_ r cause e (did_history w n r (next_of n r) Down cut refl s.read (told_newest w n g held r c cut s) e (s.kept.history e));
}
  where
    c : Command
    c = command_at w.runs r (next_of n r)

    later : List Command
    later = drop (next_of n r + 1) (commands_of w.runs r)

    did_ : Reading
    did_ = entry w n (Did (run_no r) (next_of n r) Down)

    next : Reading
    next = entry w did_ (Doomed (run_no r) cause)

    others : (q : ℕ) → q ≢ r → next.run q ≡ n.run q
    others q ne = put_other did_.run r _ q ne ∙ put_other n.run r _ q ne

    cut : CutAt r n.line
    cut = cut_live w n r s.read s.live

    answer : GetsAnswer (run_state (point w n g) r) (run_state (point w next (put g c.device.0 None)) r) c later Down true
    answer = gets_and_doomed w n g r (next_of n r) Down cause refl (next_is (commands_of w.runs r) (next_of n r) c s.next).0

    gets : GetsAnswer (run_state (point w n g) r) (run_state (point w next g) r) c later Down true
    gets = record {
      next = answer.next;
      commands = refl;
      answers = answer.answers;
      committed = answer.committed;
      doomed = answer.doomed;
      undid = answer.undid;
      grip = λ e ne. refl;
      free = held_none w g r c.device.0 (told_holds w n g held r c s);
    }

-- a command that may miss its device is answered Down with no call
pub down_kept : (w : Setting) (n : Reading) (g : Grips) (held : ℕ → ℕ) (r : ℕ) (c : Command) → IsToldDown w n g held r c → fails c Down ≡ false → OrderIsKept (point w (entry w n (Did (run_no r) (next_of n r) Down)) g) held
down_kept w n g held r c s misses = told_kept w n g held r (told_next w n g held r c s) (ap (λ x. fails x Down) (next_is (commands_of w.runs r) (next_of n r) c s.next).1 ∙ misses)

-- .. and one that dooms its run by it, for whatever cause
pub down_doomed_kept : (w : Setting) (n : Reading) (g : Grips) (held : ℕ → ℕ) (r : ℕ) (c : Command) (cause : Cause) → IsToldDown w n g held r c → OrderIsKept (point w (entry w (entry w n (Did (run_no r) (next_of n r) Down)) (Doomed (run_no r) cause)) g) held
down_doomed_kept w n g held r c cause s = told_doomed_kept w n g held r cause (told_next w n g held r c s)
