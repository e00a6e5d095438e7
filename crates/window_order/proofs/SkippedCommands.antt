-- A command is skipped by its guard. The order of the window is kept, and the line's marks.
use Rattle.window_order.proofs.Prelude.{Bool, Command, CutAt, Did, GetsAnswer, Grips, InHistoryOrder, Kind, Last, List, Mark, MarksAreKept, None, OnDevice, Option, OrderIsKept, Reading, Setting, Skipped, Some, answered, ap, arith, command_at, commands_of, common_steps, drop, entry, false, grip_wait, grips_command, holds, is_device, is_doomed, is_live, is_none, is_some, kind_at, more_if, next_command, next_of, not, option_or, point, put, put_keeps, put_other, put_same, refl, run_no, run_state, skip_answered, subst, sym, touches_from, true, two_places, window_of, ℕ, ◌&&◌, ◌+◌, ◌||◌, ◌∙◌, ◌≡◌, ◌≢◌}
use Rattle.window_order.proofs.AnsweredTables.{answered_run}
use Rattle.window_order.proofs.Grips.{HoldsNone, fits_other, held_none, holds_none, in_place}
use Rattle.window_order.proofs.HistoryOrder.{SeesSame, last_history, same_history}
use Rattle.window_order.proofs.ReadFacts.{IsRead}
use Rattle.window_order.proofs.Runs.{cut_live, live_uncommitted}
use Rattle.window_order.proofs.Steps.{gets_answer, next_is}
use Rattle.window_order.proofs.TouchedLines.{marks_same}

-- What an answer Skipped says of the run's devices: nothing

answered_none : (kind : Kind) (c : Command) (doomed : Bool) (register : ℕ) (o : OnDevice) → answered kind c doomed register Skipped o ≡ o
answered_none kind c doomed register o = λ i. record o { view = no_view o.view i; late = no_late o.late doomed (is_none o.view) i }
  where
    no_view : (v : Option Bool) → option_or v None ≡ v
    no_view None = refl
    no_view (Some b) = refl

    no_late : (l x z : Bool) → (l || (x && false && z)) ≡ l
    no_late l x z = grind (arith, common_steps)

pub skipped_on : (w : Setting) (n : Reading) (r k e : ℕ) → (answered_run w n r k Skipped).on e ≡ (n.run r).on e
skipped_on w n r k e =
    put_keeps (λ x. x) (n.run r).on (command_at w.runs r k).device.0 _
    (answered_none (kind_at w.kinds (command_at w.runs r k).device.0) (command_at w.runs r k) (is_some (n.run r).doomed) (n.run r).register ((n.run r).on (command_at w.runs r k).device.0)) e

pub skipped_all : (w : Setting) (n : Reading) (r k q e : ℕ) → ((entry w n (Did (run_no r) k Skipped)).run q).on e ≡ (n.run q).on e
skipped_all w n r k q e = put_keeps (λ o. o.on e) n.run r (answered_run w n r k Skipped) (skipped_on w n r k e) q

-- it keeps the order of the history
pub skipped_history : (w : Setting) (n : Reading) (r k e : ℕ) → InHistoryOrder n e → InHistoryOrder (entry w n (Did (run_no r) k Skipped)) e
skipped_history w n r k e = two_places (λ x. InHistoryOrder n x → InHistoryOrder next x) e d (at_last (not (touches_from w.runs r d (k + 1))) refl) (λ ne. same_history n next e (sees e) (put_other n.log d _ e ne))
  where
    d : ℕ
    d = (command_at w.runs r k).device.0

    next : Reading
    next = entry w n (Did (run_no r) k Skipped)

    sees : (x : ℕ) → SeesSame n next x
    sees x = record {
      line = refl;
      view = λ q. ap (λ o. o.view) (skipped_all w n r k q x);
      late = λ q. ap (λ o. o.late) (skipped_all w n r k q x);
      doomed = λ q h. sym (put_keeps (λ o. is_some o.doomed) n.run r (answered_run w n r k Skipped) refl q) ∙ h;
    }

    at_last : (b : Bool) → not (touches_from w.runs r d (k + 1)) ≡ b → InHistoryOrder n d → InHistoryOrder next d
    at_last true is = last_history n next d r (sees d) (put_same n.log d _ ∙ ap (λ b. more_if b (Last r) (n.log d)) is)
    at_last false is = same_history n next d (sees d) (put_same n.log d _ ∙ ap (λ b. more_if b (Last r) (n.log d)) is)

-- .. and the line's marks: it is no touch
pub marks_skipped : (w : Setting) (n : Reading) (g : Grips) (r k : ℕ) (marks : List Mark) → MarksAreKept n g marks → MarksAreKept (entry w n (Did (run_no r) k Skipped)) g marks
marks_skipped w n g r k marks kept =
    marks_same n (entry w n (Did (run_no r) k Skipped)) g g marks refl (λ q e. ap (λ (o : OnDevice). is_some o.view || grips_command g q e) (skipped_all w n r k q e)) (put_keeps (λ o. is_some o.ended) n.run r (answered_run w n r k Skipped) refl) kept

-- The order of the window

-- what is known where the run's next command, which is this one, is skipped
pub record IsSkipped (w : Setting) (n : Reading) (g : Grips) (held : ℕ → ℕ) (r : ℕ) (c : Command) : Type 0 where
  pub read : IsRead w n
  pub live : is_live n r ≡ true
  pub sound : (n.run r).doomed ≡ None
  pub free : grip_wait w g r ≡ None
  pub next : next_command w n r ≡ Some c
  pub guard : holds c.when (n.run r).register ≡ false
  pub device : is_device w c.device.0 ≡ true
  pub kept : OrderIsKept (point w n g) held

-- it is the command of the run's next number
pub skipped_next : (w : Setting) (n : Reading) (g : Grips) (held : ℕ → ℕ) (r : ℕ) (c : Command) → IsSkipped w n g held r c → IsSkipped w n g held r (command_at w.runs r (next_of n r))
skipped_next w n g held r c s = subst (IsSkipped w n g held r) (sym (next_is (commands_of w.runs r) (next_of n r) c s.next).1) s

-- the run holds no grip
pub skipped_holds : (w : Setting) (n : Reading) (g : Grips) (held : ℕ → ℕ) (r : ℕ) (c : Command) → IsSkipped w n g held r c → HoldsNone g r
skipped_holds w n g held r c s = holds_none w g r s.kept.grips.homed s.free

skipped_at : (w : Setting) (n : Reading) (g : Grips) (held : ℕ → ℕ) (r : ℕ) → (s : IsSkipped w n g held r (command_at w.runs r (next_of n r))) → OrderIsKept (point w (entry w n (Did (run_no r) (next_of n r) Skipped)) g) held
skipped_at w n g held r s = record {
  grips = fits_other w n next g r others (skipped_holds w n g held r c s) s.kept.grips;
  window = skip_answered w.kinds (window_of (point w n g) held) (window_of (point w next g) held) r c later (record {
    place = in_place w n next g g held held r cut refl others (λ q e ne. refl);
    answer = gets;
    guard = ap (holds c.when) (s.read.summarized r).register ∙ s.guard;
    live = live_uncommitted n r s.live;
    counts = ap is_some s.sound;
    free = held_none w g r c.device.0 (skipped_holds w n g held r c s);
    still = λ e. record { up = refl; held = refl; probe = refl };
  }) s.kept.window;
  history = λ e. skipped_history w n r (next_of n r) e (s.kept.history e);
}
  where
    c : Command
    c = command_at w.runs r (next_of n r)

    later : List Command
    later = drop (next_of n r + 1) (commands_of w.runs r)

    next : Reading
    next = entry w n (Did (run_no r) (next_of n r) Skipped)

    others : (q : ℕ) → q ≢ r → next.run q ≡ n.run q
    others q ne = put_other n.run r _ q ne

    cut : CutAt r n.line
    cut = cut_live w n r s.read s.live

    answer : GetsAnswer (run_state (point w n g) r) (run_state (point w next (put g c.device.0 None)) r) c later Skipped (is_doomed n r)
    answer = gets_answer w n g r (next_of n r) Skipped refl (next_is (commands_of w.runs r) (next_of n r) c s.next).0

    gets : GetsAnswer (run_state (point w n g) r) (run_state (point w next g) r) c later Skipped false
    gets = record {
      next = answer.next;
      commands = refl;
      answers = answer.answers;
      committed = answer.committed;
      doomed = answer.doomed ∙ ap (λ b. is_doomed n r || b) (ap is_some s.sound);
      undid = answer.undid;
      grip = λ e ne. refl;
      free = held_none w g r c.device.0 (skipped_holds w n g held r c s);
    }

-- a command whose guard does not hold is answered Skipped
pub skipped_kept : (w : Setting) (n : Reading) (g : Grips) (held : ℕ → ℕ) (r : ℕ) (c : Command) → IsSkipped w n g held r c → OrderIsKept (point w (entry w n (Did (run_no r) (next_of n r) Skipped)) g) held
skipped_kept w n g held r c s = skipped_at w n g held r (skipped_next w n g held r c s)
