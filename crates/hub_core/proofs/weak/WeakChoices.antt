-- What a run of the weak model does: the cases that are left. Where no device is out some run that has not ended goes on.
use Rattle.hub_core.proofs.Prelude.{Cause, Command, Commands, Committed, Configuration, Doomed, DownAtEnd, Ended, Fcfs, Grips, HandsOut, Moves, Over, Reading, Scheduler, Setting, SomeRunMoves, Visibility, Waits, [], aborts, ap, command_cases, decide, decide_answered, decide_command, decide_doomed, device_no, down_entries, false, first_case, holds, if◌then◌else◌, is_out, is_wait, is_weak, max, next_command, next_of, not, only_if, option_map, point, point_of, read_of, refl, run_no, scheduler_of, sees_down, skip_entries, sym, true, undo_cases, unwrap_or, ℕ, ◌&&◌, ◌||◌, ◌∙◌, ◌∷◌, ◌≡◌}
use Rattle.home_types.specs.declared.modes.Visibility.TheVariants.{Eventual, Global, Partitioned, Weak}
use Rattle.hub_core.proofs.windows.Progress.{IsLeastUnended, least_leads, least_unended, run_goes}
use Rattle.hub_core.proofs.windows.StrongChoices.{same_map}
use Rattle.hub_core.proofs.steps.Causes.{never_down_at_end, never_strict}
use Rattle.hub_core.specs.WeakKept.{WeakIsKept}
use Rattle.hub_core.specs.WeakSteps.{weak_command, weak_rest}
use Rattle.hub_core.specs.declared.waits.Why.TheVariants.{Busy, Strict}

-- The cases that are left

-- the next command: no run, model or lease holds it back, and there are no views
command_is : (w : Setting) (n : Reading) (g : Grips) (r m k : ℕ) (c : Command) → is_weak w.mode ≡ true → decide_command (point w n g) r m k c ≡ weak_command n g r k c
command_is w n g r m k c weak = (λ i. if holds c.when (n.run r).register then done i else ap (λ o. first_case (option_map (λ x. Waits (Strict (run_no x))) o ∷ []) (Moves (skip_entries r k))) (never_strict w n r weak) i)
  where
    done : first_case (command_cases (is_weak w.mode) (point w n g) r m k c) (HandsOut c.device.0 (Commands k)) ≡ first_case (only_if (is_out g c.device.0) (Waits (Busy c.device)) ∷ only_if (not (n.up c.device.0)) (Moves (down_entries r k c)) ∷ []) (HandsOut c.device.0 (Commands k))
    done =
        (λ i. first_case (command_cases (weak i) (point w n g) r m k c) (HandsOut c.device.0 (Commands k)))
        ∙ (λ i. first_case (only_if ((weak i || not (sees_down n r c.device.0)) && is_out g c.device.0) (Waits (Busy c.device)) ∷ only_if ((not (weak i) && sees_down n r c.device.0) || not (n.up c.device.0)) (Moves (down_entries r k c)) ∷ []) (HandsOut c.device.0 (Commands k)))

-- a doomed run is not undone
doomed_is : (w : Setting) (n : Reading) (g : Grips) (r : ℕ) (cause : Cause) → is_weak w.mode ≡ true → decide_doomed (point w n g) r cause ≡ aborts r cause
doomed_is w n g r cause weak = ap (λ b. first_case (if b then [] else undo_cases (point w n g) r) (aborts r cause)) weak

answered_is : (w : Setting) (n : Reading) (g : Grips) (r : ℕ) → is_weak w.mode ≡ true → decide_answered (point w n g) r ≡ Over Committed (Ended (run_no r) Committed ∷ [])
answered_is w n g r weak = ap (λ o. unwrap_or (option_map (λ d. Moves (Doomed (run_no r) (DownAtEnd (device_no d)) ∷ [])) o) (Over Committed (Ended (run_no r) Committed ∷ []))) (never_down_at_end (point w n g) r weak)

-- what a run does that is placed and has not ended
pub rest_is : (w : Setting) (n : Reading) (g : Grips) (r m : ℕ) → is_weak w.mode ≡ true → first_case
    (option_map (decide_doomed (point w n g) r) (n.run r).doomed ∷ option_map (decide_command (point w n g) r m (next_of n r)) (next_command w n r) ∷ [])
    (decide_answered (point w n g) r) ≡ weak_rest (point w n g) r
rest_is w n g r m weak =
    same_map (decide_doomed (point w n g) r) (aborts r) (n.run r).doomed _ _ (λ cause at. doomed_is w n g r cause weak) (λ sound.
    same_map (decide_command (point w n g) r m (next_of n r)) (weak_command n g r (next_of n r)) (next_command w n r) _ _ (λ c at. command_is w n g r m (next_of n r) c weak) (λ over. answered_is w n g r weak))

-- Progress

-- where no device is out the smallest run that has not ended goes on
pub weak_moves : (s : Configuration) (rounds opened : ℕ) (held : ℕ → ℕ) → WeakIsKept s rounds opened held → SomeRunMoves s
weak_moves s rounds opened held kept r run going home =
    let least = least_unended s.setting (read_of s) r run going in
    (least.0, least.1.run, least.1.going, λ m why waits. absurd (let wait : is_wait (Waits why) ≡ false = ap is_wait (sym waits) ∙ goes least.0 least.1 (max s.moment m) in cc))
  where
    served : (model : Visibility) (scheduler : Scheduler) → is_weak (record { model = model; scheduler = scheduler }) ≡ true → scheduler_of (record { model = model; scheduler = scheduler }) ≡ Fcfs
    served Weak scheduler e = refl
    served Global scheduler e = refl
    served Partitioned scheduler e = refl
    served Eventual scheduler e = absurd (cc)

    goes : (q : ℕ) → IsLeastUnended s.setting (read_of s) q → (m : ℕ) → is_wait (decide (point_of s) q m) ≡ false
    goes q least m = run_goes s.setting (read_of s) s.grips q m home
        (λ unplaced. (least_leads s.setting (read_of s) q kept.opens.follows least, rw (served s.setting.mode.model s.setting.mode.scheduler kept.weak) refl))
        (λ placed strong. absurd (let both : true ≡ false = sym kept.weak ∙ strong in cc))
