-- How a device is counted that is out: up for a command, by a run that does not see it down, and for an undo and where it is asked, and down where it is restored.
use Rattle.window_order.proofs.Prelude.{Bool, Commands, Cut, CutAt, DeviceFits, Free, GripFits, Grips, List, None, Option, OrderEntry, OrderIsKept, Probes, Reading, Reads, Setting, Some, Undoes, Usage, Used, WalkHolds, WalkState, Writes, after_usage, ap, arith, common_steps, entries, false, has_written, held_by, held_end, holds_command, holds_grip, is_device, is_doomed, is_free, is_home, is_live, is_seen_down, is_some, not, option_map, point, probe_of, refl, run_state, sees_down, stand_at, subst, sym, touches, true, unwrap_or, usage, view_of, walk_end, walk_start, window_of, ℕ, ◌&&◌, ◌++◌, ◌∙◌, ◌∷◌, ◌≡◌}
use Rattle.device_order.proofs.Cited.{cut as use_cut}
use Rattle.device_order.specs.declared.records.HeldGrip.TheVariants.{Undoes as HeldToUndo}
use Rattle.device_order.specs.declared.records.HeldGrip.{HeldGrip}
use Rattle.device_order.specs.declared.records.Probe.TheVariants.{Asks, Restores}
use Rattle.device_order.specs.declared.records.Probe.{Probe}
use Rattle.window_order.proofs.Firsts.{below_home, device_order_at}
use Rattle.window_order.proofs.GripWords.{own_command}
use Rattle.window_order.proofs.Grips.{held_own}
use Rattle.window_order.proofs.PromisedWords.{command_held, written_touches}
use Rattle.window_order.proofs.ReadFacts.{IsRead, view_from}
use Rattle.window_order.proofs.Runs.{cut_live}
use Rattle.window_order.proofs.StandingValues.{ActsOn, acts_on}
use Rattle.window_order.proofs.Steps.{out_is}

out_up : (e : WalkState) (up : Bool) (held : ℕ) (p : Probe) → is_home e.out ≡ false → DeviceFits e up held p → up ≡ true
out_up e up held p h x = grind (arith, common_steps)

asks_up : (e : WalkState) (up : Bool) (held : ℕ) (p : Probe) → p ≡ Asks → DeviceFits e up held p → up ≡ true
asks_up e up held p h x = grind (arith, common_steps)

restores_down : (e : WalkState) (up : Bool) (held : ℕ) (p : Probe) (v : ℕ) → p ≡ Restores v → DeviceFits e up held p → up ≡ false
restores_down e up held p v h x = grind (arith, common_steps)

held_out : (s : WalkState) (u : Usage) → holds_grip u ≡ true → is_home (after_usage s u).out ≡ false
held_out s u h = grind (arith, common_steps)

-- what a run of the line does on the device fits what stands before it
use_there : (w : Setting) (n : Reading) (g : Grips) (held : ℕ → ℕ) (d r : ℕ) (at : CutAt r n.line) → OrderIsKept (point w n g) held → is_device w d ≡ true → touches w.runs r d ≡ true
    → Cut (walk_start (stand_at w.first d).up (stand_at w.first d).value) (entries w.kinds (window_of (point w n g) held).states d at.front) (usage w.kinds (run_state (point w n g) r) d) (entries w.kinds (window_of (point w n g) held).states d at.back)
use_there w n g held d r at kept device used =
    use_cut (walk_start (stand_at w.first d).up (stand_at w.first d).value) (entries w.kinds (window_of (point w n g) held).states d at.front) (usage w.kinds (run_state (point w n g) r) d) (entries w.kinds (window_of (point w n g) held).states d at.back)
    (subst (λ l. WalkHolds (walk_start (stand_at w.first d).up (stand_at w.first d).value) l) (device_order_at w n g held d r at used) (kept.window.devices d (below_home w d device)).walk)

-- a run that stands in the line holds the grip
held_up : (w : Setting) (n : Reading) (g : Grips) (held : ℕ → ℕ) (d r : ℕ) → CutAt r n.line → OrderIsKept (point w n g) held → is_device w d ≡ true → touches w.runs r d ≡ true → is_free (held_by w r (g d)) ≡ false → n.up d ≡ true
held_up w n g held d r at kept device used holds =
    out_up (walk_end z (a ++ Used u ∷ b)) (n.up d) (held d) (probe_of (g d)) (ap (λ (s : WalkState). is_home s.out) (use_there w n g held d r at kept device used).ends ∙ held_end (after_usage (walk_end z a) u) b (held_out (walk_end z a) u (ap not holds)))
    (subst (λ l. DeviceFits (walk_end z l) (n.up d) (held d) (probe_of (g d))) (device_order_at w n g held d r at used) (kept.window.devices d (below_home w d device)).ends)
  where
    z : WalkState
    z = walk_start (stand_at w.first d).up (stand_at w.first d).value

    u : Usage
    u = usage w.kinds (run_state (point w n g) r) d

    a : List OrderEntry
    a = entries w.kinds (window_of (point w n g) held).states d at.front

    b : List OrderEntry
    b = entries w.kinds (window_of (point w n g) held).states d at.back

touches_is : (w : Setting) (n : Reading) (r d : ℕ) → ActsOn w n r d → touches w.runs r d ≡ true
touches_is w n r d a = a.uses

-- it is counted up while a command of it is out, ..
pub called_up : (w : Setting) (n : Reading) (g : Grips) (held : ℕ → ℕ) (d r k : ℕ) → IsRead w n → g d ≡ Some (record { maker = r; purpose = Commands k }) → OrderIsKept (point w n g) held → n.up d ≡ true
called_up w n g held d r k read at kept =
    held_up w n g held d r (cut_live w n r read (out_is w n g d r k kept.grips at).live) kept (kept.grips.homed d (ap is_some at))
    (touches_is w n r d (acts_on w n g held r d kept (own_command g d r (Commands k) at)))
    (unfree (held_by w r (g d)) (command_held w g r d ∙ own_command g d r (Commands k) at))
  where
    unfree : (x : HeldGrip) → holds_command x ≡ true → is_free x ≡ false
    unfree Free h = absurd (cc)
    unfree Reads h = refl
    unfree Writes h = refl
    unfree (HeldToUndo v) h = refl

-- .. by a run that does not see it down, ..
pub called_unseen : (w : Setting) (n : Reading) (g : Grips) (held : ℕ → ℕ) (d r k : ℕ) → IsRead w n → g d ≡ Some (record { maker = r; purpose = Commands k }) → OrderIsKept (point w n g) held → sees_down n r d ≡ false
called_unseen w n g held d r k read at kept =
    unseen (view_of n r d)
    (sym (ap is_seen_down ((read.summarized r).view d))
    ∙ by_grip (held_by w r (g d)) (use_there w n g held d r (cut_live w n r read (out_is w n g d r k kept.grips at).live) kept
    (kept.grips.homed d (ap is_some at)) (touches_is w n r d (acts_on w n g held r d kept (own_command g d r (Commands k) at)))).fits.grip
    (command_held w g r d ∙ own_command g d r (Commands k) at))
  where
    u : Usage
    u = usage w.kinds (run_state (point w n g) r) d

    by_grip : (x : HeldGrip) → GripFits x u → holds_command x ≡ true → is_seen_down u.view ≡ false
    by_grip Free fits h = absurd (cc)
    by_grip Reads fits h = fits.2
    by_grip Writes fits h = fits.2
    by_grip (HeldToUndo v) fits h = absurd (cc)

    unseen : (v : Option Bool) → is_seen_down (option_map view_from v) ≡ false → unwrap_or (option_map not v) false ≡ false
    unseen None h = refl
    unseen (Some true) h = refl
    unseen (Some false) h = absurd (cc)

-- .. and an undo
pub undo_up : (w : Setting) (n : Reading) (g : Grips) (held : ℕ → ℕ) (d r v : ℕ) → IsRead w n → g d ≡ Some (record { maker = r; purpose = Undoes v }) → OrderIsKept (point w n g) held → n.up d ≡ true
undo_up w n g held d r v read at kept = held_up w n g held d r (cut_live w n r read may.0) kept (kept.grips.homed d (ap is_some at)) (written_touches w n r d read may.1) (ap is_free (ap (held_by w r) at ∙ held_own w r (Undoes v)))
  where
    parts : (a b c e : Bool) → (a && b && c && e) ≡ true → (a ≡ true) × (c ≡ true)
    parts a b c e h = (grind (arith, common_steps), grind (arith, common_steps))

    may : (is_live n r ≡ true) × (has_written n r d ≡ true)
    may = parts (is_live n r) (is_doomed n r) (has_written n r d) (not ((n.run r).on d).undid) (kept.grips.runs.undos d r v at)

-- a device that a probe asks is counted up, and one that it restores down
pub asked_up : (w : Setting) (n : Reading) (g : Grips) (held : ℕ → ℕ) (d m : ℕ) → g d ≡ Some (record { maker = m; purpose = Probes None }) → OrderIsKept (point w n g) held → n.up d ≡ true
asked_up w n g held d m at kept = asks_up _ (n.up d) (held d) (probe_of (g d)) (ap probe_of at) (kept.window.devices d (below_home w d (kept.grips.homed d (ap is_some at)))).ends

pub restored_down : (w : Setting) (n : Reading) (g : Grips) (held : ℕ → ℕ) (d m v : ℕ) → g d ≡ Some (record { maker = m; purpose = Probes (Some v) }) → OrderIsKept (point w n g) held → n.up d ≡ false
restored_down w n g held d m v at kept = restores_down _ (n.up d) (held d) (probe_of (g d)) v (ap probe_of at) (kept.window.devices d (below_home w d (kept.grips.homed d (ap is_some at)))).ends
