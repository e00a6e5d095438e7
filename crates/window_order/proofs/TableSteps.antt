-- Each step keeps the lineage table of a window.
use Rattle.window_order.proofs.Prelude.{Aborted, Answer, Bool, Cause, ChangesEach, Commands, Committed, CutAt, DeviceNo, Did, Doomed, Ended, Grips, GripsFit, IsClear, LineageIsKept, LineageState, List, None, Option, OrderIsKept, Placed, Planned, Reading, Setting, Some, TableIsKept, Undid, Undoes, answered_change, answered_lineage, ap, arith, command_at, commands_of, committed_lineage, common_steps, device_no, did, doomed_change, doomed_lineage, doomed_unless, entry, false, get_or-set_other, get_or-set_same, grips_command, if◌then◌else◌, is_access, is_doomed, is_named_device, length, length-set, lineage_at, may_follow, next_of, no_lineage, not, passed_if, pends, placed_change, point, put, put_same, refl, removed, run_no, set, set-set, split_at, subst, sym, true, two_places, undone_change, with_lineage, with_placed, ℕ, ◌<◌, ◌==◌, ◌∙◌, ◌≡◌, ◌≢◌}
use Rattle.window_order.proofs.AbortedTables.{aborted_kept}
use Rattle.window_order.proofs.AnsweredTables.{HomeFrom, TouchesNow, answered_elsewhere, answered_there}
use Rattle.window_order.proofs.GripWords.{SameGrip, grip_elsewhere, grip_home, home_command, home_undo}
use Rattle.window_order.proofs.CommittedTables.{committed_kept}
use Rattle.window_order.proofs.GrippedTables.{command_out_kept, doomed_kept, undid_kept, undo_dropped_kept, undo_out_kept}
use Rattle.window_order.proofs.PassedTables.{passed_kept}
use Rattle.window_order.proofs.PlacedTables.{placed_kept}
use Rattle.window_order.proofs.ReadFacts.{IsRead}
use Rattle.window_order.proofs.Representing.{gripped_pends}
use Rattle.window_order.proofs.Runs.{cut_live}
use Rattle.window_order.proofs.Steps.{IsOut, out_is}
use Rattle.window_order.proofs.TableCalls.{touches_now}

-- a table whose lineages change so is kept where each change keeps its lineage
pub changed_table : (w : Setting) (n m : Reading) (g h : Grips) (change : ℕ → LineageState → LineageState) (old new : List LineageState)
    → ((d : ℕ) (s : LineageState) → LineageIsKept (point w n g) d s → LineageIsKept (point w m h) d (change d s)) → ChangesEach change old new
    → TableIsKept (point w n g) old
    → TableIsKept (point w m h) new
changed_table w n m g h change old new each changes kept = record {
  devices = changes.devices ∙ kept.devices;
  each = λ d below. subst (LineageIsKept (point w m h) d) (sym (changes.each d (subst (λ x. d < x) (sym kept.devices) below))) (each d (lineage_at old d) (kept.each d below));
}

-- .. and one that stays where each lineage is still kept
pub same_table : (w : Setting) (n m : Reading) (g h : Grips) (table : List LineageState) → ((d : ℕ) (s : LineageState) → LineageIsKept (point w n g) d s → LineageIsKept (point w m h) d s) → TableIsKept (point w n g) table → TableIsKept (point w m h) table
same_table w n m g h table each kept = changed_table w n m g h (λ d s. s) table table each (record { devices = refl; each = λ d below. refl }) kept

-- a run is placed, where the place is clear
pub placed_table : (w : Setting) (n : Reading) (g : Grips) (r at m : ℕ) (planned : List Planned) (old new : List LineageState) → IsRead w n
    → may_follow w n (Placed (run_no r) at m) ≡ true → IsClear (point w n g) r at → ChangesEach (placed_change w n r at planned) old new
    → TableIsKept (point w n g) old
    → TableIsKept (point w (with_placed n (run_no r) at m planned (split_at n.line at)) g) new
placed_table w n g r at m planned old new read may clear changes kept = record {
  devices = changes.devices ∙ kept.devices;
  each = λ d below. subst (LineageIsKept (point w (with_placed n (run_no r) at m planned (split_at n.line at)) g) d) (sym (changes.each d (subst (λ x. d < x) (sym kept.devices) below))) (placed_kept w n g r at m planned read may clear d below (lineage_at old d) (kept.each d below));
}

-- a run commits
pub committed_table : (w : Setting) (n : Reading) (g : Grips) (r : ℕ) (old new : List LineageState) → IsRead w n → GripsFit (point w n g) → may_follow w n (Ended (run_no r) Committed) ≡ true → ChangesEach (λ d. committed_lineage r) old new → TableIsKept (point w n g) old
    → TableIsKept (point w (entry w n (Ended (run_no r) Committed)) g) new
committed_table w n g r old new read fit may changes kept = changed_table w n (entry w n (Ended (run_no r) Committed)) g g (λ d. committed_lineage r) old new (committed_kept w n g r read fit may) changes kept

-- a run ends aborted
pub aborted_table : (w : Setting) (n : Reading) (g : Grips) (r : ℕ) (cause : Cause) (old new : List LineageState) → IsRead w n → may_follow w n (Ended (run_no r) (Aborted cause)) ≡ true → ChangesEach (λ d. removed r) old new → TableIsKept (point w n g) old
    → TableIsKept (point w (entry w n (Ended (run_no r) (Aborted cause))) g) new
aborted_table w n g r cause old new read may changes kept = changed_table w n (entry w n (Ended (run_no r) (Aborted cause))) g g (λ d. removed r) old new (aborted_kept w n g r cause read may) changes kept

-- a command goes out
pub command_out_table : (w : Setting) (n : Reading) (g : Grips) (d r k : ℕ) (table : List LineageState) → g d ≡ None → is_doomed n r ≡ false → pends w n r d ≡ true → TableIsKept (point w n g) table → TableIsKept (point w n (put g d (Some (record { maker = r; purpose = Commands k })))) table
command_out_table w n g d r k table at sound pending kept = same_table w n n g (put g d (Some (record { maker = r; purpose = Commands k }))) table (command_out_kept w n g d r k at sound pending) kept

-- each lineage is kept as a command that was out is answered
pub answered_kept : (w : Setting) (n : Reading) (g h : Grips) (r k : ℕ) (a : Answer) (cut : CutAt r n.line) → is_access a ≡ true → IsRead w n → k ≡ next_of n r
    → next_of n r < length (commands_of w.runs r) → TouchesNow w n g (command_at w.runs r k).device.0 r cut → HomeFrom g h (command_at w.runs r k).device.0 r
    → ((e : ℕ) → e ≢ (command_at w.runs r k).device.0 → (q : ℕ) → SameGrip g h e q) → (e : ℕ) (s : LineageState) → LineageIsKept (point w n g) e s → LineageIsKept (point w (entry w n (Did (run_no r) k a)) h) e (answered_change w n r k a e s)
answered_kept w n g h r k a cut access read number more now home same e s = two_places (λ x. LineageIsKept (point w n g) x s → LineageIsKept (point w m h) x (answered_change w n r k a x s)) e d at_device elsewhere
  where
    d : ℕ
    d = (command_at w.runs r k).device.0

    m : Reading
    m = entry w n (Did (run_no r) k a)

    self : (x : ℕ) → (x == x) ≡ true
    self x = grind (arith, common_steps)

    differ : (x y : ℕ) → x ≢ y → (x == y) ≡ false
    differ x y h = grind (arith, common_steps)

    pass : (b : Bool) → LineageIsKept (point w n g) d s → LineageIsKept (point w n g) d (passed_if b r s)
    pass true kept = passed_kept w n g d r cut s read now kept
    pass false kept = kept

    at_device : LineageIsKept (point w n g) d s → LineageIsKept (point w m h) d (answered_change w n r k a d s)
    at_device kept = subst (LineageIsKept (point w m h) d) (λ i. if sym (self d) i then answered_lineage w n r k a s else s) (answered_there w n g h r k a cut access read number now home (passed_if (not (did n r d)) r s) (pass (not (did n r d)) kept))

    elsewhere : e ≢ d → LineageIsKept (point w n g) e s → LineageIsKept (point w m h) e (answered_change w n r k a e s)
    elsewhere ne kept = subst (LineageIsKept (point w m h) e) (λ i. if sym (differ e d ne) i then answered_lineage w n r k a s else s) (answered_elsewhere w n g h r k a e s number more ne (same e ne) kept)

-- the grip of a command comes home
came_home : (w : Setting) (g : Grips) (d r k : ℕ) → g d ≡ Some (record { maker = r; purpose = Commands k }) → HomeFrom g (put g d None) d r
came_home w g d r k at = record { command = home_command (put g d None) d r (put_same g d None); undo = home_undo (put g d None) d r (put_same g d None); others = λ q ne. grip_home g d r q (Commands k) at ne }

-- .. of this device
pub answered_each : (w : Setting) (n : Reading) (g : Grips) (held : ℕ → ℕ) (d r k : ℕ) (a : Answer) → is_access a ≡ true → IsRead w n → OrderIsKept (point w n g) held → g d ≡ Some (record { maker = r; purpose = Commands k })
    → (e : ℕ) (s : LineageState) → LineageIsKept (point w n g) e s → LineageIsKept (point w (entry w n (Did (run_no r) k a)) (put g d None)) e (answered_change w n r k a e s)
answered_each w n g held d r k a access read order at e s kept =
    let out : IsOut w n d r k = out_is w n g d r k order.grips at in
    let cut : CutAt r n.line = cut_live w n r read out.live in
    let now : TouchesNow w n g (command_at w.runs r k).device.0 r cut = subst (λ x. TouchesNow w n g x r cut) out.device (touches_now w n g held d r k cut read order at) in
    let home : HomeFrom g (put g (command_at w.runs r k).device.0 None) (command_at w.runs r k).device.0 r = came_home w g (command_at w.runs r k).device.0 r k (subst (λ x. g x ≡ Some (record { maker = r; purpose = Commands k })) out.device at) in
    subst (λ x. LineageIsKept (point w (entry w n (Did (run_no r) k a)) (put g x None)) e (answered_change w n r k a e s)) (sym out.device)
    (answered_kept w n g (put g (command_at w.runs r k).device.0 None) r k a cut access read out.number out.more now home (λ i ne q. grip_elsewhere g (command_at w.runs r k).device.0 i q None ne) e s kept)

-- a command that was out is answered
pub answered_table : (w : Setting) (n : Reading) (g : Grips) (held : ℕ → ℕ) (d r k : ℕ) (a : Answer) (old new : List LineageState) → is_access a ≡ true → IsRead w n → OrderIsKept (point w n g) held → g d ≡ Some (record { maker = r; purpose = Commands k })
    → ChangesEach (answered_change w n r k a) old new → TableIsKept (point w n g) old → TableIsKept (point w (entry w n (Did (run_no r) k a)) (put g d None)) new
answered_table w n g held d r k a old new access read order at changes kept = changed_table w n (entry w n (Did (run_no r) k a)) g (put g d None) (answered_change w n r k a) old new (answered_each w n g held d r k a access read order at) changes kept

-- a run is doomed
pub doomed_table : (w : Setting) (n : Reading) (g : Grips) (r : ℕ) (cause : Cause) (old new : List LineageState) → IsRead w n → GripsFit (point w n g)
    → is_doomed n r ≡ false → ChangesEach (doomed_change g r) old new → TableIsKept (point w n g) old
    → TableIsKept (point w (entry w n (Doomed (run_no r) cause)) g) new
doomed_table w n g r cause old new read fit sound changes kept = changed_table w n (entry w n (Doomed (run_no r) cause)) g g (doomed_change g r) old new (doomed_kept w n g r cause read sound (λ d out. gripped_pends w n g r d fit out)) changes kept

-- .. whose command out, if it has one, is on this device
pub doomed_each : (g : Grips) (r : ℕ) (out : Option DeviceNo) (old new : List LineageState) → ((d : ℕ) → grips_command g r d ≡ is_named_device out d) → ChangesEach (doomed_unless out r) old new → ChangesEach (doomed_change g r) old new
doomed_each g r out old new same changes = record { devices = changes.devices; each = λ d below. changes.each d below ∙ (λ i. if sym (same d) i then lineage_at old d else doomed_lineage r (lineage_at old d)) }

pub doomed_unless_table : (w : Setting) (n : Reading) (g : Grips) (r : ℕ) (cause : Cause) (out : Option DeviceNo) (old new : List LineageState) → IsRead w n
    → GripsFit (point w n g) → is_doomed n r ≡ false → ((d : ℕ) → grips_command g r d ≡ is_named_device out d) → ChangesEach (doomed_unless out r) old new
    → TableIsKept (point w n g) old
    → TableIsKept (point w (entry w n (Doomed (run_no r) cause)) g) new
doomed_unless_table w n g r cause out old new read fit sound same changes kept = doomed_table w n g r cause old new read fit sound (doomed_each g r out old new same changes) kept

-- an undo goes out
pub undo_out_table : (w : Setting) (n : Reading) (g : Grips) (d r v : ℕ) (old new : List LineageState) → IsRead w n → g d ≡ None → ChangesEach (undone_change r d) old new → TableIsKept (point w n g) old → TableIsKept (point w n (put g d (Some (record { maker = r; purpose = Undoes v })))) new
undo_out_table w n g d r v old new read at changes kept = changed_table w n n g (put g d (Some (record { maker = r; purpose = Undoes v }))) (undone_change r d) old new (undo_out_kept w n g d r v read at) changes kept

-- an undo that was out comes home
pub undid_table : (w : Setting) (n : Reading) (g : Grips) (d r v : ℕ) (table : List LineageState) → g d ≡ Some (record { maker = r; purpose = Undoes v }) → TableIsKept (point w n g) table → TableIsKept (point w (entry w n (Undid (run_no r) (device_no d) true)) (put g d None)) table
undid_table w n g d r v table at kept = same_table w n (entry w n (Undid (run_no r) (device_no d) true)) g (put g d None) table (undid_kept w n g d r v true at) kept

-- an undo is left out
pub undo_dropped_table : (w : Setting) (n : Reading) (g : Grips) (d r : ℕ) (drove : Bool) (old new : List LineageState) → IsRead w n → ChangesEach (undone_change r d) old new → TableIsKept (point w n g) old → TableIsKept (point w (entry w n (Undid (run_no r) (device_no d) drove)) g) new
undo_dropped_table w n g d r drove old new read changes kept = changed_table w n (entry w n (Undid (run_no r) (device_no d) drove)) g g (undone_change r d) old new (undo_dropped_kept w n g d r drove read) changes kept

-- The lineage of one device is changed

pub changes_one : (table : List LineageState) (d : ℕ) (f : LineageState → LineageState) → d < length table → ChangesEach (λ e s. if e == d then f s else s) table (with_lineage table d f)
changes_one table d f below = record { devices = length-set table d (f (lineage_at table d)); each = λ e lt. at_ e (e == d) refl }
  where
    same : (e : ℕ) → (e == d) ≡ true → e ≡ d
    same e h = grind (arith, common_steps)

    differ : (e : ℕ) → (e == d) ≡ false → e ≢ d
    differ e h k = grind (arith, common_steps)

    at_ : (e : ℕ) (b : Bool) → (e == d) ≡ b → lineage_at (with_lineage table d f) e ≡ (if e == d then f (lineage_at table e) else lineage_at table e)
    at_ e true h = ap (lineage_at (with_lineage table d f)) (same e h) ∙ get_or-set_same table d (f (lineage_at table d)) no_lineage below ∙ ap (λ x. f (lineage_at table x)) (sym (same e h)) ∙ (λ i. if sym h i then f (lineage_at table e) else lineage_at table e)
    at_ e false h = get_or-set_other table d e (f (lineage_at table d)) no_lineage (differ e h) ∙ (λ i. if sym h i then f (lineage_at table e) else lineage_at table e)

-- .. twice
pub with_both : (table : List LineageState) (d : ℕ) (f g : LineageState → LineageState) → d < length table → with_lineage (with_lineage table d f) d g ≡ with_lineage table d (λ s. g (f s))
with_both table d f g below = ap (λ s. set (set table d (f (lineage_at table d))) d (g s)) (get_or-set_same table d (f (lineage_at table d)) no_lineage below) ∙ set-set table d (f (lineage_at table d)) (g (f (lineage_at table d)))
