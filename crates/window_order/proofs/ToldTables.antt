-- A command is answered Down with no call, and the lineage table is kept: the access is acquired by a run that sees the device down, or stays as it was.
use Rattle.window_order.proofs.Prelude.{Bool, ChangesEach, Command, CutAt, Did, Grip, Grips, LineageState, List, None, Option, OrderIsKept, Ran, Reading, Setting, Some, TableIsKept, answered_change, ap, arith, before, both_ways, command_at, commands_of, common_steps, did, drop, entry, eq-eqb, eqb-true, false, find, grips_command, holds_device, if◌then◌else◌, is_command, is_device, is_doomed, is_live, is_open, is_out, is_ran, is_some, is_undo, is_weak, list_any, list_any-append, live_runs, next_of, not, open_runs_are_last, option_map, or_left, or_right, pends, point, refl, run_no, sees_down, sym, true, unwrap_or, uses_device, view_of, ℕ, ◌&&◌, ◌++◌, ◌+◌, ◌==◌, ◌||◌, ◌∙◌, ◌∷◌, ◌≡◌, ◌≢◌}
use Rattle.home_types.specs.declared.commands.Answer.TheVariants.{Down}
use Rattle.window_order.proofs.AnsweredDowns.{IsToldDown, told_holds, told_left, told_next, told_open, told_touches}
use Rattle.window_order.proofs.AnsweredTables.{TouchesNow}
use Rattle.window_order.proofs.Firsts.{unseen_behind}
use Rattle.window_order.proofs.Goes.{before_cut, found_live, open_behind}
use Rattle.window_order.proofs.GripWords.{home_command}
use Rattle.window_order.proofs.PromisedClauses.{open_runs_last}
use Rattle.window_order.proofs.PromisedWords.{command_held}
use Rattle.window_order.proofs.ReadFacts.{IsRead, rest_drop}
use Rattle.window_order.proofs.Rollbacks.{none_out}
use Rattle.window_order.proofs.Runs.{cut_live}
use Rattle.window_order.proofs.StandingValues.{ActsOn, acts_on, live_stands}
use Rattle.window_order.proofs.Steps.{next_is}
use Rattle.window_order.proofs.TableCalls.{closed_before, found}
use Rattle.window_order.proofs.TableSteps.{answered_kept, changed_table}

-- where a run is open on a device and has an answer there, no other run has a command out on it
none_called : (w : Setting) (n : Reading) (g : Grips) (held : ℕ → ℕ) (d r q : ℕ) → IsRead w n → OrderIsKept (point w n g) held → is_open w n r d ≡ true → did n r d ≡ true → q ≢ r → grips_command g q d ≡ false
none_called w n g held d r q read kept opened has ne = by_grip (grips_command g q d) refl
  where
    lives : (l x p : Bool) → (l && not x && p) ≡ true → l ≡ true
    lives l x p h = grind (arith, common_steps)

    tail : (x y : ℕ) (b : Bool) → x ≢ y → ((x == y) || b) ≡ true → b ≡ true
    tail x y b h k = grind (arith, common_steps)

    later : (a b : Bool) → a ≡ false → (a || b) ≡ true → b ≡ true
    later a b h k = grind (arith, common_steps)

    called : grips_command g q d ≡ true → ⊥
    called out = by_place (list_any (is_ran r) cut.front) refl
      where
        acts : ActsOn w n q d
        acts = acts_on w n g held q d kept out

        cut : CutAt q n.line
        cut = cut_live w n q read acts.live

        device : is_device w d ≡ true
        device = kept.grips.homed d (out_there (g d) out)
          where
            out_there : (o : Option Grip) → unwrap_or (option_map (λ p. (p.maker == q) && is_command p.purpose) o) false ≡ true → is_some o ≡ true
            out_there None h = absurd (cc)
            out_there (Some p) h = refl

        stands : (list_any (is_ran r) cut.front || list_any (is_ran r) (Ran (run_no q) ∷ cut.back)) ≡ true
        stands = sym (list_any-append (is_ran r) cut.front (Ran (run_no q) ∷ cut.back)) ∙ sym (ap (list_any (is_ran r)) cut.at) ∙ live_stands w n r read (lives (is_live n r) (is_doomed n r) (pends w n r d) opened)

        along : open_runs_are_last (point w n g) d (cut.front ++ Ran (run_no q) ∷ cut.back) ≡ true
        along = ap (open_runs_are_last (point w n g) d) (sym cut.at) ∙ open_runs_last w n g held d read kept

        by_place : (b : Bool) → list_any (is_ran r) cut.front ≡ b → ⊥
        by_place true there = both_ways (is_open w n r d) (closed_before w n g d cut.front cut.back (Ran (run_no q)) (or_right (did n q d) (grips_command g q d) out) along r there) opened
        by_place false there =
            both_ways (did n r d) (found n d r cut.back (unseen_behind w n g held d q cut read kept device acts.uses (command_held w g q d ∙ out))
            (tail q r (list_any (is_ran r) cut.back) ne (later (list_any (is_ran r) cut.front) (list_any (is_ran r) (Ran (run_no q) ∷ cut.back)) there stands)))
            has

    by_grip : (b : Bool) → grips_command g q d ≡ b → b ≡ false
    by_grip true out = absurd (called out)
    by_grip false out = refl

-- it is the run's turn there
pub told_touches_now : (w : Setting) (n : Reading) (g : Grips) (held : ℕ → ℕ) (r : ℕ) (c : Command) (cut : CutAt r n.line) → IsToldDown w n g held r c → TouchesNow w n g c.device.0 r cut
told_touches_now w n g held r c cut s = record {
  live = s.live;
  pending = pending;
  acts = ap (λ o. not (is_some o) || grips_command g r d) s.sound;
  kept = by_undid ((n.run r).on d).undid refl;
  undoes_none = unheld (g d) refl;
  alone = λ q ne. by_view q ne (sees_down n r d) refl;
  front = λ x there lives sound. left (is_live n x) (is_doomed n x) (pends w n x d) _ lives sound (found_live n (λ y. holds_device (point w n g) y d) cut.front none x there lives);
  back = open_behind w n g held d r cut s.read s.kept s.device (told_touches w n g held r c s) (told_open w n g held r c s);
}
  where
    d : ℕ
    d = c.device.0

    pending : pends w n r d ≡ true
    pending = sym (ap (uses_device d) (rest_drop (commands_of w.runs r) (n.run r).answers)) ∙ ap (uses_device d) (told_left w n g held r c s) ∙ or_left (d == d) (uses_device d (drop (next_of n r + 1) (commands_of w.runs r))) (eq-eqb d d refl)

    by_undid : (b : Bool) → ((n.run r).on d).undid ≡ b → b ≡ false
    by_undid true e = absurd (both_ways (is_doomed n r) (ap is_some s.sound) ((s.read.shaped r).undone d e))
    by_undid false e = refl

    unheld : (o : Option Grip) → g d ≡ o → unwrap_or (option_map (λ p. (p.maker == r) && is_undo p.purpose) o) false ≡ false
    unheld None e = refl
    unheld (Some grip) e = by_maker (grip.maker == r) refl
      where
        by_maker : (b : Bool) → (grip.maker == r) ≡ b → (b && is_undo grip.purpose) ≡ false
        by_maker true own = absurd (told_holds w n g held r c s d grip.purpose (e ∙ (λ i. Some (record { maker = eqb-true grip.maker r own i; purpose = grip.purpose }))))
        by_maker false own = refl

    opened : is_open w n r d ≡ true
    opened = λ i. s.live i && not (is_some (s.sound i)) && pending i

    seen : (v : Option Bool) → unwrap_or (option_map not v) false ≡ true → is_some v ≡ true
    seen None h = absurd (cc)
    seen (Some b) h = refl

    is_home : (a b o : Bool) → b ≡ false → ((a || not b) && o) ≡ false → o ≡ false
    is_home a b o h k = grind (arith, common_steps)

    by_view : (q : ℕ) → q ≢ r → (b : Bool) → sees_down n r d ≡ b → grips_command g q d ≡ false
    by_view q ne true e = none_called w n g held d r q s.read s.kept opened (seen (view_of n r d) e) ne
    by_view q ne false e = home_command g d q (none_out g d (is_home (is_weak w.mode) (sees_down n r d) (is_out g d) e s.busy))

    left : (l x p e : Bool) → l ≡ true → x ≡ false → (l && (if x then e else p)) ≡ false → p ≡ false
    left l x p e h k j = grind (arith, common_steps)

    none : find (λ y. holds_device (point w n g) y d) (live_runs n cut.front) ≡ None
    none = sym (ap (λ l. find (λ y. holds_device (point w n g) y d) (live_runs n l)) (ap (before r) cut.at ∙ before_cut r cut.front cut.back cut.before)) ∙ s.behind

-- the answer is noted as one that a call gave
pub told_table : (w : Setting) (n : Reading) (g : Grips) (held : ℕ → ℕ) (r : ℕ) (c : Command) (old new : List LineageState) → IsToldDown w n g held r c → ChangesEach (answered_change w n r (next_of n r) Down) old new → TableIsKept (point w n g) old
    → TableIsKept (point w (entry w n (Did (run_no r) (next_of n r) Down)) g) new
told_table w n g held r c old new s changes kept = changed_table w n (entry w n (Did (run_no r) (next_of n r) Down)) g g (answered_change w n r (next_of n r) Down) old new
    (answered_kept w n g g r (next_of n r) Down cut refl s.read refl (next_is (commands_of w.runs r) (next_of n r) c s.next).0 now
    (record { command = unheld; undo = now.undoes_none; others = λ q ne. record { command = refl; undo = refl } })
    (λ e ne q. record { command = refl; undo = refl })) changes kept
  where
    cut : CutAt r n.line
    cut = cut_live w n r s.read s.live

    own : IsToldDown w n g held r (command_at w.runs r (next_of n r))
    own = told_next w n g held r c s

    now : TouchesNow w n g (command_at w.runs r (next_of n r)).device.0 r cut
    now = told_touches_now w n g held r (command_at w.runs r (next_of n r)) cut own

    d : ℕ
    d = (command_at w.runs r (next_of n r)).device.0

    unheld : grips_command g r d ≡ false
    unheld = by (g d) refl
      where
        by : (o : Option Grip) → g d ≡ o → unwrap_or (option_map (λ p. (p.maker == r) && is_command p.purpose) o) false ≡ false
        by None e = refl
        by (Some grip) e = by_maker (grip.maker == r) refl
          where
            by_maker : (b : Bool) → (grip.maker == r) ≡ b → (b && is_command grip.purpose) ≡ false
            by_maker true mine = absurd (told_holds w n g held r c s d grip.purpose (e ∙ (λ i. Some (record { maker = eqb-true grip.maker r mine i; purpose = grip.purpose }))))
            by_maker false other = refl
