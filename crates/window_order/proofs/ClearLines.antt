-- What stands behind a place that is clear for a run: on the run's devices no answer, no command that is out and no event.
use Rattle.window_order.proofs.Prelude.{Back, Bool, Failed, Grips, IsClear, Item, List, Ran, Reading, RunNo, Setting, [], ap, arith, at_device, binds, clear_touch, commands_of, commits_write, common_steps, device_summary, did, drop, eqb-true, false, grips_command, has_touched, has_used_device, held_by, holds_command, is_calm_line, is_device, is_ran, is_some, list_any, none_beside, not, of_run, or_parts, point, refl, run_state, sym, touches, true, unbound_touch, uses_device, view_of, window_of, ℕ, ◌&&◌, ◌==◌, ◌||◌, ◌∙◌, ◌∷◌, ◌≡◌}
use Rattle.window_order.proofs.Firsts.{seen_view}
use Rattle.window_order.proofs.PromisedWords.{command_held}
use Rattle.window_order.proofs.ReadFacts.{IsRead}

-- no committed run there wrote one
pub clear_written : (w : Setting) (n : Reading) (g : Grips) (r at d : ℕ) → IsRead w n → IsClear (point w n g) r at → is_device w d ≡ true → touches w.runs r d ≡ true → list_any (of_run (commits_write n d)) (drop at n.line) ≡ false
clear_written w n g r at d read clear device used = none_beside (of_run (λ x. has_touched n g x d)) (of_run (commits_write n d)) (drop at n.line) unwritten (clear_touch w n g r at d clear device used)
  where
    none : (c h t o : Bool) → (h ≡ true → t ≡ true) → (t || o) ≡ false → (c && h) ≡ false
    none false h t o has k = refl
    none true false t o has k = refl
    none true true t o has k = absurd (let seen : t ≡ true = has refl in let clash : true ≡ false = sym (λ i. seen i || o) ∙ k in cc)

    unwritten : (i : Item) → of_run (λ x. has_touched n g x d) i ≡ false → of_run (commits_write n d) i ≡ false
    unwritten (Ran q) untouched = none _ (is_some ((n.run q.0).on d).wrote) (did n q.0 d) (grips_command g q.0 d) ((read.shaped q.0).wrote d) untouched
    unwritten (Failed e k) untouched = refl
    unwritten (Back e k) untouched = refl

-- no run there has touched one
pub clear_run : (w : Setting) (n : Reading) (g : Grips) (r at d x : ℕ) → IsClear (point w n g) r at → is_device w d ≡ true → touches w.runs r d ≡ true → list_any (is_ran x) (drop at n.line) ≡ true → has_touched n g x d ≡ false
clear_run w n g r at d x clear device used there = found (drop at n.line) (clear_touch w n g r at d clear device used) there
  where
    found : (is : List Item) → list_any (of_run (λ q. has_touched n g q d)) is ≡ false → list_any (is_ran x) is ≡ true → has_touched n g x d ≡ false
    found [] none there = absurd (cc)
    found (Ran q ∷ is) none there = at_ (or_parts (has_touched n g q.0 d) (list_any (of_run (λ y. has_touched n g y d)) is) none) (found is) (q.0 == x) refl there
      where
        at_ : (has_touched n g q.0 d ≡ false) × (list_any (of_run (λ y. has_touched n g y d)) is ≡ false) → (list_any (of_run (λ y. has_touched n g y d)) is ≡ false → list_any (is_ran x) is ≡ true → has_touched n g x d ≡ false)
            → (b : Bool) → (q.0 == x) ≡ b → (b || list_any (is_ran x) is) ≡ true → has_touched n g x d ≡ false
        at_ parts ih true e h = sym (ap (λ y. has_touched n g y d) (eqb-true q.0 x e)) ∙ parts.0
        at_ parts ih false e h = ih parts.1 h
    found (Failed e k ∷ is) none there = found is none there
    found (Back e k ∷ is) none there = found is none there

-- it is calm
pub calm_place : (w : Setting) (n : Reading) (g : Grips) (held : ℕ → ℕ) (r at d : ℕ) → IsRead w n → IsClear (point w n g) r at → is_device w d ≡ true → touches w.runs r d ≡ true → is_calm_line w.kinds (window_of (point w n g) held).states d (drop at n.line) ≡ true
unfolding is_calm_line
calm_place w n g held r at d read clear device used = along (drop at n.line) clear
  where
    -- the use of a run that has not touched the device
    untouched : (q : RunNo) → has_touched n g q.0 d ≡ false → at_device w.kinds (window_of (point w n g) held).states d has_used_device q.0 ≡ false
    untouched q none = none_used (uses_device d (commands_of w.runs q.0)) (is_some (device_summary w.kinds (run_state (point w n g) q.0) d).view) (holds_command (held_by w q.0 (g d))) (did n q.0 d) (grips_command g q.0 d) view (command_held w g q.0 d) none
      where
        view : is_some (device_summary w.kinds (run_state (point w n g) q.0) d).view ≡ did n q.0 d
        view = ap is_some ((read.summarized q.0).view d) ∙ seen_view (view_of n q.0 d)

        none_used : (u v c x y : Bool) → v ≡ x → c ≡ y → (x || y) ≡ false → (u && (v || c)) ≡ false
        none_used u v c x y h k e = grind (arith, common_steps)

    apart : (e : ℕ) → touches w.runs r e ≡ false → (b : Bool) → (e == d) ≡ b → b ≡ false
    apart e off true h = absurd (let same : e ≡ d = grind (arith, common_steps) in let clash : true ≡ false = sym used ∙ sym (ap (touches w.runs r) same) ∙ off in cc)
    apart e off false h = refl

    along : (is : List Item) → list_any (binds (point w n g) r) is ≡ false → is_calm_line w.kinds (window_of (point w n g) held).states d is ≡ true
    along [] none = refl
    along (Ran q ∷ is) none = let parts = or_parts (binds (point w n g) r (Ran q)) (list_any (binds (point w n g) r) is) none in λ i. not (untouched q (unbound_touch w n g r d q parts.0 device used) i) && along is parts.1 i
    along (Failed e k ∷ is) none = let parts = or_parts (binds (point w n g) r (Failed e k)) (list_any (binds (point w n g) r) is) none in λ i. not (apart e.0 parts.0 (e.0 == d) refl i) && along is parts.1 i
    along (Back e k ∷ is) none = let parts = or_parts (binds (point w n g) r (Back e k)) (list_any (binds (point w n g) r) is) none in λ i. not (apart e.0 parts.0 (e.0 == d) refl i) && along is parts.1 i
