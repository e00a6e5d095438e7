-- The items of a window's order are runs and events of its own.
use Rattle.history_book.proofs.Prelude.{Aborted, Arrived, Back, Bool, Committed, Did, Doomed, Ended, Entry, Failed, Fell, IsTrue, IsWellFormed, Item, List, Placed, Ran, Reading, Rose, Setting, Undid, [], along, ap, arith, common_steps, cond, entry, false, fold, is_device, is_ran, is_run, list_any, may_follow, not, nothing_read, reading, refl, split_of, true, without, ℕ, ◌++◌, ◌+◌, ◌||◌, ◌∙◌, ◌∷◌, ◌≡◌}
use Rattle.history_book.proofs.Lines.{any_insert, any_put_before}
use Rattle.history_book.proofs.Splits.{split_any}

-- the item is no run of the window, and no event of one of its devices
abbrev pub is_stray : Setting → Item → Bool
is_stray w (Ran r) = not (is_run w.runs r.0)
is_stray w (Failed d k) = not (is_device w d.0)
is_stray w (Back d k) = not (is_device w d.0)

any_fewer : (p : Item → Bool) (r : ℕ) (line : List Item) → list_any p line ≡ false → list_any p (without r line) ≡ false
any_fewer p r [] none = refl
any_fewer p r (i ∷ line) none = of_bool (any_fewer p r line (grind (arith, common_steps))) (is_ran r i) refl
  where
    of_bool : list_any p (without r line) ≡ false → (b : Bool) → is_ran r i ≡ b → list_any p (cond (not b) (i ∷ without r line) (without r line)) ≡ false
    of_bool rest true e = rest
    of_bool rest false e = let first : p i ≡ false = grind (arith, common_steps) in rw first rest

abbrev pub NoneStrays : Setting → Reading → Type 0
NoneStrays w n = list_any (is_stray w) n.line ≡ false

pub stray_step : (w : Setting) (n : Reading) (e : Entry) → IsTrue (may_follow w n e) → NoneStrays w n → NoneStrays w (entry w n e)
stray_step w n (Arrived r m) ok none = none
stray_step w n (Placed r at m) ok none =
    any_insert (is_stray w) (split_of w n r.0 at m).front (split_of w n r.0 at m).back (Ran r)
    ∙ ap (λ b. b || list_any (is_stray w) ((split_of w n r.0 at m).front ++ (split_of w n r.0 at m).back)) (let own : is_run w.runs r.0 ≡ true = grind (arith, common_steps) in ap not own)
    ∙ split_any w n r.0 at m (is_stray w) ∙ none
stray_step w n (Did r c a) ok none = none
stray_step w n (Undid r d drove) ok none = none
stray_step w n (Fell d) ok none =
    any_put_before (is_stray w) _ (Failed d (n.fell d.0 + 1)) n.line ∙ ap (λ b. b || list_any (is_stray w) n.line) (let home : is_device w d.0 ≡ true = grind (arith, common_steps) in ap not home) ∙ none
stray_step w n (Rose d) ok none =
    any_put_before (is_stray w) _ (Back d (n.rose d.0 + 1)) n.line ∙ ap (λ b. b || list_any (is_stray w) n.line) (let home : is_device w d.0 ≡ true = grind (arith, common_steps) in ap not home) ∙ none
stray_step w n (Doomed r cause) ok none = none
stray_step w n (Ended r Committed) ok none = none
stray_step w n (Ended r (Aborted cause)) ok none = any_fewer (is_stray w) r.0 n.line none

stray_from : (w : Setting) (n : Reading) (h : List Entry) → NoneStrays w n → IsTrue (along w (may_follow w) n h) → NoneStrays w (fold (entry w) n h)
stray_from w n [] none ok = none
stray_from w n (e ∷ h) none ok = stray_from w (entry w n e) h (stray_step w n e (grind (arith, common_steps)) none) (grind (arith, common_steps))

-- none of the line's items is astray
pub none_strays : (w : Setting) (h : List Entry) → IsWellFormed w h → list_any (is_stray w) (reading w h).line ≡ false
none_strays w h ok = stray_from w (nothing_read w) h refl ok
