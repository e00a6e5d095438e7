-- The events of a line are of the home's devices.
use Rattle.printed_records.proofs.Prelude.{Aborted, Arrived, Back, Bool, Committed, Did, Doomed, Ended, Entry, Failed, Fell, IsTrue, IsWellFormed, Item, List, Placed, Ran, Reading, Rose, Setting, Undid, [], along, any_insert, any_put_before, ap, arith, common_steps, cond, entry, false, fold, is_device, is_ran, length, list_any, may_follow, not, nothing_read, reading, refl, split_any, true, without, ℕ, ◌++◌, ◌+◌, ◌||◌, ◌∙◌, ◌∷◌, ◌≡◌}
use Rattle.history_book.specs.Gaps.{split_of}
use Rattle.printed_records.proofs.StandingItems.{IsHomed}

-- the item is an event of a device that the home does not have
abbrev pub is_astray : Setting → Item → Bool
is_astray w (Ran r) = false
is_astray w (Failed d k) = not (is_device w d.0)
is_astray w (Back d k) = not (is_device w d.0)

-- no item of the line is
abbrev pub NoneAstray : Setting → Reading → Type 0
NoneAstray w n = list_any (is_astray w) n.line ≡ false

any_fewer : (p : Item → Bool) (r : ℕ) (line : List Item) → list_any p line ≡ false → list_any p (without r line) ≡ false
any_fewer p r [] none = refl
any_fewer p r (i ∷ line) none = of_bool (any_fewer p r line (grind (arith, common_steps))) (is_ran r i) refl
  where
    of_bool : list_any p (without r line) ≡ false → (b : Bool) → is_ran r i ≡ b → list_any p (cond (not b) (i ∷ without r line) (without r line)) ≡ false
    of_bool rest true e = rest
    of_bool rest false e = let first : p i ≡ false = grind (arith, common_steps) in rw first rest

astray_step : (w : Setting) (n : Reading) (e : Entry) → IsTrue (may_follow w n e) → NoneAstray w n → NoneAstray w (entry w n e)
astray_step w n (Arrived r m) ok none = none
astray_step w n (Placed r at m) ok none =
    any_insert (is_astray w) (split_of w n r.0 at m).front (split_of w n r.0 at m).back (Ran r) ∙ split_any w n r.0 at m (is_astray w) ∙ none
astray_step w n (Did r c a) ok none = none
astray_step w n (Undid r d drove) ok none = none
astray_step w n (Fell d) ok none =
    any_put_before (is_astray w) _ (Failed d (n.fell d.0 + 1)) n.line ∙ ap (λ b. b || list_any (is_astray w) n.line) (let home : is_device w d.0 ≡ true = grind (arith, common_steps) in ap not home) ∙ none
astray_step w n (Rose d) ok none =
    any_put_before (is_astray w) _ (Back d (n.rose d.0 + 1)) n.line ∙ ap (λ b. b || list_any (is_astray w) n.line) (let home : is_device w d.0 ≡ true = grind (arith, common_steps) in ap not home) ∙ none
astray_step w n (Doomed r cause) ok none = none
astray_step w n (Ended r Committed) ok none = none
astray_step w n (Ended r (Aborted cause)) ok none = any_fewer (is_astray w) r.0 n.line none

astray_from : (w : Setting) (n : Reading) (h : List Entry) → NoneAstray w n → IsTrue (along w (may_follow w) n h) → NoneAstray w (fold (entry w) n h)
astray_from w n [] none ok = none
astray_from w n (e ∷ h) none ok = astray_from w (entry w n e) h (astray_step w n e (grind (arith, common_steps)) none) (grind (arith, common_steps))

homed_at : (w : Setting) (front : List Item) (item : Item) (back : List Item) → list_any (is_astray w) (front ++ item ∷ back) ≡ false → IsHomed (length w.first) item
homed_at w [] (Ran r) back none = tt
homed_at w [] (Failed d k) back none = grind (arith, common_steps)
homed_at w [] (Back d k) back none = grind (arith, common_steps)
homed_at w (i ∷ front) item back none = homed_at w front item back (grind (arith, common_steps))

-- an event of the line is of a device of the home
pub events_homed : (w : Setting) (h : List Entry) → IsWellFormed w h → (front : List Item) (item : Item) (back : List Item) → front ++ item ∷ back ≡ (reading w h).line → IsHomed (length w.first) item
events_homed w h ok front item back there = homed_at w front item back (ap (list_any (is_astray w)) there ∙ astray_from w (nothing_read w) h refl ok)
