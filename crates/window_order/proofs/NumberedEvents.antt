-- The failures of a device in the line have numbers up to how often it failed, and its restarts up to how often it came back.
use Rattle.window_order.proofs.Prelude.{Aborted, Arrived, Back, Bool, Committed, Did, Doomed, Ended, Entry, Failed, Fell, Item, List, Placed, Ran, Reading, Rose, Setting, Undid, [], any_insert, any_put_before, arith, common_steps, cond, entry, eqb-true, false, filter, fold, if◌then◌else◌, is_failure, is_ran, is_restart_of, list_any, not, nothing_read, or_parts, put, reading, refl, split_any, subst, sym, true, ℕ, ◌&&◌, ◌+◌, ◌<◌, ◌==◌, ◌||◌, ◌∙◌, ◌∷◌, ◌≡◌}
use Rattle.history_book.specs.Gaps.{split_of}

-- no event of the device stands in the line with a greater number
pub record EventsAreNumbered (n : Reading) : Type 0 where
  pub failures : (d k : ℕ) → n.fell d < k → list_any (is_failure d k) n.line ≡ false
  pub restarts : (d k : ℕ) → n.rose d < k → list_any (is_restart_of d k) n.line ≡ false

any_filtered : (p q : Item → Bool) (is : List Item) → list_any p is ≡ false → list_any p (filter q is) ≡ false
any_filtered p q [] none = refl
any_filtered p q (i ∷ is) none = at_ (q i) (any_filtered p q is (or_parts (p i) (list_any p is) none).1)
  where
    at_ : (b : Bool) → list_any p (filter q is) ≡ false → list_any p (cond b (i ∷ filter q is) (filter q is)) ≡ false
    at_ true rest = λ j. (or_parts (p i) (list_any p is) none).0 j || rest j
    at_ false rest = rest

-- a number above the raised one is above the old one, and is not the new one
above : (f : ℕ → ℕ) (d e k : ℕ) → put f d (f d + 1) e < k → (f e < k) × (((d == e) && (f d + 1 == k)) ≡ false)
above f d e k more = at_ (e == d) refl more
  where
    differ : (x y : ℕ) (b : Bool) → (x == y) ≡ false → ((y == x) && b) ≡ false
    differ x y b h = grind (arith, common_steps)

    not_it : (b : Bool) (x y : ℕ) → x < y → (b && (x == y)) ≡ false
    not_it b x y h = grind (arith, common_steps)

    at_ : (b : Bool) → (e == d) ≡ b → (if b then f d + 1 else f e) < k → (f e < k) × (((d == e) && (f d + 1 == k)) ≡ false)
    at_ true here h = (subst (λ x. f x < k) (sym (eqb-true e d here)) (omega (arith, h)), not_it (d == e) (f d + 1) k h)
    at_ false there h = (h, differ e d (f d + 1 == k) there)

numbered_step : (w : Setting) (n : Reading) (e : Entry) → EventsAreNumbered n → EventsAreNumbered (entry w n e)
numbered_step w n (Arrived r m) s = record { failures = s.failures; restarts = s.restarts }
numbered_step w n (Placed r at m) s = record {
  failures = λ d k more. any_insert (is_failure d k) (split_of w n r.0 at m).front (split_of w n r.0 at m).back (Ran r) ∙ split_any w n r.0 at m (is_failure d k) ∙ s.failures d k more;
  restarts = λ d k more. any_insert (is_restart_of d k) (split_of w n r.0 at m).front (split_of w n r.0 at m).back (Ran r) ∙ split_any w n r.0 at m (is_restart_of d k) ∙ s.restarts d k more;
}
numbered_step w n (Did r c a) s = record { failures = s.failures; restarts = s.restarts }
numbered_step w n (Undid r d drove) s = record { failures = s.failures; restarts = s.restarts }
numbered_step w n (Fell d) s = record {
  failures = λ e k more. let over = above n.fell d.0 e k more in any_put_before (is_failure e k) _ (Failed d (n.fell d.0 + 1)) n.line ∙ (λ i. over.1 i || s.failures e k over.0 i);
  restarts = λ e k more. any_put_before (is_restart_of e k) _ (Failed d (n.fell d.0 + 1)) n.line ∙ s.restarts e k more;
}
numbered_step w n (Rose d) s = record {
  failures = λ e k more. any_put_before (is_failure e k) _ (Back d (n.rose d.0 + 1)) n.line ∙ s.failures e k more;
  restarts = λ e k more. let over = above n.rose d.0 e k more in any_put_before (is_restart_of e k) _ (Back d (n.rose d.0 + 1)) n.line ∙ (λ i. over.1 i || s.restarts e k over.0 i);
}
numbered_step w n (Doomed r cause) s = record { failures = s.failures; restarts = s.restarts }
numbered_step w n (Ended r Committed) s = record { failures = s.failures; restarts = s.restarts }
numbered_step w n (Ended r (Aborted cause)) s = record {
  failures = λ d k more. any_filtered (is_failure d k) (λ i. not (is_ran r.0 i)) n.line (s.failures d k more);
  restarts = λ d k more. any_filtered (is_restart_of d k) (λ i. not (is_ran r.0 i)) n.line (s.restarts d k more);
}

numbered_from : (w : Setting) (n : Reading) (h : List Entry) → EventsAreNumbered n → EventsAreNumbered (fold (entry w) n h)
numbered_from w n [] s = s
numbered_from w n (e ∷ h) s = numbered_from w (entry w n e) h (numbered_step w n e s)

pub events_numbered : (w : Setting) (h : List Entry) → EventsAreNumbered (reading w h)
events_numbered w h = numbered_from w (nothing_read w) h (record { failures = λ d k more. refl; restarts = λ d k more. refl })
