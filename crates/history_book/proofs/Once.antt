-- In a well-formed history a run stands in the line once where it is placed and no abort of it has ended, else not.
use Rattle.history_book.proofs.Prelude.{Aborted, Arrived, Back, Bool, Cause, Committed, DeviceNo, Did, Doomed, End, Ended, Entry, Failed, Fell, IsTrue, IsWellFormed, Item, List, None, OfRun, Option, Placed, Ran, Reading, Rose, RunNo, Setting, Some, Split, Undid, [], along, ap, ap₂, arith, common_steps, cond, count_by, did, entry, false, fold, front_for, if◌then◌else◌, is_none, is_open, is_ran, is_some, is_weak, may_follow, not, nothing_read, of_run, option_map, planned_times, put, put_before, reading, refl, split_of, sum_by-append, sum_by-cons, sym, true, unwrap_or, with_turn, without, ℕ, ◌&&◌, ◌++◌, ◌+◌, ◌==◌, ◌∙◌, ◌∷◌, ◌≡◌, ◌≢◌}
use Rattle.history_book.proofs.Lines.{same_run}
use Rattle.history_book.proofs.Shapes.{Shaped, shapes_step, unread_shape}
use Rattle.history_book.proofs.Snoc.{put_keeps}
use Rattle.history_book.proofs.Splits.{split_count}
use Rattle.history_book.proofs.Standing.{is_abort, stands_in}

count_cons : {A : Type 0} (p : A → Bool) (x : A) (xs : List A) → count_by p (x ∷ xs) ≡ cond (p x) 1 0 + count_by p xs
count_cons p x xs = sum_by-cons (λ y. cond (p y) 1 0) x xs

pub count_append : {A : Type 0} (p : A → Bool) (xs ys : List A) → count_by p (xs ++ ys) ≡ count_by p xs + count_by p ys
count_append p xs ys = sum_by-append (λ y. cond (p y) 1 0) xs ys

pub count_insert : {A : Type 0} (p : A → Bool) (front back : List A) (x : A) → count_by p (front ++ x ∷ back) ≡ cond (p x) 1 0 + count_by p (front ++ back)
count_insert p front back x =
    let with_x : count_by p (front ++ x ∷ back) ≡ count_by p front + count_by p (x ∷ back) = count_append p front (x ∷ back) in
    let here : count_by p (x ∷ back) ≡ cond (p x) 1 0 + count_by p back = count_cons p x back in
    let without_x : count_by p (front ++ back) ≡ count_by p front + count_by p back = count_append p front back in
    omega (arith, with_x, here, without_x)

pub count_put_before : (p t : Item → Bool) (x : Item) (line : List Item) → count_by p (put_before t x line) ≡ cond (p x) 1 0 + count_by p line
count_put_before p t x [] = count_cons p x []
count_put_before p t x (i ∷ is) = elim (t i) as (λ b. count_by p (if b then x ∷ i ∷ is else i ∷ put_before t x is) ≡ cond (p x) 1 0 + count_by p (i ∷ is)) [
  | true ↦ count_cons p x (i ∷ is)
  | false ↦ (
      let here : count_by p (i ∷ put_before t x is) ≡ cond (p i) 1 0 + count_by p (put_before t x is) = count_cons p i (put_before t x is) in
      let first : count_by p (i ∷ is) ≡ cond (p i) 1 0 + count_by p is = count_cons p i is in
      let rest : count_by p (put_before t x is) ≡ cond (p x) 1 0 + count_by p is = count_put_before p t x is in
      omega (arith, here, first, rest))
]

pub count_without : (r : ℕ) (line : List Item) → count_by (is_ran r) (without r line) ≡ 0
count_without r [] = refl
count_without r (i ∷ is) = elim (is_ran r i) as (λ b. is_ran r i ≡ b → count_by (is_ran r) (cond (not b) (i ∷ without r is) (without r is)) ≡ 0) [
  | true ↦ (λ e. count_without r is)
  | false ↦ (λ e. count_cons (is_ran r) i (without r is) ∙ ap (λ b. cond b 1 0 + count_by (is_ran r) (without r is)) e ∙ ap (λ k. 0 + k) (count_without r is))
] refl

pub count_other : (r q : ℕ) (line : List Item) → r ≢ q → count_by (is_ran r) (without q line) ≡ count_by (is_ran r) line
count_other r q [] other = refl
count_other r q (i ∷ is) other = elim (is_ran q i) as (λ b. is_ran q i ≡ b → count_by (is_ran r) (cond (not b) (i ∷ without q is) (without q is)) ≡ count_by (is_ran r) (i ∷ is)) [
  | true ↦ (λ e. count_other r q is other ∙ sym (count_cons (is_ran r) i is ∙ ap (λ b. cond b 1 0 + count_by (is_ran r) is) (not_both i e) ∙ none_before (count_by (is_ran r) is)))
  | false ↦ (λ e. count_cons (is_ran r) i (without q is) ∙ ap (λ k. cond (is_ran r i) 1 0 + k) (count_other r q is other) ∙ sym (count_cons (is_ran r) i is))
] refl
  where
    not_both : (i : Item) → is_ran q i ≡ true → is_ran r i ≡ false
    not_both i e = let both = same_run r q i in grind (arith, common_steps)

    none_before : (k : ℕ) → 0 + k ≡ k
    none_before k = omega arith

abbrev pub StandsOnce : Reading → Type 0
StandsOnce n = (r : ℕ) → count_by (is_ran r) n.line ≡ cond (stands_in (n.run r)) 1 0

-- an entry that leaves the line, and of its run the place and the end
same_count : (n m : Reading) (r : ℕ) (o : OfRun) → m.line ≡ n.line → m.run ≡ put n.run r o → o.placed ≡ (n.run r).placed → o.ended ≡ (n.run r).ended → StandsOnce n → StandsOnce m
same_count n m r o line run placed ended s q =
    ap (count_by (is_ran q)) line ∙ s q
    ∙ sym (ap (λ f. cond (stands_in (f q)) 1 0) run ∙ ap (λ b. cond b 1 0) (put_keeps stands_in n.run r o (ap₂ (λ p e. is_some p && not (unwrap_or (option_map is_abort e) false)) placed ended) q))

-- a run that is placed has not stood in the line before
placed_once : (w : Setting) (n : Reading) (r : RunNo) (at m : ℕ) → stands_in (n.run r.0) ≡ false → is_none (n.run r.0).ended ≡ true → StandsOnce n → StandsOnce (entry w n (Placed r at m))
placed_once w n r at m fresh going s q =
    count_insert (is_ran q) split.front split.back (Ran r) ∙ ap (λ k. cond (r.0 == q) 1 0 + k) (split_count w n r.0 at m (is_ran q) ∙ s q)
    ∙ elim (q == r.0) as (λ b. (q == r.0) ≡ b → cond (r.0 == q) 1 0 + cond (stands_in (n.run q)) 1 0 ≡ cond (stands_in (if b then new else n.run q)) 1 0) [
      | true ↦ (λ e. let same : q ≡ r.0 = grind (arith, common_steps) in rw (same, fresh, clean (n.run r.0).ended going) (grind (arith, common_steps)))
      | false ↦ (λ e. let other : (r.0 == q) ≡ false = grind (arith, common_steps) in rw other (none_before (cond (stands_in (n.run q)) 1 0)))
    ] refl
  where
    split : Split
    split = split_of w n r.0 at m

    new : OfRun
    new = record (n.run r.0) { placed = Some (record { place = at; moment = m; stamp = n.size }); planned = planned_times w n r.0 (front_for w n r.0 at m) m }

    clean : (e : Option End) → is_none e ≡ true → unwrap_or (option_map is_abort e) false ≡ false
    clean None none = refl
    clean (Some x) none = absurd (cc)

    none_before : (k : ℕ) → 0 + k ≡ k
    none_before k = omega arith

event_once : (w : Setting) (n : Reading) (d : DeviceNo) (x : Item) (up : Bool) → ((r : ℕ) → is_ran r x ≡ false) → StandsOnce n → StandsOnce (with_turn w n d x up)
event_once w n d x up never s r =
    count_put_before (is_ran r) (of_run (λ q. not (is_weak w.mode) && is_open w n q d.0 && not (did n q d.0))) x n.line ∙ ap (λ b. cond b 1 0 + count_by (is_ran r) n.line) (never r) ∙ none_before (count_by (is_ran r) n.line) ∙ s r
  where
    none_before : (k : ℕ) → 0 + k ≡ k
    none_before k = omega arith

aborted_once : (w : Setting) (n : Reading) (r : RunNo) (cause : Cause) → StandsOnce n → StandsOnce (entry w n (Ended r (Aborted cause)))
aborted_once w n r cause s q = elim (q == r.0) as (λ b. (q == r.0) ≡ b → count_by (is_ran q) (without r.0 n.line) ≡ cond (stands_in (if b then record (n.run r.0) { ended = Some (Aborted cause) } else n.run q)) 1 0) [
  | true ↦ (λ e. let same : q ≡ r.0 = grind (arith, common_steps) in rw same (count_without r.0 n.line ∙ grind (arith, common_steps)))
  | false ↦ (λ e. count_other q r.0 n.line (grind (arith, common_steps)) ∙ s q)
] refl

committed_once : (w : Setting) (n : Reading) (r : RunNo) → is_none (n.run r.0).ended ≡ true → StandsOnce n → StandsOnce (entry w n (Ended r Committed))
committed_once w n r going s q = s q ∙ ap (λ b. cond b 1 0) (sym (put_keeps stands_in n.run r.0 (record (n.run r.0) { ended = Some Committed }) (same (n.run r.0).ended going) q))
  where
    same : (e : Option End) → is_none e ≡ true → (is_some (n.run r.0).placed && not false) ≡ (is_some (n.run r.0).placed && not (unwrap_or (option_map is_abort e) false))
    same None none = refl
    same (Some x) none = absurd (cc)

pub once_step : (w : Setting) (n : Reading) (e : Entry) → IsTrue (may_follow w n e) → Shaped w n → StandsOnce n → StandsOnce (entry w n e)
once_step w n (Arrived r m) ok shaped s = same_count n (entry w n (Arrived r m)) r.0 (record (n.run r.0) { arrived = Some m }) refl refl refl refl s
once_step w n (Placed r at m) ok shaped s =
    let none : is_none (n.run r.0).placed ≡ true = grind (arith, common_steps) in
    placed_once w n r at m (grind (arith, common_steps)) (rw ((shaped r.0).going none) refl) s
once_step w n (Did r c a) ok shaped s = same_count n (entry w n (Did r c a)) r.0 _ refl refl refl refl s
once_step w n (Undid r d drove) ok shaped s = same_count n (entry w n (Undid r d drove)) r.0 _ refl refl refl refl s
once_step w n (Fell d) ok shaped s = event_once w n d (Failed d (n.fell d.0 + 1)) false (λ q. refl) s
once_step w n (Rose d) ok shaped s = event_once w n d (Back d (n.rose d.0 + 1)) true (λ q. refl) s
once_step w n (Doomed r k) ok shaped s = same_count n (entry w n (Doomed r k)) r.0 (record (n.run r.0) { doomed = Some k }) refl refl refl refl s
once_step w n (Ended r Committed) ok shaped s = committed_once w n r (grind (arith, common_steps)) s
once_step w n (Ended r (Aborted k)) ok shaped s = aborted_once w n r k s

once_from : (w : Setting) (n : Reading) (h : List Entry) → Shaped w n → StandsOnce n → IsTrue (along w (may_follow w) n h) → StandsOnce (fold (entry w) n h)
once_from w n [] shaped s ok = s
once_from w n (e ∷ h) shaped s ok = once_from w (entry w n e) h (shapes_step w n e (grind (arith, common_steps)) shaped) (once_step w n e (grind (arith, common_steps)) shaped s) (grind (arith, common_steps))

pub stands_once : (w : Setting) (h : List Entry) → IsWellFormed w h → StandsOnce (reading w h)
stands_once w h ok = once_from w (nothing_read w) h (unread_shape w) (λ r. refl) ok
