-- A run stays behind the one that it follows, where the line is rearranged.
use Rattle.history_book.proofs.Prelude.{Back, Bool, Failed, Fcfs, IsClosed, Item, JustInTime, List, Ran, Reading, Run, Scheduler, Setting, Timeline, [], ap, arith, behind, chosen, common_steps, cond, false, follows, gap_set, is_ran, line_for, list_any, list_any-append, meet, others, rearranged, rearranged_any, refl, scheduler_of, shares, sym, true, ℕ, ◌++◌, ◌==◌, ◌||◌, ◌∙◌, ◌∷◌, ◌≡◌}
use Rattle.history_book.proofs.Splits.{gap_closed}

either : (b : Bool) → (b || true) ≡ true
either true = refl
either false = refl

-- behind the run, wherever it stands
behind_middle : (p : Item → Bool) (f : ℕ) (i : Item) (front back : List Item) → is_ran f i ≡ true → list_any p back ≡ true → list_any p (behind f (front ++ i ∷ back)) ≡ true
behind_middle p f i [] back here some = ap (λ b. list_any p (cond b back (behind f back))) here ∙ some
behind_middle p f i (j ∷ js) back here some = further (is_ran f j) (behind_middle p f i js back here some)
  where
    further : (b : Bool) → list_any p (behind f (js ++ i ∷ back)) ≡ true → list_any p (cond b (js ++ i ∷ back) (behind f (js ++ i ∷ back))) ≡ true
    further true rest = list_any-append p js (i ∷ back) ∙ ap (λ b. list_any p js || (p i || b)) some ∙ ap (λ b. list_any p js || b) (either (p i)) ∙ either (list_any p js)
    further false rest = rest

-- .. where another item comes
behind_more : (p : Item → Bool) (f : ℕ) (x : Item) (front back : List Item) → is_ran f x ≡ false → list_any p (behind f (front ++ back)) ≡ true → list_any p (behind f (front ++ x ∷ back)) ≡ true
behind_more p f x [] back other there = ap (λ b. list_any p (cond b back (behind f back))) other ∙ there
behind_more p f x (i ∷ is) back other there = further (is_ran f i) (λ e. behind_more p f x is back other e) there
  where
    further : (b : Bool) → (list_any p (behind f (is ++ back)) ≡ true → list_any p (behind f (is ++ x ∷ back)) ≡ true) → list_any p (cond b (is ++ back) (behind f (is ++ back))) ≡ true → list_any p (cond b (is ++ x ∷ back) (behind f (is ++ x ∷ back))) ≡ true
    further true rest e = list_any-append p is (x ∷ back) ∙ middle (list_any p is) (p x) (list_any p back) (sym (list_any-append p is back) ∙ e)
      where
        middle : (a b c : Bool) → (a || c) ≡ true → (a || (b || c)) ≡ true
        middle a b c h = grind (arith, common_steps)
    further false rest e = rest e

-- an item that meets each item of which the test holds, and none of these, has none of them
none_told : (meets : Item → Item → Bool) (p : Item → Bool) (i : Item) (is : List Item) → ((j : Item) → p j ≡ true → meets i j ≡ true) → list_any (meets i) is ≡ false → list_any p is ≡ false
none_told meets p i [] each none = refl
none_told meets p i (j ∷ js) each none = at_ (p j) refl (none_told meets p i js each (last (meets i j) (list_any (meets i) js) none))
  where
    last : (a b : Bool) → (a || b) ≡ false → b ≡ false
    last a b h = grind (arith, common_steps)

    clash : (a b : Bool) → (a || b) ≡ false → a ≡ true → ⊥
    clash a b h k = grind (arith, common_steps)

    at_ : (b : Bool) → p j ≡ b → list_any p js ≡ false → (p j || list_any p js) ≡ false
    at_ true e rest = absurd (clash (meets i j) (list_any (meets i) js) none (each j e))
    at_ false e rest = λ k. e k || rest k

behind_kept : (meets : Item → Item → Bool) (f r : ℕ) (bs : List Bool) (line : List Item) → ((i j : Item) → is_ran f i ≡ true → is_ran r j ≡ true → meets i j ≡ true) → IsClosed meets bs line → list_any (is_ran r) (behind f line) ≡ true → list_any (is_ran r) (behind f (rearranged bs line)) ≡ true
unfolding chosen others IsClosed
behind_kept meets f r bs [] tied closed there = absurd cc
behind_kept meets f r [] (i ∷ is) tied closed there = there
behind_kept meets f r (true ∷ bs) (i ∷ is) tied closed there = further (is_ran f i) there (λ e. behind_kept meets f r bs is tied closed.1 e)
  where
    further : (b : Bool) → list_any (is_ran r) (cond b is (behind f is)) ≡ true → (list_any (is_ran r) (behind f is) ≡ true → list_any (is_ran r) (behind f (rearranged bs is)) ≡ true) → list_any (is_ran r) (cond b (rearranged bs is) (behind f (rearranged bs is))) ≡ true
    further true e rest = rearranged_any (is_ran r) bs is ∙ e
    further false e rest = rest e
behind_kept meets f r (false ∷ bs) (i ∷ is) tied closed there = further (is_ran f i) refl there (λ e. behind_kept meets f r bs is tied closed.1 e)
  where
    left : (a b : Bool) → a ≡ false → (a || b) ≡ true → b ≡ true
    left a b h k = grind (arith, common_steps)

    further : (b : Bool) → is_ran f i ≡ b → list_any (is_ran r) (cond b is (behind f is)) ≡ true → (list_any (is_ran r) (behind f is) ≡ true → list_any (is_ran r) (behind f (rearranged bs is)) ≡ true) → list_any (is_ran r) (behind f (chosen bs is ++ i ∷ others bs is)) ≡ true
    further true here e rest =
        let none = none_told meets (is_ran r) i (chosen bs is) (λ j told. tied i j here told) (closed.0 refl) in
        behind_middle (is_ran r) f i (chosen bs is) (others bs is) here (left (list_any (is_ran r) (chosen bs is)) (list_any (is_ran r) (others bs is)) none (sym (list_any-append (is_ran r) (chosen bs is) (others bs is)) ∙ rearranged_any (is_ran r) bs is ∙ e))
    further false here e rest = behind_more (is_ran r) f i (chosen bs is) (others bs is) here (rest e)

-- a run and the one that it follows are not apart
tied_runs : (runs : List Run) (f r : ℕ) → follows runs r f ≡ true → (i j : Item) → is_ran f i ≡ true → is_ran r j ≡ true → meet runs i j ≡ true
tied_runs runs f r leads (Ran q) (Ran p) here there = ap (λ b. shares runs q.0 p.0 || b) (ap (λ b. follows runs q.0 p.0 || b) (at_ ∙ leads) ∙ either (follows runs q.0 p.0)) ∙ either (shares runs q.0 p.0)
  where
    same : (x y : ℕ) → (x == y) ≡ true → x ≡ y
    same x y h = grind (arith, common_steps)

    at_ : follows runs p.0 q.0 ≡ follows runs r f
    at_ = (λ i. follows runs (same p.0 r there i) (same q.0 f here i))
tied_runs runs f r leads (Ran q) (Failed e k) here there = absurd cc
tied_runs runs f r leads (Ran q) (Back e k) here there = absurd cc
tied_runs runs f r leads (Failed d l) j here there = absurd cc
tied_runs runs f r leads (Back d l) j here there = absurd cc

pub line_follows : (w : Setting) (n : Reading) (r m q f : ℕ) → follows w.runs q f ≡ true → list_any (is_ran q) (behind f n.line) ≡ true → list_any (is_ran q) (behind f (line_for w n r m)) ≡ true
line_follows w n r m q f leads there = by_scheduler (scheduler_of w.mode)
  where
    line : Scheduler → List Item
    line Fcfs = n.line
    line JustInTime = n.line
    line Timeline = rearranged (gap_set w n r m) n.line

    by_scheduler : (s : Scheduler) → list_any (is_ran q) (behind f (line s)) ≡ true
    by_scheduler Fcfs = there
    by_scheduler JustInTime = there
    by_scheduler Timeline = behind_kept (meet w.runs) f q (gap_set w n r m) n.line (tied_runs w.runs f q leads) (gap_closed w n r m) there
