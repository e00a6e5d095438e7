-- The sealed items of a line: where an item that is not one of them stands.
use Rattle.serial_line.proofs.Prelude.{Back, Bool, Failed, Item, List, Mark, Ran, RunNo, Some, [], ap, arith, common_steps, cond, false, front_of, get_or, if◌then◌else◌, is_item, is_open_run, is_ran, length, marks_without, nat_lt, not, of_run, place_of, refl, settling, stands, suc, sym, take, touching, true, untouched, with_item, zero, ℕ, ◌+◌, ◌<◌, ◌||◌, ◌∙◌, ◌∷◌, ◌≡◌, ◌≤◌}
use Rattle.serial_line.proofs.Once.{place_told}
use Rattle.serial_line.specs.Ties.{Each, EndsAs}
use Rattle.std.specs.FinSet as set

stands_below : (x : Item) (ms : List Mark) (k n : ℕ) (d : Mark) → k < n → k < length ms → is_item x (get_or ms k d).item ≡ true → stands x (take n ms) ≡ true
stands_below x [] k n d low within there = absurd (omega (arith, within))
stands_below x (m ∷ ms) k zero d low within there = absurd (omega (arith, low))
stands_below x (m ∷ ms) zero (suc n) d low within there = rw there refl
stands_below x (m ∷ ms) (suc k) (suc n) d low within there = rw (stands_below x ms k n d (omega (arith, low)) (omega (arith, within)) there) (grind (arith, common_steps))

-- an item that is none of the first so many stands behind them
pub unsealed_place : (x : Item) (ms : List Mark) (k n : ℕ) → place_of x ms ≡ Some k → stands x (take n ms) ≡ false → n ≤ k
unsealed_place x ms k n told none = by_cases (nat_lt k n) refl
  where
    by_cases : (b : Bool) → nat_lt k n ≡ b → n ≤ k
    by_cases true e =
        let low : k < n = grind (arith, common_steps) in
        let found = place_told x ms k (untouched x) told in
        absurd (cc (sym (stands_below x ms k n (untouched x) low found.0 found.1) ∙ none))
    by_cases false e = grind (arith, common_steps)

-- What each call leaves of the items before the first run that has not ended

-- it is no run that has ended
not_open : (r : ℕ) (i : Item) (b : Bool) → b ≡ false → of_run (λ q. not b) i ≡ false → is_ran r i ≡ false
not_open r (Ran q) true none closed = absurd (cc)
not_open r (Ran q) false none closed = absurd (cc)
not_open r (Failed d k) b none closed = refl
not_open r (Back d k) b none closed = refl

-- a run that has not ended is none of them
pub live_unsealed : (ended : ℕ → Bool) (r : RunNo) (ms : List Mark) → Each (EndsAs ended) ms → ended r.0 ≡ false → stands (Ran r) (take (front_of ms) ms) ≡ false
live_unsealed ended r [] ends live = refl
live_unsealed ended r (m ∷ ms) ends live = by_open (is_open_run m) refl (live_unsealed ended r ms ends.1 live)
  where
    other : is_open_run m ≡ false → (b : Bool) → is_ran r.0 m.item ≡ b → b ≡ false
    other closed true e = absurd (cc (sym e ∙ not_open r.0 m.item m.ended (ends.0 ∙ own m.item e) closed))
      where
        own : (i : Item) → is_ran r.0 i ≡ true → of_run ended i ≡ false
        own (Ran q) is = let same : q.0 ≡ r.0 = grind (arith, common_steps) in ap ended same ∙ live
        own (Failed d k) is = absurd (cc)
        own (Back d k) is = absurd (cc)
    other closed false e = refl

    by_open : (b : Bool) → is_open_run m ≡ b → stands (Ran r) (take (front_of ms) ms) ≡ false → stands (Ran r) (take (if b then 0 else front_of ms + 1) (m ∷ ms)) ≡ false
    by_open true e rest = refl
    by_open false e rest =
        let next : suc (front_of ms) ≡ front_of ms + 1 = omega arith in
        ap (λ n. stands (Ran r) (take n (m ∷ ms))) (sym next) ∙ (λ i. other e (is_ran r.0 m.item) refl i || rest i)

-- a run that leaves, and is none of them, leaves them
pub front_without : (r : RunNo) (ms : List Mark) → stands (Ran r) (take (front_of ms) ms) ≡ false → front_of ms ≤ front_of (marks_without r.0 ms)
front_without r [] none = omega arith
front_without r (m ∷ ms) none = by_open (is_open_run m) refl none (front_without r ms)
  where
    by_open : (b : Bool) → is_open_run m ≡ b → stands (Ran r) (take (if b then 0 else front_of ms + 1) (m ∷ ms)) ≡ false → (stands (Ran r) (take (front_of ms) ms) ≡ false → front_of ms ≤ front_of (marks_without r.0 ms)) → (if b then 0 else front_of ms + 1) ≤ front_of (marks_without r.0 (m ∷ ms))
    by_open true e none rest = omega arith
    by_open false e none rest = goes (is_ran r.0 m.item) refl
      where
        next : suc (front_of ms) ≡ front_of ms + 1
        next = omega arith

        parts : (is_ran r.0 m.item || stands (Ran r) (take (front_of ms) ms)) ≡ false
        parts = ap (λ n. stands (Ran r) (take n (m ∷ ms))) next ∙ none

        goes : (b : Bool) → is_ran r.0 m.item ≡ b → front_of ms + 1 ≤ front_of (cond (not b) (m ∷ marks_without r.0 ms) (marks_without r.0 ms))
        goes true f = absurd (grind (arith, common_steps))
        goes false f =
            let more = rest (grind (arith, common_steps)) in
            rw e (omega (arith, more))

-- a run that ends only adds to them
pub front_settling : (r : ℕ) (ms : List Mark) → front_of ms ≤ front_of (settling r ms)
front_settling r [] = omega arith
front_settling r (m ∷ ms) = by_run (is_ran r m.item) (is_open_run m) refl (front_settling r ms)
  where
    closed : (i : Item) → of_run (λ q. false) i ≡ false
    closed (Ran q) = refl
    closed (Failed d k) = refl
    closed (Back d k) = refl

    by_run : (b o : Bool) → is_open_run m ≡ o → front_of ms ≤ front_of (settling r ms) → (if o then 0 else front_of ms + 1) ≤ front_of ((if b then record m { ended = true } else m) ∷ settling r ms)
    by_run b true e rest = omega arith
    by_run true false e rest = rw (closed m.item) (omega (arith, rest))
    by_run false false e rest = rw e (omega (arith, rest))

-- a run that touches a device leaves them
pub front_touching : (r d : ℕ) (ms : List Mark) → front_of (touching r d ms) ≡ front_of ms
front_touching r d [] = refl
front_touching r d (m ∷ ms) = by_run (is_ran r m.item) (front_touching r d ms)
  where
    by_run : (b : Bool) → front_of (touching r d ms) ≡ front_of ms → front_of ((if b then record m { touched = set.insert m.touched d } else m) ∷ touching r d ms) ≡ (if is_open_run m then 0 else front_of ms + 1)
    by_run true rest = ap (λ k. if is_open_run m then 0 else k + 1) rest
    by_run false rest = ap (λ k. if is_open_run m then 0 else k + 1) rest

-- a run that comes behind them leaves them
pub front_placed : (r : RunNo) (ms : List Mark) (at : ℕ) → front_of ms ≤ at → front_of (with_item at (Ran r) ms) ≡ front_of ms
front_placed r [] zero behind = refl
front_placed r [] (suc at) behind = refl
front_placed r (m ∷ ms) zero behind = by_open (is_open_run m) behind
  where
    by_open : (b : Bool) → (if b then 0 else front_of ms + 1) ≤ 0 → 0 ≡ (if b then 0 else front_of ms + 1)
    by_open true low = refl
    by_open false low = absurd (omega (arith, low))
front_placed r (m ∷ ms) (suc at) behind = by_open (is_open_run m) behind (front_placed r ms at)
  where
    by_open : (b : Bool) → (if b then 0 else front_of ms + 1) ≤ suc at → (front_of ms ≤ at → front_of (with_item at (Ran r) ms) ≡ front_of ms) → (if b then 0 else front_of (with_item at (Ran r) ms) + 1) ≡ (if b then 0 else front_of ms + 1)
    by_open true low rest = refl
    by_open false low rest = ap (λ k. k + 1) (rest (omega (arith, low)))
