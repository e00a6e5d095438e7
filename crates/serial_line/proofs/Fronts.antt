-- The number of items before the first run that has not ended: what it is after a change, and how it is found.
use Rattle.serial_line.proofs.Prelude.{Back, Bool, Failed, Item, List, Mark, Ran, [], ap, arith, false, front_of, get_or, if◌then◌else◌, insert, is_open_run, length, not, of_run, refl, remove, slice_set, suc, true, zero, ℕ, ◌+◌, ◌<◌, ◌∙◌, ◌∷◌, ◌≡◌, ◌≤◌}

-- How it is found

pub front_within : (ms : List Mark) → front_of ms ≤ length ms
front_within [] = omega arith
front_within (m ∷ ms) = by_cases (is_open_run m) (front_within ms)
  where
    by_cases : (b : Bool) → front_of ms ≤ length ms → (if b then 0 else front_of ms + 1) ≤ length (m ∷ ms)
    by_cases true rest = omega arith
    by_cases false rest = omega (arith, rest)

-- where it is no smaller than a place, and no such run stands there, it is greater
pub front_goes_on : (ms : List Mark) (k : ℕ) (d : Mark) → k < length ms → is_open_run (get_or ms k d) ≡ false → k ≤ front_of ms → k + 1 ≤ front_of ms
front_goes_on [] k d within closed upto = absurd (omega (arith, within))
front_goes_on (m ∷ ms) zero d within closed upto = rw closed (omega arith)
front_goes_on (m ∷ ms) (suc k) d within closed upto = by_cases (is_open_run m) upto (front_goes_on ms k d (omega (arith, within)) closed)
  where
    by_cases : (b : Bool) → suc k ≤ (if b then 0 else front_of ms + 1) → (k ≤ front_of ms → k + 1 ≤ front_of ms) → suc k + 1 ≤ (if b then 0 else front_of ms + 1)
    by_cases true none more = absurd (omega (arith, none))
    by_cases false some more = let rest = more (omega (arith, some)) in omega (arith, rest)

-- .. and where one stands there, it is the place
pub front_stops : (ms : List Mark) (k : ℕ) (d : Mark) → k < length ms → is_open_run (get_or ms k d) ≡ true → k ≤ front_of ms → k ≡ front_of ms
front_stops [] k d within stands upto = absurd (omega (arith, within))
front_stops (m ∷ ms) zero d within stands upto = rw stands refl
front_stops (m ∷ ms) (suc k) d within stands upto = by_cases (is_open_run m) upto (front_stops ms k d (omega (arith, within)) stands)
  where
    by_cases : (b : Bool) → suc k ≤ (if b then 0 else front_of ms + 1) → (k ≤ front_of ms → k ≡ front_of ms) → suc k ≡ (if b then 0 else front_of ms + 1)
    by_cases true none more = absurd (omega (arith, none))
    by_cases false some more = let rest = more (omega (arith, some)) in omega (arith, rest)

-- where it is no smaller than the end, it is the end
pub front_ends : (ms : List Mark) (k : ℕ) → length ms ≤ k → k ≤ front_of ms → length ms ≡ front_of ms
front_ends ms k past upto = let inside = front_within ms in omega (arith, past, upto, inside)

-- What it is after a change

-- an item comes no further in front
pub front_inserted : (ms : List Mark) (at k : ℕ) (x : Mark) → at ≤ length ms → k ≤ at → k ≤ front_of ms → k ≤ front_of (insert ms at x)
front_inserted ms at zero x within before upto = omega arith
front_inserted ms zero (suc k) x within before upto = absurd (omega (arith, before))
front_inserted [] (suc at) (suc k) x within before upto = absurd (omega (arith, within))
front_inserted (m ∷ ms) (suc at) (suc k) x within before upto = by_cases (is_open_run m) upto (front_inserted ms at k x (omega (arith, within)) (omega (arith, before)))
  where
    by_cases : (b : Bool) → suc k ≤ (if b then 0 else front_of ms + 1) → (k ≤ front_of ms → k ≤ front_of (insert ms at x)) → suc k ≤ (if b then 0 else front_of (insert ms at x) + 1)
    by_cases true none more = absurd (omega (arith, none))
    by_cases false some more = let rest = more (omega (arith, some)) in omega (arith, rest)

-- one leaves no further in front
pub front_removed : (ms : List Mark) (at k : ℕ) → k ≤ at → k ≤ front_of ms → k ≤ front_of (remove ms at)
front_removed ms at zero before upto = omega arith
front_removed ms zero (suc k) before upto = absurd (omega (arith, before))
front_removed [] (suc at) (suc k) before upto = absurd (omega (arith, upto))
front_removed (m ∷ ms) (suc at) (suc k) before upto = by_cases (is_open_run m) upto (front_removed ms at k (omega (arith, before)))
  where
    by_cases : (b : Bool) → suc k ≤ (if b then 0 else front_of ms + 1) → (k ≤ front_of ms → k ≤ front_of (remove ms at)) → suc k ≤ (if b then 0 else front_of (remove ms at) + 1)
    by_cases true none more = absurd (omega (arith, none))
    by_cases false some more = let rest = more (omega (arith, some)) in omega (arith, rest)

-- a run ends
pub front_settled : (ms : List Mark) (at k : ℕ) (new : Mark) → is_open_run new ≡ false → k ≤ front_of ms → k ≤ front_of (slice_set ms at new)
front_settled [] at k new closed upto = upto
front_settled (m ∷ ms) zero k new closed upto = by_cases (is_open_run m) upto
  where
    by_cases : (b : Bool) → k ≤ (if b then 0 else front_of ms + 1) → k ≤ (if is_open_run new then 0 else front_of ms + 1)
    by_cases true none = rw closed (omega (arith, none))
    by_cases false some = rw closed some
front_settled (m ∷ ms) (suc at) zero new closed upto = omega arith
front_settled (m ∷ ms) (suc at) (suc k) new closed upto = by_cases (is_open_run m) upto (front_settled ms at k new closed)
  where
    by_cases : (b : Bool) → suc k ≤ (if b then 0 else front_of ms + 1) → (k ≤ front_of ms → k ≤ front_of (slice_set ms at new)) → suc k ≤ (if b then 0 else front_of (slice_set ms at new) + 1)
    by_cases true none more = absurd (omega (arith, none))
    by_cases false some more = let rest = more (omega (arith, some)) in omega (arith, rest)

-- a change that ends no run
pub front_stays : (ms : List Mark) (at : ℕ) (new d : Mark) → at < length ms → is_open_run new ≡ is_open_run (get_or ms at d) → front_of (slice_set ms at new) ≡ front_of ms
front_stays [] at new d within same = refl
front_stays (m ∷ ms) zero new d within same = ap (λ b. if b then 0 else front_of ms + 1) same
front_stays (m ∷ ms) (suc at) new d within same = ap (λ k. if is_open_run m then 0 else k + 1) (front_stays ms at new d (omega (arith, within)) same)

-- a mark of the same item, of which the same is told
pub stays_open : (new old : Mark) → new.item ≡ old.item → new.ended ≡ old.ended → is_open_run new ≡ is_open_run old
stays_open new old item ended = λ i. of_run (λ r. not (ended i)) (item i)

-- one that has ended
pub ended_closed : (new old : Mark) → new ≡ record old { ended = true } → is_open_run new ≡ false
ended_closed new old is = ap is_open_run is ∙ closed old.item
  where
    closed : (i : Item) → of_run (λ r. false) i ≡ false
    closed (Ran r) = refl
    closed (Failed d k) = refl
    closed (Back d k) = refl
