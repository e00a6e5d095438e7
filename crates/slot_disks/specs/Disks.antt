-- What the calls of a disk do to its bytes, and what a crash may leave.
use Rattle.std.specs.Prelude.{List, drop, length, max, take, ℕ, ◌++◌, ◌+◌, ◌≡◌, ◌≤◌, ◌⊎◌}

-- new is old with these bytes from there on
abbrev pub Holds : List ℕ → ℕ → List ℕ → List ℕ → Type 0
Holds old at bytes new = new ≡ take at old ++ bytes ++ drop (at + length bytes) old

-- any bytes in the range and past the old end, a length between the old and the written end, and
-- the same elsewhere
pub record Torn (at n : ℕ) (old new : List ℕ) : Type 0 where
  pub before : take at new ≡ take at old
  pub after : drop (at + n) new ≡ drop (at + n) old
  pub no_shorter : length old ≤ length new
  pub no_longer : length new ≤ max (length old) (at + n)

-- each new image is an old one after a step
abbrev pub Follows : (List ℕ → List ℕ → Type 0) → (List ℕ → Type 0) → (List ℕ → Type 0) → Type 0
Follows step old new = (c : List ℕ) → new c → (d : List ℕ) × old d × step d c

-- each new image is an old one
abbrev pub NoneAdded : (List ℕ → Type 0) → (List ℕ → Type 0) → Type 0
NoneAdded old new = (c : List ℕ) → new c → old c

-- a crash leaves this and nothing else
abbrev pub LeavesThis : List ℕ → (List ℕ → Type 0) → Type 0
LeavesThis bytes images = (c : List ℕ) → images c → c ≡ bytes

-- time goes on: a crash since t might have left what it might have left before, or what it may
-- leave now
pub record Elapses {D : Type 0} (moment : D → ℕ) (since : D → ℕ → List ℕ → Type 0)
    (images : D → List ℕ → Type 0)
    (old new : D) : Type 0 where
  pub later : moment old ≤ moment new
  pub nothing_else : (t : ℕ) (c : List ℕ) → t ≤ moment old → since new t c
      → since old t c ⊎ images new c
  pub keeps : (t : ℕ) (c : List ℕ) → t ≤ moment old → since old t c → since new t c

-- a crash at any moment from old to new leaves what has P
pub record LeavesOnly {D : Type 0} (moment : D → ℕ) (since : D → ℕ → List ℕ → Type 0) (old new : D)
    (P : List ℕ → Type 0)
    : Type 0 where
  pub later : moment old ≤ moment new
  pub each : (c : List ℕ) → since new (moment old) c → P c
  -- and one since an earlier moment leaves what it might have left before, or what has P
  pub before : (t : ℕ) (c : List ℕ) → t ≤ moment old → since new t c → since old t c ⊎ P c
