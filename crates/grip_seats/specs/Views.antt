-- What the seats of a desk know.
use Rattle.atomic_table.specs.Table.{Me, State, Step}
use Rattle.grip_seats.specs.declared.views.SeatView.{SeatView}
use Rattle.std.specs.Prelude.{IfSome, List, None, Option, Some, [], false, replicate, slice_get, slice_set, true, ℕ, ◌≡◌}
use lib.ListN.{get_elem?}
use mathlib.Core.Option.{Option as Maybe, none, some}

-- the desk's seat, which claims nothing
abbrev pub keeper : {T : Type 0} → List (Option T) → SeatView T
keeper out = record { keeps = true; out = out; claim = None }

-- the desk's seat at first: nothing is out
abbrev pub opening_view : {T : Type 0} → ℕ → SeatView T
opening_view places = keeper (replicate places None)

-- a seat that claims nothing
abbrev pub nobody : {T : Type 0} → SeatView T
nobody = record { keeps = false; out = []; claim = None }

-- what the seat claims, as a seat of its own
abbrev pub claim_alone : {T : Type 0} → SeatView T → SeatView T
claim_alone v = record { keeps = false; out = []; claim = v.claim }

abbrev pub without_claim : {T : Type 0} → SeatView T → SeatView T
without_claim v = record { keeps = v.keeps; out = v.out; claim = None }

-- the first seat, with the claim of the second
abbrev pub with_claim : {T : Type 0} → SeatView T → SeatView T → SeatView T
with_claim v w = record { keeps = v.keeps; out = v.out; claim = w.claim }

-- this goes out of its place, and is claimed
abbrev pub lent : {T : Type 0} → SeatView T → Maybe (ℕ × T) → SeatView T
lent v none = v
lent v (some c) = record { keeps = v.keeps; out = slice_set v.out c.0 (Some c.1); claim = Some c }

-- what is claimed is out no more
abbrev pub out_after_claim : {T : Type 0} → List (Option T) → Option (ℕ × T) → List (Option T)
out_after_claim out None = out
out_after_claim out (Some c) = slice_set out c.0 None

abbrev pub returned : {T : Type 0} → SeatView T → SeatView T
returned v = record { keeps = v.keeps; out = out_after_claim v.out v.claim; claim = None }

-- what the seat knows fits what is out: the desk's seat is this one and knows it all, and what is
-- claimed is out of its place
pub record Fits {T : Type 0} (seat : ℕ) (out : List (Option T)) (by : ℕ)
    (v : SeatView T) : Type 0 where
  pub own : v.keeps ≡ true → by ≡ seat
  pub known : v.keeps ≡ true → v.out ≡ out
  pub claimed : (d : ℕ) (x : T) → v.claim ≡ Some (d, x) → slice_get out d ≡ Some (Some x)

-- .. and each of these seats does
abbrev pub AllFit : {T : Type 0} → ℕ → List (Option T) → List (SeatView T) → Type 0
AllFit {T} seat out views =
    (by : ℕ) (v : SeatView T) → get_elem? views by ≡ some v → Fits seat out by v

-- of no place do two seats claim what is out
abbrev pub ClaimOnce : {T : Type 0} → List (SeatView T) → Type 0
ClaimOnce {T} views =
    (by other : ℕ) (v w : SeatView T) (d : ℕ) (x y : T) → get_elem? views by ≡ some v
    → get_elem? views other ≡ some w
    → v.claim ≡ Some (d, x) → w.claim ≡ Some (d, y) → by ≡ other

-- the rule of all seats
pub record SeatsAreKept {T : Type 0} (views : List (SeatView T)) : Type 0 where
  pub seat : ℕ
  pub out : List (Option T)
  pub fit : AllFit seat out views
  pub once : ClaimOnce views

abbrev pub AreKept : {T : Type 0} → State (ℕ × T) (SeatView T) → Type 0
AreKept s = SeatsAreKept s.views

-- what a step tells that lets something out
abbrev pub HasLent : {T : Type 0} → Step (ℕ × T) → Me (ℕ × T) (SeatView T) → ℕ
    → Me (ℕ × T) (SeatView T) → Type 0
HasLent step before found after = after ≡ (lent before.0 step.said, before.1)

-- .. and one that takes it in
abbrev pub HasReturned : {T : Type 0} → Step (ℕ × T) → Me (ℕ × T) (SeatView T) → ℕ
    → Me (ℕ × T) (SeatView T) → Type 0
HasReturned step before found after =
    (after ≡ (returned before.0, before.1))
    × IfSome before.0.claim (λ c. slice_get before.0.out c.0 ≡ Some (Some c.1))
