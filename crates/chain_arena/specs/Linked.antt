-- The links between the places of a block.
use Rattle.chain_arena.specs.Chains.{AreApart, has_knot, value_at}
use Rattle.chain_arena.specs.Places.{IsPlace}
use Rattle.chain_arena.specs.declared.knots.Knot.{Knot}
use Rattle.chain_arena.specs.declared.links.Links.{Links}
use Rattle.chain_arena.specs.declared.links.Node.{Node}
use Rattle.std.specs.Prelude.{List, None, Option, Some, [], if◌then◌else◌, length, slice_get, slice_set, zero, suc, true, ℕ, ◌+◌, ◌==◌, ◌++◌, ◌∷◌, ◌≡◌, ◌≢◌, ◌≤◌, ◌⊎◌}

-- `NONE`: no place
abbrev pub nil : ℕ
nil = 4294967295

-- the knot of this number
abbrev pub knot : ℕ → Knot
knot k = record { 0 = k }

-- the knot of the pair at the place; at `nil` there is none
abbrev pub knot_at : ℕ → Option Knot
knot_at k = if k == nil then None else Some (knot k)

module _ {T : Type 0} where
  -- the links and the value of a node; of none, 0 and no value
  abbrev pub right_in : Option (Node T) → ℕ
  right_in None = 0
  right_in (Some n) = n.right

  abbrev pub left_in : Option (Node T) → ℕ
  left_in None = 0
  left_in (Some n) = n.left

  abbrev pub value_in : Option (Node T) → Option T
  value_in None = None
  value_in (Some n) = n.value

  -- the place to the right of k: of `nil` it is the first one, and of the last one it is `nil`
  abbrev pub right : Links T → ℕ → ℕ
  right s k = if k == nil then s.first else right_in (slice_get s.block.items k)

  abbrev pub left : Links T → ℕ → ℕ
  left s k = if k == nil then s.last else left_in (slice_get s.block.items k)

  -- the value at the place
  abbrev pub value : Links T → ℕ → Option T
  value s k = value_in (slice_get s.block.items k)

  -- a place that has links
  abbrev pub IsLink : Links T → ℕ → Type 0
  IsLink s k = (k ≡ nil) ⊎ IsPlace s.block.items k

  -- k is a, or it is the knot of a pair
  abbrev pub IsOn : ℕ → List (Knot × T) → ℕ → Type 0
  IsOn a ps k = (k ≡ a) ⊎ (has_knot k ps ≡ true)

  -- What a chain keeps

  -- from a on, the links go through the pairs to `nil`, and back
  abbrev pub Joined : (ℕ → ℕ) → (ℕ → ℕ) → ℕ → List (Knot × T) → Type 0
  Joined r l a [] = (r a ≡ nil) × (l nil ≡ a)
  Joined r l a (p ∷ ps) = (r a ≡ p.0.0) × (l p.0.0 ≡ a) × Joined r l p.0.0 ps

  -- from k on, so many free places each name the next, and the last names none
  abbrev pub IsFree : Links T → ℕ → ℕ → Type 0
  IsFree s zero k = k ≡ nil
  IsFree s (suc n) k = IsPlace s.block.items k × (value s k ≡ None) × IsFree s n (right s k)

  pub record IsChain (s : Links T) (ps : List (Knot × T)) : Type 0 where
    pub few : length s.block.items ≤ nil
    -- the places with a value are those of the pairs, and hold their values
    pub values : (k : ℕ) → value s k ≡ value_at k ps
    pub apart : AreApart ps
    pub joined : Joined (right s) (left s) nil ps
    -- the others are free
    pub free : IsFree s s.spare s.free
    pub size : length ps + s.spare ≡ length s.block.items

  -- the pairs from the place k on
  abbrev pub pair_then : ℕ → Option T → List (Knot × T) → List (Knot × T)
  pair_then k None ps = []
  pair_then k (Some x) ps = (knot k, x) ∷ ps

  abbrev pub walk : Links T → ℕ → ℕ → List (Knot × T)
  walk s zero k = []
  walk s (suc n) k = pair_then k (value s k) (walk s n (right s k))

  abbrev pub pairs_of : Links T → List (Knot × T)
  pairs_of s = walk s (length s.block.items) s.first

  -- how many pairs there are and may come with no memory
  abbrev pub room_of : Links T → ℕ
  room_of s = length (pairs_of s) + s.spare

  abbrev pub IsLinked : Links T → Type 0
  IsLinked s = IsChain s (pairs_of s)

  abbrev pub node : ℕ → ℕ → Option T → Node T
  node l r o = record { left = l; right = r; value = o }

  -- one place more, which is the first free one
  abbrev pub with_free : Links T → Links T
  with_free s =
      let more = s.block.items ++ node nil s.free None ∷ [] in
      record s {
        block = record s.block { items = more };
        free = length s.block.items;
        spare = s.spare + 1;
      }

  -- the value at the place is x
  abbrev pub with_value : Links T → ℕ → T → Links T
  with_value s k x =
      let old = slice_get s.block.items k in
      let new = slice_set s.block.items k (node (left_in old) (right_in old) (Some x)) in
      record s { block = record s.block { items = new } }

  -- What a step changes

  -- t has as many places as s
  abbrev pub SamePlaces : Links T → Links T → Type 0
  SamePlaces s t = length t.block.items ≡ length s.block.items

  pub record SetsRight (s t : Links T) (k to : ℕ) : Type 0 where
    pub places : SamePlaces s t
    pub at : right t k ≡ to
    pub others : (j : ℕ) → j ≢ k → right t j ≡ right s j
    pub lefts : (j : ℕ) → left t j ≡ left s j
    pub values : (j : ℕ) → value t j ≡ value s j
    pub free : (t.free ≡ s.free) × (t.spare ≡ s.spare)

  pub record SetsLeft (s t : Links T) (k to : ℕ) : Type 0 where
    pub places : SamePlaces s t
    pub at : left t k ≡ to
    pub others : (j : ℕ) → j ≢ k → left t j ≡ left s j
    pub rights : (j : ℕ) → right t j ≡ right s j
    pub values : (j : ℕ) → value t j ≡ value s j
    pub free : (t.free ≡ s.free) × (t.spare ≡ s.spare)

  -- r is to the right of l, and l to the left of r
  pub record Joins (s t : Links T) (l r : ℕ) : Type 0 where
    pub places : SamePlaces s t
    pub right_at : right t l ≡ r
    pub left_at : left t r ≡ l
    pub rights : (j : ℕ) → j ≢ l → right t j ≡ right s j
    pub lefts : (j : ℕ) → j ≢ r → left t j ≡ left s j
    pub values : (j : ℕ) → value t j ≡ value s j
    pub free : (t.free ≡ s.free) × (t.spare ≡ s.spare)

  -- the first free place has the value x
  pub record Fills (s t : Links T) (k : ℕ) (x : T) : Type 0 where
    pub places : SamePlaces s t
    pub at : value t k ≡ Some x
    pub values : (j : ℕ) → j ≢ k → value t j ≡ value s j
    pub rights : (j : ℕ) → right t j ≡ right s j
    pub lefts : (j : ℕ) → left t j ≡ left s j
    pub was : k ≡ s.free
    pub free : t.free ≡ right s k
    pub spare : t.spare + 1 ≡ s.spare

  -- the place has no value, and is the first free one
  pub record Empties (s t : Links T) (k : ℕ) (x : T) : Type 0 where
    pub places : SamePlaces s t
    pub was : value s k ≡ Some x
    pub at : value t k ≡ None
    pub values : (j : ℕ) → j ≢ k → value t j ≡ value s j
    pub right_at : right t k ≡ s.free
    pub rights : (j : ℕ) → j ≢ k → right t j ≡ right s j
    pub lefts : (j : ℕ) → left t j ≡ left s j
    pub free : t.free ≡ k
    pub spare : t.spare ≡ s.spare + 1
