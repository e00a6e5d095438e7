-- What a contract sees of a chain: its pairs, and how many more it takes with no memory.
use Rattle.chain_arena.specs.declared.knots.Knot.{Knot}
use Rattle.std.specs.Borrow.{Bor}
use Rattle.std.specs.List.{list_any}
use Rattle.std.specs.Prelude.{Bool, List, None, Option, Some, [], false, filter, if◌then◌else◌, length, map, not, true, ⊤, ℕ, ◌+◌, ◌==◌, ◌∷◌, ◌≡◌}

pub record Chained (T : Type 0) : Type 0 where
  pub pairs : List (Knot × T)
  pub spare : ℕ

module _ {T : Type 0} where
  -- how many pairs it holds and takes with no memory
  abbrev pub room : Chained T → ℕ
  room c = length c.pairs + c.spare

  -- the values in order
  abbrev pub values_of : List (Knot × T) → List T
  values_of ps = map (λ p. p.1) ps

  -- the pair has this knot
  abbrev pub is_at : ℕ → Knot × T → Bool
  is_at k p = p.0.0 == k

  -- some pair has this knot
  abbrev pub has_knot : ℕ → List (Knot × T) → Bool
  has_knot k ps = list_any (is_at k) ps

  -- the value of the knot
  abbrev pub value_at : ℕ → List (Knot × T) → Option T
  value_at k [] = None
  value_at k (p ∷ ps) = if is_at k p then Some p.1 else value_at k ps

  -- the pairs without that of the knot
  abbrev pub without : ℕ → List (Knot × T) → List (Knot × T)
  without k ps = filter (λ p. not (is_at k p)) ps

  -- the pairs with q immediately before that of the knot, last where no pair has it
  abbrev pub put_before : ℕ → Knot × T → List (Knot × T) → List (Knot × T)
  put_before k q [] = q ∷ []
  put_before k q (p ∷ ps) = if is_at k p then (q ∷ p ∷ ps) else (p ∷ put_before k q ps)

  -- the pairs from that of the knot on
  abbrev pub from_knot : ℕ → List (Knot × T) → List (Knot × T)
  from_knot k [] = []
  from_knot k (p ∷ ps) = if is_at k p then (p ∷ ps) else from_knot k ps

  -- the pairs with x as the value of the knot
  abbrev pub set_value : ℕ → T → List (Knot × T) → List (Knot × T)
  set_value k x ps = map (λ p. (p.0, (if is_at k p then x else p.1))) ps

  -- no two pairs have one knot
  abbrev pub AreApart : List (Knot × T) → Type 0
  AreApart [] = ⊤
  AreApart (p ∷ ps) = (has_knot p.0.0 ps ≡ false) × AreApart ps

  -- the pairs from that of the knot on, none where no knot is named
  abbrev pub rest_of : Option Knot → List (Knot × T) → List (Knot × T)
  rest_of None ps = []
  rest_of (Some k) ps = from_knot k.0 ps

  -- a pair has the knot, where one is named
  abbrev pub IsCursor : Option Knot → List (Knot × T) → Type 0
  IsCursor None ps = ⊤
  IsCursor (Some k) ps = has_knot k.0 ps ≡ true

  -- behind the pair of the knot come those from this one on
  abbrev pub IsBehind : Knot → Option Knot → List (Knot × T) → Type 0
  IsBehind k o ps =
      (x : T) → value_at k.0 ps ≡ Some x → from_knot k.0 ps ≡ (k, x) ∷ rest_of o ps

  -- what an iterator hands out, with the value behind its `&`
  abbrev pub shown : Knot × Bor T → Knot × T
  shown p = (p.0, p.1.now)
