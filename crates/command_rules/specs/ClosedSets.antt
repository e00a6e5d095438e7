-- Sets of the items of a line, as a flag for each item; closed sets, and the least one that holds
-- what it needs.
use Rattle.home_types.specs.Numbers.{LinePlace}
use Rattle.std.specs.List.{list_any}
use Rattle.std.specs.Prelude.{Bool, List, Some, [], drop, false, fold, if◌then◌else◌, map, not, option_and_then, option_map, slice_get, suc, take, true, unwrap_or, zero, ℕ, ◌+◌, ◌<◌, ◌||◌, ◌∷◌, ◌≡◌, ◌++◌}

-- the items with the flag, in their order
unfoldable pub chosen : {A : Type 0} → List Bool → List A → List A
chosen bs [] = []
chosen [] (i ∷ is) = []
chosen (b ∷ bs) (i ∷ is) = if b then i ∷ chosen bs is else chosen bs is

-- the others, in theirs
unfoldable pub others : {A : Type 0} → List Bool → List A → List A
others bs [] = []
others [] (i ∷ is) = i ∷ is
others (b ∷ bs) (i ∷ is) = if b then others bs is else i ∷ others bs is

-- the items of the set stand before the others
abbrev pub rearranged : {A : Type 0} → List Bool → List A → List A
rearranged bs line = chosen bs line ++ others bs line

-- each of the one set is in the other, of as many flags
unfoldable pub IsPart : List Bool → List Bool → Type 0
IsPart [] [] = Unit {0}
IsPart [] (c ∷ cs) = ⊥
IsPart (b ∷ bs) [] = ⊥
IsPart (b ∷ bs) (c ∷ cs) = (b ≡ true → c ≡ true) × IsPart bs cs

-- what is in the one or the other
unfoldable pub either_of : List Bool → List Bool → List Bool
either_of [] cs = cs
either_of (b ∷ bs) [] = b ∷ bs
either_of (b ∷ bs) (c ∷ cs) = (b || c) ∷ either_of bs cs

-- with each item it holds those before it that meet it
unfoldable pub IsClosed : {A : Type 0} → (A → A → Bool) → List Bool → List A → Type 0
IsClosed meets bs [] = Unit {0}
IsClosed meets [] (i ∷ is) = Unit {0}
IsClosed meets (b ∷ bs) (i ∷ is) =
    (b ≡ false → list_any (meets i) (chosen bs is) ≡ false) × IsClosed meets bs is

-- the least closed set that holds this one
unfoldable pub closure : {A : Type 0} → (A → A → Bool) → List Bool → List A → List Bool
closure meets seeds [] = []
closure meets [] (i ∷ is) = false ∷ closure meets [] is
closure meets (s ∷ seeds) (i ∷ is) =
    (s || list_any (meets i) (chosen (closure meets seeds is) is)) ∷ closure meets seeds is

-- any two items of which the test holds meet
abbrev pub Meets : {A : Type 0} → (A → A → Bool) → (A → Bool) → Type 0
Meets {A} meets p = (i j : A) → p i ≡ true → p j ≡ true → meets i j ≡ true

-- reached by exchanges of neighbours that do not meet
pub data Exchanged {A : Type 0} (meets : A → A → Bool) (line : List A) : List A → Type 0 where
  Stays : Exchanged meets line line
  Swaps : (front rest : List A) (a b : A) (before : Exchanged meets line (front ++ a ∷ b ∷ rest))
      (apart : meets a b ≡ false) → Exchanged meets line (front ++ b ∷ a ∷ rest)

-- the least closed set that holds the base and what this set bars
abbrev pub wider : {A : Type 0} → (A → A → Bool) → List Bool → (List Bool → A → Bool) → List A
    → List Bool → List Bool
wider meets base bars line bs = closure meets (either_of base (map (bars bs) line)) line

-- .. again and again, as often as these items are many
abbrev pub widened : {A : Type 0} → (A → A → Bool) → List Bool → (List Bool → A → Bool) → List A
    → List Bool → List A → List Bool
widened meets base bars line bs turns = fold (λ cs i. wider meets base bars line cs) bs turns

-- .. as the line's
abbrev pub grown : {A : Type 0} → (A → A → Bool) → List Bool → (List Bool → A → Bool)
    → List A → List Bool
grown meets base bars line = widened meets base bars line (closure meets base line) line

-- a closed set that holds the base, and every item that it bars
pub record IsFitting {A : Type 0} (meets : A → A → Bool) (base : List Bool)
    (bars : List Bool → A → Bool) (line : List A) (bs : List Bool) : Type 0 where
  pub closed : IsClosed meets bs line
  pub holds : IsPart base bs
  pub fits : IsPart (map (bars bs) line) bs

-- .. that is part of each other one
pub record IsLeast {A : Type 0} (meets : A → A → Bool) (base : List Bool)
    (bars : List Bool → A → Bool) (line : List A) (bs : List Bool) : Type 0 where
  pub fitting : IsFitting meets base bars line bs
  pub least : (cs : List Bool) → IsFitting meets base bars line cs → IsPart bs cs

-- more is barred by a larger set
abbrev pub BarsRise : {A : Type 0} → (List Bool → A → Bool) → Type 0
BarsRise {A} bars = (bs cs : List Bool) (i : A) → IsPart bs cs → bars bs i ≡ true → bars cs i ≡ true

-- the items at this place and the next one exchanged, where both are there
unfoldable pub exchanged : {A : Type 0} → LinePlace → List A → List A
exchanged at [] = []
exchanged zero (i ∷ []) = i ∷ []
exchanged zero (i ∷ j ∷ is) = j ∷ i ∷ is
exchanged (suc at) (i ∷ is) = i ∷ exchanged at is

-- items stand at this place and the next one, and do not meet
abbrev pub are_apart : {A : Type 0} → (A → A → Bool) → LinePlace → List A → Bool
are_apart meets at items =
    unwrap_or (option_and_then (λ i. option_map (λ j. not (meets i j)) (slice_get items (at + 1)))
    (slice_get items at)) false

-- the item at this place stands first, the others in their order
unfoldable pub brought : {A : Type 0} → LinePlace → List A → List A
brought at [] = []
brought zero (i ∷ is) = i ∷ is
brought (suc at) (i ∷ is) = exchanged 0 (i ∷ brought at is)

-- the item at the place `from` meets none of those from the place `to` on before it
abbrev pub may_pass : {A : Type 0} → (A → A → Bool) → LinePlace → LinePlace → List A → Bool
may_pass meets to from items =
    unwrap_or (option_map (λ i. not (list_any (λ j. meets j i) (drop to (take from items))))
    (slice_get items from)) false

-- so many of the first items are in the set
abbrev pub HoldsFirst : ℕ → List Bool → Type 0
HoldsFirst count bs = (at : ℕ) → at < count → slice_get bs at ≡ Some true
