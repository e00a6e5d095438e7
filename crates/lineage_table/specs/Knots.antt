-- The knot of a run's access in a chain.
use Rattle.chain_arena.specs.Chains.{values_of}
use Rattle.chain_arena.specs.declared.knots.Knot.{Knot}
use Rattle.home_types.specs.Numbers.{RunId}
use Rattle.lineage_table.specs.Accesses.{has_access, is_of}
use Rattle.lineage_table.specs.declared.accesses.Access.{Access}
use Rattle.std.specs.Prelude.{List, None, Option, Some, false, true, ◌++◌, ◌∷◌, ◌≡◌}

-- the pairs are cut at the first access of the run, which has this knot
pub record CutAtKnot (r : RunId) (k : Knot) (ps : List (Knot × Access)) : Type 0 where
  pub front : List (Knot × Access)
  pub access : Access
  pub rest : List (Knot × Access)
  pub list : ps ≡ front ++ (k, access) ∷ rest
  pub none : has_access r (values_of front) ≡ false
  pub own : is_of r access ≡ true

-- it is cut there, or the run has no access
abbrev pub IsKnotOf : RunId → List (Knot × Access) → Option Knot → Type 0
IsKnotOf r ps None = has_access r (values_of ps) ≡ false
IsKnotOf r ps (Some k) = CutAtKnot r k ps
