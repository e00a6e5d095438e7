use Rattle.lineage_table.proofs.Prelude.{Access, Knot, List, false, has_access, values_of, ◌++◌, ◌≡◌}
use Rattle.lineage_table.proofs.lineages.knot_of.Given as goal

-- none of those in front is the run's
abbrev pub invariant-accesses : goal.invariant-accesses
invariant-accesses l =
    (front : List (Knot × Access)) × (l.accesses.pairs ≡ front ++ l.k-iterator) × (has_access l.r.0 (values_of front) ≡ false)
