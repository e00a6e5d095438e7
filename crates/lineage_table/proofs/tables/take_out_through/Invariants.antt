use Rattle.lineage_table.proofs.Prelude.{Access, HasLess, Knot, List, false, has_access, values_of, ◌++◌, ◌≡◌}
use Rattle.lineage_table.proofs.tables.take_out_through.Given as goal

-- the device is out of the sets of the runs so far, and none of them is the run itself
abbrev pub invariant-leaving : goal.invariant-leaving
invariant-leaving l =
    (front : List (Knot × Access)) × (l.accesses.pairs ≡ front ++ l.access-iterator) × (has_access l.r.0 (values_of front) ≡ false)
    × HasLess (λ q. has_access q (values_of front)) l.d.0 l.initial.devices l.devices
