use Rattle.hub_table.proofs.hands.drop_empty.Given as goal
use Rattle.hub_table.proofs.Prelude.{PlacesAreEmpty, vec_len}

abbrev pub invariant-hands : goal.invariant-hands
invariant-hands g l = PlacesAreEmpty l.hands.items

abbrev pub decreases-hands : goal.decreases-hands
decreases-hands g l = vec_len l.hands
