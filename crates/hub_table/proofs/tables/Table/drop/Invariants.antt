use Rattle.hub_table.proofs.Leaving.{AreKept}
use Rattle.hub_table.proofs.tables.Table.drop.Given as goal

abbrev pub invariant-hands : goal.invariant-hands
invariant-hands g l = AreKept l.hub.places l.grips.items

abbrev pub decreases-hands : goal.decreases-hands
decreases-hands g l = goal.left-hands g l
