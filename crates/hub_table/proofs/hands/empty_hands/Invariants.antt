use Rattle.hub_table.proofs.hands.empty_hands.Given as goal
use Rattle.hub_table.proofs.Prelude.{PlacesAreEmpty, vec_capacity, vec_len, ◌-◌, ◌≡◌, ◌≤◌}

-- as many empty places as fit
abbrev pub invariant-hands : goal.invariant-hands
invariant-hands g l = PlacesAreEmpty l.hands.items × (vec_len l.hands ≤ l.count) × (vec_capacity l.hands ≡ l.count)

abbrev pub decreases-hands : goal.decreases-hands
decreases-hands g l = l.count - vec_len l.hands
