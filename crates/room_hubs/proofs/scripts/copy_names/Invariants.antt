use Rattle.room_hubs.proofs.scripts.copy_names.Given as goal
use Rattle.room_hubs.proofs.Prelude.{take, ◌≡◌}

abbrev pub invariant-names : goal.invariant-names
invariant-names l = l.copy.items ≡ take l.name-index l.names
