use Rattle.window_order.proofs.reschedules.+wait_again.Given as goal
use Rattle.window_order.proofs.Prelude.{accesses_at, accesses_from, length}

-- how many accesses are left
abbrev pub decreases-wait_again : goal.decreases-wait_again
decreases-wait_again l = length (accesses_from l.first (accesses_at l.table.now l.d.0))
