use Rattle.hub_threads.proofs.windows.joined.Given as goal
use Rattle.hub_threads.proofs.Prelude.{vec_len, ◌+◌, ◌≡◌, ◌≤◌}

abbrev pub invariant-workers : goal.invariant-workers
invariant-workers g l = (l.all.parts + vec_len l.handles ≡ g.N.Ledger.parts) × (1 ≤ l.all.parts)

abbrev pub decreases-workers : goal.decreases-workers
decreases-workers g l = vec_len l.handles
