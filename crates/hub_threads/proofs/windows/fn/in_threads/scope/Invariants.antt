use Rattle.hub_threads.proofs.windows.fn.in_threads.scope.Given as goal
use Rattle.hub_threads.proofs.Prelude.{vec_capacity, vec_len, ◌+◌, ◌≡◌, ◌≤◌}

abbrev pub invariant-runs : goal.invariant-runs
invariant-runs g l = (l.all.parts + vec_len l.handles ≡ l.window.runs + 1) × (vec_len l.handles ≤ l.i) × (l.window.runs ≤ vec_capacity l.handles) × (l.all.parts + vec_len l.handles ≡ g.N.Ledger.parts)
