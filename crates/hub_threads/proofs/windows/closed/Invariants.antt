use Rattle.hub_threads.proofs.Prelude.{◌≡◌}
use Rattle.hub_threads.proofs.windows.closed.Given as goal

abbrev pub invariant-loop : goal.invariant-loop
invariant-loop g l =
    (goal.iterator-loop g).can_next l.iterator' × (goal.iterator-loop g).is_finite l.iterator' × (l.hub ≡ l.fn.hub)
