use Rattle.day_tests.proofs.boards.read_on.Given as goal
use Rattle.std.proofs.Common.{◌≡◌}

abbrev pub invariant-loop : goal.invariant-loop
invariant-loop g l =
    (goal.iterator-loop g).can_next l.iterator' × (goal.iterator-loop g).is_finite l.iterator' × (l.w.board ≡ l.initial.w.board)
