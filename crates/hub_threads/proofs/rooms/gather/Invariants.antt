use Rattle.hub_threads.proofs.rooms.gather.Given as goal
use Rattle.hub_threads.proofs.Prelude.{Ok, map, ◌≡◌}

abbrev pub invariant-loop-answer : goal.invariant-loop-answer
invariant-loop-answer g l = map Ok l.all.items ≡ l.yielded
