use Rattle.thread_tests.proofs.FreshRounds.{rounds_fresh}
use Rattle.thread_tests.proofs.windows.work_next.Goals as goal

pub run_kept_window-requires-clause-rounds : goal.run_kept_window-requires-clause-rounds
run_kept_window-requires-clause-rounds g c κs within = rounds_fresh c.in-Some.hub c.in-Some.rounds c.in-Some.ensures.fresh
