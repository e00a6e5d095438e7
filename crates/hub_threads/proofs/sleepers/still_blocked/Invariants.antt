use Rattle.hub_threads.proofs.Prelude.{SleepersAreBlocked, configuration_of, has_run, true, ℕ, ◌≡◌}
use Rattle.hub_threads.proofs.sleepers.still_blocked.Given as goal

abbrev pub invariant-runs : goal.invariant-runs
invariant-runs g l = SleepersAreBlocked (configuration_of l.hub) l.left × ((r : ℕ) → has_run l.left r ≡ true → has_run l.word r ≡ true)
