use Rattle.window_devices.proofs.openings.no_held_tokens.Given as goal
use Rattle.window_devices.proofs.Prelude.{None, replicate, ◌≡◌}

-- so many runs up to here
abbrev pub invariant-runs : goal.invariant-runs
invariant-runs l = l.held_tokens.items ≡ replicate l.counter None
