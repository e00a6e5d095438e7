use Rattle.home_types.proofs.device_sets.DeviceSet.next.Given as goal
use Rattle.std.specs.FinSet as set
use Rattle.std.specs.Prelude.{false, ℕ, ◌-◌, ◌<◌, ◌≡◌, ◌≤◌}

-- no device so far is in it
abbrev pub invariant-words : goal.invariant-words
invariant-words l = (l.fn.from.0 ≤ l.at) × ((q : ℕ) → l.fn.from.0 ≤ q → q < l.at → set.contains l.self q ≡ false)

abbrev pub decreases-words : goal.decreases-words
decreases-words l = 256 - l.at
