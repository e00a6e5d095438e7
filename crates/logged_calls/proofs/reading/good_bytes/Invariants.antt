use Rattle.logged_calls.proofs.reading.good_bytes.Given as goal
use Rattle.logged_calls.proofs.Prelude.{calls_from, drop, good_bytes, length, ◌*◌, ◌+◌, ◌-◌, ◌≡◌, ◌≤◌}

abbrev pub invariant-calls : goal.invariant-calls
invariant-calls l = (good_bytes l.bytes ≡ l.at + 24 * length (calls_from (drop l.at l.bytes))) × (l.at ≤ length l.bytes)

abbrev pub decreases-calls : goal.decreases-calls
decreases-calls l = length l.bytes - l.at
