use Rattle.logged_calls.proofs.reading.read_calls.Given as goal
use Rattle.logged_calls.proofs.Prelude.{All, IsLoggable, calls_from, drop, length, ◌++◌, ◌-◌, ◌≡◌, ◌≤◌}

abbrev pub invariant-calls : goal.invariant-calls
invariant-calls l =
    (calls_from l.bytes ≡ l.calls.items ++ calls_from (drop l.at l.bytes))
    × (l.at ≤ length l.bytes)
    × All IsLoggable l.calls.items

abbrev pub decreases-calls : goal.decreases-calls
decreases-calls l = length l.bytes - l.at
