use Rattle.home_states.proofs.Remaking.{AreMade}
use Rattle.home_states.proofs.homes.LiveHome.make_again.Given as goal
use Rattle.logged_calls.specs.CallBytes.{calls_from}
use Rattle.home_states.proofs.Prelude.{drop, length, ◌-◌, ◌≤◌}

-- the calls before the place were made
abbrev pub invariant-calls : goal.invariant-calls
invariant-calls l = AreMade l.fn.self (calls_from l.calls) (calls_from (drop l.at l.calls)) l.at l.self × (l.at ≤ length l.calls)

abbrev pub decreases-calls : goal.decreases-calls
decreases-calls l = length l.calls - l.at
