use Rattle.home_journal.proofs.states.blank_state.Given as goal
use Rattle.home_journal.proofs.Prelude.{length, ◌-◌, ◌≤◌}

abbrev pub invariant-devices : goal.invariant-devices
invariant-devices l = length l.stands.items ≤ l.devices

abbrev pub decreases-devices : goal.decreases-devices
decreases-devices l = l.devices - length l.stands.items
