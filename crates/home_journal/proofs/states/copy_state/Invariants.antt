use Rattle.home_journal.proofs.states.copy_state.Given as goal
use Rattle.home_journal.proofs.Prelude.{length, take, ◌≡◌}

abbrev pub invariant-devices : goal.invariant-devices
invariant-devices l =
    (take l.at l.to.devices.items ≡ take l.at l.from) × (length l.to.devices.items ≡ length l.from)
