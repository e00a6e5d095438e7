use Rattle.home_journal.proofs.StateBytes.{IsReadTo}
use Rattle.home_journal.proofs.states.read_stands.Given as goal
use Rattle.home_journal.proofs.Prelude.{length, ◌≡◌}

abbrev pub invariant-devices : goal.invariant-devices
invariant-devices l =
    IsReadTo l.kinds l.stands l.at l.rest l.home.devices.items × (length l.home.devices.items ≡ length l.kinds)
