use Rattle.order_checker.proofs.records.start_home.Given as goal
use Rattle.routine_reader.specs.Rosters.{start_stand}
use Rattle.order_checker.proofs.Prelude.{map, take, ◌≡◌}

-- the devices so far are up at their starts
abbrev pub invariant-devices : goal.invariant-devices
invariant-devices l = l.home.items ≡ map start_stand (take l.device-index l.devices)
