use Rattle.routine_reader.proofs.homes.start_world.Given as goal
use Rattle.routine_reader.proofs.Prelude.{map, start_stand, take, ◌≡◌}

-- the devices up to here are up at their starts
abbrev pub invariant-texts : goal.invariant-texts
invariant-texts l = l.devices.items ≡ map start_stand (take l.text-index l.script.devices.items)
