use Rattle.window_devices.proofs.openings.known_devices.Given as goal
use Rattle.window_devices.proofs.Prelude.{AreKnown}

-- the devices up to here are known
abbrev pub invariant-devices : goal.invariant-devices
invariant-devices g l = AreKnown g.D.Device.shows l.devices.items l.world.devices.items l.rounds l.at l.known.items
