use Rattle.hub_core.proofs.homes.build_devices.Given as goal
use Rattle.hub_core.proofs.Prelude.{AreNew, take}

-- the devices up to here are built
abbrev pub invariant-texts : goal.invariant-texts
invariant-texts g l = AreNew g.B.Dev.Device.shows (take l.number l.script.devices.items) l.devices.items
