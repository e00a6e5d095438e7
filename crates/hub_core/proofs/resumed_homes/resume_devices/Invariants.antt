use Rattle.hub_core.proofs.resumed_homes.resume_devices.Given as goal
use Rattle.legal_days.specs.ResumedDays.{AreResumed}

-- the devices up to here are resumed
abbrev pub invariant-texts : goal.invariant-texts
invariant-texts g l = AreResumed g.B.Dev.Device.shows l.script.devices.items l.world.devices.items l.place l.stands.items l.devices.items
