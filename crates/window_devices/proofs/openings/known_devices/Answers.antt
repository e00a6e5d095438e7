use Rattle.window_devices.proofs.OpenedDevices.{known_more}
use Rattle.window_devices.proofs.openings.known_devices.Goals as goal

-- one more
pub devices-preserved : goal.devices-preserved
devices-preserved g c = known_more g.D.Device.shows c.args.devices.now.items c.args.world.now.devices.items c.args.rounds c.devices.at c.devices.known.items c.push.new.self.items c.known_device.result c.devices.invariant c.in_ok-push.ensures.ok (λ device at. c.known_device.ensures device at)
