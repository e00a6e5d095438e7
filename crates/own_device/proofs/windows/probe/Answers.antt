use Rattle.own_device.proofs.Returns.{probe_returns}
use Rattle.own_device.proofs.windows.probe.Goals as goal

pub unreachable-requires : goal.unreachable-requires
unreachable-requires g c = probe_returns c.args.hub.now c.take_probe.new.self c.give_probe.new.self c.args.d.0 c.in-Some.grip c.act.result c.in-Err._back c.in-Err._stranger c.in-Some.ensures.probed c.act.ensures.slip c.act.ensures.task c.in-Err.ensures.given
