use Rattle.own_device.proofs.Returns.{run_returns}
use Rattle.own_device.proofs.windows.step.Goals as goal

pub unreachable-requires : goal.unreachable-requires
unreachable-requires g c = run_returns c.args.hub.now c.take.new.self c.give.new.self c.args.r.0 c.args.moment c.args.moment c.in-Go.grip c.act.result c.in-Err._back c.in-Err._stranger c.requires c.in-Go.ensures.turn c.act.ensures.slip c.act.ensures.task c.in-Err.ensures.given
