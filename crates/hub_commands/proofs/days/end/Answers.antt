use Rattle.hub_commands.proofs.KeptWindows.{stop_back}
use Rattle.hub_commands.proofs.PlayedDays.{finished, total_stopped}
use Rattle.hub_commands.proofs.days.end.Goals as goal
use Rattle.hub_commands.proofs.Prelude.{Some, refl}

pub returns-in-Err-clause-ends : goal.returns-in-Err-clause-ends
returns-in-Err-clause-ends g c course held f going all =
    let D = g.D.Device in
    let K = g.K.Sink in
    total_stopped (g.W.Way.works c.args._way.now) D.shows course c.args.options
    held (K.holds c.args.sink.now) (K.holds c.write_chunk.new.sink) f (K.faults c.args.sink.now) (K.faults c.write_chunk.new.sink)
    c.args.day.home c.args.day.windows c.total_line.result c.in-Err.fault c.stop.result.day c.stop.result.fault
    going all c.total_line.ensures c.in-Err.ensures c.stop.ensures.ends

pub returns-clause-ends : goal.returns-clause-ends
returns-clause-ends g c course held f going all =
    let D = g.D.Device in
    let K = g.K.Sink in
    finished (g.W.Way.works c.args._way.now) D.shows course c.args.options
    held (K.holds c.args.sink.now) (K.holds c.write_chunk.new.sink) f (K.faults c.args.sink.now) (K.faults c.write_chunk.new.sink)
    c.args.day.home c.args.day.windows c.into_devices.result c.total_line.result
    going all c.total_line.ensures c.in_default.ensures c.into_devices.ensures.devices

pub returns-in-Err-clause-kept : goal.returns-in-Err-clause-kept
returns-in-Err-clause-kept g c = stop_back c.args.day.windows c.args.day.home.devices c.in-Err.fault c.stop.result.day c.stop.result.fault _ c.stop.ensures.ends refl

pub returns-clause-kept : goal.returns-clause-kept
returns-clause-kept g c = (record { windows = c.args.day.windows; devices = Some c.into_devices.result }, refl, refl)
