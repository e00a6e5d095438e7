use Rattle.hub_commands.proofs.KeptWindows.{stop_back}
use Rattle.hub_commands.proofs.PlayedDays.{begun, head_stopped}
use Rattle.hub_commands.proofs.days.begin_on.Goals as goal
use Rattle.hub_commands.proofs.Prelude.{ap, length}

pub returns-in-Ok-clause-begun : goal.returns-in-Ok-clause-begun
returns-in-Ok-clause-begun g c course starts head =
    let D = g.D.Device in
    let K = g.K.Sink in (
      ap (λ ws. length ws) c.new.ensures.empty,
      begun (g.W.Way.works c.args._way.now) D.shows course c.args.options
          (K.holds c.args.sink.now) (K.holds c.write_chunk.new.sink) (K.faults c.args.sink.now) (K.faults c.write_chunk.new.sink)
          c.args.home c.new.result.items c.args.head starts c.new.ensures.empty head c.in-Ok.ensures,
    )

pub returns-in-Err-clause-begun : goal.returns-in-Err-clause-begun
returns-in-Err-clause-begun g c course starts head =
    let D = g.D.Device in
    let K = g.K.Sink in (
      c.stop.ensures.status,
      head_stopped (g.W.Way.works c.args._way.now) D.shows course c.args.options
          (K.holds c.args.sink.now) (K.holds c.write_chunk.new.sink) (K.faults c.args.sink.now) (K.faults c.write_chunk.new.sink)
          c.args.home c.new.result c.args.head c.in-Err.fault c.stop.result.day c.stop.result.fault
          starts c.new.ensures.empty head c.in-Err.ensures c.stop.ensures.ends,
    )

pub returns-in-Err-clause-kept : goal.returns-in-Err-clause-kept
returns-in-Err-clause-kept g c = stop_back c.new.result c.args.home.devices c.in-Err.fault c.stop.result.day c.stop.result.fault _ c.stop.ensures.ends c.new.ensures.empty
