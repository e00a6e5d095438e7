use Rattle.hub_commands.proofs.DaysUnderWay.{starts}
use Rattle.hub_commands.proofs.PlayedDays.{head_alone, unbuilt}
use Rattle.hub_commands.proofs.days.begin.Goals as goal
use Rattle.hub_commands.proofs.Prelude.{None, new_course}

pub returns-in_default-clause-goes_on : goal.returns-in_default-clause-goes_on
returns-in_default-clause-goes_on g c =
    let D = g.B.Dev.Device in
    let K = g.K.Sink in (
      c.end_without_devices.ensures.status,
      unbuilt (g.W.Way.works c.args.way.now) D.shows (new_course c.args.script.now) c.args.options
          (K.holds c.args.sink.now) (K.faults c.args.sink.now)
          c.new.result c.end_without_devices.result.day c.end_without_devices.result.fault
          c.new.ensures.empty c.end_without_devices.ensures.day c.end_without_devices.ensures.fault,
    )

pub returns-in_default-clause-kept : goal.returns-in_default-clause-kept
returns-in_default-clause-kept g c = (record { windows = c.new.result; devices = None }, c.end_without_devices.ensures.day, c.new.ensures.empty)

pub returns-clause-goes_on : goal.returns-clause-goes_on
returns-clause-goes_on g c =
    let D = g.B.Dev.Device in
    c.begin_on.ensures.begun (new_course c.args.script.now)
    (starts (g.W.Way.works c.args.way.now) D.shows c.args.script.now c.args.options.mode c.in-Ok.home
    c.in-Ok.ensures.devices c.in-Ok.ensures.kinds c.in-Ok.ensures.world c.in-Ok.ensures.opened)
    (head_alone c.head_text.result c.args.options.mode c.head_text.ensures)
