use Rattle.hub_commands.proofs.KeptWindows.{stop_back}
use Rattle.hub_commands.proofs.PlayedDays.{goes_on, lines_stopped, starved}
use Rattle.hub_commands.proofs.Snocs.{length_more}
use Rattle.hub_commands.proofs.days.go_on.Goals as goal
use Rattle.hub_commands.proofs.Prelude.{Err, NextIs, None, Ok, ap, course_behind, length, subst, sym, windows_in, ◌∙◌}

pub returns-in-Err-clause-written : goal.returns-in-Err-clause-written
returns-in-Err-clause-written g c course held f home records going next =
    let D = g.D.Device in
    let K = g.K.Sink in
    let same : NextIs (g.W.Way.works c.args._way.now) D.shows
    (course_behind c.args.script.now c.args.before course) c.args.options.mode records (Err c.in-Err.windows) =
    subst (λ n. NextIs (g.W.Way.works c.args._way.now) D.shows
    (course_behind c.args.script.now c.args.before course) c.args.options.mode records n) c.in-Err.is next in (
      c.end_without_devices.ensures.status,
      starved (g.W.Way.works c.args._way.now) D.shows (course_behind c.args.script.now c.args.before course) c.args.options
          held (K.holds c.args.sink.now) f (K.faults c.args.sink.now)
          home records c.in-Err.windows c.end_without_devices.result.day c.end_without_devices.result.fault
          going same c.end_without_devices.ensures.day c.end_without_devices.ensures.fault,
    )

pub returns-in-Ok-write_chunk-clause-written : goal.returns-in-Ok-write_chunk-clause-written
returns-in-Ok-write_chunk-clause-written g c course held f home records going next =
    let D = g.D.Device in
    let K = g.K.Sink in
    let gone : NextIs (g.W.Way.works c.args._way.now) D.shows
    (course_behind c.args.script.now c.args.before course) c.args.options.mode records (Ok c.in-Ok.next) =
    subst (λ n. NextIs (g.W.Way.works c.args._way.now) D.shows
    (course_behind c.args.script.now c.args.before course) c.args.options.mode records n) c.in-Ok.is next in (
      ap (λ ws. length ws) gone.more ∙ length_more records gone.closed,
      goes_on (g.W.Way.works c.args._way.now) D.shows (course_behind c.args.script.now c.args.before course) c.args.options
          held (K.holds c.args.sink.now) (K.holds c.write_chunk.new.sink) f (K.faults c.args.sink.now) (K.faults c.write_chunk.new.sink)
          home c.in-Ok.next.home records c.in-Ok.next.windows.items c.last_lines-lines.result
          going gone c.last_lines-lines.ensures c.in-Ok-write_chunk.ensures,
    )

pub returns-in-Err-write_chunk-clause-written : goal.returns-in-Err-write_chunk-clause-written
returns-in-Err-write_chunk-clause-written g c course held f home records going next =
    let D = g.D.Device in
    let K = g.K.Sink in
    let gone : NextIs (g.W.Way.works c.args._way.now) D.shows
    (course_behind c.args.script.now c.args.before course) c.args.options.mode records (Ok c.in-Ok.next) =
    subst (λ n. NextIs (g.W.Way.works c.args._way.now) D.shows
    (course_behind c.args.script.now c.args.before course) c.args.options.mode records n) c.in-Ok.is next in (
      c.stop.ensures.status,
      lines_stopped (g.W.Way.works c.args._way.now) D.shows (course_behind c.args.script.now c.args.before course) c.args.options
          held (K.holds c.args.sink.now) (K.holds c.write_chunk.new.sink) f (K.faults c.args.sink.now) (K.faults c.write_chunk.new.sink)
          home c.in-Ok.next.home records c.in-Ok.next.windows c.last_lines-lines.result c.in-Err-write_chunk.fault c.stop.result.day c.stop.result.fault
          going gone c.last_lines-lines.ensures c.in-Err-write_chunk.ensures c.stop.ensures.ends,
    )

pub returns-in-Err-clause-kept : goal.returns-in-Err-clause-kept
returns-in-Err-clause-kept g c = (record { windows = c.in-Err.windows; devices = None }, c.end_without_devices.ensures.day, sym (ap windows_in c.in-Err.is))

pub returns-in-Ok-write_chunk-clause-kept : goal.returns-in-Ok-write_chunk-clause-kept
returns-in-Ok-write_chunk-clause-kept g c = sym (ap windows_in c.in-Ok.is)

pub returns-in-Err-write_chunk-clause-kept : goal.returns-in-Err-write_chunk-clause-kept
returns-in-Err-write_chunk-clause-kept g c =
    stop_back c.in-Ok.next.windows c.in-Ok.next.home.devices c.in-Err-write_chunk.fault c.stop.result.day c.stop.result.fault _ c.stop.ensures.ends (sym (ap windows_in c.in-Ok.is))
