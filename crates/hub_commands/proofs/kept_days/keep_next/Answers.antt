use Rattle.hub_commands.proofs.KeptDays.{ended_kept}
use Rattle.hub_commands.proofs.PlayedDays.{starved}
use Rattle.hub_commands.proofs.kept_days.keep_next.Goals as goal
use Rattle.hub_commands.proofs.Prelude.{IsReplayOf, ap, arith, course_behind, length-map, plain_window, sym, windows_of, written, ◌∙◌}

pub write_kept-requires-clause-few : goal.write_kept-requires-clause-few
write_kept-requires-clause-few g c =
    let few = c.requires.sound.few_windows in
    let all = length-map c.args.script.now.windows.items plain_window in
    let next = c.requires.next in
    let more = c.in-Ok.ensures.more in
    omega (arith, few, all, next, more)

pub write_kept-requires-clause-kinds : goal.write_kept-requires-clause-kinds
write_kept-requires-clause-kinds g c = c.in-Ok.ensures.kinds ∙ c.requires.kinds ∙ sym c.requires.same

pub returns-in-Ok : goal.returns-in-Ok
returns-in-Ok g c course held f first so =
    c.write_kept.ensures course held f first c.args.kept.day.home c.args.kept.day.windows.items so (c.in-Ok.ensures.played course so.going.under_way)

pub returns-in-Err : goal.returns-in-Err
returns-in-Err g c course held f first so =
    let D = g.D.Device in
    let K = g.K.Sink in
    let Q = g.Q.Disk in
    let shown = D.shows in
    let behind = course_behind c.args.script.now c.args.before course in (
      c.end_without_devices-finish.ensures.status,
      ended_kept Q.told Q.seen Q.images Q.moment Q.images_since Q.faults c.args.script.now c.args.before IsReplayOf shown behind c.args.options
          (written held (K.holds c.args.sink.now) f (K.faults c.args.sink.now)) first c.hand_back.result c.args.kept.day.windows.items c.args.kept.journal c.end_without_devices-finish.result.day c.end_without_devices-finish.result.fault
          so.on_disk c.hand_back.ensures.disk c.hand_back.ensures.durable
          (starved IsReplayOf shown behind c.args.options held (K.holds c.args.sink.now) f (K.faults c.args.sink.now) c.args.kept.day.home c.args.kept.day.windows.items c.in-Err.windows
          c.end_without_devices-finish.result.day c.end_without_devices-finish.result.fault so.going c.in-Err.ensures.starved c.end_without_devices-finish.ensures.day c.end_without_devices-finish.ensures.fault)
          (ap windows_of c.end_without_devices-finish.ensures.day ∙ c.in-Err.ensures.starved),
    )
