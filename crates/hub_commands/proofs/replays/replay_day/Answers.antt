use Rattle.hub_commands.proofs.NextWindows.{next_played}
use Rattle.hub_commands.proofs.replays.replay_day.Goals as goal
use Rattle.hub_commands.proofs.Prelude.{IsReplayOf, arith, length, new_course, ◌≡◌}

pub returns-in-Err-go_on : goal.returns-in-Err-go_on
returns-in-Err-go_on g c =
    let D = g.B.Dev.Device in
    let K = g.K.Sink in
    let end = c.in-Err-go_on.ensures.written (new_course c.args.script.now) (K.holds c.args.sink.now) (K.faults c.args.sink.now) c.windows.day.home c.windows.day.windows.items c.windows.invariant.going
    (next_played IsReplayOf D.shows c.args.script.now 0 c.args.options.mode c.windows.day (new_course c.args.script.now) c.replay_next-next.result
    c.windows.invariant.going.under_way c.replay_next-next.ensures.played c.replay_next-next.ensures.starved) in
    record { status = end.0; ends = end.1 }

pub windows-preserved : goal.windows-preserved
windows-preserved g c =
    let D = g.B.Dev.Device in
    let K = g.K.Sink in
    let on = c.in-Ok-go_on.ensures.written (new_course c.args.script.now) (K.holds c.args.sink.now) (K.faults c.args.sink.now) c.windows.day.home c.windows.day.windows.items c.windows.invariant.going
    (next_played IsReplayOf D.shows c.args.script.now 0 c.args.options.mode c.windows.day (new_course c.args.script.now) c.replay_next-next.result
    c.windows.invariant.going.under_way c.replay_next-next.ensures.played c.replay_next-next.ensures.starved) in
    let counted = c.windows.invariant.counted in
    let more = on.0 in
    record { counted = omega (arith, counted, more); going = on.1 }

pub returns-clause-ends : goal.returns-clause-ends
returns-clause-ends g c =
    let D = g.B.Dev.Device in
    let K = g.K.Sink in
    let counted = c.windows.invariant.counted in
    let at_end = c.windows-test.false in
    let end = c.len-end.ensures in
    let within = c.windows.invariant.going.under_way.played.count in
    let all : length c.windows.day.windows.items ≡ length c.args.script.now.windows.items = omega (arith, counted, at_end, end, within) in
    c.end.ensures.ends (new_course c.args.script.now) (K.holds c.args.sink.now) (K.faults c.args.sink.now) c.windows.invariant.going all
