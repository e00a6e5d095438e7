use Rattle.hub_commands.proofs.GivenDays.{day_given}
use Rattle.hub_commands.proofs.nonblocking.replay_input.Goals as goal
use Rattle.hub_commands.proofs.Prelude.{IsReplayOf, new_course, plain, written}

pub returns-in-Ok-clause-unasked : goal.returns-in-Ok-clause-unasked
returns-in-Ok-clause-unasked g c none =
    let D = g.B.Dev.Device in
    let K = g.K.Sink in
    absurd (day_given IsReplayOf D.shows plain (new_course c.in-Ok.script) c.args.options
    (written (K.holds c.args.sink.now) (K.holds c.replay_day.new.sink) (K.faults c.args.sink.now) (K.faults c.replay_day.new.sink))
    c.replay_day.result.day c.replay_day.result.fault c.replay_day.ensures.ends none)
