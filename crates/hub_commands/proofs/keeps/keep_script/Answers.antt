use Rattle.hub_commands.proofs.GivenDays.{kept_given}
use Rattle.hub_commands.proofs.KeptCalls.{opened_ends}
use Rattle.hub_commands.proofs.keeps.keep_script.Goals as goal
use Rattle.hub_commands.proofs.Prelude.{IsReplayOf, IsUnwritten, inl, inr, kept_course, rules, written}

pub returns-in-Ok-clause-ends : goal.returns-in-Ok-clause-ends
returns-in-Ok-clause-ends g c =
    let D = g.B.Dev.Device in
    let K = g.K.Sink in
    let Q = g.Q.Disk in
    inr (opened_ends D.shows Q.told Q.seen Q.images Q.moment Q.images_since Q.faults c.args.script.now c.args.options
    (written (K.holds c.args.sink.now) (K.holds c.keep_day.new.sink) (K.faults c.args.sink.now) (K.faults c.keep_day.new.sink)) c.args.disk c.keep_day.result.1 c.keep_day.result.0.day
    c.in-Ok.journal c.in-Ok.ensures c.keep_day.ensures.durable c.keep_day.result.0.fault c.keep_day.ensures.ends)

pub returns-in-Ok-clause-unasked : goal.returns-in-Ok-clause-unasked
returns-in-Ok-clause-unasked g c none =
    let D = g.B.Dev.Device in
    let K = g.K.Sink in
    absurd (kept_given IsReplayOf D.shows (kept_course c.in-Ok.journal.kept c.keep_day.ensures.ends.begins) c.args.options
    (written (K.holds c.args.sink.now) (K.holds c.keep_day.new.sink) (K.faults c.args.sink.now) (K.faults c.keep_day.new.sink))
    c.keep_day.result.0.day c.keep_day.result.0.fault c.keep_day.ensures.ends.ended.ends none)

pub returns-in-Err-clause-ends : goal.returns-in-Err-clause-ends
returns-in-Err-clause-ends g c =
    let K = g.K.Sink in
    let unwritten : IsUnwritten (written (K.holds c.args.sink.now) (K.holds c.args.sink.now) (K.faults c.args.sink.now) (K.faults c.args.sink.now)) = search rules in
    inl (record { why = c.in-Err.fault; is = c.refuse.ensures.fault; opening = c.in-Err.ensures; nothing = (c.refuse.ensures.day, unwritten) })
