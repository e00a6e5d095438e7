use Rattle.hub_commands.proofs.room_days.run_room_day.Goals as goal
use Rattle.hub_commands.proofs.Prelude.{arith}

pub windows-preserved : goal.windows-preserved
windows-preserved g c =
    let K = g.K.Sink in
    let on = c.in-Ok-go_on.ensures (K.holds c.args.sink.now) (K.faults c.args.sink.now) c.windows.day.windows.items c.windows.invariant.written c.work_next-next.ensures in
    let counted = c.windows.invariant.counted in
    let more = on.0 in
    record { counted = omega (arith, counted, more); day = on.1; written = on.2 }

pub returns-in-Err-go_on-clause-status : goal.returns-in-Err-go_on-clause-status
returns-in-Err-go_on-clause-status g c =
    let K = g.K.Sink in
    (c.in-Err-go_on.ensures (K.holds c.args.sink.now) (K.faults c.args.sink.now) c.windows.day.windows.items c.windows.invariant.written c.work_next-next.ensures).0

pub returns-in-Err-go_on-clause-ends : goal.returns-in-Err-go_on-clause-ends
returns-in-Err-go_on-clause-ends g c =
    let K = g.K.Sink in
    (c.in-Err-go_on.ensures (K.holds c.args.sink.now) (K.faults c.args.sink.now) c.windows.day.windows.items c.windows.invariant.written c.work_next-next.ensures).1

pub returns-clause-ends : goal.returns-clause-ends
returns-clause-ends g c =
    let K = g.K.Sink in
    c.end.ensures.ends (K.holds c.args.sink.now) (K.faults c.args.sink.now) c.windows.invariant.written
