use Rattle.room_hubs.proofs.Found.{told_at}
use Rattle.room_hubs.proofs.told_windows.told_run.Goals as goal
use Rattle.room_hubs.proofs.Prelude.{arith}

pub returns-in-Some : goal.returns-in-Some
returns-in-Some c =
    told_at c.args.roster.now.runs.items c.as_slice.result.now c.args.run.0 c.in-Some.number.now c.as_slice.ensures (omega (arith, c.if-run-eq0.false)) c.in-Some.ensures.lookup.0 c.in-Some.ensures.lookup.1
