use Rattle.call_log.proofs.Reading.{call_read, call_refused}
use Rattle.call_log.proofs.scans.read_slot.Goals as goal
use Rattle.std.proofs.Common.{arith, sym, take, ◌-◌}

pub returns-in-Ok-clause-read : goal.returns-in-Ok-clause-read
returns-in-Ok-clause-read c bodies counts read =
    call_read c.args.head bodies (take 24 c.args.after.now) _ _ c.in-Some-read_call.call (omega (arith, counts, c.if-place-eq0.false)) (sym c.in-Some-read_call.ensures.call) c.in-Some-read_call.ensures.loggable c.in-Ok.ensures.ok read

pub returns-in-None-read_call-clause-refused : goal.returns-in-None-read_call-clause-refused
returns-in-None-read_call-clause-refused c _ bodies more counts read =
    call_refused c.args.head bodies more (take 24 c.args.after.now) _ (c.args.place - 1) (omega (arith, counts, c.if-place-eq0.false)) (sym c.in-None-read_call.ensures.call) read
