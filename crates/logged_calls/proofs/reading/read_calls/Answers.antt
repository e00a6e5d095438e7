use Rattle.logged_calls.proofs.CallLists.{loggable_more, read_more}
use Rattle.logged_calls.proofs.reading.read_calls.Goals as goal

pub calls-preserved : goal.calls-preserved
calls-preserved c = (
  read_more c.args.bytes.now c.calls.at c.in-Some.call c.calls.calls.items _ c.in-Some.ensures.next c.calls.invariant.0 c.in_ok-push.ensures.ok,
  c.in-Some.ensures.within,
  loggable_more c.in-Some.call c.calls.calls.items _ c.calls.invariant.2 c.in-Some.ensures.loggable c.in_ok-push.ensures.ok,
)
