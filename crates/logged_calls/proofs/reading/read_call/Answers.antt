use Rattle.logged_calls.proofs.CallLists.{end_at, next_at, rest_at}
use Rattle.logged_calls.proofs.reading.read_call.Goals as goal
use Rattle.logged_calls.proofs.Prelude.{ap, front_call, ◌∙◌}

pub returns-clause-next : goal.returns-clause-next
returns-clause-next c = next_at c.args.bytes.now c.args.at c.front_call.result (c.front_call.ensures.call ∙ ap front_call (rest_at c.args.bytes.now c.args.at))

pub returns-clause-end : goal.returns-clause-end
returns-clause-end c = end_at c.args.bytes.now c.args.at c.front_call.result (c.front_call.ensures.call ∙ ap front_call (rest_at c.args.bytes.now c.args.at))
