use Rattle.logged_calls.proofs.RecordBytes.{front_is}
use Rattle.logged_calls.proofs.CallRecords.{read_civil}
use Rattle.logged_calls.proofs.reading.front_call.Goals as goal
use Rattle.logged_calls.proofs.Prelude.{ap, arith, call_of, sym, ◌∙◌}

pub kept_invariant-requires : goal.kept_invariant-requires
kept_invariant-requires c = record { time = read_civil c.in_front.result c.in-Some.call (sym c.call.ensures ∙ c.in-Some.is) }

pub returns-in-Some-clause-call : goal.returns-in-Some-clause-call
returns-in-Some-clause-call c = sym c.in-Some.is ∙ c.call.ensures ∙ ap call_of c.in_front.ensures ∙ sym (front_is c.args.bytes.now (omega arith))

pub returns-in-None-clause-call : goal.returns-in-None-clause-call
returns-in-None-clause-call c = sym c.in-None.is ∙ c.call.ensures ∙ ap call_of c.in_front.ensures ∙ sym (front_is c.args.bytes.now (omega arith))
