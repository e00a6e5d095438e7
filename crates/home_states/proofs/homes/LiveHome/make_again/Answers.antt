use Rattle.home_states.proofs.Remaking.{made_more, refused_at}
use Rattle.home_states.proofs.homes.LiveHome.make_again.Goals as goal
use Rattle.home_states.proofs.Prelude.{AreRefusedAt, arith, drop, subst, ◌+◌, ◌/◌, ◌≡◌}
use Rattle.logged_calls.specs.CallBytes.{calls_from}

pub calls-preserved : goal.calls-preserved
calls-preserved c = (
  made_more c.args.self.now c.calls.self c.make.new.self (calls_from c.args.calls.now) (calls_from (drop c.calls.at c.args.calls.now)) (calls_from (drop (c.calls.at + 24) c.args.calls.now)) c.in-Some.call c.calls.at
      c.calls.invariant.0 c.in-Some.ensures.next c.in-Ok.ensures.made,
  c.in-Some.ensures.within,
)

pub returns-in-Err-Refused-clause-refused : goal.returns-in-Err-Refused-clause-refused
returns-in-Err-Refused-clause-refused c = λ at same.
    let place : c.calls.at / 24 ≡ at = cc in
    subst (λ n. AreRefusedAt c.args.self.now (calls_from c.args.calls.now) n) place
    (refused_at c.args.self.now c.calls.self (calls_from c.args.calls.now) (calls_from (drop c.calls.at c.args.calls.now)) (calls_from (drop (c.calls.at + 24) c.args.calls.now)) c.in-Some.call c.calls.at
    c.calls.invariant.0 c.in-Some.ensures.next (c.in-Err-Refused.ensures.refused (let is = c.in-Err-Refused.field-0-is in cc)))

pub returns-in-Err-Refused-clause-within : goal.returns-in-Err-Refused-clause-within
returns-in-Err-Refused-clause-within c = λ at same.
    let place : c.calls.at / 24 ≡ at = cc in
    let upto = c.in-Some.ensures.within in
    omega (arith, place, upto)
