use Rattle.order_checker.proofs.RunSteps.{run-passed, run-refused}
use Rattle.order_checker.proofs.Walking.{told-answer, told-refused, walk-end}
use Rattle.order_checker.proofs.windows.read_runs.Goals as goal
use Rattle.order_checker.proofs.Prelude.{arith, length, length-append, lines_of, next_run_told, plain_end, plain_ends, runs_told, ◌∙◌}
use Rattle.order_checker.specs.declared.windows.RunLine.{RunLine}

pub returns-in_err-told-clause-told : goal.returns-in_err-told-clause-told
returns-in_err-told-clause-told c =
    let halt = c.in_err-told.field-0.0 in
    told-answer runs_told c.from_residual-in_err-told.result halt _ c.from_residual-in_err-told.ensures.1
    (told-refused {T = RunLine} (λ told. plain_end told.end) runs_told halt _ _ c.in_err-told.ensures.told
    (λ place refused. c.runs.invariant.walk ∙ run-refused c.args.script.now (length c.args.runs.now) c.runs.ends.items (lines_of c.runs.rest.now) c.args.runs.now c.runs.i _ c.runs-test.true c.runs.invariant.count place refused))

pub runs-preserved : goal.runs-preserved
runs-preserved c =
    record {
      walk =
          c.runs.invariant.walk
          ∙ run-passed c.args.script.now (length c.args.runs.now) c.runs.ends.items c.push.new.self.items (lines_of c.runs.rest.now) (lines_of c.in_ok-told.told.rest.now) c.args.runs.now c.runs.i _ c.in_ok-told.told.end
          c.runs-test.true c.runs.invariant.count c.in_ok-told.ensures.told c.in_ok-push.ensures.ok c.in_ok-told.ensures.rest;
      count = rw c.in_ok-push.ensures.ok (rw length-append (omega (arith, c.runs.invariant.count)));
    }

pub returns-clause-told : goal.returns-clause-told
returns-clause-told c =
    c.runs.invariant.walk
    ∙ walk-end (next_run_told c.args.script.now (length c.args.runs.now)) (record { ends = plain_ends c.runs.ends.items; lines = lines_of c.runs.rest.now }) c.args.runs.now c.runs.i c.runs-test.false
