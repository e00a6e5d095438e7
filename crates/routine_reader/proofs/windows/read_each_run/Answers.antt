use Rattle.routine_reader.proofs.WalkLemmas.{each-end, each-read, each-refused, walk-refused}
use Rattle.routine_reader.proofs.windows.read_each_run.Goals as goal
use Rattle.routine_reader.proofs.Prelude.{Err, Ok, ap, arith, drop, length-append, map, next_run_read, read_each, rules, sym, view, ◌+◌, ◌∙◌, ◌≡◌}

pub returns-in_err-run : goal.returns-in_err-run
returns-in_err-run c =
    let fault = c.in_err-run.field-0.0 in
    let R = next_run_read c.args.routines.now c.args.window in
    let refused : R c.values.runs.items (view c.value-item.result) ≡ Err fault = search rules in
    walk-refused _ c.from_residual-in_err-run.result fault _ c.from_residual-in_err-run.ensures.1
    (λ _. c.values.invariant.walk ∙ each-refused R c.values.runs.items c.args.values.now c.values.value-index c.value-item.result (omega arith) c.value-item.is fault refused)

pub values-preserved : goal.values-preserved
values-preserved c =
    let R = next_run_read c.args.routines.now c.args.window in
    let run = c.in_ok-run.run' in
    let read : R c.values.runs.items (view c.value-item.result) ≡ Ok run = search rules in
    let pushed = c.in_ok-push.ensures.ok in
    record {
      walk =
          c.values.invariant.walk
          ∙ each-read R c.values.runs.items c.args.values.now c.values.value-index c.value-item.result (omega arith) c.value-item.is run read
          ∙ ap (λ runs. read_each R runs (map view (drop (c.values.value-index + 1) c.args.values.now))) (sym pushed);
      count = rw pushed (rw length-append (omega (arith, c.values.invariant.count)));
    }

pub returns : goal.returns
returns c =
    c.values.invariant.walk
    ∙ each-end (next_run_read c.args.routines.now c.args.window) c.values.runs.items c.args.values.now c.values.value-index c.values-test.false
