use Rattle.routine_reader.proofs.WalkLemmas.{each-end, each-read, each-refused, walk-refused}
use Rattle.routine_reader.proofs.devices.read_each_down.Goals as goal
use Rattle.routine_reader.proofs.Prelude.{Err, Ok, ap, arith, drop, length-append, map, next_down, read_each, rules, sym, view, ◌+◌, ◌∙◌, ◌≡◌}

pub returns-in_err-down : goal.returns-in_err-down
returns-in_err-down c =
    let fault = c.in_err-down.field-0.0 in
    let R = next_down c.args.device in
    let refused : R c.values.downs.items (view c.value-item.result) ≡ Err fault = search rules in
    walk-refused _ c.from_residual-in_err-down.result fault _ c.from_residual-in_err-down.ensures.1
    (λ _. c.values.invariant.walk ∙ each-refused R c.values.downs.items c.args.values.now c.values.value-index c.value-item.result (omega arith) c.value-item.is fault refused)

pub values-preserved : goal.values-preserved
values-preserved c =
    let R = next_down c.args.device in
    let down = c.in_ok-down.down in
    let read : R c.values.downs.items (view c.value-item.result) ≡ Ok down = search rules in
    let pushed = c.in_ok-push.ensures.ok in
    record {
      walk =
          c.values.invariant.walk
          ∙ each-read R c.values.downs.items c.args.values.now c.values.value-index c.value-item.result (omega arith) c.value-item.is down read
          ∙ ap (λ downs. read_each R downs (map view (drop (c.values.value-index + 1) c.args.values.now))) (sym pushed);
      count = rw pushed (rw length-append (omega (arith, c.values.invariant.count)));
    }

pub returns : goal.returns
returns c =
    c.values.invariant.walk ∙ each-end (next_down c.args.device) c.values.downs.items c.args.values.now c.values.value-index c.values-test.false
