use Rattle.routine_reader.proofs.WalkLemmas.{each-end, each-read, each-refused, walk-refused}
use Rattle.routine_reader.proofs.windows.read_each_turn.Goals as goal
use Rattle.routine_reader.proofs.Prelude.{Err, Ok, ap, arith, drop, length-append, map, next_turn, read_each, rules, sym, view, ◌+◌, ◌∙◌, ◌≡◌}

pub returns-in_err-turn : goal.returns-in_err-turn
returns-in_err-turn c =
    let fault = c.in_err-turn.field-0.0 in
    let R = next_turn c.args.window c.args.runs in
    let refused : R c.values.turns.items (view c.value-item.result) ≡ Err fault = search rules in
    walk-refused _ c.from_residual-in_err-turn.result fault _ c.from_residual-in_err-turn.ensures.1
    (λ _. c.values.invariant.walk ∙ each-refused R c.values.turns.items c.args.values.now c.values.value-index c.value-item.result (omega arith) c.value-item.is fault refused)

pub values-preserved : goal.values-preserved
values-preserved c =
    let R = next_turn c.args.window c.args.runs in
    let turn = c.in_ok-turn.turn in
    let read : R c.values.turns.items (view c.value-item.result) ≡ Ok turn = search rules in
    let pushed = c.in_ok-push.ensures.ok in
    record {
      walk =
          c.values.invariant.walk
          ∙ each-read R c.values.turns.items c.args.values.now c.values.value-index c.value-item.result (omega arith) c.value-item.is turn read
          ∙ ap (λ turns. read_each R turns (map view (drop (c.values.value-index + 1) c.args.values.now))) (sym pushed);
      count = rw pushed (rw length-append (omega (arith, c.values.invariant.count)));
    }

pub returns : goal.returns
returns c =
    c.values.invariant.walk
    ∙ each-end (next_turn c.args.window c.args.runs) c.values.turns.items c.args.values.now c.values.value-index c.values-test.false
