use Rattle.routine_reader.proofs.WalkLemmas.{each-end, each-read, each-refused, walk-refused}
use Rattle.routine_reader.proofs.devices.read_each_state.Goals as goal
use Rattle.routine_reader.proofs.Prelude.{Err, Ok, [], ap, arith, drop, false, is_memory, length-append, map, read_each, rules, state_name, sym, view, ◌++◌, ◌+◌, ◌∙◌, ◌∷◌, ◌≡◌}

pub returns-in_err-name-clause-reading : goal.returns-in_err-name-clause-reading
returns-in_err-name-clause-reading c =
    let fault = c.in_err-name.field-0.0 in
    let R = state_name c.args.spot in
    let refused : is_memory fault ≡ false → R c.values.states.items (view c.value-item.result) ≡ Err fault = λ named. search rules in
    walk-refused _ c.from_residual-in_err-name.result fault _ c.from_residual-in_err-name.ensures.1
    (λ named. c.values.invariant.walk ∙ each-refused R c.values.states.items c.args.values.now c.values.value-index c.value-item.result (omega arith) c.value-item.is fault (refused named))

pub values-preserved : goal.values-preserved
values-preserved c =
    let R = state_name c.args.spot in
    let states = c.values.states.items in
    let name = c.in_ok-name.name.now in
    let read : R states (view c.value-item.result) ≡ Ok name = search rules in
    let same : c.in_ok-of.field-0 ≡ name = search rules in
    let pushed : c.push.new.self.items ≡ states ++ name ∷ [] = rw (sym same) (c.in_ok-push.ensures.ok) in
    let added : c.add.new.self ≡ c.values.names ++ name ∷ [] = search rules in
    record {
      walk =
          c.values.invariant.walk
          ∙ each-read R states c.args.values.now c.values.value-index c.value-item.result (omega arith) c.value-item.is name read
          ∙ ap (λ names. read_each R names (map view (drop (c.values.value-index + 1) c.args.values.now))) (sym pushed);
      names = added ∙ ap (λ names. names ++ name ∷ []) c.values.invariant.names ∙ sym pushed;
      count = rw pushed (rw length-append (omega (arith, c.values.invariant.count)));
    }

pub returns-clause-reading : goal.returns-clause-reading
returns-clause-reading c =
    c.values.invariant.walk ∙ each-end (state_name c.args.spot) c.values.states.items c.args.values.now c.values.value-index c.values-test.false
