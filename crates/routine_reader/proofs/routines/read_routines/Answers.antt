use Rattle.routine_reader.proofs.WalkLemmas.{each-end, each-read, each-refused, walk-refused}
use Rattle.routine_reader.proofs.routines.read_routines.Goals as goal
use Rattle.routine_reader.proofs.Prelude.{Err, Ok, [], ap, arith, drop, false, is_memory, length-append, length-map, map, map-append, next_routine, plain_device, plain_routine, read_each, routine_names, rules, sym, view, ◌++◌, ◌+◌, ◌∙◌, ◌∷◌, ◌≡◌}

pub returns-in_err-routine-clause-reading : goal.returns-in_err-routine-clause-reading
returns-in_err-routine-clause-reading c =
    let fault = c.in_err-routine.field-0.0 in
    let earlier = map plain_routine c.values.texts.items in
    let refused : is_memory fault ≡ false → (next_routine c.args.version (map plain_device c.args.devices.now.texts.items)) earlier (view c.value-item.result) ≡ Err fault =
    λ named. rw (length-map c.values.texts.items plain_routine) (search rules) in
    walk-refused _ c.from_residual-in_err-routine.result fault _ c.from_residual-in_err-routine.ensures.1
    (λ named. c.values.invariant.walk ∙ each-refused (next_routine c.args.version (map plain_device c.args.devices.now.texts.items)) earlier c.args.values.now c.values.value-index c.value-item.result (omega arith) c.value-item.is fault (refused named))

pub values-preserved : goal.values-preserved
values-preserved c =
    let texts = c.values.texts.items in
    let earlier = map plain_routine texts in
    let routine = c.in_ok-routine.routine in
    let read : (next_routine c.args.version (map plain_device c.args.devices.now.texts.items)) earlier (view c.value-item.result) ≡ Ok (plain_routine routine) = rw (length-map texts plain_routine) (search rules) in
    let pushed : c.push.new.self.items ≡ texts ++ routine ∷ [] = c.in_ok-push.ensures.ok in
    let more : map plain_routine c.push.new.self.items ≡ earlier ++ plain_routine routine ∷ [] = ap (map plain_routine) pushed ∙ map-append plain_routine texts (routine ∷ []) in
    let added : c.read_routine.new.names ≡ c.values.names ++ routine.name ∷ [] = search rules in
    record {
      walk =
          c.values.invariant.walk
          ∙ each-read (next_routine c.args.version (map plain_device c.args.devices.now.texts.items)) earlier c.args.values.now c.values.value-index c.value-item.result (omega arith) c.value-item.is (plain_routine routine) read
          ∙ ap (λ routines. read_each (next_routine c.args.version (map plain_device c.args.devices.now.texts.items)) routines (map view (drop (c.values.value-index + 1) c.args.values.now))) (sym more);
      names =
          added ∙ ap (λ names. names ++ routine.name ∷ []) c.values.invariant.names
          ∙ sym (map-append (λ d. d.name) earlier (plain_routine routine ∷ []))
          ∙ ap routine_names (sym more);
      count = rw pushed (rw length-append (omega (arith, c.values.invariant.count)));
    }

pub returns-clause-reading : goal.returns-clause-reading
returns-clause-reading c =
    c.values.invariant.walk ∙ each-end (next_routine c.args.version (map plain_device c.args.devices.now.texts.items)) (map plain_routine c.values.texts.items) c.args.values.now c.values.value-index c.values-test.false
