use Rattle.routine_reader.proofs.Prelude.{All-append, All-cons, All-nil, Err, Ok, [], ap, arith, device_names, drop, false, is_memory, length, length-append, length-map, map, map-append, most_states, next_device_read, plain_device, read_each, rules, sym, view, ◌++◌, ◌+◌, ◌∙◌, ◌∷◌, ◌≡◌, ◌≤◌}
use Rattle.routine_reader.proofs.WalkLemmas.{each-end, each-read, each-refused, walk-refused}
use Rattle.routine_reader.proofs.devices.read_devices.Goals as goal

pub returns-in_err-device-clause-reading : goal.returns-in_err-device-clause-reading
returns-in_err-device-clause-reading c =
    let fault = c.in_err-device.field-0.0 in
    let earlier = map plain_device c.values.texts.items in
    let refused : is_memory fault ≡ false → next_device_read earlier (view c.value-item.result) ≡ Err fault =
    λ named. rw (length-map c.values.texts.items plain_device) (search rules) in
    walk-refused _ c.from_residual-in_err-device.result fault _ c.from_residual-in_err-device.ensures.1
    (λ named. c.values.invariant.walk ∙ each-refused next_device_read earlier c.args.values.now c.values.value-index c.value-item.result (omega arith) c.value-item.is fault (refused named))

pub values-preserved : goal.values-preserved
values-preserved c =
    let texts = c.values.texts.items in
    let earlier = map plain_device texts in
    let device = c.in_ok-device.device in
    let read : next_device_read earlier (view c.value-item.result) ≡ Ok (plain_device device) = rw (length-map texts plain_device) (search rules) in
    let pushed : c.push.new.self.items ≡ texts ++ device ∷ [] = c.in_ok-push.ensures.ok in
    let more : map plain_device c.push.new.self.items ≡ earlier ++ plain_device device ∷ [] = ap (map plain_device) pushed ∙ map-append plain_device texts (device ∷ []) in
    let added : c.read_device.new.names ≡ c.values.names ++ device.name ∷ [] = search rules in
    record {
      walk =
          c.values.invariant.walk
          ∙ each-read next_device_read earlier c.args.values.now c.values.value-index c.value-item.result (omega arith) c.value-item.is (plain_device device) read
          ∙ ap (λ devices. read_each next_device_read devices (map view (drop (c.values.value-index + 1) c.args.values.now))) (sym more);
      names =
          added ∙ ap (λ names. names ++ device.name ∷ []) c.values.invariant.names
          ∙ sym (map-append (λ d. d.name) earlier (plain_device device ∷ []))
          ∙ ap device_names (sym more);
      few =
          rw pushed
          (All-append (λ d. length d.states.items ≤ most_states) texts (device ∷ []) c.values.invariant.few
          (All-cons (λ d. length d.states.items ≤ most_states) device [] c.in_ok-device.ensures.few (All-nil _)));
      count = rw pushed (rw length-append (omega (arith, c.values.invariant.count)));
    }

pub returns-clause-reading : goal.returns-clause-reading
returns-clause-reading c =
    c.values.invariant.walk ∙ each-end next_device_read (map plain_device c.values.texts.items) c.args.values.now c.values.value-index c.values-test.false
