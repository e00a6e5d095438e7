use Rattle.routine_reader.proofs.WalkLemmas.{each-end, each-read, each-refused, walk-refused}
use Rattle.routine_reader.proofs.routines.read_each_command.Goals as goal
use Rattle.routine_reader.proofs.Prelude.{Err, Ok, ap, arith, drop, length-append, map, next_command_read, plain_device, read_each, rules, sym, view, ◌+◌, ◌∙◌, ◌≡◌}

pub returns-in_err-command : goal.returns-in_err-command
returns-in_err-command c =
    let fault = c.in_err-command.field-0.0 in
    let R = next_command_read c.args.version (map plain_device c.args.devices.now.texts.items) c.args.routine in
    let refused : R c.values.commands.items (view c.value-item.result) ≡ Err fault = search rules in
    walk-refused _ c.from_residual-in_err-command.result fault _ c.from_residual-in_err-command.ensures.1
    (λ _. c.values.invariant.walk ∙ each-refused R c.values.commands.items c.args.values.now c.values.value-index c.value-item.result (omega arith) c.value-item.is fault refused)

pub values-preserved : goal.values-preserved
values-preserved c =
    let R = next_command_read c.args.version (map plain_device c.args.devices.now.texts.items) c.args.routine in
    let command = c.in_ok-command.command in
    let read : R c.values.commands.items (view c.value-item.result) ≡ Ok command = search rules in
    let pushed = c.in_ok-push.ensures.ok in
    record {
      walk =
          c.values.invariant.walk
          ∙ each-read R c.values.commands.items c.args.values.now c.values.value-index c.value-item.result (omega arith) c.value-item.is command read
          ∙ ap (λ commands. read_each R commands (map view (drop (c.values.value-index + 1) c.args.values.now))) (sym pushed);
      count = rw pushed (rw length-append (omega (arith, c.values.invariant.count)));
    }

pub returns : goal.returns
returns c =
    c.values.invariant.walk
    ∙ each-end (next_command_read c.args.version (map plain_device c.args.devices.now.texts.items) c.args.routine) c.values.commands.items c.args.values.now c.values.value-index c.values-test.false
