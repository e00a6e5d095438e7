use Rattle.room_hubs.proofs.Loops.{next_mapped}
use Rattle.room_hubs.proofs.splits.own_commands.Goals as goal
use Rattle.room_hubs.proofs.Prelude.{[], arith, length, numbers_of_devices, own_command, sym, ◌++◌, ◌<◌, ◌∙◌, ◌∷◌}

pub commands-preserved : goal.commands-preserved
commands-preserved c =
    let within : c.commands.command-index < length c.args.commands.now = omega (arith, c.commands-test.true) in
    c.in_ok-push.ensures.ok ∙ (λ i. c.commands.invariant i ++ c.own_command.ensures i ∷ [])
    ∙ sym (next_mapped (own_command (numbers_of_devices c.args.devices.now)) c.args.commands.now c.commands.command-index _ within)
