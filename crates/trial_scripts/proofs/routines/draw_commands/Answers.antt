use Rattle.trial_scripts.proofs.DrawnEach.{none_yet, one_more}
use Rattle.trial_scripts.proofs.routines.draw_commands.Goals as goal
use Rattle.trial_scripts.proofs.Prelude.{draw_command}

pub commands-init : goal.commands-init
commands-init c = none_yet (λ _. draw_command) c.args.draws.now c.new-commands.result.items c.new-commands.ensures.empty

pub commands-preserved : goal.commands-preserved
commands-preserved c =
    one_more (λ _. draw_command) c.commands.counter c.args.draws.now c.commands.draws c.draw_command.new.draws c.commands.commands.items c.push.new.self.items c.draw_command.result
    c.commands.invariant c.draw_command.ensures c.in_ok-push.ensures.ok
