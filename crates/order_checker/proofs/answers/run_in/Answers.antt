use Rattle.order_checker.proofs.Prelude.{All, Command, commands_of, runs_of, subst, sym, ◌<◌}
use Rattle.order_checker.proofs.answers.run_in.Goals as goal

pub first_wrong-requires-clause-devices : goal.first_wrong-requires-clause-devices
first_wrong-requires-clause-devices c =
    let devices = subst (λ n. All (λ (command : Command). command.device.0 < n) (commands_of (runs_of c.args.reader.now.roster.now) c.args.run.0)) (sym c.requires.home) (c.requires.reader.commands c.args.run.0) in
    rw c.commands-commands.ensures devices

pub first_wrong-requires-clause-few : goal.first_wrong-requires-clause-few
first_wrong-requires-clause-few c =
    let few = c.requires.reader.few_commands c.args.run.0 in
    rw c.commands-commands.ensures few
