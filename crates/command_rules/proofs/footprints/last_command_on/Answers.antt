use Rattle.command_rules.proofs.LastPlaces.{last_place-places}
use Rattle.command_rules.proofs.footprints.last_command_on.Goals as goal
use Rattle.command_rules.proofs.Prelude.{is_on, rules}

pub returns-clause-last : goal.returns-clause-last
returns-clause-last c = last_place-places (is_on c.args.d.0) c.args.commands.now c.rposition.result (search rules) (search rules)
