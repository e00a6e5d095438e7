use Rattle.command_rules.proofs.FirstReads.{settled}
use Rattle.command_rules.proofs.rosters.Roster.reads_first.Goals as goal
use Rattle.command_rules.proofs.Prelude.{commands_of, runs_of, ◌∙◌}

pub returns : goal.returns
returns c = c.settled_by_read.ensures ∙ rw c.commands.ensures (settled c.args.d.0 (commands_of (runs_of c.args.self.now) c.args.r.0))
