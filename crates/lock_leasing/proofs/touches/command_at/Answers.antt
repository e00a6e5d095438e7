use Rattle.lock_leasing.proofs.Prelude.{commands_of, no_command, runs_of}
use Rattle.lock_leasing.proofs.Meetings.{item_same}
use Rattle.lock_leasing.proofs.touches.command_at.Goals as goal

pub returns : goal.returns
returns c = item_same c.commands.result.now (commands_of (runs_of c.args.roster.now) c.args.r.0) c.args.c _ no_command c.commands.ensures c.requires.command
