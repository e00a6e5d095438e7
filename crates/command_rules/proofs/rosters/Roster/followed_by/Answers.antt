use Rattle.command_rules.proofs.RosterReads.{followed_by-run}
use Rattle.command_rules.proofs.rosters.Roster.followed_by.Goals as goal
use Rattle.command_rules.proofs.Prelude.{ap, option_copied, sym, ◌∙◌}

pub returns : goal.returns
returns c = followed_by-run c.args.self.now c.args.r.0 c.unwrap-follower.result.now c.requires (sym c.get.ensures ∙ ap option_copied c.unwrap-follower.ensures)
