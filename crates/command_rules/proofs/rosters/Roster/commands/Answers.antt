use Rattle.command_rules.proofs.RosterReads.{commands_of-run}
use Rattle.command_rules.proofs.rosters.Roster.commands.Goals as goal
use Rattle.command_rules.proofs.Prelude.{ap, option_copied, sym, ◌∙◌}

pub returns : goal.returns
returns c =
    let found = sym c.get.ensures ∙ ap option_copied c.unwrap-run.ensures in
    c.as_slice.ensures ∙ sym (commands_of-run c.args.self.now c.args.r.0 c.unwrap-run.result.now c.requires found)
