use Rattle.hub_commands.proofs.Dividing.{fed_line, whole_line}
use Rattle.hub_commands.proofs.divisions.line_length.Goals as goal

pub returns-in-Some-clause-first : goal.returns-in-Some-clause-first
returns-in-Some-clause-first c = fed_line c.args.text.now c.in-Some.at c.in-Some.ensures

pub returns-in-None-clause-first : goal.returns-in-None-clause-first
returns-in-None-clause-first c = whole_line c.args.text.now c.in-None.ensures c.requires
