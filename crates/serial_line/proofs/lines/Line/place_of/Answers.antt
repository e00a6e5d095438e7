use Rattle.serial_line.proofs.Once.{told_there}
use Rattle.serial_line.proofs.lines.Line.place_of.Goals as goal

pub returns-in-Some-clause-there : goal.returns-in-Some-clause-there
returns-in-Some-clause-there c = told_there c.args.item c.args.self.now.marks c.in-Some.place c.in-Some.ensures

pub returns-in-None-clause-there : goal.returns-in-None-clause-there
returns-in-None-clause-there c = told_there c.args.item c.args.self.now.marks c.search.result c.search.ensures
