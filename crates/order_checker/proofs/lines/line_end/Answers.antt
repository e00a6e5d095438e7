use Rattle.order_checker.proofs.Bytes.{first-place}
use Rattle.order_checker.proofs.lines.line_end.Goals as goal

pub returns-clause-place : goal.returns-clause-place
returns-clause-place c = first-place 10 c.args.text.now c.memchr.result c.memchr.ensures
