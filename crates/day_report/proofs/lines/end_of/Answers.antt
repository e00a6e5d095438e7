use Rattle.day_report.proofs.lines.end_of.Goals as goal
use Rattle.history_book.proofs.Cited.{first_told-places}
use Rattle.day_report.proofs.Prelude.{end_in, rules}

pub returns : goal.returns
returns c = first_told-places (end_in c.args.run) c.args.history.now c.find_map.result (search rules) (search rules)
