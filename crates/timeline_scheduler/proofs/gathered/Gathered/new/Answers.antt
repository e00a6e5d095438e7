use Rattle.timeline_scheduler.proofs.Gathering.{none_gathered}
use Rattle.timeline_scheduler.proofs.gathered.Gathered.new.Goals as goal

pub returns : goal.returns
returns c = λ runs. none_gathered runs c.none.result 65 c.none.ensures
