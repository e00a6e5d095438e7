use Rattle.hub_threads.proofs.RunWords.{noted}
use Rattle.hub_threads.proofs.sleepers.Sleepers.note_unplaced.Goals as goal

pub returns-clause-unplaced : goal.returns-clause-unplaced
returns-clause-unplaced c = rw (← c.self.view_is) (noted c.self.inside.unplaced c.bit_of.result c.args.r.0 c.bit_of.ensures)
