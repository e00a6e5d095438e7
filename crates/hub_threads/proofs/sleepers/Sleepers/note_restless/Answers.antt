use Rattle.hub_threads.proofs.RunWords.{noted}
use Rattle.hub_threads.proofs.sleepers.Sleepers.note_restless.Goals as goal

pub returns-clause-restless : goal.returns-clause-restless
returns-clause-restless c = rw (← c.self.view_is) (noted c.self.inside.restless c.bit_of.result c.args.r.0 c.bit_of.ensures)
