use Rattle.hub_threads.proofs.RunWords.{noted}
use Rattle.hub_threads.proofs.sleepers.Sleepers.note_blocked.Goals as goal

pub returns-clause-blocked : goal.returns-clause-blocked
returns-clause-blocked c = rw (← c.self.view_is) (noted c.self.inside.blocked c.bit_of.result c.args.r.0 c.bit_of.ensures)
