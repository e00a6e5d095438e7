use Rattle.home_types.proofs.DeviceWords.{words_meet}
use Rattle.home_types.proofs.device_sets.DeviceSet.meets.Goals as goal

pub returns : goal.returns
returns c = rw (← c.self.view_is, ← c.other.view_is) (words_meet c.self.inside.words c.other.inside.words c.has_bit.result c.has_bit.ensures)
