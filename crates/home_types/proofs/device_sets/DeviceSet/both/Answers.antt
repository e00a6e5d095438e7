use Rattle.home_types.proofs.DeviceWords.{words_both}
use Rattle.home_types.proofs.device_sets.DeviceSet.both.Goals as goal

pub returns : goal.returns
returns c = λ d. rw (← c.self.view_is, ← c.other.view_is) (words_both c.self.inside.words c.other.inside.words d)
