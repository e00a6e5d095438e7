use Rattle.home_types.proofs.DeviceWords.{words_either}
use Rattle.home_types.proofs.device_sets.DeviceSet.either.Goals as goal

pub returns : goal.returns
returns c = λ d. rw (← c.self.view_is, ← c.other.view_is) (words_either c.self.inside.words c.other.inside.words d)
