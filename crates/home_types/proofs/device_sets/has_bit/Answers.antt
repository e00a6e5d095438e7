use Rattle.home_types.proofs.DeviceWords.{has_some_bit}
use Rattle.home_types.proofs.device_sets.has_bit.Goals as goal
use Rattle.std.proofs.Common.{rules}

pub returns : goal.returns
returns c = has_some_bit c.args.word (search rules)
