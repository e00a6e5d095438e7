use Rattle.home_types.proofs.DeviceBits.{without_device}
use Rattle.home_types.proofs.device_sets.DeviceSet.remove.Goals as goal
use Rattle.std.proofs.Common.{length, rules, ◌≡◌}

pub returns : goal.returns
returns c =
    let four : length c.self.inside.words ≡ 4 = search rules in
    rw (← c.self.view_is) (without_device c.self.inside.words c.args.device.0 c.requires four)
