use Rattle.home_types.proofs.DeviceBits.{with_device}
use Rattle.home_types.proofs.device_sets.DeviceSet.add.Goals as goal
use Rattle.std.proofs.Common.{arith, length, rules, ◌%◌, ◌≡◌}
use Rattle.std.proofs.lemmas.Nat.{one_shl}

pub returns : goal.returns
returns c =
    let four : length c.self.inside.words ≡ 4 = search rules in
    rw (one_shl (c.args.device.0 % 64) 64 (omega arith), ← c.self.view_is) (with_device c.self.inside.words c.args.device.0 c.requires four)
