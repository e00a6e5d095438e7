use Rattle.home_types.proofs.DeviceBits.{no_devices}
use Rattle.home_types.proofs.device_sets.DeviceSet.none.Goals as goal

pub returns : goal.returns
returns c = no_devices 4
