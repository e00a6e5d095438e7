-- What a reader of commands may rely on, of the devices that were read.
use Rattle.home_types.specs.Limits.{most_devices, most_states}
use Rattle.routine_reader.specs.Devices.{device_names}
use Rattle.routine_reader.specs.Scripts.{plain_device}
use Rattle.routine_reader.specs.declared.devices.NamedDevices.{NamedDevices}
use Rattle.std.specs.Prelude.{All, length, map, ◌≡◌, ◌≤◌}

-- the names are those of the devices, in order; there are no more devices and states than the
-- limits
pub record AreDevices (devices : NamedDevices) : Type 0 where
  pub names : devices.names ≡ device_names (map plain_device devices.texts.items)
  pub few : length devices.texts.items ≤ most_devices
  pub few_states : All (λ device. length device.states.items ≤ most_states) devices.texts.items
