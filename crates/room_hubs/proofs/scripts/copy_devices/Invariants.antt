use Rattle.room_hubs.proofs.Prelude.{DeviceNo, map, no_device_text, plain_device, plain_devices, slice_index_or, take, ◌≡◌}
use Rattle.room_hubs.proofs.scripts.copy_devices.Given as goal

abbrev pub invariant-numbers : goal.invariant-numbers
invariant-numbers l = plain_devices l.copy.items ≡ map (λ (n : DeviceNo). plain_device (slice_index_or l.devices n.0 no_device_text)) (take l.number-index l.numbers)
