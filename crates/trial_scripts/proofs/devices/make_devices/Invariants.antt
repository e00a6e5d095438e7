use Rattle.trial_scripts.proofs.Prelude.{map, plain_device, range_with_len, trial_device, ◌≡◌}
use Rattle.trial_scripts.proofs.devices.make_devices.Given as goal

-- the devices so far
abbrev pub invariant-devices : goal.invariant-devices
invariant-devices l = map plain_device l.devices.items ≡ map trial_device (range_with_len 0 l.number)
