use Rattle.window_devices.proofs.closings.rises_in.Given as goal
use Rattle.window_devices.proofs.Prelude.{DeviceProgress, HaveRisen, length, ◌+◌, ◌≤◌}

-- the counts of the devices up to here rose so, and there is room for the others
abbrev pub invariant-devices : goal.invariant-devices
invariant-devices g l = record {
  turns : HaveRisen (λ device. (g.D.Device.shows device).turns) (λ (device : DeviceProgress). device.at_opening.turns) l.known.items l.devices.items l.at l.rises.turns.items;
  faults : HaveRisen (λ device. (g.D.Device.shows device).faults) (λ (device : DeviceProgress). device.at_opening.faults) l.known.items l.devices.items l.at l.rises.faults.items;
  turns_room : length l.known.items ≤ l.at + l.rises.turns.spare;
  faults_room : length l.known.items ≤ l.at + l.rises.faults.spare;
}
