-- Grips: devices that are out, and how they are.
use Rattle.device_gate.specs.Calls.{answered_drives, answered_turns, failed, is_counted_up, may_tell, probed, stands_after}
use Rattle.device_gate.specs.declared.slips.Slip.{Slip}
use Rattle.device_gate.specs.declared.slips.Task.{Task}
use Rattle.device_gate.specs.declared.slips.Told.{Told}
use Rattle.device_states.specs.Devices.{MayBeProbed, Shown}
use Rattle.std.specs.Prelude.{IfSome, IsTrue, ◌+◌, ◌≡◌, ◌≤◌}

-- a device that is out, with its slip, its task, and how far the grip has come
pub record Gripped (D S : Type 0) : Type 0 where
  pub device : D
  pub slip : Slip
  pub task : Task
  pub stage : S

-- the device is as its slip says, and each of its counts may still rise by what the task does
pub record IsAsLeft (task : Task) (slip : Slip) (shown : Shown) : Type 0 where
  pub is_device : shown.tag ≡ slip.device.0
  pub stood : IsTrue (is_counted_up task) → shown.stands ≡ slip.stood
  pub had_turns : shown.turns ≡ slip.turns
  pub had_drives : shown.drives ≡ slip.drives
  pub few_drives : slip.drives ≤ slip.turns
  pub had_probes : shown.probes ≡ slip.probes
  pub had_faults : shown.faults ≡ slip.faults
  pub room : MayBeProbed shown

-- the task was done with the device of the slip, once, and this is what the device told
pub record WasCalled (told : Told) (task : Task) (slip : Slip) (shown : Shown) : Type 0 where
  pub is_device : shown.tag ≡ slip.device.0
  pub fits : IsTrue (may_tell task slip.stood told)
  pub stands_there : IfSome (stands_after task slip.stood told) (λ v. shown.stands ≡ v)
  pub turns_rose : shown.turns ≡ slip.turns + answered_turns task told
  pub drives_rose : shown.drives ≡ slip.drives + answered_drives task told
  pub probes_rose : shown.probes ≡ slip.probes + probed task
  pub faults_rose : shown.faults ≡ slip.faults + failed told
