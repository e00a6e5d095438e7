-- The record of a window's order that the reading of a history and the grips that are out make.
use Rattle.command_rules.specs.Rosters.{command_at, commands_of}
use Rattle.device_order.specs.LineEntries.{command_grip}
use Rattle.device_order.specs.RunStates.{RunState}
use Rattle.device_order.specs.Windows.{WindowModel}
use Rattle.device_order.specs.declared.records.HeldGrip.TheVariants.{Free, Undoes as HeldToUndo}
use Rattle.device_order.specs.declared.records.HeldGrip.{HeldGrip}
use Rattle.device_order.specs.declared.records.Probe.TheVariants.{Asks, Restores, Unprobed}
use Rattle.device_order.specs.declared.records.Probe.{Probe}
use Rattle.history_book.specs.Readings.{is_committed, is_doomed}
use Rattle.history_book.specs.Settings.{Setting}
use Rattle.home_types.specs.Numbers.{DeviceId, RunId}
use Rattle.lock_leasing.specs.Configurations.{Grip, Point}
use Rattle.lock_leasing.specs.declared.purposes.Purpose.TheVariants.{Commands, Probes, Undoes}
use Rattle.lock_leasing.specs.declared.purposes.Purpose.{Purpose}
use Rattle.std.specs.Prelude.{None, Option, Some, if◌then◌else◌, ℕ, ◌==◌}

-- what a run holds the grip of a device for, whose device is out for this purpose
abbrev pub held_for : Setting → RunId → Purpose → HeldGrip
held_for w r (Commands k) = command_grip (command_at w.runs r k).job
held_for w r (Undoes v) = HeldToUndo v
held_for w r (Probes v) = Free

-- .. and whose device is out with this grip, or home
abbrev pub held_by : Setting → RunId → Option Grip → HeldGrip
held_by w r None = Free
held_by w r (Some grip) = if grip.maker == r then held_for w r grip.purpose else Free

-- the probe that is out for this purpose
abbrev pub probe_for_purpose : Purpose → Probe
probe_for_purpose (Commands k) = Unprobed
probe_for_purpose (Undoes v) = Unprobed
probe_for_purpose (Probes None) = Asks
probe_for_purpose (Probes (Some v)) = Restores v

-- the probe of a device that is out with this grip, or home
abbrev pub probe_of : Option Grip → Probe
probe_of None = Unprobed
probe_of (Some grip) = probe_for_purpose grip.purpose

-- what is known of the run
abbrev pub run_state : Point → RunId → RunState
run_state p r = record {
  commands = commands_of p.setting.runs r;
  answers = (p.reading.run r).answers;
  committed = is_committed p.reading r;
  doomed = is_doomed p.reading r;
  undid = λ d. ((p.reading.run r).on d).undid;
  grip = λ d. held_by p.setting r (p.grips d);
}

-- the window, where each device stands, or stood as it went out, at this value
abbrev pub window_of : Point → (DeviceId → ℕ) → WindowModel
window_of p held = record {
  runs = p.setting.runs;
  first = p.setting.first;
  line = p.reading.line;
  states = λ r. run_state p r;
  up = p.reading.up;
  held = held;
  probe = λ d. probe_of (p.grips d);
}
