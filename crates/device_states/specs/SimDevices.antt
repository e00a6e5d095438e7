-- A device that is down in calls of listed numbers.
use Rattle.device_states.specs.declared.devices.Dead.{Dead}
use Rattle.std.specs.List.{list_any}
use Rattle.std.specs.Prelude.{Bool, Err, List, Ok, Result, if◌then◌else◌, nat_le, nat_lt, ℕ, ◌&&◌, ◌+◌}

-- its number, the ranges of calls in which it is down, where it stands, how many calls of all three
-- kinds were made, and its counts
pub record SimState : Type 0 where
  pub tag : ℕ
  pub plan : List (ℕ × ℕ)
  pub stands : ℕ
  pub calls : ℕ
  pub turns : ℕ
  pub drives : ℕ
  pub probes : ℕ
  pub faults : ℕ

-- a device that was not called yet
abbrev pub fresh_device : ℕ → ℕ → List (ℕ × ℕ) → SimState
fresh_device tag start plan = record {
  tag = tag;
  plan = plan;
  stands = start;
  calls = 0;
  turns = 0;
  drives = 0;
  probes = 0;
  faults = 0;
}

-- the range, from its first number to before its second, has this call
abbrev pub range_covers : ℕ → ℕ × ℕ → Bool
range_covers call range = nat_le range.0 call && nat_lt call range.1

-- some range of the plan has this call
abbrev pub is_down : List (ℕ × ℕ) → ℕ → Bool
is_down plan call = list_any (range_covers call) plan

-- the next call dies; calls are numbered from 1
abbrev pub dies_next : SimState → Bool
dies_next s = is_down s.plan (s.calls + 1)

-- one more call was made
abbrev pub device_called : SimState → SimState
device_called s = record s { calls = s.calls + 1 }

-- one more call has died
abbrev pub died : SimState → SimState
died s = record (device_called s) { faults = s.faults + 1 }

-- one more drive was answered, and left the device at this value
abbrev pub driven_to : SimState → ℕ → SimState
driven_to s v =
    record (device_called s) { stands = v; turns = s.turns + 1; drives = s.drives + 1 }

-- one more sense was answered
abbrev pub sensed : SimState → SimState
sensed s = record (device_called s) { turns = s.turns + 1 }

-- what the next drive or probe answers
abbrev pub next_call_answer : SimState → Result Unit Dead
next_call_answer s = if dies_next s then Err (record {}) else Ok tt

-- what the next sense answers
abbrev pub sense_answer : SimState → Result ℕ Dead
sense_answer s = if dies_next s then Err (record {}) else Ok s.stands

-- the device after a drive to this value
abbrev pub after_drive : SimState → ℕ → SimState
after_drive s v = if dies_next s then died s else driven_to s v

-- the device after a sense
abbrev pub after_sense : SimState → SimState
after_sense s = if dies_next s then died s else sensed s

-- the device after a probe, which is counted whatever it answers
abbrev pub after_probe : SimState → SimState
after_probe s = record (if dies_next s then died s else device_called s) { probes = s.probes + 1 }
