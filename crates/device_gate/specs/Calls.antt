-- What a task does with its device, by what the device told.
use Rattle.device_gate.specs.declared.slips.Task.{Task}
use Rattle.device_gate.specs.declared.slips.Task.TheVariants.{Drive, Probe, Sense}
use Rattle.device_gate.specs.declared.slips.Told.{Told}
use Rattle.device_gate.specs.declared.slips.Told.TheVariants.{Died, Sensed, Worked}
use Rattle.home_types.specs.declared.commands.Answer.TheVariants.{Down, Fine, Found}
use Rattle.home_types.specs.declared.commands.Answer.{Answer}
use Rattle.std.specs.Prelude.{Bool, None, Option, Some, false, if◌then◌else◌, true, ℕ, ◌==◌}

-- the device is counted up as it leaves: only a probe with a value to restore is for one that is
-- counted down
abbrev pub is_counted_up : Task → Bool
is_counted_up (Drive v) = true
is_counted_up Sense = true
is_counted_up (Probe None) = true
is_counted_up (Probe (Some v)) = false

-- a call did not answer
abbrev pub has_died : Told → Bool
has_died Worked = false
has_died (Sensed x) = false
has_died Died = true

-- what a device that stood at the value may tell: a drive and a probe that they worked, a sense
-- that value, and each of them that a call died
abbrev pub may_tell : Task → ℕ → Told → Bool
may_tell (Drive v) stood Worked = true
may_tell (Drive v) stood (Sensed x) = false
may_tell (Drive v) stood Died = true
may_tell Sense stood Worked = false
may_tell Sense stood (Sensed x) = x == stood
may_tell Sense stood Died = true
may_tell (Probe restored) stood Worked = true
may_tell (Probe restored) stood (Sensed x) = false
may_tell (Probe restored) stood Died = true

-- where a device that stood at the value stands once the task has worked
abbrev pub value_after : Task → ℕ → ℕ
value_after (Drive v) stood = v
value_after Sense stood = stood
value_after (Probe None) stood = stood
value_after (Probe (Some v)) stood = v

-- .. and whatever it told: where a call died that is not known
abbrev pub stands_after : Task → ℕ → Told → Option ℕ
stands_after task stood told = if has_died told then None else Some (value_after task stood)

-- .. and where it is known to stand that stood at the value `held`: as before where a call died
abbrev pub held_after : Told → Task → ℕ → ℕ
held_after told task held = if has_died told then held else value_after task held

-- the answer to a command whose device told this
abbrev pub answer_told : Told → Answer
answer_told Worked = Fine
answer_told (Sensed x) = Found x
answer_told Died = Down

-- the drives and senses of the task
abbrev pub turns_of : Task → ℕ
turns_of (Drive v) = 1
turns_of Sense = 1
turns_of (Probe None) = 0
turns_of (Probe (Some v)) = 1

-- how many drives and senses the device answered
abbrev pub answered_turns : Task → Told → ℕ
answered_turns task told = if has_died told then 0 else turns_of task

-- the drives of the task
abbrev pub drives_of : Task → ℕ
drives_of (Drive v) = 1
drives_of Sense = 0
drives_of (Probe None) = 0
drives_of (Probe (Some v)) = 1

-- how many drives the device answered
abbrev pub answered_drives : Task → Told → ℕ
answered_drives task told = if has_died told then 0 else drives_of task

-- how many probes were made
abbrev pub probed : Task → ℕ
probed (Drive v) = 0
probed Sense = 0
probed (Probe restored) = 1

-- how many calls failed
abbrev pub failed : Told → ℕ
failed told = if has_died told then 1 else 0
