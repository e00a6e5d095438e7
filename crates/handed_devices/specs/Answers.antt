-- What is known of a device after an answer was handed in.
use Rattle.device_gate.specs.Calls.{has_died, value_after}
use Rattle.device_gate.specs.declared.slips.Task.{Task}
use Rattle.device_gate.specs.declared.slips.Told.{Told}
use Rattle.std.specs.Prelude.{if◌then◌else◌, ℕ}

-- where a device that stood at the value is taken to stand: as its task leaves it, and as before
-- where a call died
abbrev pub known_value : Told → Task → ℕ → ℕ
known_value told task stood = if has_died told then stood else value_after task stood
