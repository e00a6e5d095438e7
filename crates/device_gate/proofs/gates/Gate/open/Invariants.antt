use Rattle.std.proofs.Common.{◌≡◌, ◌+◌, ◌≤◌, ◌++◌, length, reverse}
use Rattle.std.specs.Prelude.{vec_len, vec_capacity}
use Rattle.device_gate.specs.Places.{all_home}
use Rattle.device_gate.proofs.gates.Gate.open.Given as goal

abbrev pub invariant-loop-device : goal.invariant-loop-device
invariant-loop-device g l =
    (all_home l.devices.items ++ reverse l.places.items ≡ all_home l.initial.devices.items)
    × (vec_len l.places + length l.devices.items ≤ vec_capacity l.places)
    × (vec_len l.places ≤ l.devices.spare)

abbrev pub decreases-loop-device : goal.decreases-loop-device
decreases-loop-device g l = length l.devices.items
