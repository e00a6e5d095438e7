use Rattle.std.proofs.Common.{◌≡◌, ◌≤◌, ◌++◌, reverse}
use Rattle.std.specs.Prelude.{vec_len}
use Rattle.device_gate.specs.Places.{all_home}
use Rattle.device_gate.proofs.gates.Gate.close.Given as goal

abbrev pub invariant-loop-place : goal.invariant-loop-place
invariant-loop-place g l =
    (all_home l.devices.items ++ reverse l.places.items ≡ l.fn.self.places)
    × (vec_len l.places ≤ l.devices.spare)

abbrev pub decreases-loop-place : goal.decreases-loop-place
decreases-loop-place g l = goal.left-loop-place g l
