use Rattle.std.proofs.Common.{ℕ, ◌<◌}
use Rattle.device_gate.specs.Places.{IsHome}
use Rattle.device_gate.proofs.gates.Gate.first_out.Given as goal

abbrev pub invariant-loop-at : goal.invariant-loop-at
invariant-loop-at g l = (e : ℕ) → e < l.at → IsHome l.self.places e
