use Rattle.hub_threads.proofs.Prelude.{◌≡◌}
use Rattle.hub_threads.proofs.detectors.sweep.Given as goal

abbrev pub invariant-loop-i : goal.invariant-loop-i
invariant-loop-i g l = l.share.parts ≡ l.fn.share.parts
