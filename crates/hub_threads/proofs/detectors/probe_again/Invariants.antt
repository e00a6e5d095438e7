use Rattle.hub_threads.proofs.Prelude.{◌≡◌}
use Rattle.hub_threads.proofs.detectors.probe_again.Given as goal

abbrev pub invariant-loop-d : goal.invariant-loop-d
invariant-loop-d g l = l.share.parts ≡ l.fn.share.parts
