use Rattle.run_replay.proofs.hands.Hands.kept_invariant.Goals as goal
use Rattle.run_replay.proofs.Prelude.{PlayerStands, subst}

pub returns-clause-player : goal.returns-clause-player
returns-clause-player g c = subst PlayerStands c.self.view_is (record {
  kept = c.self.invariant;
  size = c.kept_invariant.ensures.size;
  few_runs = c.kept_invariant.ensures.few_runs;
  grips = c.kept_invariant.ensures.grips;
  progress = c.progress.ensures;
  few_devices = c.kept_invariant.ensures.few_devices;
  bounded = c.bounded.ensures;
})
