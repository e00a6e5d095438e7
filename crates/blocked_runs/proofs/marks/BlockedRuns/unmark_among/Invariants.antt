use Rattle.blocked_runs.proofs.Prelude.{AreLeft, false, most_devices, runs_of, touches, ◌-◌, ◌<◌, ◌≡◌}
use Rattle.blocked_runs.proofs.marks.BlockedRuns.unmark_among.Given as goal

-- those of the run's devices up to here are unmarked
abbrev pub invariant-marked : goal.invariant-marked
invariant-marked l = AreLeft l.initial.self l.self (λ e. e < l.from.0 → touches (runs_of l.roster) l.fn.r.0 e ≡ false)

abbrev pub decreases-marked : goal.decreases-marked
decreases-marked l = most_devices - l.from.0
