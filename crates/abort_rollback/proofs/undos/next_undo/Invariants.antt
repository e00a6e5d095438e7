use Rattle.abort_rollback.proofs.undos.next_undo.Given as goal
use Rattle.abort_rollback.proofs.Prelude.{false, has_effective_write, length, ℕ, ◌-◌, ◌<◌, ◌≡◌}

-- on no device so far has the run the effective write
abbrev pub invariant-devices : goal.invariant-devices
invariant-devices l = (e : ℕ) → e < l.from.0 → has_effective_write l.table l.r.0 e ≡ false

abbrev pub decreases-devices : goal.decreases-devices
decreases-devices l = length l.table - l.from.0
