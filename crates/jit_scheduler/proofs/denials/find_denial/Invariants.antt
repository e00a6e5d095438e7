use Rattle.jit_scheduler.proofs.denials.find_denial.Given as goal
use Rattle.jit_scheduler.proofs.Prelude.{None, denial_on, length, ℕ, ◌-◌, ◌<◌, ◌≡◌}

-- no device so far is denied
abbrev pub invariant-devices : goal.invariant-devices
invariant-devices l = (e : ℕ) → e < l.from.0 → denial_on l.s l.r.0 l.place e ≡ None

abbrev pub decreases-devices : goal.decreases-devices
decreases-devices l = length l.s.table - l.from.0
