use Rattle.lock_leasing.proofs.Prelude.{WindowParts, commands_of, length, subst, sym, ◌≤◌}
use Rattle.home_types.specs.Limits.{most_commands}
use Rattle.lock_leasing.proofs.leases.is_overdue.Goals as goal

pub lease_deadline-requires : goal.lease_deadline-requires
lease_deadline-requires c = λ r. subst (λ (p : WindowParts). length (commands_of p.runs r) ≤ most_commands) (sym c.s.view_is) (c.requires r)
