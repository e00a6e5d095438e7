use Rattle.lock_leasing.proofs.Borrowers.{found_leases, overdue_none, overdue_some}
use Rattle.lock_leasing.proofs.leases.overdue.Goals as goal
use Rattle.lock_leasing.proofs.Prelude.{IsOverdueOf, access_is_overdue, placed_at, subst, sym, ◌∙◌}

pub returns-in_err-x : goal.returns-in_err-x
returns-in_err-x c =
    subst (λ o. IsOverdueOf c.args.s.now c.args.w.0 c.args.d.0 c.args.moment o) (sym c.from_residual.ensures)
    (overdue_none c.args.s.now c.args.w.0 c.args.d.0 c.args.moment (sym c.in_err-x.was ∙ c.find_overdue.ensures))

pub deadline-requires : goal.deadline-requires
deadline-requires c =
    found_leases c.args.s.now
    (access_is_overdue c.args.s.now.runs c.args.s.now.history (placed_at c.args.s.now.history c.args.w.0) c.args.d.0 c.args.moment) c.args.w.0 c.args.d.0 c.in_ok-x.x c.requires (sym c.in_ok-x.was ∙ c.find_overdue.ensures)

pub returns : goal.returns
returns c =
    overdue_some c.args.s.now c.args.w.0 c.args.d.0 c.args.moment c.in_ok-x.x c.deadline.result
    (sym c.in_ok-x.was ∙ c.find_overdue.ensures) c.deadline.ensures
