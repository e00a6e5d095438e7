use Rattle.lock_leasing.proofs.Borrowers.{borrowed_is, unborrowed}
use Rattle.lock_leasing.proofs.leases.lends.Goals as goal
use Rattle.lock_leasing.proofs.Prelude.{IsBorrowedFrom, subst, sym}

pub returns-clause-exact : goal.returns-clause-exact
returns-clause-exact c =
    subst (λ b. IsBorrowedFrom c.args.s.now c.args.w.0 c.args.d.0 b) (sym c.is_some.ensures)
    (borrowed_is c.args.s.now c.args.w.0 c.args.d.0 c.find_borrower.result c.find_borrower.ensures)

pub returns-clause-never : goal.returns-clause-never
returns-clause-never c = unborrowed c.args.s.now c.args.w.0 c.args.d.0 c.is_some.result (returns-clause-exact c)
