use Rattle.lock_leasing.proofs.Prelude.{WindowParts, access_deadline, access_of, accesses_at, ap, sym, ◌∙◌}
use Rattle.lock_leasing.proofs.Borrowers.{deadline_is, leased_found, may_reach_leased}
use Rattle.lock_leasing.proofs.leases.deadline.Goals as goal

pub unwrap-access-requires : goal.unwrap-access-requires
unwrap-access-requires c =
    leased_found c.args.s.now c.args.x.0 c.args.d.0 c.access.result c.requires
    (c.access.ensures ∙ ap (λ (p : WindowParts). access_of c.args.x.0 (accesses_at p.table c.args.d.0)) c.s.view_is)

pub returns : goal.returns
returns c =
    deadline_is c.args.s.now c.args.x.0 c.args.d.0 c.lease_deadline.result c.unwrap-access.result
    (may_reach_leased c.args.s.now c.args.x.0 c.args.d.0 c.requires)
    (sym (c.access.ensures ∙ ap (λ (p : WindowParts). access_of c.args.x.0 (accesses_at p.table c.args.d.0)) c.s.view_is) ∙ c.unwrap-access.ensures)
    (c.lease_deadline.ensures ∙ ap (λ (p : WindowParts). access_deadline p.runs c.args.d.0 c.unwrap-access.result) c.s.view_is)
