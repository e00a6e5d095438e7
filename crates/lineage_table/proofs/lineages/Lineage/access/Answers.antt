use Rattle.lineage_table.proofs.Knots.{none_read, read}
use Rattle.lineage_table.proofs.lineages.Lineage.access.Goals as goal
use Rattle.lineage_table.proofs.Prelude.{IsKnotOf, access_of, ap, subst, values_of, ◌∙◌}

pub returns-in_err-k : goal.returns-in_err-k
returns-in_err-k c =
    let r = c.args.r.0 in
    let ps = c.self.inside.accesses.pairs in
    c.from_residual.ensures ∙ none_read r (values_of ps) (subst (IsKnotOf r ps) c.in_err-k.was c.knot_of.ensures) ∙ ap (λ v. access_of r v.accesses) c.self.view_is

pub returns : goal.returns
returns c =
    let r = c.args.r.0 in
    let ps = c.self.inside.accesses.pairs in
    read r c.in_ok-k.k ps (subst (IsKnotOf r ps) c.in_ok-k.was c.knot_of.ensures) c.kept_invariant.ensures c.get.result.now c.get.ensures ∙ ap (λ v. access_of r v.accesses) c.self.view_is
