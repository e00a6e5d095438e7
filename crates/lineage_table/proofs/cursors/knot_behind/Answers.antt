use Rattle.lineage_table.proofs.Prelude.{IsKnotOf, ap, behind_run, rest_of, subst, sym, values_of, ◌∙◌}
use Rattle.lineage_table.proofs.Knots.{behind_there, none_behind_run}
use Rattle.lineage_table.proofs.cursors.knot_behind.Goals as goal

pub returns-in_err-k-clause-rest : goal.returns-in_err-k-clause-rest
returns-in_err-k-clause-rest c =
    let ps = c.args.accesses.now.pairs in
    let r = c.in-Some.r.0 in
    ap (λ o. values_of (rest_of o ps)) c.from_residual.ensures ∙ none_behind_run r (values_of ps) (subst (IsKnotOf r ps) c.in_err-k.was c.knot_near.ensures)
    ∙ ap (λ o. behind_run o (values_of ps)) (sym c.in-Some.is)

pub returns-clause-rest : goal.returns-clause-rest
returns-clause-rest c =
    let ps = c.args.accesses.now.pairs in
    let r = c.in-Some.r.0 in
    sym (behind_there r c.in_ok-k.k ps (subst (IsKnotOf r ps) c.in_ok-k.was c.knot_near.ensures) c.kept_invariant.ensures c.after.result c.after.ensures.behind)
    ∙ ap (λ o. behind_run o (values_of ps)) (sym c.in-Some.is)
