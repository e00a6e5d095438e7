use Rattle.lineage_table.proofs.Keeping.{no_run_behind}
use Rattle.lineage_table.proofs.Knots.{behind_there, first_from, none_placed}
use Rattle.lineage_table.proofs.lineages.Lineage.run_behind.Goals as goal
use Rattle.lineage_table.proofs.Prelude.{Access, IsBehind, IsKnotOf, None, Some, ap, has_access, option_map, rest_of, run_behind, slice_get, subst, sym, values_of, ◌∙◌}

pub returns-in_err-k : goal.returns-in_err-k
returns-in_err-k c =
    let r = c.args.r.0 in
    let none = sym (ap (λ v. has_access r v.accesses) c.self.view_is) ∙ subst (IsKnotOf r c.self.inside.accesses.pairs) c.in_err-k.was c.knot_of.ensures in
    c.from_residual.ensures ∙ no_run_behind r c.args.self.now.accesses (none_placed r c.args.self.now.accesses none)

pub returns-in_err-behind : goal.returns-in_err-behind
returns-in_err-behind c =
    let r = c.args.r.0 in
    let ps = c.self.inside.accesses.pairs in
    let k = c.in_ok-k.k in
    let cut = subst (IsKnotOf r ps) c.in_ok-k.was c.knot_of.ensures in
    c.from_residual-in_err-behind.ensures
    ∙ sym (ap (λ l. option_map (λ (x : Access). x.run) (slice_get l 0)) (behind_there r k ps cut c.kept_invariant.ensures None (subst (λ o. IsBehind k o ps) c.in_err-behind.was c.after.ensures.behind)))
    ∙ ap (λ v. run_behind r v.accesses) c.self.view_is

pub returns : goal.returns
returns c =
    let r = c.args.r.0 in
    let ps = c.self.inside.accesses.pairs in
    let k = c.in_ok-k.k in
    let cut = subst (IsKnotOf r ps) c.in_ok-k.was c.knot_of.ensures in
    let b = c.in_ok-behind.behind in
    sym (
    ap (λ l. option_map (λ (x : Access). x.run) (slice_get l 0)) (behind_there r k ps cut c.kept_invariant.ensures (Some b) (subst (λ o. IsBehind k o ps) c.in_ok-behind.was c.after.ensures.behind))
    ∙ ap (option_map (λ (x : Access). x.run)) (first_from b.0 ps c.get.result.now c.get.ensures)
    )
    ∙ ap (λ v. run_behind r v.accesses) c.self.view_is
