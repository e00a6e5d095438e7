use Rattle.lineage_table.proofs.Prelude.{Access, Knot, [], sym, ◌++◌, ◌∙◌, ◌∷◌}
use Rattle.lineage_table.proofs.Knots.{seen_list, seen_none}
use Rattle.lineage_table.proofs.lineages.knot_of.Goals as goal

pub accesses-preserved : goal.accesses-preserved
accesses-preserved c =
    let i = c.accesses.invariant in
    let q : Knot × Access = (c.in-Some.k, c.in-Some.access.now) in
    (i.0 ++ q ∷ [], seen_list c.args.accesses.now.pairs i.0 c.accesses.k-iterator c.next.new.self q i.1 c.in-Some.ensures.steps, seen_none c.args.r.0 i.0 q i.2 (sym c.eq.ensures ∙ c.if-eq.false))
