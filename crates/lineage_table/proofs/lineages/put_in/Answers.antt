use Rattle.chain_arena.proofs.Cited.{values_join}
use Rattle.lineage_table.proofs.Prelude.{[], ap, put_access_before, sym, values_of, ◌∙◌, ◌∷◌}
use Rattle.lineage_table.proofs.Knots.{put_there, there}
use Rattle.lineage_table.proofs.lineages.put_in.Goals as goal

pub knot-k-requires : goal.knot-k-requires
knot-k-requires c = c.requires.before c.in-Some.r c.in-Some.is

pub returns-in-Some-clause-items : goal.returns-in-Some-clause-items
returns-in-Some-clause-items c =
    ap values_of c.insert_before.ensures.pairs
    ∙ put_there c.in-Some.r.0 c.knot-k.result c.args.accesses.now.pairs c.knot-k.ensures c.kept_invariant.ensures (c.insert_before.result, c.args.access)
    ∙ ap (λ b. put_access_before b c.args.access (values_of c.args.accesses.now.pairs)) (sym c.in-Some.is)

pub returns-in-None-clause-items : goal.returns-in-None-clause-items
returns-in-None-clause-items c =
    ap values_of c.push_back.ensures.pairs ∙ values_join c.args.accesses.now.pairs ((c.push_back.result, c.args.access) ∷ [])
    ∙ ap (λ b. put_access_before b c.args.access (values_of c.args.accesses.now.pairs)) (sym c.in-None.is)
