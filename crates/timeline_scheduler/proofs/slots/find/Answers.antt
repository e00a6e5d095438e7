use Rattle.lineage_table.proofs.Cited.{read}
use Rattle.timeline_scheduler.proofs.Prelude.{IsDisciplined, access_of, ap, subst, sym, ◌∙◌}
use Rattle.lineage_table.specs.Knots.{IsKnotOf}
use Rattle.timeline_scheduler.proofs.slots.find.Goals as goal

pub knot_from-requires : goal.knot_from-requires
knot_from-requires c = subst IsDisciplined (sym c.chain-accesses.ensures) (c.kept_invariant.ensures c.args.d.0)

pub returns : goal.returns
returns c =
    let cut = subst (IsKnotOf c.args.x.0 c.chain-accesses.result.now.pairs) c.unwrap-k.ensures c.knot_from.ensures in
    ap (access_of c.args.x.0) (sym c.chain-accesses.ensures) ∙ sym (read c.args.x.0 c.unwrap-k.result c.chain-accesses.result.now.pairs cut c.kept_invariant-2.ensures c.get.result.now c.get.ensures)
