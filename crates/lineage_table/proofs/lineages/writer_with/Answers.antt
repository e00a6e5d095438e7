use Rattle.lineage_table.proofs.Writers.{only_none, only_own}
use Rattle.lineage_table.proofs.lineages.writer_with.Goals as goal
use Rattle.lineage_table.proofs.lineages.writer_with.Goals.{else-is_none, then-is_none}
use Rattle.lineage_table.proofs.Prelude.{sym, ◌∙◌}

pub writer_of-requires : goal.writer_of-requires
writer_of-requires c = λ last. c.requires (
    elim c.if-is_none.branch [
      | then-is_none w ↦ only_none c.args.r c.args.writer w.if-is_none.ensures
      | else-is_none w ↦ only_own c.args.r c.args.writer w.eq-is_last.result w.eq-is_last.ensures (sym w.is_last-is ∙ last)
    ]
    )
