use Rattle.lineage_table.proofs.Prelude.{AreOfTwoRuns, sym, values_of, ◌∙◌}
use Rattle.lineage_table.proofs.Knots.{cut_near}
use Rattle.lineage_table.proofs.Pairs.{pairs_from_all}
use Rattle.lineage_table.proofs.cursors.knot_from.Goals as goal

pub returns : goal.returns
returns c =
    let ps = c.args.accesses.now.pairs in
    cut_near c.args.r.0 c.in-Some-after.next ps c.get.result.now (pairs_from_all AreOfTwoRuns (values_of ps) c.requires.one_each) c.get.ensures (sym c.eq.ensures ∙ c.if-eq.true)
