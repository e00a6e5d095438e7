use Rattle.status_board.proofs.Cited.{last_more}
use Rattle.day_tests.proofs.boards.publish_many.Goals as goal
use Rattle.status_board.specs.Publishings.{last_of, nothing}
use Rattle.status_board.specs.declared.day_counts.Counts.{Counts}
use Rattle.std.proofs.Common.{ap, arith, false, subst, sym, ◌+◌, ◌<◌, ◌==◌, ◌∙◌, ◌≡◌, ◌≤◌}
use Rattle.std.proofs.lemmas.Grind.{common_steps}

pub publishings-preserved : goal.publishings-preserved
publishings-preserved g c =
    let n = c.publishings.n in
    let last_is = ap last_of c.publish.ensures.list ∙ last_more nothing c.publishings.p.list c.counts-c.result ∙ c.counts-c.ensures in
    let last = subst
    (λ (last : Counts). (last.windows ≤ n + 1) × (last.runs ≤ n + 1 + (n + 1)) × (last.committed ≤ n + 1) × (last.aborted ≤ n + 1) × (n + 1 < 100000 → last.over ≡ false))
    (sym last_is)
    (omega arith, omega arith, omega arith, omega arith, λ small. let differs : (n + 1 == 100000) ≡ false = grind (arith, common_steps, small) in differs) in
    (c.publish.ensures.board ∙ c.publishings.invariant.0, last.0, last.1, last.2, last.3, last.4)
