use Rattle.status_board.proofs.Publishings.{found_since, starts_on}
use Rattle.status_board.proofs.watches.watch_telling.Goals as goal

pub returns-then-counts-clause-later : goal.returns-then-counts-clause-later
returns-then-counts-clause-later g c =
    let now = c.read-counts.ensures in
    let i = c.loop.invariant in
    found_since c.read-counts.result _ _ (starts_on _ _ _ i.3 now.grows) now.rises now.answer
