use Rattle.status_board.proofs.Prelude.{IsNotBelow, Sight, last_of, rules, subst}
use Rattle.status_board.proofs.Publishings.{found_since}
use Rattle.status_board.proofs.Steps.{looks}
use Rattle.status_board.proofs.boards.Board.read.Goals as goal

pub load_as-requires : goal.load_as-requires
load_as-requires g c = (search rules, (search rules, (search rules, looks _ _)))

pub returns-clause-later : goal.returns-clause-later
returns-clause-later g c =
    let now = c.load_as.ensures.rule in
    subst (λ (s : Sight). IsNotBelow (last_of s.list) c.load_as.result) c.w.view_is (found_since c.load_as.result _ _ now.grows now.rises now.found)
