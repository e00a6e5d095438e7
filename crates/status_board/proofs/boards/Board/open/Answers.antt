use Rattle.status_board.proofs.Steps.{begins}
use Rattle.status_board.proofs.boards.Board.open.Goals as goal
use Rattle.status_board.proofs.Prelude.{Counts, ViewsAreKept, [], publishing, rules, subst, sym, ◌∷◌}

pub ruled-requires : goal.ruled-requires
ruled-requires c = (search rules, (search rules, subst (λ (x : Counts). ViewsAreKept x (publishing [] ∷ [])) (sym c.none.ensures) begins))
