use Rattle.status_board.proofs.Prelude.{StartsWith, ◌≡◌}
use Rattle.status_board.proofs.watches.watch_telling.Given as goal

abbrev pub invariant-loop : goal.invariant-loop
invariant-loop g l =
    (goal.iterator-loop g).can_next l.iterator' × (goal.iterator-loop g).is_finite l.iterator'
    × (l.w.board ≡ l.initial.w.board) × StartsWith l.w.list l.initial.w.list
