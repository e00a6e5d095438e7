use Rattle.status_board.proofs.Prelude.{rules}
use Rattle.status_board.proofs.Steps.{watches, meets, looks}
use Rattle.status_board.proofs.boards.Board.meet.Goals as goal

pub split_pass-seen-requires : goal.split_pass-seen-requires
split_pass-seen-requires g c = (search rules, (search rules, (search rules, watches _ _)))

pub join_pass-requires : goal.join_pass-requires
join_pass-requires g c = (search rules, (search rules, (search rules, meets _ _ _ _)))

pub load_as-requires : goal.load_as-requires
load_as-requires g c = (search rules, (search rules, (search rules, looks _ _)))
