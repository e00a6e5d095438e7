use Rattle.status_board.proofs.Prelude.{rules}
use Rattle.status_board.proofs.Steps.{watches}
use Rattle.status_board.proofs.boards.Board.watcher.Goals as goal

pub split_pass-pass-requires : goal.split_pass-pass-requires
split_pass-pass-requires g c = (search rules, (search rules, (search rules, watches _ _)))
