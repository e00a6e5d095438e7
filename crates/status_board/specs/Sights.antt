-- What a contract sees of a publisher or a watcher.
use Rattle.atomic_table.specs.Seated.{TableId}
use Rattle.status_board.specs.declared.day_counts.Counts.{Counts}
use Rattle.std.specs.Prelude.{List}

-- the board that it is of, and the list of publishings that it has seen
pub record Sight : Type 0 where
  pub board : TableId
  pub list : List Counts
